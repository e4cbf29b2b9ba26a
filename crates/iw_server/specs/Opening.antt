-- What a connection begins with.
use Rattle.std.specs.Prelude.{◌≡◌, ℕ, ◌+◌, List, [], replicate, true, false, if◌then◌else◌, Some}
use Rattle.iw_memory.specs.declared.rights.Rights.{Rights}
use Rattle.iw_memory.specs.Table.{drawn_stag}
use Rattle.iw_octets.specs.declared.stag.Stag.{Stag}
use Rattle.iw_startup.specs.declared.config.Config.{Config}
use Rattle.iw_startup.specs.declared.config.Establishment.TheVariants.{Plain, Enhanced}
use Rattle.iw_stream.specs.declared.answer.Role.TheVariants.{Responder}
use Rattle.iw_endpoint.specs.Endpoint.{EndpointState, stream_at, next_number, opened_next, with_buffer}
use Rattle.iw_endpoint.specs.Drawing.{limited_drawn}
use Rattle.iw_server.specs.declared.connection.Connection.{Connection}
use Rattle.iw_server.specs.declared.terms.Terms.{Terms}
use Rattle.iw_server.specs.Domains.{HasRoom, MayAdd, taken_at}

-- what a Reply asks for by these terms; its private data are given when the Request is accepted
abbrev pub config_of : Terms → Config
config_of terms = record {
  markers = terms.markers;
  crc = terms.crc;
  establishment = if terms.enhanced then Enhanced else Plain;
  private = record { items = [] };
}

-- a peer may write into its region, and do nothing else with it
abbrev pub writable : Rights
writable = record { write = true; read = false; sink = false; invalidate = false }

-- n zero octets
unfoldable pub zero_octets : ℕ → List ℕ
zero_octets count = replicate count 0

-- the stream of this number has a receive buffer
abbrev pub lent : EndpointState → ℕ → ℕ → EndpointState
lent e number most = with_buffer e number (zero_octets most)

-- and a region that is registered for it alone, under an STag that is drawn
abbrev pub prepared : EndpointState → ℕ → ℕ → ℕ → EndpointState
prepared e number most drawn = limited_drawn (lent e number most) number 0 (zero_octets most) writable drawn

-- which this STag names
abbrev pub region_for : EndpointState → ℕ → ℕ → ℕ → Stag
region_for e number most drawn = drawn_stag (lent e number most).table (stream_at (lent e number most) number).domain drawn

-- The connection has a stream in a domain that had room for one more region, and all that a stream begins with.
pub record IsOpened (terms : Terms) (drawn : ℕ) (counts counts' : List ℕ) (e e' : EndpointState) (connection : Connection) : Type 0 where
  pub domains : List ℕ
  pub at : EndpointState
  pub added : MayAdd counts domains e at
  pub room : HasRoom domains connection.place
  pub taken : counts' ≡ taken_at domains connection.place
  pub number : next_number at ≡ Some connection.stream
  pub opened : EndpointState
  pub is : opened ≡ opened_next at (next_number at) (connection.place + 1) Responder (config_of terms)
  pub prepared : e' ≡ prepared opened connection.stream terms.most drawn
  pub region : connection.region ≡ region_for opened connection.stream terms.most drawn
