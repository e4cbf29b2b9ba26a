-- Regions whose STags are drawn.
use Rattle.std.specs.Prelude.{ℕ, List}
use Rattle.iw_memory.specs.declared.rights.Rights.{Rights}
use Rattle.iw_memory.specs.Region.{new_region, bound_region}
use Rattle.iw_memory.specs.Table as tables
use Rattle.iw_endpoint.specs.Endpoint.{EndpointState, with_table, stream_at}

-- a new region of the domain, under the STag that is drawn
abbrev pub registered_drawn : EndpointState → ℕ → ℕ → List ℕ → Rights → ℕ → EndpointState
registered_drawn e pd base octets rights drawn = with_table e (tables.registered_drawn e.table pd drawn (new_region base octets rights))

-- the same for the stream of this number alone, in its domain
abbrev pub limited_drawn : EndpointState → ℕ → ℕ → List ℕ → Rights → ℕ → EndpointState
limited_drawn e number base octets rights drawn =
    with_table e (tables.registered_drawn e.table (stream_at e number).domain drawn (bound_region number base octets rights))
