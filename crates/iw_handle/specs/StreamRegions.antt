-- Regions that are limited to one stream.
use Rattle.std.specs.Prelude.{ℕ, Option}
use Rattle.std.specs.Option.{option_map}
use Rattle.iw_octets.specs.declared.stag.Stag.{Stag}
use Rattle.iw_memory.specs.Table.{next_stag}
use Rattle.iw_endpoint.specs.Endpoint.{EndpointState, stream_at, limit_refusal}
use Rattle.iw_handle.specs.declared.refusal.Refusal.{Refusal}
use Rattle.iw_handle.specs.Refusals.{limit_reason}
use Rattle.iw_handle.specs.State.{first_of}
use Rattle.iw_handle.specs.Words.{bits_refusal}

-- n octets, with a sum of rights
abbrev pub refusal_to_limit : EndpointState → ℕ → ℕ → ℕ → ℕ → Option Refusal
refusal_to_limit e number base n rights =
    first_of (bits_refusal 16 rights) (option_map limit_reason (limit_refusal e number base n))

-- the STag that is given next in the stream's domain
abbrev pub next_stag_at : EndpointState → ℕ → Stag
next_stag_at e number = next_stag e.table (stream_at e number).domain
