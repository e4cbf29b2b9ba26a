-- What calls on regions answer.
use Rattle.std.specs.Prelude.{ℕ, is_some, if◌then◌else◌, List, Option, None, Some}
use Rattle.std.specs.Option.{option_map}
use Rattle.iw_octets.specs.declared.stag.Stag.{Stag}
use Rattle.iw_memory.specs.Table.{region_at, register_refusal, store_refusal}
use Rattle.iw_memory.specs.Table as tables
use Rattle.iw_endpoint.specs.Endpoint.{EndpointState}
use Rattle.iw_handle.specs.declared.refusal.Refusal.{Refusal}
use Rattle.iw_handle.specs.declared.refusal.Refusal.TheVariants.{NoRegion}
use Rattle.iw_handle.specs.Refusals.{register_reason, store_reason}
use Rattle.iw_handle.specs.State.{first_of}
use Rattle.iw_handle.specs.Words.{bits_refusal}

-- the STag names no region
abbrev pub region_refusal : EndpointState → Stag → Option Refusal
region_refusal e stag = if is_some (region_at e.table stag) then None else Some NoRegion

-- n octets, with a sum of rights
abbrev pub refusal_to_register : EndpointState → ℕ → ℕ → ℕ → ℕ → Option Refusal
refusal_to_register e pd base n rights =
    first_of (bits_refusal 16 rights) (option_map register_reason (register_refusal e.table pd base n))

-- n octets from a tagged offset on are not all in the region
abbrev pub part_refusal : EndpointState → Stag → ℕ → ℕ → Option Refusal
part_refusal e stag to n = option_map store_reason (store_refusal e.table stag to n)

abbrev pub part_at : EndpointState → Stag → ℕ → ℕ → List ℕ
part_at e stag to n = tables.octets_at e.table stag to n
