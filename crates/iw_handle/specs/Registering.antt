-- Registering a region that a struct describes.
use Rattle.std.specs.Prelude.{ℕ, List, Bool, false, if◌then◌else◌, Option}
use Rattle.std.specs.Option.{option_map}
use Rattle.iw_octets.specs.declared.stag.Stag.{Stag}
use Rattle.iw_memory.specs.Region.{most_octets}
use Rattle.iw_memory.specs.Table.{register_refusal_within, next_stag, drawn_stag}
use Rattle.iw_endpoint.specs.Endpoint.{EndpointState, stream_at, limit_refusal_within, registered, limited}
use Rattle.iw_endpoint.specs.Drawing.{registered_drawn, limited_drawn}
use Rattle.iw_codes.specs.declared.numbers.TheConstants as numbers
use Rattle.iw_handle.specs.declared.refusal.Refusal.{Refusal}
use Rattle.iw_handle.specs.declared.structs.Registration.{Registration}
use Rattle.iw_handle.specs.declared.structs.TheConstants as sizes
use Rattle.iw_handle.specs.Refusals.{register_reason, limit_reason}
use Rattle.iw_handle.specs.Structs.{struct_refusal}
use Rattle.iw_handle.specs.State.{first_of}
use Rattle.iw_handle.specs.Words.{bits_refusal, domain_number, has_bit, rights_of}

-- its flags are a sum of 1 (limited) and 2 (drawn)
abbrev pub is_limited : Registration → Bool
is_limited r = has_bit r.flags numbers.LIMITED

abbrev pub is_drawn : Registration → Bool
is_drawn r = has_bit r.flags numbers.DRAWN

-- what is wrong with the struct itself
abbrev pub registration_refusal : Registration → Option Refusal
registration_refusal r =
    first_of (struct_refusal sizes.REGISTRATION_SIZE r.size) (first_of (bits_refusal 4 r.flags) (bits_refusal 16 r.rights))

-- why the endpoint does not register n octets so, if a region may have `most`
abbrev pub described_refusal_within : ℕ → EndpointState → Registration → ℕ → Option Refusal
described_refusal_within most e r n =
    if is_limited r then option_map limit_reason (limit_refusal_within most e r.stream r.base n)
    else option_map register_reason (register_refusal_within most e.table (domain_number r.pd) r.base n)

abbrev pub described_refusal : EndpointState → Registration → ℕ → Option Refusal
described_refusal e r n = described_refusal_within (most_octets false) e r n

abbrev pub refusal_to_register_as : EndpointState → Registration → ℕ → Option Refusal
refusal_to_register_as e r n = first_of (registration_refusal r) (described_refusal e r n)

-- the STag that is given in this domain: a drawn one, or the next
abbrev pub stag_within : EndpointState → Registration → ℕ → Stag
stag_within e r pd = if is_drawn r then drawn_stag e.table pd r.drawn else next_stag e.table pd

-- a limited region is in its stream's domain
abbrev pub stag_as : EndpointState → Registration → Stag
stag_as e r = stag_within e r (if is_limited r then (stream_at e r.stream).domain else domain_number r.pd)

-- the octets are a region of the domain
abbrev pub registered_in : EndpointState → Registration → List ℕ → EndpointState
registered_in e r octets =
    if is_drawn r then registered_drawn e (domain_number r.pd) r.base octets (rights_of r.rights) r.drawn
    else registered e (domain_number r.pd) r.base octets (rights_of r.rights)

-- or one that is limited to the stream
abbrev pub registered_for : EndpointState → Registration → List ℕ → EndpointState
registered_for e r octets =
    if is_drawn r then limited_drawn e r.stream r.base octets (rights_of r.rights) r.drawn
    else limited e r.stream r.base octets (rights_of r.rights)

abbrev pub registered_as : EndpointState → Registration → List ℕ → EndpointState
registered_as e r octets = if is_limited r then registered_for e r octets else registered_in e r octets
