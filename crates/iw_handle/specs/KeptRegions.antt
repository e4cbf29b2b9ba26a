-- Regions of memory that the program keeps.
use Rattle.std.specs.Prelude.{ℕ, List, true, if◌then◌else◌, Option, Some, None}
use Rattle.std.specs.Option.{option_map}
use Rattle.iw_octets.specs.declared.stag.Stag.{Stag}
use Rattle.iw_memory.specs.declared.refusal.DeregisterRefusal.{DeregisterRefusal}
use Rattle.iw_memory.specs.Forms.{own_refusal, kept_refusal}
use Rattle.iw_memory.specs.Region.{Region, new_region, most_octets}
use Rattle.iw_memory.specs.Table as tables
use Rattle.iw_endpoint.specs.Endpoint.{EndpointState, stream_at, with_table}
use Rattle.iw_handle.specs.declared.refusal.Refusal.{Refusal}
use Rattle.iw_handle.specs.declared.structs.Registration.{Registration}
use Rattle.iw_handle.specs.Refusals.{deregister_reason}
use Rattle.iw_handle.specs.Registering.{is_limited, is_drawn, registration_refusal, described_refusal_within}
use Rattle.iw_handle.specs.State.{first_of}
use Rattle.iw_handle.specs.Words.{domain_number, rights_of}

-- a region of this memory, limited to a stream or not
abbrev pub kept_region : Registration → Option ℕ → List ℕ → Region
kept_region r bound octets = record (new_region r.base octets (rights_of r.rights)) { bound = bound; kept = true }

-- it is registered in this domain, by the next STag or a drawn one
abbrev pub kept_within : EndpointState → Registration → ℕ → Option ℕ → List ℕ → EndpointState
kept_within e r pd bound octets =
    if is_drawn r then with_table e (tables.registered_drawn e.table pd r.drawn (kept_region r bound octets))
    else with_table e (tables.registered e.table pd (kept_region r bound octets))

-- a limited region is in its stream's domain
abbrev pub kept_as : EndpointState → Registration → List ℕ → EndpointState
kept_as e r octets =
    if is_limited r then kept_within e r (stream_at e r.stream).domain (Some r.stream) octets
    else kept_within e r (domain_number r.pd) None octets

-- why n octets are not registered so
abbrev pub refusal_to_keep_as : EndpointState → Registration → ℕ → Option Refusal
refusal_to_keep_as e r n = first_of (registration_refusal r) (described_refusal_within (most_octets true) e r n)

-- why a region's octets are not moved to a buffer
abbrev pub refusal_to_move : EndpointState → Stag → Option Refusal
refusal_to_move e stag = option_map deregister_reason (own_refusal e.table stag)

-- why no memory is handed back
abbrev pub refusal_to_hand_back : EndpointState → Stag → Option Refusal
refusal_to_hand_back e stag = option_map deregister_reason (kept_refusal e.table stag)
