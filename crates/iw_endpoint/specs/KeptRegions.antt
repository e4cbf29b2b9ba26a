-- Regions of octets that are a vector's, or are in memory that a program keeps.
use Rattle.std.specs.Prelude.{ℕ, List, length, Bool, Option, Some, None}
use Rattle.iw_kept.specs.declared.octets.RegionOctets.{RegionOctets}
use Rattle.iw_memory.specs.declared.rights.Rights.{Rights}
use Rattle.iw_memory.specs.Region.{Region, new_region, most_octets}
use Rattle.iw_kept.specs.Octets.{octets_of, is_kept}
use Rattle.iw_memory.specs.Table as tables
use Rattle.iw_endpoint.specs.declared.refusal.CallRefusal.{CallRefusal}
use Rattle.iw_endpoint.specs.declared.refusal.LimitRefusal.{LimitRefusal}
use Rattle.iw_endpoint.specs.Endpoint.{EndpointState, with_table, stream_at, limit_refusal_within}

-- a region of these octets as it is registered, whose memory a program keeps or not, limited to a stream or not
abbrev pub region_in : ℕ → List ℕ → Bool → Rights → Option ℕ → Region
region_in base octets kept rights bound = record (new_region base octets rights) { bound = bound; kept = kept }

-- a new region of the domain with these octets
abbrev pub registered_form : EndpointState → ℕ → ℕ → List ℕ → Bool → Rights → EndpointState
registered_form e pd base octets kept rights = with_table e (tables.registered e.table pd (region_in base octets kept rights None))

-- the same for the stream of this number alone, in its domain
abbrev pub limited_form : EndpointState → ℕ → ℕ → List ℕ → Bool → Rights → EndpointState
limited_form e number base octets kept rights =
    with_table e (tables.registered e.table (stream_at e number).domain (region_in base octets kept rights (Some number)))

-- and both under the STag that is drawn
abbrev pub drawn_form : EndpointState → ℕ → ℕ → List ℕ → Bool → Rights → ℕ → EndpointState
drawn_form e pd base octets kept rights drawn =
    with_table e (tables.registered_drawn e.table pd drawn (region_in base octets kept rights None))

abbrev pub limited_drawn_form : EndpointState → ℕ → ℕ → List ℕ → Bool → Rights → ℕ → EndpointState
limited_drawn_form e number base octets kept rights drawn =
    with_table e (tables.registered_drawn e.table (stream_at e number).domain drawn (region_in base octets kept rights (Some number)))

-- ---- with the octets as they are handed in

-- why they are not registered for a stream
abbrev pub limited_refusal : {A : Type 0} → EndpointState → ℕ → ℕ → RegionOctets A → Option (CallRefusal LimitRefusal)
limited_refusal e number base octets = limit_refusal_within (most_octets (is_kept octets)) e number base (length (octets_of octets))

abbrev pub registered_octets : {A : Type 0} → EndpointState → ℕ → ℕ → RegionOctets A → Rights → EndpointState
registered_octets e pd base octets rights = registered_form e pd base (octets_of octets) (is_kept octets) rights

abbrev pub limited_octets : {A : Type 0} → EndpointState → ℕ → ℕ → RegionOctets A → Rights → EndpointState
limited_octets e number base octets rights = limited_form e number base (octets_of octets) (is_kept octets) rights

abbrev pub drawn_octets : {A : Type 0} → EndpointState → ℕ → ℕ → RegionOctets A → Rights → ℕ → EndpointState
drawn_octets e pd base octets rights drawn = drawn_form e pd base (octets_of octets) (is_kept octets) rights drawn

abbrev pub limited_drawn_octets : {A : Type 0} → EndpointState → ℕ → ℕ → RegionOctets A → Rights → ℕ → EndpointState
limited_drawn_octets e number base octets rights drawn = limited_drawn_form e number base (octets_of octets) (is_kept octets) rights drawn
