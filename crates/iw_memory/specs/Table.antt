-- The table of all domains. Each call reads and changes one domain's part.
use Rattle.std.specs.Prelude.{ℕ, Bool, is_some, List, Option, None, slice_index_or, slice_set, replicate, []}
use Rattle.std.specs.Option.{option_map_or}
use Rattle.iw_octets.specs.declared.stag.Stag.{Stag}
use Rattle.iw_memory.specs.declared.peer.Peer.{Peer}
use Rattle.iw_memory.specs.declared.rights.Right.{Right}
use Rattle.iw_memory.specs.declared.refusal.Deny.{Deny}
use Rattle.iw_memory.specs.declared.refusal.DomainRefusal.{DomainRefusal}
use Rattle.iw_memory.specs.declared.refusal.RegisterRefusal.{RegisterRefusal}
use Rattle.iw_memory.specs.declared.refusal.StoreRefusal.{StoreRefusal}
use Rattle.iw_memory.specs.declared.refusal.InvalidateDeny.{InvalidateDeny}
use Rattle.iw_memory.specs.Region.{Region, in_domain, octets_from}
use Rattle.iw_memory.specs.Part.{Part, SlotState, own_slots, own_region, own_denial_for, own_invalidate_denial_for, own_domain_refusal, own_register_refusal, own_register_refusal_within, own_next_stag, own_store_refusal, own_slot, own_changed, own_put, own_invalidated, own_retired, own_deregistered, own_added, own_registered, own_drawn_stag, own_registered_at}

-- at each domain number, that domain's part
abbrev pub Table : Type 0
Table = List Part

-- no domain was added
unfoldable pub empty : Table
empty = replicate 256 None

abbrev pub part_of : Table → ℕ → Part
part_of table domain = slice_index_or table domain None

-- the table with this part for the domain, and all else equal
abbrev pub with_part : Table → ℕ → Part → Table
with_part table domain part = slice_set table domain part

-- the slots of a domain; none where the domain was not added
abbrev pub slots_of : Table → ℕ → List SlotState
slots_of table domain = own_slots (part_of table domain)

abbrev pub is_added : Table → ℕ → Bool
is_added table pd = is_some (part_of table pd)

-- the region that an STag names
abbrev pub region_at : Table → Stag → Option Region
region_at table stag = own_region (part_of table stag.domain) stag

-- ---- answers

-- the first reason why a peer may not use n octets from `to` on
abbrev pub denial_for : Table → Peer → Stag → ℕ → ℕ → Right → Option Deny
denial_for table peer stag to n right = own_denial_for (part_of table peer.domain) peer stag to n right

abbrev pub invalidate_denial_for : Table → Peer → Stag → Option InvalidateDeny
invalidate_denial_for table peer stag = own_invalidate_denial_for (part_of table peer.domain) peer stag

-- the same for a peer in domain pd whose stream is not named
abbrev pub denial : Table → ℕ → Stag → ℕ → ℕ → Right → Option Deny
denial table pd stag to n right = denial_for table (in_domain pd) stag to n right

abbrev pub invalidate_denial : Table → ℕ → Stag → Option InvalidateDeny
invalidate_denial table pd stag = invalidate_denial_for table (in_domain pd) stag

abbrev pub domain_refusal : Table → ℕ → Option DomainRefusal
domain_refusal table pd = own_domain_refusal (part_of table pd) pd

abbrev pub register_refusal_within : ℕ → Table → ℕ → ℕ → ℕ → Option RegisterRefusal
register_refusal_within most table pd base len = own_register_refusal_within most (part_of table pd) base len

abbrev pub register_refusal : Table → ℕ → ℕ → ℕ → Option RegisterRefusal
register_refusal table pd base len = own_register_refusal (part_of table pd) base len

-- the STag that the next region of the domain gets
abbrev pub next_stag : Table → ℕ → Stag
next_stag table pd = own_next_stag (part_of table pd) pd

-- the STag that is drawn for the next region of the domain
abbrev pub drawn_stag : Table → ℕ → ℕ → Stag
drawn_stag table pd drawn = own_drawn_stag (part_of table pd) pd drawn

abbrev pub store_refusal : Table → Stag → ℕ → ℕ → Option StoreRefusal
store_refusal table stag to n = own_store_refusal (part_of table stag.domain) stag to n

-- the n octets of the region from `to` on
abbrev pub octets_at : Table → Stag → ℕ → ℕ → List ℕ
octets_at table stag to n = option_map_or (λ r. octets_from r to n) (region_at table stag) []

-- ---- what a call leaves

-- the table with this in a slot of a domain
abbrev pub with_slot : Table → ℕ → ℕ → SlotState → Table
with_slot table domain slot s = with_part table domain (own_slot (part_of table domain) slot s)

-- the table with the region that the STag names changed so
abbrev pub with_region : Table → Stag → (Region → Region) → Table
with_region table stag change = with_part table stag.domain (own_changed (part_of table stag.domain) stag change)

-- the table in which the region that the STag names has these octets from tagged offset `to` on
abbrev pub put : Table → Stag → ℕ → List ℕ → Table
put table stag to octets = with_part table stag.domain (own_put (part_of table stag.domain) stag to octets)

abbrev pub invalidated : Table → Stag → Table
invalidated table stag = with_part table stag.domain (own_invalidated (part_of table stag.domain) stag)

-- the table in which the regions of the peer's domain that are limited to its stream are out of use
abbrev pub retired : Table → Peer → Table
retired table peer = with_part table peer.domain (own_retired (part_of table peer.domain) peer.stream)

abbrev pub deregistered : Table → Stag → Table
deregistered table stag = with_part table stag.domain (own_deregistered (part_of table stag.domain) stag)

abbrev pub added : Table → ℕ → Table
added table pd = with_part table pd own_added

-- the table with a new region in the domain's lowest free slot
abbrev pub registered : Table → ℕ → Region → Table
registered table pd region = with_part table pd (own_registered (part_of table pd) region)

-- the table with a new region under this STag
abbrev pub registered_at : Table → Stag → Region → Table
registered_at table stag region = with_part table stag.domain (own_registered_at (part_of table stag.domain) stag region)

-- the table with a new region under the STag that is drawn
abbrev pub registered_drawn : Table → ℕ → ℕ → Region → Table
registered_drawn table pd drawn region = registered_at table (drawn_stag table pd drawn) region
