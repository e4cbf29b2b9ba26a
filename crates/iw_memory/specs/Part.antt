-- What one domain has of the memory. Each call is defined on this part alone, so no domain sees or changes what is another's.
use Rattle.std.specs.Prelude.{ℕ, ◌+◌, ◌-◌, ◌/◌, ◌^◌, ◌%◌, ◌==◌, ◌&&◌, nat_lt, nat_le, not, is_some, is_none, List, [], ◌∷◌, ◌++◌, length, map, drop, replicate, false, Option, Some, None, slice_index_or, slice_set, unwrap_or, if◌then◌else◌}
use Rattle.std.specs.Option.{option_map, option_map_or}
use Rattle.std.specs.List.{position_or_len}
use Rattle.iw_octets.specs.declared.stag.Stag.{Stag}
use Rattle.iw_memory.specs.declared.peer.Peer.{Peer}
use Rattle.iw_memory.specs.declared.rights.Right.{Right}
use Rattle.iw_memory.specs.declared.refusal.Deny.{Deny}
use Rattle.iw_memory.specs.declared.refusal.Deny.TheVariants.{NotAssociated, Invalid}
use Rattle.iw_memory.specs.declared.refusal.DomainRefusal.{DomainRefusal}
use Rattle.iw_memory.specs.declared.refusal.DomainRefusal.TheVariants.{BadDomain, DomainTaken}
use Rattle.iw_memory.specs.declared.refusal.RegisterRefusal.{RegisterRefusal}
use Rattle.iw_memory.specs.declared.refusal.RegisterRefusal.TheVariants.{NoDomain, DomainFull, TooLong, BaseWrap}
use Rattle.iw_memory.specs.declared.refusal.StoreRefusal.{StoreRefusal}
use Rattle.iw_memory.specs.declared.refusal.StoreRefusal.TheVariants.{NoRegion, Outside}
use Rattle.iw_memory.specs.declared.refusal.InvalidateDeny.{InvalidateDeny}
use Rattle.iw_memory.specs.declared.refusal.InvalidateDeny.TheVariants.{NotAssociated as NotOwn, Invalid as NotValid, NotAllowed}
use Rattle.iw_memory.specs.Region.{Region, most_octets, in_domain, is_in_scope, region_denial_for, region_with, made_invalid, retired_region}

-- a slot of a domain: its region, if it holds one, and the key of that region, or else of its next one
pub record SlotState : Type 0 where
  pub key : ℕ
  pub region : Option Region

-- one domain's part: nothing where the domain was not added, else its slots
abbrev pub Part : Type 0
Part = Option (List SlotState)

-- a slot that was never used
abbrev pub unused : SlotState
unused = record { key = 0; region = None }

abbrev pub own_slots : Part → List SlotState
own_slots part = unwrap_or part []

-- the region of a slot, if this is its key
abbrev pub under_key : SlotState → ℕ → Option Region
under_key s key = if s.key == key then s.region else None

-- the region that an STag of the domain names
abbrev pub own_region : Part → Stag → Option Region
own_region part stag = under_key (slice_index_or (own_slots part) stag.slot unused) stag.key

-- ---- what a peer is answered

-- the first reason why it may not use n octets from `to` on; with no octets nothing is checked
abbrev pub own_denial_for : Part → Peer → Stag → ℕ → ℕ → Right → Option Deny
own_denial_for part peer stag to n right =
    if n == 0 then None else
    (if not (stag.domain == peer.domain) then Some NotAssociated else
    option_map_or (λ r. region_denial_for r peer.stream to n right) (own_region part stag) (Some Invalid))

abbrev pub own_denial : Part → ℕ → Stag → ℕ → ℕ → Right → Option Deny
own_denial part pd stag to n right = own_denial_for part (in_domain pd) stag to n right

-- the first reason why it may not invalidate a region of its domain
abbrev pub region_invalidate_denial : Region → Option ℕ → Option InvalidateDeny
region_invalidate_denial r stream =
    if not (is_in_scope r.bound stream) then Some NotOwn else
    (if not r.valid then Some NotValid else
    (if not r.rights.invalidate then Some NotAllowed else None))

-- the first reason why it may not invalidate the region
abbrev pub own_invalidate_denial_for : Part → Peer → Stag → Option InvalidateDeny
own_invalidate_denial_for part peer stag =
    if not (stag.domain == peer.domain) then Some NotOwn else
    option_map_or (λ r. region_invalidate_denial r peer.stream) (own_region part stag) (Some NotValid)

abbrev pub own_invalidate_denial : Part → ℕ → Stag → Option InvalidateDeny
own_invalidate_denial part pd stag = own_invalidate_denial_for part (in_domain pd) stag

-- ---- what the owner is answered

abbrev pub own_domain_refusal : Part → ℕ → Option DomainRefusal
own_domain_refusal part pd = if pd == 0 then Some BadDomain else (if is_some part then Some DomainTaken else None)

-- the lowest slot with no region, which may be the one past the last
abbrev pub free_slot : List SlotState → ℕ
free_slot slots = position_or_len (λ s. is_none s.region) slots

-- why a region of `len` octets is not registered, if it may have `most`
abbrev pub own_register_refusal_within : ℕ → Part → ℕ → ℕ → Option RegisterRefusal
own_register_refusal_within most part base len =
    if not (is_some part) then Some NoDomain else
    (if nat_le 1024 (free_slot (own_slots part)) then Some DomainFull else
    (if nat_lt most len then Some TooLong else
    (if nat_lt (2 ^ 64) (base + len) then Some BaseWrap else None)))

abbrev pub own_register_refusal : Part → ℕ → ℕ → Option RegisterRefusal
own_register_refusal part base len = own_register_refusal_within (most_octets false) part base len

-- the STag that the next region of the domain, whose number is pd, gets
abbrev pub own_next_stag : Part → ℕ → Stag
own_next_stag part pd =
    let i = free_slot (own_slots part) in
    record { domain = pd; slot = i; key = (slice_index_or (own_slots part) i unused).key }

abbrev pub own_store_refusal : Part → Stag → ℕ → ℕ → Option StoreRefusal
own_store_refusal part stag to n =
    option_map_or (λ r. if nat_le r.base to && nat_le (to + n) (r.base + length r.octets) then None else Some Outside) (own_region part stag) (Some NoRegion)

-- ---- what a call leaves

-- the part with this in a slot
abbrev pub own_slot : Part → ℕ → SlotState → Part
own_slot part slot s = Some (slice_set (own_slots part) slot s)

-- the region that the STag names is changed so; where it names none, the part stays
abbrev pub own_changed : Part → Stag → (Region → Region) → Part
own_changed part stag change =
    option_map_or (λ r. own_slot part stag.slot (record { key = stag.key; region = Some (change r) })) (own_region part stag) part

-- the region has these octets from tagged offset `to` on
abbrev pub own_put : Part → Stag → ℕ → List ℕ → Part
own_put part stag to octets = own_changed part stag (λ r. region_with r to octets)

abbrev pub own_invalidated : Part → Stag → Part
own_invalidated part stag = own_changed part stag made_invalid

-- the slot, with a region that is limited to this stream out of use
abbrev pub retired_slot : Option ℕ → SlotState → SlotState
retired_slot stream s = record s { region = option_map (retired_region stream) s.region }

-- the regions that are limited to this stream are out of use
abbrev pub own_retired : Part → Option ℕ → Part
own_retired part stream = option_map (map (retired_slot stream)) part

-- the region goes, and its slot's next region gets the next key; where the STag names none, the part stays
abbrev pub own_deregistered : Part → Stag → Part
own_deregistered part stag =
    option_map_or (λ r. own_slot part stag.slot (record { key = (stag.key + 1) % 256; region = None })) (own_region part stag) part

-- a domain that was added has no slots yet
abbrev pub own_added : Part
own_added = Some []

-- the slots, and one more where none of them is free
abbrev pub with_room : List SlotState → List SlotState
with_room slots = if nat_lt (free_slot slots) (length slots) then slots else slots ++ unused ∷ []

-- a new region stands in the lowest free slot
abbrev pub own_registered : Part → Region → Part
own_registered part region =
    let slots = own_slots part in let i = free_slot slots in
    Some (slice_set (with_room slots) i (record { key = (slice_index_or slots i unused).key; region = Some region }))

-- ---- an STag that is drawn, by a number of 32 bits

-- the first free slot from this place on, of 1,024: one that was not made yet is free; the lowest where none is free there
abbrev pub free_from : List SlotState → ℕ → ℕ
free_from slots place = let i = place + free_slot (drop place slots) in if nat_lt i 1024 then i else free_slot slots

-- the key that is drawn for a slot: one of the 255 that are not its last one
abbrev pub drawn_key : SlotState → ℕ → ℕ
drawn_key s drawn = (s.key + drawn / 1024 % 255) % 256

-- the STag that is drawn for the next region of the domain, whose number is pd
abbrev pub own_drawn_stag : Part → ℕ → ℕ → Stag
own_drawn_stag part pd drawn =
    let i = free_from (own_slots part) (drawn % 1024) in
    record { domain = pd; slot = i; key = drawn_key (slice_index_or (own_slots part) i unused) drawn }

-- the slots, and those up to slot i that were not made yet
abbrev pub up_to : List SlotState → ℕ → List SlotState
up_to slots i = slots ++ replicate (i + 1 - length slots) unused

-- a new region stands in the slot that the STag names, under its key
abbrev pub own_registered_at : Part → Stag → Region → Part
own_registered_at part stag region =
    Some (slice_set (up_to (own_slots part) stag.slot) stag.slot (record { key = stag.key; region = Some region }))
