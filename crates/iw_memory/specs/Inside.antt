-- What the fields of a `Memory` mean, and what they keep.
use Rattle.std.specs.Prelude.{◌≡◌, ◌<◌, ◌≤◌, ℕ, IsTrue, ◌+◌, ◌-◌, ◌==◌, if◌then◌else◌, List, [], ◌++◌, slice_set, nat_lt, is_none, Bool, false, length, Option, Some, None, map, drop, replicate, slice_index_or, unwrap_or}
use Rattle.std.specs.Option.{option_map, option_and_then}
use Rattle.std.specs.List.{position_or_len}
use Rattle.slab.specs.Slab.{Slab, get}
use Rattle.iw_octets.specs.declared.stag.Stag.{Stag}
use Rattle.iw_memory.specs.declared.slots.Slot.{Slot}
use Rattle.iw_memory.specs.Region.{Region, IsWithinLimits}
use Rattle.iw_memory.specs.Held.{Held}
use Rattle.iw_memory.specs.Part.{Part, SlotState, unused}
use Rattle.iw_memory.specs.Table.{Table, is_added, slots_of}

-- at each domain number, the slots of the domain; nothing where it was not added
abbrev pub Slots : Type 0
Slots = List (Option (List Slot))

-- the domains past the last place were not added
abbrev pub all_places : Slots → Slots
all_places places = places ++ replicate (256 - length places) None

-- the places of no domain
unfoldable pub no_places : Slots
no_places = replicate 256 None

abbrev pub region_in : Slab Held → Option ℕ → Option Region
region_in regions at = option_and_then (λ k. option_map (λ h. h.region) (get regions k)) at

abbrev pub state_of : Slab Held → Slot → SlotState
state_of regions s = record { key = s.key; region = region_in regions s.at }

abbrev pub states_of : Slab Held → Option (List Slot) → Part
states_of regions slots = option_map (map (state_of regions)) slots

abbrev pub table_of : Slots → Slab Held → Table
table_of domains regions = map (states_of regions) domains

abbrev pub slots_in : Slots → ℕ → List Slot
slots_in domains d = unwrap_or (slice_index_or domains d None) []

abbrev pub free : Slot
free = record { key = 0; at = None }

-- the key in the slab of the region in a slot
abbrev pub link_at : Slots → ℕ → ℕ → Option ℕ
link_at domains d i = (slice_index_or (slots_in domains d) i free).at

-- the key in the slab of the region that the STag names
abbrev pub link_of : Slots → Stag → Option ℕ
link_of domains stag =
    let s = slice_index_or (slots_in domains stag.domain) stag.slot free in if s.key == stag.key then s.at else None

-- the slab holds a region of this slot, and the region is within its limits
pub record IsHeldFor (regions : Slab Held) (k d i : ℕ) : Type 0 where
  pub region : Region
  pub held : get regions k ≡ Some (record { domain = d; slot = i; region = region })
  pub limits : IsWithinLimits region.base (length region.octets)

pub record IsSound (domains : Slots) (regions : Slab Held) : Type 0 where
  pub all_numbers : length domains ≡ 256
  pub no_zero : slice_index_or domains 0 None ≡ None
  pub linked : (d i k : ℕ) → link_at domains d i ≡ Some k → IsHeldFor regions k d i
  pub few : (d : ℕ) → length (slots_in domains d) ≤ 1024

-- no region is limited to a stream
pub record AreShared (regions : Slab Held) : Type 0 where
  pub unbound : (k : ℕ) (h : Held) → get regions k ≡ Some h → h.region.bound ≡ None

pub record Keeps (domains : Slots) (regions : Slab Held) (limited : Bool) (nothing : List ℕ) : Type 0 where
  pub sound : IsSound domains regions
  pub shared : limited ≡ false → AreShared regions
  pub no_octets : length nothing ≡ 0

abbrev pub is_free : Slot → Bool
is_free s = is_none s.at

-- the slots, and free ones up to this one where it is past the last
abbrev pub with_room_at : List Slot → ℕ → List Slot
with_room_at slots i = slots ++ replicate (i + 1 - length slots) free

-- the first free slot from this place on, of 1,024, and the lowest where none is free there
abbrev pub first_free : List Slot → ℕ → ℕ
first_free slots place = let i = place + position_or_len is_free (drop place slots) in if nat_lt i 1024 then i else position_or_len is_free slots

-- the domain has these slots, and all else is equal
pub record SetsSlots (old new : Slots) (d : ℕ) (items : List Slot) : Type 0 where
  pub after : new ≡ slice_set old d (Some items)

-- the STag's slot is one of a domain that was added, and has no region
pub record IsVacant (table : Table) (stag : Stag) : Type 0 where
  pub added : IsTrue (is_added table stag.domain)
  pub small : stag.slot < 1024
  pub none : (slice_index_or (slots_of table stag.domain) stag.slot unused).region ≡ None
