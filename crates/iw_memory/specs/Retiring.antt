-- Regions that are stored are put out of use one after the other.
use Rattle.std.specs.Prelude.{ℕ, List, [], ◌∷◌, Option}
use Rattle.std.specs.Option.{option_map_or}
use Rattle.slab.specs.Slab.{Slab, get, with_value}
use Rattle.iw_memory.specs.declared.slots.Slot.{Slot}
use Rattle.iw_memory.specs.Region.{retired_region}
use Rattle.iw_memory.specs.Held.{Held}

abbrev pub retired_held : Option ℕ → Held → Held
retired_held stream h = record h { region = retired_region stream h.region }

-- what is stored under the key
abbrev pub retired_at : Option ℕ → Slab Held → ℕ → Slab Held
retired_at stream regions k = option_map_or (λ h. with_value regions k (retired_held stream h)) (get regions k) regions

-- what is stored for the slots
abbrev pub retired_all : Option ℕ → List Slot → Slab Held → Slab Held
retired_all stream [] regions = regions
retired_all stream (s ∷ slots) regions = retired_all stream slots (option_map_or (retired_at stream regions) s.at regions)
