-- What the calls leave, said of each place.
use Rattle.std.specs.Prelude.{ℕ, ◌≡◌, ◌≤◌, ◌+◌, ◌-◌, ◌++◌, false, List, length, map, drop, nat_lt, if◌then◌else◌}
use Rattle.iw_ranges.specs.declared.Delivery.TheVariants.{Kept}
use Rattle.iw_ranges.specs.Arrived.{Arrived, Missing, Here, Gone, cell_at, has_come, cells_between, in_order, come_after, first_copy, given_up, delivery, delivered, taken_in, advanced, released, emptied}
use Rattle.iw_ranges.specs.InOrder.{IsHeld, IsOf}

-- a delivery that is kept leaves each octet that came before as it was, and else its own
abbrev pub KeepsFirstCopies : Type 0
KeepsFirstCopies = (a : Arrived) (place : ℕ) (octets : List ℕ) (p : ℕ) → delivery a place (length octets) ≡ Kept
    → cell_at (delivered a place octets) p ≡ first_copy place octets p (cell_at a p)

-- a delivery that is kept adds its places, and takes none away
abbrev pub AddsPlaces : Type 0
AddsPlaces = (a : Arrived) (place : ℕ) (octets : List ℕ) (p : ℕ) → delivery a place (length octets) ≡ Kept
    → has_come (delivered a place octets) p ≡ come_after a place (length octets) p

abbrev pub GivesUpPlaces : Type 0
GivesUpPlaces = (a : Arrived) (from to p : ℕ) → cell_at (released a from to) p ≡ given_up from to p (cell_at a p)

-- what was given up still counts as come
abbrev pub StaysCome : Type 0
StaysCome = (a : Arrived) (from to p : ℕ) → has_come (released a from to) p ≡ has_come a p

abbrev pub GivesUpBefore : Type 0
GivesUpBefore = (a : Arrived) (to p : ℕ) → cell_at (advanced a to) p ≡ (if nat_lt p to then Gone else cell_at a p)

-- nothing came from the in-order point on, and what lies before it stays given up
abbrev pub EmptiesPast : Type 0
EmptiesPast = (a : Arrived) (p : ℕ) → cell_at (emptied a) p ≡ (if nat_lt p a.floor then Gone else Missing)

-- what came in order stands past the in-order point, and the place past it didn't come; a delivery only adds to its end, the in-order point takes
-- away its front, in either order; and from the beginning of the stream on it is the first octets that were sent, where each one that came was sent
pub record InOrderGrows : Type 0 where
  pub stands : (a : Arrived) → map Here (in_order a) ≡ cells_between a a.floor (a.floor + length (in_order a))
  pub ends : (a : Arrived) → IsHeld a → has_come a (a.floor + length (in_order a)) ≡ false
  pub takes : (a : Arrived) (place : ℕ) (octets : List ℕ) → (more : List ℕ) × (in_order (taken_in a place octets) ≡ in_order a ++ more)
  pub moves : (a : Arrived) (to : ℕ) → a.floor ≤ to → to ≤ a.floor + length (in_order a) → in_order (advanced a to) ≡ drop (to - a.floor) (in_order a)
  pub moves_takes : (a : Arrived) (place : ℕ) (octets : List ℕ) (to : ℕ) → a.floor ≤ to → to ≤ a.floor + length (in_order a)
      → advanced (taken_in a place octets) to ≡ taken_in (advanced a to) place octets
  pub first : (a : Arrived) (sent : List ℕ) → a.floor ≡ 0 → IsOf a sent → (rest : List ℕ) × (in_order a ++ rest ≡ sent)

-- ---- what is left once octets were given up
-- `left` is `came`, but that the octets of some places were given up: they still count as come
pub record IsLeftOf (left came : Arrived) : Type 0 where
  pub floor : left.floor ≡ came.floor
  pub cells : (p : ℕ) → (cell_at left p ≡ Gone → ⊥) → cell_at left p ≡ cell_at came p
  pub come : (p : ℕ) → has_come left p ≡ has_come came p
