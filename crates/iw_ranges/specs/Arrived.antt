-- What came of a stream, place by place, and what each call makes of it.
use Rattle.std.specs.Prelude.{ℕ, ◌≡◌, ◌<◌, ◌≤◌, ◌+◌, ◌-◌, ◌^◌, zero, suc, Bool, true, false, ◌&&◌, ◌||◌, not, nat_lt, nat_le, List, [], ◌∷◌, length, map, take, drop, ◌++◌, max, if◌then◌else◌, slice_index, slice_index_or}
use Rattle.std.specs.List.{range_with_len}
use Rattle.iw_ranges.specs.declared.Delivery.{Delivery}
use Rattle.iw_ranges.specs.declared.Delivery.TheVariants.{Kept, Dropped}

-- what is known of one place: its octet didn't come, came and is held, or came and was given up
pub data Cell : Type 0 where
  Missing : Cell
  Here : ℕ → Cell
  Gone : Cell

-- a stream: all before the in-order point `floor` came and was given up, cell i is place floor + i, and past the last cell nothing came
pub record Arrived : Type 0 where
  pub floor : ℕ
  pub cells : List Cell

-- an `Islands`: what came, how many releases there is room for, for how many octets there is memory, and what stands past the last place that came,
-- which means nothing until it is counted as come
pub record Held : Type 0 where
  pub arrived : Arrived
  pub room : ℕ
  pub memory : ℕ
  pub ahead : List ℕ

-- these octets written over the first of those that stand ahead
abbrev pub with_ahead : Held → List ℕ → Held
with_ahead h octets = record h { ahead = take (length h.ahead) (octets ++ drop (length octets) h.ahead) }

abbrev pub nothing : Arrived
nothing = record { floor = 0; cells = [] }

abbrev pub cell_at : Arrived → ℕ → Cell
cell_at a p = if nat_lt p a.floor then Gone else slice_index_or a.cells (p - a.floor) Missing

abbrev pub is_missing : Cell → Bool
is_missing Missing = true
is_missing (Here x) = false
is_missing Gone = false

abbrev pub IsHere : Cell → Type 0
IsHere Missing = ⊥
IsHere (Here x) = Unit {0}
IsHere Gone = ⊥

abbrev pub has_come : Arrived → ℕ → Bool
has_come a p = not (is_missing (cell_at a p))

-- the place past the last cell
abbrev pub end_of : Arrived → ℕ
end_of a = a.floor + length a.cells

-- the stream that has these cells from `floor` on up to `end`
abbrev pub drawn : ℕ → ℕ → (ℕ → Cell) → Arrived
drawn floor end cell = record { floor = floor; cells = map cell (range_with_len floor (end - floor)) }

-- the cells from place `from` up to place `to`
abbrev pub cells_between : Arrived → ℕ → ℕ → List Cell
cells_between a from to = map (cell_at a) (range_with_len from (to - from))

-- the octets that are held side by side from the first of these places on
unfoldable pub held : List Cell → List ℕ
held [] = []
held (Missing ∷ cells) = []
held (Here x ∷ cells) = x ∷ held cells
held (Gone ∷ cells) = []

-- the octets that came without a gap from the in-order point on, as far as they are held
abbrev pub in_order : Arrived → List ℕ
in_order a = held a.cells

-- ---- a delivery: n octets from `place` on
abbrev pub in_segment : ℕ → ℕ → ℕ → Bool
in_segment place n p = nat_le place p && nat_lt p (place + n)

-- the places that came once these came too
abbrev pub come_after : Arrived → ℕ → ℕ → ℕ → Bool
come_after a place n p = has_come a p || in_segment place n p

-- how many of the n places from `from` on came where the place before them didn't
abbrev pub starts_in : (ℕ → Bool) → ℕ → ℕ → ℕ
starts_in came from zero = 0
starts_in came from (suc n) = (if came from && not (came (from - 1)) then 1 else 0) + starts_in came (from + 1) n

-- an octet comes less than this far past the in-order point, or is dropped
abbrev pub window : ℕ
window = 262144

abbrev pub max_islands : ℕ
max_islands = 1024

-- the memory for octets, in octets, that is kept where nothing came past the in-order point
abbrev pub max_idle : ℕ
max_idle = 131072

-- and the most that is ever had: for a window, and a quarter of one that lies before the in-order point
abbrev pub max_held : ℕ
max_held = 327680

-- how many islands of octets there are, those that came without a gap from `floor` on not counted
unfoldable pub island_count : (ℕ → Bool) → ℕ → ℕ
island_count came floor = starts_in came (floor + 1) window

-- one of the octets lies out of the window, or there would be too many islands
unfoldable pub is_dropped : Arrived → ℕ → ℕ → Bool
is_dropped a place n = nat_lt 0 n && (nat_lt (a.floor + window) (place + n) || nat_lt max_islands (island_count (come_after a place n) a.floor))

abbrev pub delivery : Arrived → ℕ → ℕ → Delivery
delivery a place n = if is_dropped a place n then Dropped else Kept

-- the first copy of an octet stays
abbrev pub first_copy : ℕ → List ℕ → ℕ → Cell → Cell
first_copy place octets p Missing = if in_segment place (length octets) p then Here (slice_index octets (p - place)) else Missing
first_copy place octets p (Here x) = Here x
first_copy place octets p Gone = Gone

unfoldable pub taken_in : Arrived → ℕ → List ℕ → Arrived
taken_in a place octets =
    if nat_lt 0 (length octets) then drawn a.floor (max (end_of a) (place + length octets)) (λ p. first_copy place octets p (cell_at a p)) else a

-- a delivery is dropped whole, or taken in
abbrev pub delivered : Arrived → ℕ → List ℕ → Arrived
delivered a place octets = if is_dropped a place (length octets) then a else taken_in a place octets

-- a delivery that is kept and has an octet whose place didn't come: memory may have to grow
abbrev pub BringsOctets : Arrived → ℕ → ℕ → Type 0
BringsOctets a place n = (delivery a place n ≡ Kept) × ((p : ℕ) × (place ≤ p) × (p < place + n) × (has_come a p ≡ false))

-- ---- octets that are read in place
-- for how many octets there can be room past the last place that came: as far as the window reaches, and no more memory than is kept where nothing came
abbrev pub most_ahead : Arrived → ℕ
most_ahead a = if nat_lt 0 (length a.cells) then window - length a.cells else max_idle

-- n octets can be written past the last place that came, and be counted
pub record IsReadyFor (n : ℕ) (h : Held) : Type 0 where
  pub near : end_of h.arrived + n ≤ h.arrived.floor + window
  pub stand : n ≤ length h.ahead

-- ---- what comes after
-- the in-order point is `to`, or stays where it lies further on
unfoldable pub advanced : Arrived → ℕ → Arrived
advanced a to = record { floor = max a.floor to; cells = drop (to - a.floor) a.cells }

-- an octet that came is given up if its place lies from `from` up to `to`
abbrev pub given_up : ℕ → ℕ → ℕ → Cell → Cell
given_up from to p Missing = Missing
given_up from to p (Here x) = if nat_le from p && nat_lt p to then Gone else Here x
given_up from to p Gone = Gone

unfoldable pub released : Arrived → ℕ → ℕ → Arrived
released a from to = drawn a.floor (end_of a) (λ p. given_up from to p (cell_at a p))

-- what came past the in-order point is given up, as though it had not come: nothing came from that point on
abbrev pub emptied : Arrived → Arrived
emptied a = record { floor = a.floor; cells = [] }

-- ---- what is so at any time
pub record IsWithinLimits (a : Arrived) : Type 0 where
  pub octets : (p : ℕ) → a.floor + window ≤ p → cell_at a p ≡ Missing
  pub islands : island_count (has_come a) a.floor ≤ max_islands
  pub floor : a.floor ≤ 2 ^ 63

abbrev pub IsIdleWithin : Held → Type 0
IsIdleWithin h = h.arrived.cells ≡ [] → h.memory ≤ max_idle
