-- Octets that came without a gap, where none is given up past the in-order point.
use Rattle.std.specs.Prelude.{ℕ, ◌≡◌, ◌≤◌, Bool, true, false, List, length, Some, slice_get}
use Rattle.iw_ranges.specs.Arrived.{Arrived, Cell, Missing, Here, Gone, cell_at, window}

abbrev pub is_gone : Cell → Bool
is_gone Missing = false
is_gone (Here x) = false
is_gone Gone = true

-- no octet from the in-order point on was given up
abbrev pub IsHeld : Arrived → Type 0
IsHeld a = (p : ℕ) → a.floor ≤ p → is_gone (cell_at a p) ≡ false

-- nothing came past the window
abbrev pub IsInWindow : Arrived → Type 0
IsInWindow a = length a.cells ≤ window

-- what came is what these octets have at each place
abbrev pub IsOf : Arrived → List ℕ → Type 0
IsOf a octets = (p x : ℕ) → a.floor ≤ p → cell_at a p ≡ Here x → slice_get octets p ≡ Some x
