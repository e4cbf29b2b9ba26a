-- Lines on their way to the output: what they are before and after one more, and how many were dropped behind them.
use Rattle.std.specs.Prelude.{◌≡◌, ◌⊎◌, ◌+◌, ◌-◌, ◌++◌, ◌^◌, ℕ, List, Result, Ok, Err, String, string_bytes}

-- a line is dropped, and counted
pub record IsDropped (text : List ℕ) (dropped : ℕ) (text' : List ℕ) (dropped' : ℕ) : Type 0 where
  pub same : text' ≡ text
  pub counted : (dropped' ≡ dropped + 1) ⊎ (dropped' ≡ 2 ^ 64 - 1)

-- a whole line stands behind the others, none of which was dropped
pub record IsKept (line text : List ℕ) (dropped : ℕ) (text' : List ℕ) (dropped' : ℕ) : Type 0 where
  pub behind : text' ≡ text ++ line
  pub none : dropped ≡ 0
  pub none_then : dropped' ≡ 0

-- a line is kept or dropped; one for which there was no memory is dropped
abbrev pub IsAdded : {A E : Type 0} → Result (String A) E → List ℕ → ℕ → List ℕ → ℕ → Type 0
IsAdded (Ok line) text dropped text' dropped' = IsKept (string_bytes line) text dropped text' dropped' ⊎ IsDropped text dropped text' dropped'
IsAdded (Err e) text dropped text' dropped' = IsDropped text dropped text' dropped'
