use Rattle.std.specs.Prelude.{ℕ, ◌≡◌, ◌≤◌}
use Rattle.iw_ranges.specs.Arrived.{Arrived, Gone, cell_at}

-- no octet from the in-order point on was given up
pub record IsWhole (a : Arrived) : Type 0 where
  pub held : (p : ℕ) → a.floor ≤ p → cell_at a p ≡ Gone → ⊥
