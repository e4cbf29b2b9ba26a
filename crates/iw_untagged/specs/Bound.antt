-- Which of the places of a queue that shares a pool may have a buffer.
use Rattle.std.specs.Prelude.{ℕ, ◌≡◌, ◌≤◌, List, length, slice_index_or, Option, None}

-- there are 256 places, and none from this one on has a buffer
pub record IsBoundBefore (end : ℕ) (places : List (Option (List ℕ))) : Type 0 where
  pub count : length places ≡ 256
  pub limit : end ≤ 256
  pub none : (k : ℕ) → end ≤ k → slice_index_or places k None ≡ None
