use Rattle.std.proofs.Common.{◌≡◌, ◌<◌, ◌≤◌, ℕ, get_or}
use Rattle.iw_memory.proofs.marks.clear_before.Given as goal

abbrev pub invariant-loop-k : goal.invariant-loop-k
invariant-loop-k l = ((j : ℕ) → j < l.k → get_or l.words j 0 ≡ 0) × ((j : ℕ) → l.k ≤ j → get_or l.words j 0 ≡ get_or l.initial.words j 0)
