use Rattle.std.proofs.Common.{◌≡◌, ℕ, ◌<◌, false, get_or, None}
use Rattle.std.specs.Prelude.{is_some}
use Rattle.iw_untagged.proofs.places.first_bound.Given as goal

abbrev pub invariant-loop-index : goal.invariant-loop-index
invariant-loop-index g l = (k : ℕ) → k < l.index → is_some (get_or l.places.items k None) ≡ false
