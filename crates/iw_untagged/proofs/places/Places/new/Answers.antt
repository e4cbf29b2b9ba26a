use Rattle.std.proofs.Common.{subst, sym}
use Rattle.iw_untagged.specs.Bound.{IsBoundBefore}
use Rattle.iw_untagged.proofs.Bounds.{none_bound}
use Rattle.iw_untagged.proofs.places.Places.new.Goals as goal

pub invariant_of-result : goal.invariant_of-result
invariant_of-result g c = subst (IsBoundBefore 0) (sym c.in_ok-items.ensures) none_bound
