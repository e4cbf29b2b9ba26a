use Rattle.std.proofs.Common.{◌≡◌, ◌≤◌, take}
use Rattle.std.specs.Prelude.{is_some, count_by}
use Rattle.iw_untagged.proofs.places.count_bound.Given as goal

abbrev pub invariant-loop-index : goal.invariant-loop-index
invariant-loop-index g l = (l.count ≡ count_by is_some (take l.index l.places.items)) × (l.count ≤ l.index)
