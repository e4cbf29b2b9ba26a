use Rattle.bench_ranges.specs.Whole.{IsWhole}
use Rattle.bench_ranges.proofs.swapped.Given as goal

abbrev pub invariant-loop-pair : goal.invariant-loop-pair
invariant-loop-pair l = IsWhole l.islands.arrived
