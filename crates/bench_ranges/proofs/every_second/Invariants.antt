use Rattle.bench_ranges.specs.Whole.{IsWhole}
use Rattle.bench_ranges.proofs.every_second.Given as goal

abbrev pub invariant-loop-piece : goal.invariant-loop-piece
invariant-loop-piece l = IsWhole l.islands.arrived
