use Rattle.bench_ranges.specs.Whole.{IsWhole}
use Rattle.bench_ranges.proofs.in_order.Given as goal

abbrev pub invariant-loop-piece : goal.invariant-loop-piece
invariant-loop-piece l = IsWhole l.islands.arrived
