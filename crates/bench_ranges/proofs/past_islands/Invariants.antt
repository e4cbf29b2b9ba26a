use Rattle.bench_ranges.specs.Whole.{IsWhole}
use Rattle.bench_ranges.proofs.past_islands.Given as goal

abbrev pub invariant-loop-i : goal.invariant-loop-i
invariant-loop-i l = IsWhole l.islands.arrived

abbrev pub invariant-loop-piece : goal.invariant-loop-piece
invariant-loop-piece l = IsWhole l.islands.arrived
