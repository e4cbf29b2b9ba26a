use Rattle.std.proofs.Common.{◌-◌}
use Rattle.iw_locate.specs.Hole.{IsPastHole}
use Rattle.bench_locate.proofs.window.Given as goal

abbrev pub invariant-loop-number : goal.invariant-loop-number
invariant-loop-number l = IsPastHole l.islands.arrived l.judged.records l.unsearched

abbrev pub decreases-loop-number : goal.decreases-loop-number
decreases-loop-number l = l.all - l.number
