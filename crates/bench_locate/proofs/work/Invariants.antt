use Rattle.iw_locate.specs.Hole.{IsPastHole}
use Rattle.bench_locate.proofs.work.Given as goal

abbrev pub invariant-loop : goal.invariant-loop
invariant-loop l = IsPastHole l.islands.arrived l.judged.records l.unsearched
