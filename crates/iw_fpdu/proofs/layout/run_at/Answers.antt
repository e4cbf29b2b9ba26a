use Rattle.std.proofs.Common.{arith}
use Rattle.iw_fpdu.proofs.Counted.{run_is}
use Rattle.iw_fpdu.proofs.layout.run_at.Goals as goal

pub returns-then-markers-clause-run : goal.returns-then-markers-clause-run
returns-then-markers-clause-run c = run_is c.args.markers c.args.at c.min.result c.if-markers.true c.requires (omega (arith, c.min.ensures))
