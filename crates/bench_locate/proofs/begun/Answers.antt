use Rattle.iw_locate.proofs.PastHole.{begun_past}
use Rattle.bench_locate.proofs.begun.Goals as goal

pub returns : goal.returns
returns c = begun_past c.in_ok-islands.islands.arrived c.new-2.result.records c.nothing.result c.in_ok-islands.ensures c.new-2.ensures c.nothing.ensures
