use Rattle.iw_rdmap.proofs.Whole.{front_judged}
use Rattle.iw_rdmap.proofs.laws.front_will_do.Goals as goal

pub returns : goal.returns
returns c = front_judged
