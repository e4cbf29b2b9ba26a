use Rattle.iw_rdmap.proofs.Told.{terminate_judged}
use Rattle.iw_rdmap.proofs.laws.terminates_are_told.Goals as goal

pub returns : goal.returns
returns c = terminate_judged
