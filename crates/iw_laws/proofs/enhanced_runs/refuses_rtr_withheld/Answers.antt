use Rattle.iw_laws.proofs.RefusedRtr.{refuses_rtr_withheld}
use Rattle.iw_laws.proofs.enhanced_runs.refuses_rtr_withheld.Goals as goal

pub returns : goal.returns
returns c = refuses_rtr_withheld
