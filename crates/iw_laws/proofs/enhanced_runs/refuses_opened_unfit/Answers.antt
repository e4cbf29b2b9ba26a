use Rattle.iw_laws.proofs.RefusedEnhanced.{refuses_opened_unfit}
use Rattle.iw_laws.proofs.enhanced_runs.refuses_opened_unfit.Goals as goal

pub returns : goal.returns
returns c = refuses_opened_unfit
