use Rattle.iw_laws.proofs.RefusedEnhanced.{refuses_fault_fit}
use Rattle.iw_laws.proofs.enhanced_runs.refuses_fault_fit.Goals as goal

pub returns : goal.returns
returns c = refuses_fault_fit
