use Rattle.iw_laws.proofs.RefusedRtr.{refuses_done_by_rtr}
use Rattle.iw_laws.proofs.enhanced_runs.refuses_done_by_rtr.Goals as goal

pub returns : goal.returns
returns c = refuses_done_by_rtr
