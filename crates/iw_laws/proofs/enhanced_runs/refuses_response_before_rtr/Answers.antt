use Rattle.iw_laws.proofs.RefusedRtr.{refuses_response_before_rtr}
use Rattle.iw_laws.proofs.enhanced_runs.refuses_response_before_rtr.Goals as goal

pub returns : goal.returns
returns c = refuses_response_before_rtr
