use Rattle.iw_laws.proofs.RefusedEnhanced.{refuses_long_request}
use Rattle.iw_laws.proofs.enhanced_runs.refuses_long_request.Goals as goal

pub returns : goal.returns
returns c = refuses_long_request
