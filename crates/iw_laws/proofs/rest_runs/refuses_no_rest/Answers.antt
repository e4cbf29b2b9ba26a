use Rattle.iw_laws.proofs.RefusedRest.{refuses_no_rest}
use Rattle.iw_laws.proofs.rest_runs.refuses_no_rest.Goals as goal

pub returns : goal.returns
returns c = refuses_no_rest
