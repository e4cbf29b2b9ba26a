use Rattle.iw_laws.proofs.RefusedRest.{refuses_unsent_received}
use Rattle.iw_laws.proofs.rest_runs.refuses_unsent_received.Goals as goal

pub returns : goal.returns
returns c = refuses_unsent_received
