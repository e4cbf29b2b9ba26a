use Rattle.iw_laws.proofs.RefusedServers.{refuses_rest_closed}
use Rattle.iw_laws.proofs.server_runs.refuses_rest_closed.Goals as goal

pub returns : goal.returns
returns c = refuses_rest_closed
