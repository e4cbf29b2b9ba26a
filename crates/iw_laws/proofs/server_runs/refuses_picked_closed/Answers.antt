use Rattle.iw_laws.proofs.RefusedServers.{refuses_picked_closed}
use Rattle.iw_laws.proofs.server_runs.refuses_picked_closed.Goals as goal

pub returns : goal.returns
returns c = refuses_picked_closed
