use Rattle.iw_laws.proofs.RefusedServers.{refuses_never_closed}
use Rattle.iw_laws.proofs.server_runs.refuses_never_closed.Goals as goal

pub returns : goal.returns
returns c = refuses_never_closed
