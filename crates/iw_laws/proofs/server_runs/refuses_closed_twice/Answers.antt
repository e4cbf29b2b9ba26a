use Rattle.iw_laws.proofs.RefusedServers.{refuses_closed_twice}
use Rattle.iw_laws.proofs.server_runs.refuses_closed_twice.Goals as goal

pub returns : goal.returns
returns c = refuses_closed_twice
