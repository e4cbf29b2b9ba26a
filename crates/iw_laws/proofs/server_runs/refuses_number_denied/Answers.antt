use Rattle.iw_laws.proofs.RefusedServers.{refuses_number_denied}
use Rattle.iw_laws.proofs.server_runs.refuses_number_denied.Goals as goal

pub returns : goal.returns
returns c = refuses_number_denied
