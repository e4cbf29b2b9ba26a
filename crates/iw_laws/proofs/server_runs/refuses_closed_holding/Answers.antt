use Rattle.iw_laws.proofs.RefusedServers.{refuses_closed_holding}
use Rattle.iw_laws.proofs.server_runs.refuses_closed_holding.Goals as goal

pub returns : goal.returns
returns c = refuses_closed_holding
