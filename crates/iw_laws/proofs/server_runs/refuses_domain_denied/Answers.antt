use Rattle.iw_laws.proofs.RefusedServers.{refuses_domain_denied}
use Rattle.iw_laws.proofs.server_runs.refuses_domain_denied.Goals as goal

pub returns : goal.returns
returns c = refuses_domain_denied
