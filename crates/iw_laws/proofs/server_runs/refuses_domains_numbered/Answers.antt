use Rattle.iw_laws.proofs.RefusedServers.{refuses_domains_numbered}
use Rattle.iw_laws.proofs.server_runs.refuses_domains_numbered.Goals as goal

pub returns : goal.returns
returns c = refuses_domains_numbered
