use Rattle.iw_laws.proofs.ServerApart.{server_isolated}
use Rattle.iw_laws.proofs.servers.keep_domains_apart.Goals as goal

pub returns : goal.returns
returns c = server_isolated
