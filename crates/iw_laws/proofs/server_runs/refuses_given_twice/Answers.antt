use Rattle.iw_laws.proofs.RefusedServers.{refuses_given_twice}
use Rattle.iw_laws.proofs.server_runs.refuses_given_twice.Goals as goal

pub returns : goal.returns
returns c = refuses_given_twice
