use Rattle.iw_laws.proofs.RefusedServers.{refuses_limited_taken}
use Rattle.iw_laws.proofs.server_runs.refuses_limited_taken.Goals as goal

pub returns : goal.returns
returns c = refuses_limited_taken
