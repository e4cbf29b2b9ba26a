use Rattle.iw_laws.proofs.RefusedServers.{refuses_written_limited}
use Rattle.iw_laws.proofs.server_runs.refuses_written_limited.Goals as goal

pub returns : goal.returns
returns c = refuses_written_limited
