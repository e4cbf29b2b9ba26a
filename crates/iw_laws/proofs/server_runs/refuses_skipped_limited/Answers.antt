use Rattle.iw_laws.proofs.RefusedServers.{refuses_skipped_limited}
use Rattle.iw_laws.proofs.server_runs.refuses_skipped_limited.Goals as goal

pub returns : goal.returns
returns c = refuses_skipped_limited
