use Rattle.iw_laws.proofs.RefusedPools.{refuses_denied_short}
use Rattle.iw_laws.proofs.pool_runs.refuses_denied_short.Goals as goal

pub returns : goal.returns
returns c = refuses_denied_short
