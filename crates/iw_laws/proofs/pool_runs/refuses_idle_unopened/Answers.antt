use Rattle.iw_laws.proofs.RefusedPools.{refuses_idle_unopened}
use Rattle.iw_laws.proofs.pool_runs.refuses_idle_unopened.Goals as goal

pub returns : goal.returns
returns c = refuses_idle_unopened
