use Rattle.iw_laws.proofs.RefusedPools.{refuses_pool_asked_again}
use Rattle.iw_laws.proofs.pool_runs.refuses_pool_asked_again.Goals as goal

pub returns : goal.returns
returns c = refuses_pool_asked_again
