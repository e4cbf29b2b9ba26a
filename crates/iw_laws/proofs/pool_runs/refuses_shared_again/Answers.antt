use Rattle.iw_laws.proofs.RefusedPools.{refuses_shared_again}
use Rattle.iw_laws.proofs.pool_runs.refuses_shared_again.Goals as goal

pub returns : goal.returns
returns c = refuses_shared_again
