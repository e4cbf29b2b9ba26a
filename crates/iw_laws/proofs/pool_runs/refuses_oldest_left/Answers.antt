use Rattle.iw_laws.proofs.RefusedPools.{refuses_oldest_left}
use Rattle.iw_laws.proofs.pool_runs.refuses_oldest_left.Goals as goal

pub returns : goal.returns
returns c = refuses_oldest_left
