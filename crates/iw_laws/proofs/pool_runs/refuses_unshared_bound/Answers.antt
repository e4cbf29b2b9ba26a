use Rattle.iw_laws.proofs.RefusedPools.{refuses_unshared_bound}
use Rattle.iw_laws.proofs.pool_runs.refuses_unshared_bound.Goals as goal

pub returns : goal.returns
returns c = refuses_unshared_bound
