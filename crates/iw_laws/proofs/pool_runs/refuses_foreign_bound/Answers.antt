use Rattle.iw_laws.proofs.RefusedPools.{refuses_foreign_bound}
use Rattle.iw_laws.proofs.pool_runs.refuses_foreign_bound.Goals as goal

pub returns : goal.returns
returns c = refuses_foreign_bound
