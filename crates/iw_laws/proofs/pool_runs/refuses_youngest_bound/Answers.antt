use Rattle.iw_laws.proofs.RefusedPools.{refuses_youngest_bound}
use Rattle.iw_laws.proofs.pool_runs.refuses_youngest_bound.Goals as goal

pub returns : goal.returns
returns c = refuses_youngest_bound
