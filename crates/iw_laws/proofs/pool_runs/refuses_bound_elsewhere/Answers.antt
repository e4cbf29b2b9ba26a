use Rattle.iw_laws.proofs.RefusedPools.{refuses_bound_elsewhere}
use Rattle.iw_laws.proofs.pool_runs.refuses_bound_elsewhere.Goals as goal

pub returns : goal.returns
returns c = refuses_bound_elsewhere
