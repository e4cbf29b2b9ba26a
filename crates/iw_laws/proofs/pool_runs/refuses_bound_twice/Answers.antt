use Rattle.iw_laws.proofs.RefusedPools.{refuses_bound_twice}
use Rattle.iw_laws.proofs.pool_runs.refuses_bound_twice.Goals as goal

pub returns : goal.returns
returns c = refuses_bound_twice
