use Rattle.iw_laws.proofs.RefusedPools.{refuses_faulted_bound}
use Rattle.iw_laws.proofs.pool_runs.refuses_faulted_bound.Goals as goal

pub returns : goal.returns
returns c = refuses_faulted_bound
