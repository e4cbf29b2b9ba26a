use Rattle.iw_laws.proofs.RefusedPools.{refuses_taken_bound}
use Rattle.iw_laws.proofs.pool_runs.refuses_taken_bound.Goals as goal

pub returns : goal.returns
returns c = refuses_taken_bound
