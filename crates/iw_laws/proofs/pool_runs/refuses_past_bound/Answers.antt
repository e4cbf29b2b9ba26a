use Rattle.iw_laws.proofs.RefusedPools.{refuses_past_bound}
use Rattle.iw_laws.proofs.pool_runs.refuses_past_bound.Goals as goal

pub returns : goal.returns
returns c = refuses_past_bound
