use Rattle.iw_laws.proofs.RefusedPools.{refuses_rest_pooled}
use Rattle.iw_laws.proofs.pool_runs.refuses_rest_pooled.Goals as goal

pub returns : goal.returns
returns c = refuses_rest_pooled
