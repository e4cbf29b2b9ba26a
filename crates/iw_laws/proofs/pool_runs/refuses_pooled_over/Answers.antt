use Rattle.iw_laws.proofs.RefusedPools.{refuses_pooled_over}
use Rattle.iw_laws.proofs.pool_runs.refuses_pooled_over.Goals as goal

pub returns : goal.returns
returns c = refuses_pooled_over
