use Rattle.iw_laws.proofs.RefusedPools.{refuses_tried_pooled}
use Rattle.iw_laws.proofs.pool_runs.refuses_tried_pooled.Goals as goal

pub returns : goal.returns
returns c = refuses_tried_pooled
