use Rattle.iw_laws.proofs.RefusedPools.{refuses_received_pooled}
use Rattle.iw_laws.proofs.pool_runs.refuses_received_pooled.Goals as goal

pub returns : goal.returns
returns c = refuses_received_pooled
