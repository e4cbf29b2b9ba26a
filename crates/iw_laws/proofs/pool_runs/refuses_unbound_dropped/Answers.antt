use Rattle.iw_laws.proofs.RefusedPools.{refuses_unbound_dropped}
use Rattle.iw_laws.proofs.pool_runs.refuses_unbound_dropped.Goals as goal

pub returns : goal.returns
returns c = refuses_unbound_dropped
