use Rattle.iw_laws.proofs.RefusedPools.{refuses_unbound_returned}
use Rattle.iw_laws.proofs.pool_runs.refuses_unbound_returned.Goals as goal

pub returns : goal.returns
returns c = refuses_unbound_returned
