use Rattle.iw_laws.proofs.RefusedPools.{refuses_later_first}
use Rattle.iw_laws.proofs.pool_runs.refuses_later_first.Goals as goal

pub returns : goal.returns
returns c = refuses_later_first
