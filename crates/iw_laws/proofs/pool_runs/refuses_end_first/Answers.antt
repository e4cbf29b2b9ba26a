use Rattle.iw_laws.proofs.RefusedPools.{refuses_end_first}
use Rattle.iw_laws.proofs.pool_runs.refuses_end_first.Goals as goal

pub returns : goal.returns
returns c = refuses_end_first
