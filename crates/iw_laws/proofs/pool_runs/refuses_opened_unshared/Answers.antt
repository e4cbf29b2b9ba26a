use Rattle.iw_laws.proofs.RefusedPools.{refuses_opened_unshared}
use Rattle.iw_laws.proofs.pool_runs.refuses_opened_unshared.Goals as goal

pub returns : goal.returns
returns c = refuses_opened_unshared
