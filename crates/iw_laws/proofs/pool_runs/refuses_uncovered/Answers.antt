use Rattle.iw_laws.proofs.RefusedPools.{refuses_uncovered}
use Rattle.iw_laws.proofs.pool_runs.refuses_uncovered.Goals as goal

pub returns : goal.returns
returns c = refuses_uncovered
