use Rattle.iw_laws.proofs.RefusedPools.{refuses_foreign_taken}
use Rattle.iw_laws.proofs.pool_runs.refuses_foreign_taken.Goals as goal

pub returns : goal.returns
returns c = refuses_foreign_taken
