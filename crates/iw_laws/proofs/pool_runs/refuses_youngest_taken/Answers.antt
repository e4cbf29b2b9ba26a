use Rattle.iw_laws.proofs.RefusedPools.{refuses_youngest_taken}
use Rattle.iw_laws.proofs.pool_runs.refuses_youngest_taken.Goals as goal

pub returns : goal.returns
returns c = refuses_youngest_taken
