use Rattle.iw_laws.proofs.RefusedPools.{refuses_number_taken}
use Rattle.iw_laws.proofs.pool_runs.refuses_number_taken.Goals as goal

pub returns : goal.returns
returns c = refuses_number_taken
