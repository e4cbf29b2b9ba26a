use Rattle.iw_laws.proofs.RefusedPools.{refuses_placed_again}
use Rattle.iw_laws.proofs.pool_runs.refuses_placed_again.Goals as goal

pub returns : goal.returns
returns c = refuses_placed_again
