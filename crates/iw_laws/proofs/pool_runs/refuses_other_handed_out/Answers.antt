use Rattle.iw_laws.proofs.RefusedPools.{refuses_other_handed_out}
use Rattle.iw_laws.proofs.pool_runs.refuses_other_handed_out.Goals as goal

pub returns : goal.returns
returns c = refuses_other_handed_out
