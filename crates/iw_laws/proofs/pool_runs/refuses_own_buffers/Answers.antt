use Rattle.iw_laws.proofs.RefusedPools.{refuses_own_buffers}
use Rattle.iw_laws.proofs.pool_runs.refuses_own_buffers.Goals as goal

pub returns : goal.returns
returns c = refuses_own_buffers
