use Rattle.iw_laws.proofs.RefusedRest.{refuses_nothing_placed}
use Rattle.iw_laws.proofs.rest_runs.refuses_nothing_placed.Goals as goal

pub returns : goal.returns
returns c = refuses_nothing_placed
