use Rattle.iw_laws.proofs.RefusedRest.{refuses_nothing_asked}
use Rattle.iw_laws.proofs.rest_runs.refuses_nothing_asked.Goals as goal

pub returns : goal.returns
returns c = refuses_nothing_asked
