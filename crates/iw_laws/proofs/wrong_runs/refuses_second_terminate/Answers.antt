use Rattle.iw_laws.proofs.RefusedEnds.{refuses_second_terminate}
use Rattle.iw_laws.proofs.wrong_runs.refuses_second_terminate.Goals as goal

pub returns : goal.returns
returns c = refuses_second_terminate
