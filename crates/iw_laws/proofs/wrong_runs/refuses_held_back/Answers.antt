use Rattle.iw_laws.proofs.RefusedSent.{refuses_held_back}
use Rattle.iw_laws.proofs.wrong_runs.refuses_held_back.Goals as goal

pub returns : goal.returns
returns c = refuses_held_back
