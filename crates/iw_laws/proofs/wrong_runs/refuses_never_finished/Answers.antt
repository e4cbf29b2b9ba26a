use Rattle.iw_laws.proofs.Refused.{refuses_never_finished}
use Rattle.iw_laws.proofs.wrong_runs.refuses_never_finished.Goals as goal

pub returns : goal.returns
returns c = refuses_never_finished
