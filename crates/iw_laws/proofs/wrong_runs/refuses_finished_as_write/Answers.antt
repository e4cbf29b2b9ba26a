use Rattle.iw_laws.proofs.Refused.{refuses_finished_as_write}
use Rattle.iw_laws.proofs.wrong_runs.refuses_finished_as_write.Goals as goal

pub returns : goal.returns
returns c = refuses_finished_as_write
