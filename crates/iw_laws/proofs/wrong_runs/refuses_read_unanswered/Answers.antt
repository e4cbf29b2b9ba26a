use Rattle.iw_laws.proofs.Refused.{refuses_read_unanswered}
use Rattle.iw_laws.proofs.wrong_runs.refuses_read_unanswered.Goals as goal

pub returns : goal.returns
returns c = refuses_read_unanswered
