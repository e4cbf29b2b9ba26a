use Rattle.iw_laws.proofs.RefusedReads.{refuses_done_unanswered}
use Rattle.iw_laws.proofs.wrong_runs.refuses_done_unanswered.Goals as goal

pub returns : goal.returns
returns c = refuses_done_unanswered
