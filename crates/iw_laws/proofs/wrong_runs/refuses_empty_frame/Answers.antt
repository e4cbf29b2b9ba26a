use Rattle.iw_laws.proofs.Refused.{refuses_empty_frame}
use Rattle.iw_laws.proofs.wrong_runs.refuses_empty_frame.Goals as goal

pub returns : goal.returns
returns c = refuses_empty_frame
