use Rattle.iw_laws.proofs.Refused.{refuses_frames_unopened}
use Rattle.iw_laws.proofs.wrong_runs.refuses_frames_unopened.Goals as goal

pub returns : goal.returns
returns c = refuses_frames_unopened
