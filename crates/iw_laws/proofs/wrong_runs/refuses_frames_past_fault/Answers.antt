use Rattle.iw_laws.proofs.Refused.{refuses_frames_past_fault}
use Rattle.iw_laws.proofs.wrong_runs.refuses_frames_past_fault.Goals as goal

pub returns : goal.returns
returns c = refuses_frames_past_fault
