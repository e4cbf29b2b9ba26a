use Rattle.iw_laws.proofs.Refused.{refuses_kept_past_end}
use Rattle.iw_laws.proofs.wrong_runs.refuses_kept_past_end.Goals as goal

pub returns : goal.returns
returns c = refuses_kept_past_end
