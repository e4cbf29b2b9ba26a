use Rattle.iw_laws.proofs.Refused.{refuses_past_end}
use Rattle.iw_laws.proofs.wrong_runs.refuses_past_end.Goals as goal

pub returns : goal.returns
returns c = refuses_past_end
