use Rattle.iw_laws.proofs.Refused.{refuses_wrong_refusal}
use Rattle.iw_laws.proofs.wrong_runs.refuses_wrong_refusal.Goals as goal

pub returns : goal.returns
returns c = refuses_wrong_refusal
