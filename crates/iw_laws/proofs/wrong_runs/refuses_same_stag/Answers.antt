use Rattle.iw_laws.proofs.Refused.{refuses_same_stag}
use Rattle.iw_laws.proofs.wrong_runs.refuses_same_stag.Goals as goal

pub returns : goal.returns
returns c = refuses_same_stag
