use Rattle.iw_laws.proofs.Refused.{refuses_cut_short}
use Rattle.iw_laws.proofs.wrong_runs.refuses_cut_short.Goals as goal

pub returns : goal.returns
returns c = refuses_cut_short
