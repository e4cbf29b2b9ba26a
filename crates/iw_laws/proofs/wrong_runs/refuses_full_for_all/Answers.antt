use Rattle.iw_laws.proofs.RefusedApart.{refuses_full_for_all}
use Rattle.iw_laws.proofs.wrong_runs.refuses_full_for_all.Goals as goal

pub returns : goal.returns
returns c = refuses_full_for_all
