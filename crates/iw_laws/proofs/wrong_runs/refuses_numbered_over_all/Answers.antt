use Rattle.iw_laws.proofs.RefusedApart.{refuses_numbered_over_all}
use Rattle.iw_laws.proofs.wrong_runs.refuses_numbered_over_all.Goals as goal

pub returns : goal.returns
returns c = refuses_numbered_over_all
