use Rattle.iw_laws.proofs.RefusedWrap.{refuses_late_number}
use Rattle.iw_laws.proofs.wrong_runs.refuses_late_number.Goals as goal

pub returns : goal.returns
returns c = refuses_late_number
