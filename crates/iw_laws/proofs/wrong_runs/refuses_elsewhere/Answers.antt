use Rattle.iw_laws.proofs.Refused.{refuses_elsewhere}
use Rattle.iw_laws.proofs.wrong_runs.refuses_elsewhere.Goals as goal

pub returns : goal.returns
returns c = refuses_elsewhere
