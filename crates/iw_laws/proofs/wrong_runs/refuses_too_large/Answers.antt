use Rattle.iw_laws.proofs.Refused.{refuses_too_large}
use Rattle.iw_laws.proofs.wrong_runs.refuses_too_large.Goals as goal

pub returns : goal.returns
returns c = refuses_too_large
