use Rattle.iw_laws.proofs.Refused.{refuses_fetch_invalid}
use Rattle.iw_laws.proofs.wrong_runs.refuses_fetch_invalid.Goals as goal

pub returns : goal.returns
returns c = refuses_fetch_invalid
