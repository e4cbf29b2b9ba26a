use Rattle.iw_laws.proofs.Refused.{refuses_unasked_accept}
use Rattle.iw_laws.proofs.wrong_runs.refuses_unasked_accept.Goals as goal

pub returns : goal.returns
returns c = refuses_unasked_accept
