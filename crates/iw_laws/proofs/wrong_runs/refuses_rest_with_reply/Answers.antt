use Rattle.iw_laws.proofs.Refused.{refuses_rest_with_reply}
use Rattle.iw_laws.proofs.wrong_runs.refuses_rest_with_reply.Goals as goal

pub returns : goal.returns
returns c = refuses_rest_with_reply
