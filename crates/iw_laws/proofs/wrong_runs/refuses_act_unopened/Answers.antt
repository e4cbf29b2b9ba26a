use Rattle.iw_laws.proofs.Refused.{refuses_act_unopened}
use Rattle.iw_laws.proofs.wrong_runs.refuses_act_unopened.Goals as goal

pub returns : goal.returns
returns c = refuses_act_unopened
