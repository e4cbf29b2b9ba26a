use Rattle.iw_laws.proofs.Refused.{refuses_delivery_unopened}
use Rattle.iw_laws.proofs.wrong_runs.refuses_delivery_unopened.Goals as goal

pub returns : goal.returns
returns c = refuses_delivery_unopened
