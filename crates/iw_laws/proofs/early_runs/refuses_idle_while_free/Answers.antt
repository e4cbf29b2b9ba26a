use Rattle.iw_laws.proofs.RefusedEarly.{refuses_idle_while_free}
use Rattle.iw_laws.proofs.early_runs.refuses_idle_while_free.Goals as goal

pub returns : goal.returns
returns c = refuses_idle_while_free
