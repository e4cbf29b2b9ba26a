use Rattle.iw_laws.proofs.RefusedEarly.{refuses_tried_send}
use Rattle.iw_laws.proofs.early_runs.refuses_tried_send.Goals as goal

pub returns : goal.returns
returns c = refuses_tried_send
