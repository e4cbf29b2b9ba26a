use Rattle.iw_laws.proofs.RefusedReads.{refuses_send_before_write}
use Rattle.iw_laws.proofs.wrong_runs.refuses_send_before_write.Goals as goal

pub returns : goal.returns
returns c = refuses_send_before_write
