use Rattle.iw_laws.proofs.RefusedEnds.{refuses_skipped_send}
use Rattle.iw_laws.proofs.wrong_runs.refuses_skipped_send.Goals as goal

pub returns : goal.returns
returns c = refuses_skipped_send
