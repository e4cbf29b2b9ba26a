use Rattle.iw_laws.proofs.RefusedSent.{refuses_unposted_send}
use Rattle.iw_laws.proofs.wrong_runs.refuses_unposted_send.Goals as goal

pub returns : goal.returns
returns c = refuses_unposted_send
