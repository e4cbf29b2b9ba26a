use Rattle.iw_laws.proofs.RefusedReads.{refuses_denied_readable}
use Rattle.iw_laws.proofs.wrong_runs.refuses_denied_readable.Goals as goal

pub returns : goal.returns
returns c = refuses_denied_readable
