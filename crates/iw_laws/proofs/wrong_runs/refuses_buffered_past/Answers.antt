use Rattle.iw_laws.proofs.Refused.{refuses_buffered_past}
use Rattle.iw_laws.proofs.wrong_runs.refuses_buffered_past.Goals as goal

pub returns : goal.returns
returns c = refuses_buffered_past
