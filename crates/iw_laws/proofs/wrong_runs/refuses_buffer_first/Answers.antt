use Rattle.iw_laws.proofs.RefusedEnds.{refuses_buffer_first}
use Rattle.iw_laws.proofs.wrong_runs.refuses_buffer_first.Goals as goal

pub returns : goal.returns
returns c = refuses_buffer_first
