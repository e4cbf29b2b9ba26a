use Rattle.iw_laws.proofs.RefusedEnds.{refuses_finished_flushed}
use Rattle.iw_laws.proofs.wrong_runs.refuses_finished_flushed.Goals as goal

pub returns : goal.returns
returns c = refuses_finished_flushed
