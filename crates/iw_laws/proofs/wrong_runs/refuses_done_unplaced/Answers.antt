use Rattle.iw_laws.proofs.RefusedReads.{refuses_done_unplaced}
use Rattle.iw_laws.proofs.wrong_runs.refuses_done_unplaced.Goals as goal

pub returns : goal.returns
returns c = refuses_done_unplaced
