use Rattle.iw_laws.proofs.RefusedReads.{refuses_ends_early}
use Rattle.iw_laws.proofs.wrong_runs.refuses_ends_early.Goals as goal

pub returns : goal.returns
returns c = refuses_ends_early
