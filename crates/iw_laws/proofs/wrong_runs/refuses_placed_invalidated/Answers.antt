use Rattle.iw_laws.proofs.RefusedEnds.{refuses_placed_invalidated}
use Rattle.iw_laws.proofs.wrong_runs.refuses_placed_invalidated.Goals as goal

pub returns : goal.returns
returns c = refuses_placed_invalidated
