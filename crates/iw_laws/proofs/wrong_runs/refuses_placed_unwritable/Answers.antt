use Rattle.iw_laws.proofs.Refused.{refuses_placed_unwritable}
use Rattle.iw_laws.proofs.wrong_runs.refuses_placed_unwritable.Goals as goal

pub returns : goal.returns
returns c = refuses_placed_unwritable
