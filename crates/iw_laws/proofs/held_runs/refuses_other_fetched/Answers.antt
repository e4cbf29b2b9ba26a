use Rattle.iw_laws.proofs.RefusedHeld.{refuses_other_fetched}
use Rattle.iw_laws.proofs.held_runs.refuses_other_fetched.Goals as goal

pub returns : goal.returns
returns c = refuses_other_fetched
