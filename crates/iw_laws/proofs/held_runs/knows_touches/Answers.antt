use Rattle.iw_laws.proofs.RefusedHeld.{knows_touches}
use Rattle.iw_laws.proofs.held_runs.knows_touches.Goals as goal

pub returns : goal.returns
returns c = knows_touches
