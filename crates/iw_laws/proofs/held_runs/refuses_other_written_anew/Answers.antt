use Rattle.iw_laws.proofs.RefusedHeld.{refuses_other_written_anew}
use Rattle.iw_laws.proofs.held_runs.refuses_other_written_anew.Goals as goal

pub returns : goal.returns
returns c = refuses_other_written_anew
