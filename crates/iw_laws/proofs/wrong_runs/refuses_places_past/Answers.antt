use Rattle.iw_laws.proofs.RefusedReads.{refuses_places_past}
use Rattle.iw_laws.proofs.wrong_runs.refuses_places_past.Goals as goal

pub returns : goal.returns
returns c = refuses_places_past
