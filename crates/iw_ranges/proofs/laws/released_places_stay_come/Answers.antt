use Rattle.iw_ranges.proofs.ByPlace.{stays_come}
use Rattle.iw_ranges.proofs.laws.released_places_stay_come.Goals as goal

pub returns : goal.returns
returns c = stays_come
