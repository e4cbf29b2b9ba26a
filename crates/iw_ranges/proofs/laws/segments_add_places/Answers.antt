use Rattle.iw_ranges.proofs.ByPlace.{adds_places}
use Rattle.iw_ranges.proofs.laws.segments_add_places.Goals as goal

pub returns : goal.returns
returns c = adds_places
