use Rattle.iw_ranges.proofs.NearPlaces.{near_is_nearest, near_back, near_inside}
use Rattle.iw_ranges.proofs.laws.near_places_are_nearest.Goals as goal

pub returns : goal.returns
returns c = record { nearest = near_is_nearest; back = near_back; inside = near_inside }
