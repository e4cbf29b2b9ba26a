use Rattle.iw_ranges.proofs.ByPlace.{keeps_first_copies}
use Rattle.iw_ranges.proofs.laws.first_copies_stay.Goals as goal

pub returns : goal.returns
returns c = keeps_first_copies
