use Rattle.iw_ranges.proofs.Empties.{empties_past}
use Rattle.iw_ranges.proofs.laws.nothing_stays_past_the_in_order_point.Goals as goal

pub returns : goal.returns
returns c = empties_past
