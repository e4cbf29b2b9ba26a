use Rattle.iw_ranges.proofs.ByPlace.{gives_up_before}
use Rattle.iw_ranges.proofs.laws.the_in_order_point_gives_up_what_is_before.Goals as goal

pub returns : goal.returns
returns c = gives_up_before
