use Rattle.iw_ranges.proofs.InOrder.{stands, ends, takes, moves, moves_takes, of_prefix}
use Rattle.iw_ranges.proofs.laws.what_is_in_order_grows.Goals as goal

pub returns : goal.returns
returns c = record {
  stands = stands;
  ends = ends;
  takes = takes;
  moves = moves;
  moves_takes = moves_takes;
  first = of_prefix;
}
