use Rattle.std.proofs.Common.{◌≡◌, ◌≤◌}
use Rattle.std.specs.VecDeque.{deque_len, deque_capacity}
use Rattle.iw_ranges.specs.Spans.{spans_past}
use Rattle.iw_ranges.proofs.spans.forget.Given as goal

abbrev pub invariant-passed : goal.invariant-passed
invariant-passed g l = record {
  items : spans_past l.to l.gone.items ≡ spans_past l.to l.fn.gone.items;
  capacity : deque_capacity l.gone ≡ deque_capacity l.fn.gone;
  len : deque_len l.gone ≤ deque_len l.fn.gone;
}

abbrev pub decreases-passed : goal.decreases-passed
decreases-passed g l = deque_len l.gone
