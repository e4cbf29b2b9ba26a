use Rattle.std.proofs.Common.{◌≡◌, ◌<◌, ◌≤◌, ◌+◌, ◌++◌, take, drop}
use Rattle.std.specs.VecDeque.{deque_len, deque_capacity}
use Rattle.iw_ranges.specs.Spans.{merge_span}
use Rattle.iw_ranges.proofs.spans.widen.Given as goal

abbrev pub invariant-merge : goal.invariant-merge
invariant-merge g l = record {
  within : l.low < deque_len l.spans;
  items : take l.low l.spans.items ++ merge_span l.joined.from l.joined.to (drop (l.low + 1) l.spans.items) ≡ take l.low l.fn.spans.items ++ merge_span l.from l.to (drop l.low l.fn.spans.items);
  capacity : deque_capacity l.spans ≡ deque_capacity l.fn.spans;
  len : deque_len l.spans ≤ deque_len l.fn.spans;
}

abbrev pub decreases-merge : goal.decreases-merge
decreases-merge g l = deque_len l.spans
