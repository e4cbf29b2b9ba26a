use Rattle.std.proofs.Common.{◌≡◌, ◌<◌, ◌≤◌, ◌+◌, ◌-◌, ℕ, drop, length}
use Rattle.std.specs.VecDeque.{deque_len}
use Rattle.iw_ranges.specs.Spans.{octet_after, IsInOrder}
use Rattle.iw_ranges.proofs.buffer.fill.Given as goal

abbrev pub invariant-gaps : goal.invariant-gaps
invariant-gaps g l = record {
  base : l.base ≤ l.next;
  end : l.next + length l.rest ≡ l.from + length l.octets;
  order : IsInOrder (drop l.at l.spans.items);
  octets : (i : ℕ) → i < length l.buffer → octet_after l.base (drop l.at l.spans.items) l.next l.rest l.buffer i ≡ octet_after l.base l.spans.items l.from l.octets l.fn.buffer i;
}

abbrev pub decreases-gaps : goal.decreases-gaps
decreases-gaps g l = deque_len l.spans - l.at
