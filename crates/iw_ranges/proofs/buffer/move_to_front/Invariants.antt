use Rattle.std.proofs.Common.{◌≡◌, ◌<◌, ◌≤◌, ◌+◌, ◌-◌, ℕ, length, nat_lt, if◌then◌else◌, slice_index}
use Rattle.iw_ranges.proofs.buffer.move_to_front.Given as goal

abbrev pub invariant-copies : goal.invariant-copies
invariant-copies l = record {
  within : l.at ≤ l.kept;
  octets : (i : ℕ) → i < length l.octets → slice_index l.octets i ≡ (if nat_lt i l.at then slice_index l.fn.octets (i + l.n) else slice_index l.fn.octets i);
}

abbrev pub decreases-copies : goal.decreases-copies
decreases-copies l = l.kept - l.at
