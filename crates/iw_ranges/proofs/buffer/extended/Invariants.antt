use Rattle.std.proofs.Common.{◌≡◌, ◌≤◌, ◌-◌, ℕ, slice_index, vec_len, vec_capacity}
use Rattle.iw_ranges.proofs.buffer.extended.Given as goal

abbrev pub invariant-zeros : goal.invariant-zeros
invariant-zeros g l = record {
  len : vec_len l.buffer ≤ l.len;
  memory : vec_capacity l.buffer ≡ vec_capacity l.fn.buffer;
  octets : (i : ℕ) → slice_index l.buffer.items i ≡ slice_index l.fn.buffer.items i;
}

abbrev pub decreases-zeros : goal.decreases-zeros
decreases-zeros g l = l.len - vec_len l.buffer
