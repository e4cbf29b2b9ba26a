use Rattle.std.proofs.Common.{◌≡◌, ◌<◌, ℕ, length, get_or, drop, bit_xor}
use Rattle.iw_crc.specs.Fold.{owed_next}
use Rattle.iw_crc.proofs.fold.settled.Given as goal

abbrev pub invariant-loop-i : goal.invariant-loop-i
invariant-loop-i l = record {
  long : length l.settled ≡ 290;
  each : (k : ℕ) → k < l.i → get_or l.settled k 0 ≡ bit_xor (get_or l.octets k 0) (owed_next (drop k l.window));
}
