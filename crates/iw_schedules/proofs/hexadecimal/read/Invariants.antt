use Rattle.std.proofs.Common.{◌≡◌, ◌*◌, ◌<◌, ◌≤◌, take, drop}
use Rattle.hex.specs.Hex.{decode_pairs}
use Rattle.hex.proofs.Pairs.{prepend}
use Rattle.iw_schedules.proofs.HexDigits.{Refuses}
use Rattle.iw_schedules.proofs.hexadecimal.read.Given as goal

abbrev pub invariant-pairs : goal.invariant-pairs
invariant-pairs l = record {
  read : l.largest < 16 → decode_pairs 0 l.digits ≡ prepend (take l.i l.octets) (decode_pairs (2 * l.i) (drop (2 * l.i) l.digits));
  refused : 16 ≤ l.largest → Refuses l.digits;
}
