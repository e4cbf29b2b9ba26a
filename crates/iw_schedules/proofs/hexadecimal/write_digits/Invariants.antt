use Rattle.std.proofs.Common.{◌≡◌, ◌*◌, ◌++◌, take, drop}
use Rattle.hex.specs.Hex.{encode_lower}
use Rattle.iw_schedules.proofs.hexadecimal.write_digits.Given as goal

abbrev pub invariant-octets : goal.invariant-octets
invariant-octets l = take (2 * l.i) l.room ++ encode_lower (drop l.i l.octets) ≡ encode_lower l.octets
