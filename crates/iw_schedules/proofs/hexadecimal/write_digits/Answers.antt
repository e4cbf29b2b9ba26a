use Rattle.std.proofs.Common.{arith}
use Rattle.hex.specs.Hex.{lower_digits}
use Rattle.hex.proofs.Pairs.{encode_step}
use Rattle.iw_schedules.proofs.HexDigits.{all_written}
use Rattle.iw_schedules.proofs.hexadecimal.write_digits.Goals as goal

pub octets-preserved : goal.octets-preserved
octets-preserved c =
    encode_step lower_digits c.args.octets.now c.octets.room c.octets.i _ _ (omega arith) (omega arith) c.digit.ensures c.digit-in-octets.ensures c.octets.invariant

pub returns-clause-digits : goal.returns-clause-digits
returns-clause-digits c = all_written c.args.octets.now c.octets.room c.octets.i (omega arith) (omega arith) c.octets.invariant
