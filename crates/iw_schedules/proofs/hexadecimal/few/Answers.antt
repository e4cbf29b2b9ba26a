use Rattle.iw_schedules.proofs.HexDigits.{are_text}
use Rattle.iw_schedules.proofs.hexadecimal.few.Goals as goal

pub from_utf8_unchecked-requires : goal.from_utf8_unchecked-requires
from_utf8_unchecked-requires g c = are_text c.args.octets.now _ c.write_digits.ensures.digits
