use Rattle.std.proofs.Common.{◌≡◌, ◌++◌, length, string_bytes}
use Rattle.hex.specs.Hex.{encode_lower}
use Rattle.iw_schedules.proofs.hexadecimal.many.Given as goal

abbrev pub invariant-parts : goal.invariant-parts
invariant-parts g l = string_bytes l.text ++ encode_lower l.left ≡ string_bytes l.fn.text ++ encode_lower l.octets

abbrev pub decreases-parts : goal.decreases-parts
decreases-parts g l = length l.left
