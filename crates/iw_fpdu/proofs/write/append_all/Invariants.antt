use Rattle.std.proofs.Common.{◌≡◌, ◌≤◌, ◌+◌, length, drop, ◌++◌, vec_len, vec_capacity}
use Rattle.iw_octets.specs.Pieces.{joined}
use Rattle.iw_fpdu.proofs.write.append_all.Given as goal

abbrev pub invariant-loop-part : goal.invariant-loop-part
invariant-loop-part g l =
    (vec_len l.out + length (joined (drop l.part-index l.parts)) ≡ vec_len l.fn.out + length (joined l.parts))
    × (vec_capacity l.fn.out ≤ vec_capacity l.out)
    × (l.out.items ++ joined (drop l.part-index l.parts) ≡ l.fn.out.items ++ joined l.parts)
