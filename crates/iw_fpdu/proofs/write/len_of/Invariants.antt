use Rattle.std.proofs.Common.{◌≡◌, ◌≤◌, ◌+◌, length, drop}
use Rattle.iw_octets.specs.Pieces.{joined}
use Rattle.iw_fpdu.proofs.write.len_of.Given as goal

abbrev pub invariant-loop-part : goal.invariant-loop-part
invariant-loop-part l = (l.len ≤ 64512) × (length (joined l.parts) ≡ l.len + length (joined (drop l.part-index l.parts)))
