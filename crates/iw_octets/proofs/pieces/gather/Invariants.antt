use Rattle.std.proofs.Common.{◌≡◌, length, take}
use Rattle.iw_octets.specs.Pieces.{joined}
use Rattle.iw_octets.proofs.pieces.gather.Given as goal

abbrev pub invariant-loop-piece : goal.invariant-loop-piece
invariant-loop-piece g l = (l.at ≡ length (joined l.yielded)) × (take l.at l.out ≡ joined l.yielded)
