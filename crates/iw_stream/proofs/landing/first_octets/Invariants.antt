use Rattle.std.proofs.Common.{◌≡◌, take}
use Rattle.iw_octets.specs.Pieces.{joined}
use Rattle.iw_stream.proofs.landing.first_octets.Given as goal

abbrev pub invariant-loop-piece : goal.invariant-loop-piece
invariant-loop-piece g l = l.first.items ≡ take 46 (joined l.yielded)
