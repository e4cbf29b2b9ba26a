use Rattle.std.proofs.Common.{◌≡◌, ◌+◌, length}
use Rattle.iw_octets.specs.Octets.{splice}
use Rattle.iw_octets.specs.Pieces.{joined}
use Rattle.iw_untagged.proofs.buffers.write_pieces.Given as goal

abbrev pub invariant-loop-piece : goal.invariant-loop-piece
invariant-loop-piece g l = (l.end ≡ l.at + length (joined l.yielded)) × (l.buffer ≡ splice l.initial.buffer l.at (joined l.yielded))
