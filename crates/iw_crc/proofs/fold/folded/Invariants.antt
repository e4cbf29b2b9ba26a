use Rattle.std.proofs.Common.{◌≡◌, ◌≤◌, ◌*◌, ◌++◌, ℕ, List, length, take}
use Rattle.iw_crc.specs.Crc.{after_octets}
use Rattle.iw_crc.specs.Fold.{remainder_with}
use Rattle.iw_crc.proofs.fold.folded.Given as goal

abbrev pub invariant-loop-block : goal.invariant-loop-block
invariant-loop-block l = (beyond : List ℕ) → 290 ≤ length beyond → remainder_with (take 290 l.window) beyond ≡ after_octets l.remainder (take (2048 * l.block) l.front ++ beyond)
