use Rattle.std.proofs.Common.{◌≡◌, ◌*◌, take}
use Rattle.iw_crc.specs.Crc.{after_octets}
use Rattle.iw_crc.proofs.crc.words_added.Given as goal

abbrev pub invariant-loop-word : goal.invariant-loop-word
invariant-loop-word l = l.so_far ≡ after_octets l.remainder (take (8 * l.word) l.octets)
