use Rattle.std.proofs.Common.{◌*◌, take}
use Rattle.iw_crc.specs.Crc.{after_octets}
use Rattle.iw_crc.proofs.Words.{StandFor}
use Rattle.iw_crc.proofs.crc.turns_added.Given as goal

abbrev pub invariant-loop-turn : goal.invariant-loop-turn
invariant-loop-turn l = StandFor l.first l.second l.third l.fourth (after_octets l.remainder (take (32 * l.turn) l.octets))
