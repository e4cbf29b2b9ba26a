use Rattle.std.proofs.Common.{◌*◌, take}
use Rattle.iw_crc.proofs.Sixteens.{Owes}
use Rattle.iw_crc.proofs.lanes.shortened.Given as goal

abbrev pub invariant-loop-step : goal.invariant-loop-step
invariant-loop-step l = Owes l.first l.second l.third l.fourth l.fifth l.sixth l.fn.remainder (take (16 * l.step) l.fn.octets)
