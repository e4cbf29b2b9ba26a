use Rattle.std.proofs.Common.{◌≡◌, ◌⊎◌, true, ◌≤◌, ◌+◌, ◌-◌, ◌%◌, length, ◌++◌, vec_len, vec_capacity}
use Rattle.iw_fpdu.specs.Places.{data_index, place_after}
use Rattle.iw_fpdu.specs.Frame.{laid}
use Rattle.iw_fpdu.specs.Laying.{HasRoom}
use Rattle.iw_fpdu.proofs.writer.Writer.put.Given as goal

abbrev pub invariant-loop-rest : goal.invariant-loop-rest
invariant-loop-rest g l =
    HasRoom true l.self.start l.self.at (length l.rest) (vec_len l.out) (vec_capacity l.out)
    × (l.self.start ≡ l.fn.self.start)
    × (place_after true l.self.at (length l.rest) ≡ place_after true l.fn.self.at (length l.octets))
    × (l.fn.self.at ≤ l.self.at) × (vec_len l.out ≡ vec_len l.fn.out + (l.self.at - l.fn.self.at))
    × (vec_capacity l.fn.out ≤ vec_capacity l.out)
    × (l.out.items ++ laid true l.fn.self.start (data_index true l.self.at) l.rest l.self.at (place_after true l.self.at (length l.rest))
    ≡ l.fn.out.items ++ laid true l.fn.self.start (data_index true l.fn.self.at) l.octets l.fn.self.at (place_after true l.fn.self.at (length l.octets)))
    × ((length l.rest ≡ 0) ⊎ (l.self.at % 512 ≡ 0))

abbrev pub decreases-loop-rest : goal.decreases-loop-rest
decreases-loop-rest g l = length l.rest
