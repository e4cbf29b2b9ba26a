use Rattle.std.proofs.Common.{◌≡◌, true, ◌≤◌, ◌+◌, ◌-◌, length, drop, ◌++◌, vec_len, vec_capacity}
use Rattle.iw_octets.specs.Pieces.{joined}
use Rattle.iw_fpdu.specs.Places.{data_index, place_after}
use Rattle.iw_fpdu.specs.Frame.{laid}
use Rattle.iw_fpdu.specs.Laying.{HasRoom}
use Rattle.iw_fpdu.proofs.writer.Writer.put_all.Given as goal

abbrev pub invariant-loop-part : goal.invariant-loop-part
invariant-loop-part g l =
    HasRoom true l.self.start l.self.at (length (joined (drop l.part-index l.parts))) (vec_len l.out) (vec_capacity l.out)
    × (l.self.start ≡ l.fn.self.start)
    × (place_after true l.self.at (length (joined (drop l.part-index l.parts))) ≡ place_after true l.fn.self.at (length (joined l.parts)))
    × (l.fn.self.at ≤ l.self.at) × (vec_len l.out ≡ vec_len l.fn.out + (l.self.at - l.fn.self.at))
    × (vec_capacity l.fn.out ≤ vec_capacity l.out)
    × (l.out.items ++ laid true l.fn.self.start (data_index true l.self.at) (joined (drop l.part-index l.parts)) l.self.at (place_after true l.self.at (length (joined (drop l.part-index l.parts))))
    ≡ l.fn.out.items ++ laid true l.fn.self.start (data_index true l.fn.self.at) (joined l.parts) l.fn.self.at (place_after true l.fn.self.at (length (joined l.parts))))
