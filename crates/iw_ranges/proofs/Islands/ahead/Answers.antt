use Rattle.std.proofs.Common.{arith}
use Rattle.iw_ranges.specs.Fields.{Fields, fields_of}
use Rattle.iw_ranges.proofs.InPlace.{reaches_floor}
use Rattle.iw_ranges.proofs.Islands.ahead.Goals as goal

pub overflow_sub-self-inside : goal.overflow_sub-self-inside
overflow_sub-self-inside g c = let f : Fields = fields_of c.self.inside in omega (arith, c.self.invariant.sound.base, reaches_floor f c.self.invariant.sound)
