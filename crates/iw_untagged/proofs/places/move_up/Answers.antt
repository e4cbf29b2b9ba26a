use Rattle.std.proofs.Common.{arith}
use Rattle.iw_untagged.proofs.Bounds.{stays}
use Rattle.iw_untagged.proofs.places.move_up.Goals as goal

pub returns-else-end-gt1 : goal.returns-else-end-gt1
returns-else-end-gt1 g c = stays c.args.end c.args.places.now.items c.requires.bound (omega (arith, c.if-end-gt1.false)) c.requires.first
