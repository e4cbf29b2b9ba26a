use Rattle.std.proofs.Common.{arith}
use Rattle.iw_locate.proofs.Apart.{none_ends_before}
use Rattle.iw_locate.proofs.judged.does_none_end_before.Goals as goal

pub returns-else-first-place : goal.returns-else-first-place
returns-else-first-place g c = none_ends_before c.args.records.now.items c.requires c.args.place c.in-Some.first.now c.in-Some.ensures.lookup (omega (arith, c.if-first-place.false))
