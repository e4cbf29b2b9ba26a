use Rattle.std.proofs.Common.{arith}
use Rattle.iw_locate.proofs.Apart.{none_overlaps_before}
use Rattle.iw_locate.proofs.judged.is_one_placed_over.Goals as goal

pub returns : goal.returns
returns g c =
    none_overlaps_before c.args.records.now.items c.requires c.args.start c.args.end c.in-Some.first.now c.in-Some.ensures.lookup (omega (arith, c.if-end-span_of.true, c.span_of.ensures.value))
