use Rattle.std.proofs.Common.{refl, arith}
use Rattle.iw_locate.proofs.Apart.{none_over}
use Rattle.iw_locate.proofs.judged.is_one_over.Goals as goal

pub returns-else-span_of-place : goal.returns-else-span_of-place
returns-else-span_of-place g c =
    let records = c.args.records.now in
    none_over records.items c.requires c.args.place c.first_ending_past-at.result c.in-Some.record.now c.first_ending_past-at.ensures (omega (arith, c.in-Some.ensures.variant.0 refl, records.ok.0)) c.in-Some.ensures.lookup
    (omega (arith, c.if-span_of-place.false, c.span_of.ensures.value))
