use Rattle.std.proofs.Common.{ap, refl, subst, arith}
use Rattle.iw_locate.specs.Records.{IsClear}
use Rattle.iw_locate.proofs.Apart.{clear_from}
use Rattle.iw_locate.proofs.judged.Judged.overlaps.Goals as goal

pub returns-else-span_of-end : goal.returns-else-span_of-end
returns-else-span_of-end g c =
    let rs = c.self.inside.records.items in
    subst (λ xs. IsClear xs c.args.start c.args.end) (ap (λ h. h.records) c.self.view_is)
    (clear_from rs c.self.invariant.apart c.args.start c.args.end c.first_ending_past-at.result (rw c.span_of.ensures.value at c.first_ending_past-at.ensures) c.in-Some.record.now c.in-Some.ensures.lookup
    (omega (arith, c.in-Some.ensures.variant.0 refl, c.self.inside.records.ok.0)) (omega (arith, c.if-span_of-end.false, c.span_of-in-Some.ensures.value)))
