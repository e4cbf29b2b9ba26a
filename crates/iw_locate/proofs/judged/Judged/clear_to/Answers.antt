use Rattle.std.proofs.Common.{ap, refl, subst, arith}
use Rattle.iw_locate.specs.Records.{IsClear, OverlapsOne}
use Rattle.iw_locate.proofs.Apart.{clear_from, overlap_at}
use Rattle.iw_locate.proofs.judged.Judged.clear_to.Goals as goal

pub returns-in-Some-clause-clear : goal.returns-in-Some-clause-clear
returns-in-Some-clause-clear g c =
    let rs = c.self.inside.records.items in
    λ end le.
    subst (λ xs. IsClear xs c.args.start end) (ap (λ h. h.records) c.self.view_is)
    (clear_from rs c.self.invariant.apart c.args.start end c.first_ending_past-at.result (rw c.span_of.ensures.value at c.first_ending_past-at.ensures) c.in-Some.record.now c.in-Some.ensures.lookup
    (omega (arith, c.in-Some.ensures.variant.0 refl, c.self.inside.records.ok.0)) (omega (arith, le, c.span_of-in-Some.ensures.value)))

pub returns-in-Some-clause-over : goal.returns-in-Some-clause-over
returns-in-Some-clause-over g c =
    let rs = c.self.inside.records.items in
    λ end lt fits.
    subst (λ xs. OverlapsOne xs c.args.start end) (ap (λ h. h.records) c.self.view_is)
    (overlap_at rs c.self.invariant.apart c.args.start end c.first_ending_past-at.result c.in-Some.record.now (rw c.span_of.ensures.value at c.first_ending_past-at.ensures)
    (omega (arith, c.in-Some.ensures.variant.0 refl, c.self.inside.records.ok.0)) c.in-Some.ensures.lookup (omega (arith, lt, c.span_of-in-Some.ensures.value)))
