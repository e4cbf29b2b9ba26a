use Rattle.std.proofs.Common.{◌≤◌, ◌<◌, ap, refl, subst, arith}
use Rattle.std.specs.List.{Contains}
use Rattle.iw_locate.specs.declared.judged.Record.{Record}
use Rattle.iw_locate.specs.Records.{from_of}
use Rattle.iw_locate.proofs.Apart.{none_but_first}
use Rattle.iw_locate.proofs.judged.Judged.reaches_over.Goals as goal

pub returns-then-first-place-2 : goal.returns-then-first-place-2
returns-then-first-place-2 g c =
    let records = c.self.inside.records in
    let first = c.in-Some.first.now in
    subst (λ xs. (r : Record g.row.T.Denot) → Contains xs r → from_of r < c.args.place → r.end ≤ c.args.place) (ap (λ h. h.records) c.self.view_is)
    (none_but_first records.items c.self.invariant.apart c.args.place first (omega (arith, c.in-Some.ensures.variant.0 refl, records.ok.0)) c.in-Some.ensures.lookup (omega (arith, c.if-first-place-2.true))
    (λ before. omega (arith, c.if-first-place-2.true)))

pub returns-else-span_of-place : goal.returns-else-span_of-place
returns-else-span_of-place g c =
    let records = c.self.inside.records in
    let first = c.in-Some.first.now in
    subst (λ xs. (r : Record g.row.T.Denot) → Contains xs r → from_of r < c.args.place → r.end ≤ c.args.place) (ap (λ h. h.records) c.self.view_is)
    (none_but_first records.items c.self.invariant.apart c.args.place first (omega (arith, c.in-Some.ensures.variant.0 refl, records.ok.0)) c.in-Some.ensures.lookup (omega (arith, c.if-first-place.false))
    (λ before. absurd (omega (arith, before, c.if-span_of-place.false, c.span_of.ensures.value))))
