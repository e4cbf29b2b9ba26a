use Rattle.std.proofs.Common.{◌≡◌, ap, refl, subst, arith}
use Rattle.std.specs.List.{Contains}
use Rattle.iw_locate.specs.declared.judged.Record.{Record}
use Rattle.iw_locate.proofs.Apart.{none_at}
use Rattle.iw_locate.proofs.judged.Judged.at.Goals as goal

pub returns-else-record-start : goal.returns-else-record-start
returns-else-record-start g c =
    let rs = c.self.inside.records.items in
    subst (λ xs. (r : Record g.row.T.Denot) → Contains xs r → r.start ≡ c.args.start → ⊥) (ap (λ h. h.records) c.self.view_is)
    (none_at rs c.self.invariant.apart c.args.start c.first_ending_past-at.result c.first_ending_past-at.ensures c.in-Some.record.now c.in-Some.ensures.lookup c.if-record-start.false
    (omega (arith, c.in-Some.ensures.variant.0 refl, c.self.inside.records.ok.0)))
