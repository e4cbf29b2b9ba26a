use Rattle.std.proofs.Common.{◌≡◌, ◌≤◌, ◌-◌, ◌<◌, length, ap, refl, sym, subst, arith}
use Rattle.std.specs.List.{Contains}
use Rattle.iw_locate.specs.declared.judged.Record.{Record}
use Rattle.iw_locate.proofs.judged.Judged.last_end.Goals as goal

pub returns : goal.returns
returns g c =
    let rs = c.self.inside.records.items in
    let first = c.first_ending_past-past.ensures in
    let at = c.first_ending_past-past.result - 1 in
    let r = c.index.result.now in
    let before : at < c.first_ending_past-past.result = omega (arith, c.if-past-eq0.false) in
    let inside : at < length rs = omega (arith, first.within, before) in
    subst (λ xs. (r.end ≤ c.args.place) × ((x : Record g.row.T.Denot) × Contains xs x × (x.end ≡ r.end))) (ap (λ h. h.records) c.self.view_is)
    (omega (arith, first.before at r before, ap (λ (x : Record g.row.T.Denot). x.end) c.index.ensures), (r, (at, inside, sym c.index.ensures), refl))
