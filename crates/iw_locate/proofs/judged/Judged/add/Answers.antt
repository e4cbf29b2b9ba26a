use Rattle.std.proofs.Common.{length, ap, sym, subst, arith}
use Rattle.std.proofs.lemmas.List.Edits.{length-insert}
use Rattle.iw_locate.specs.Records.{IsClear, IsWithinLimits}
use Rattle.iw_locate.specs.declared.judged.Record.{Record}
use Rattle.iw_locate.proofs.Apart.{inserted_apart}
use Rattle.iw_locate.proofs.judged.Judged.add.Goals as goal

pub invariant_of-self : goal.invariant_of-self
invariant_of-self g c =
    let rs = c.self.inside.records.items in
    let e = ap (λ h. h.records) c.self.view_is in
    let i = c.count_before-at.result in
    let r : Record g.row.T.Denot = record { start = c.args.frame.start; length = c.args.frame.length; end = c.args.frame.end; state = c.args.state } in
    let place = c.count_before-at.ensures.place in
    subst IsWithinLimits (sym c.insert_in_room.ensures.items) record {
      apart = inserted_apart rs r i place c.self.invariant.apart c.requires.start c.requires.some (subst (λ xs. IsClear xs r.start r.end) (sym e) c.requires.clear);
      few = omega (arith, length-insert rs i r place.within, c.requires.few, ap length e);
    }
