use Rattle.std.proofs.Common.{◌≡◌, [], sym, ap, ◌∙◌, subst}
use Rattle.iw_ranges.specs.Arrived.{Arrived}
use Rattle.iw_locate.specs.declared.unsearched.Unsearched.{Unsearched}
use Rattle.iw_locate.specs.declared.locator.Locator.{Locator}
use Rattle.iw_stream.specs.Incoming.{Coming, IsTracked, coming_of}
use Rattle.iw_locate.specs.Unsearched.{counted_from}
use Rattle.iw_stream.proofs.Arriving.{begun}
use Rattle.iw_stream.proofs.incoming.Incoming.begin.Goals as goal

pub invariant_of-self : goal.invariant_of-self
invariant_of-self g c =
    let s = coming_of c.self.inside in
    let is = c.self.view_is in
    let none : s.early ≡ [] = ap (λ (x : Coming). x.early) is ∙ c.requires.none in
    let first : s.arrived.floor ≡ 0 = ap (λ (x : Coming). x.arrived.floor) is ∙ c.requires.first in
    let b = begun s c.args.layout c.args.place none first c.self.invariant in
    let t = subst (λ (l : Locator). IsTracked (record s { layout = l.layout; base = l.base; arrived = c.advance.new.self.arrived; unsearched = c.start_up_ended.new.self })) (sym c.new-self-inside.ensures)
    (subst (λ (u : Unsearched). IsTracked (record s { layout = c.args.layout; base = c.args.place; arrived = c.advance.new.self.arrived; unsearched = u })) (sym c.start_up_ended.ensures)
    (subst (λ (a : Arrived). IsTracked (record s { layout = c.args.layout; base = c.args.place; arrived = a; unsearched = counted_from s.unsearched c.args.place })) (sym c.advance.ensures.arrived) b)) in
    record { keeps = t.keeps; tells = t.tells }
