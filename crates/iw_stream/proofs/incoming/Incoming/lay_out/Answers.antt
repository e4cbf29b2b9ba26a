use Rattle.std.proofs.Common.{◌≡◌, [], sym, ap, ◌∙◌, subst}
use Rattle.iw_locate.specs.declared.unsearched.Unsearched.{Unsearched}
use Rattle.iw_stream.specs.Incoming.{Coming, IsTracked, coming_of}
use Rattle.iw_stream.proofs.Arriving.{laid_out}
use Rattle.iw_stream.proofs.incoming.Incoming.lay_out.Goals as goal

pub invariant_of-self : goal.invariant_of-self
invariant_of-self g c =
    let s = coming_of c.self.inside in
    let is = c.self.view_is in
    let none : s.early ≡ [] = ap (λ (x : Coming). x.early) is ∙ c.requires.none in
    let first : s.arrived.floor ≡ s.base = ap (λ (x : Coming). x.arrived.floor) is ∙ c.requires.first ∙ sym (ap (λ (x : Coming). x.base) is) in
    subst (λ (u : Unsearched). IsTracked (record s { layout = c.args.layout; unsearched = u })) (sym c.start_up_ended.ensures)
    (laid_out s c.args.layout none first c.self.invariant)
