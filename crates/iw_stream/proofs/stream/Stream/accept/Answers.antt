use Rattle.std.proofs.Common.{◌≡◌, List, [], ap, sym, ◌∙◌, subst}
use Rattle.iw_ranges.specs.Arrived.{Arrived}
use Rattle.iw_startup.specs.declared.side.Reply.TheVariants.{Accept}
use Rattle.iw_stream.specs.Fields.{state_of}
use Rattle.iw_stream.specs.Frames.{EarlyRecord}
use Rattle.iw_stream.specs.Kept.{Keeps}
use Rattle.iw_stream.specs.Starting.{StartState, first_place_in}
use Rattle.iw_stream.specs.Stream.{StreamState, accepted}
use Rattle.iw_stream.proofs.Opening.{asked_of, keeps_answered, first_answered, asked_closed}
use Rattle.iw_stream.proofs.stream.Stream.accept.Goals as goal

pub lay_out-requires-clause-none : goal.lay_out-requires-clause-none
lay_out-requires-clause-none g c = c.self.invariant.keeps.unopened (asked_closed c.self.inside.start (asked_of c.self.inside.start c.args.private.items c.in_ok-agreed.ensures.refused))

pub lay_out-requires-clause-first : goal.lay_out-requires-clause-first
lay_out-requires-clause-first g c = (c.self.invariant.keeps.started.unopened (asked_closed c.self.inside.start (asked_of c.self.inside.start c.args.private.items c.in_ok-agreed.ensures.refused))).0 ∙ sym c.self.invariant.base

pub invariant_of-self-2 : goal.invariant_of-self-2
invariant_of-self-2 g c =
    let s = state_of c.self.inside in
    let none : s.early ≡ [] = c.self.invariant.keeps.unopened (asked_closed c.self.inside.start (asked_of c.self.inside.start c.args.private.items c.in_ok-agreed.ensures.refused)) in
    record {
      keeps = subst (λ (x : StartState). Keeps (record s { start = x; arrived = c.lay_out.new.self.arrived; early = c.lay_out.new.self.early })) (sym c.in_ok-agreed.ensures.ok)
          (subst (λ (a : Arrived). Keeps (record (accepted s c.args.private) { arrived = a; early = c.lay_out.new.self.early })) (sym c.lay_out.ensures.arrived)
          (subst (λ (rs : List EarlyRecord). Keeps (record (accepted s c.args.private) { early = rs })) (none ∙ sym c.lay_out.ensures.early)
          (keeps_answered s (Accept c.args.private) (asked_of c.self.inside.start c.args.private.items c.in_ok-agreed.ensures.refused) c.self.invariant.keeps)));
      layout = c.lay_out.ensures.layout ∙ c.expecting.ensures;
      base = c.lay_out.ensures.base ∙ c.self.invariant.base ∙ first_answered c.self.inside.start (Accept c.args.private) ∙ ap first_place_in (sym c.in_ok-agreed.ensures.ok);
    }

pub returns-clause-ok : goal.returns-clause-ok
returns-clause-ok g c =
    let s = state_of c.self.inside in
    let none : s.early ≡ [] = c.self.invariant.keeps.unopened (asked_closed c.self.inside.start (asked_of c.self.inside.start c.args.private.items c.in_ok-agreed.ensures.refused)) in
    (λ i. record s { start = c.in_ok-agreed.ensures.ok i; arrived = c.lay_out.ensures.arrived i; early = (c.lay_out.ensures.early ∙ sym none) i }) ∙ ap (λ (t : StreamState). accepted t c.args.private) c.self.view_is
