use Rattle.std.proofs.Common.{List, None, sym, ap, ◌∙◌, subst}
use Rattle.iw_ranges.specs.Arrived.{Arrived, emptied}
use Rattle.iw_stream.specs.Fields.{state_of}
use Rattle.iw_stream.specs.Frames.{EarlyRecord}
use Rattle.iw_stream.specs.Kept.{Keeps}
use Rattle.iw_stream.specs.Starting.{is_open}
use Rattle.iw_stream.specs.Stream.{StreamState, quits}
use Rattle.iw_stream.proofs.Keeping.{keeps_quits}
use Rattle.iw_stream.proofs.stream.Stream.end.Goals as goal

pub invariant_of-self : goal.invariant_of-self
invariant_of-self g c = record {
  keeps =
      let s = state_of c.self.inside in
      subst (λ (a : Arrived). Keeps (record s { arrived = a; front = None; early = c.give_up.new.self.early; ending = c.args.ending })) (sym c.give_up.ensures.arrived)
      (subst (λ (rs : List EarlyRecord). Keeps (record s { arrived = emptied s.arrived; front = None; early = rs; ending = c.args.ending })) (sym c.give_up.ensures.early)
      (keeps_quits s c.args.ending c.requires.over (λ e. c.requires.silent (ap (λ (t : StreamState). is_open t.start) (sym c.self.view_is) ∙ e)) c.self.invariant.keeps));
  layout = c.give_up.ensures.same.layout ∙ c.self.invariant.layout;
  base = c.give_up.ensures.same.base ∙ c.self.invariant.base;
}

pub returns : goal.returns
returns g c =
    let s = state_of c.self.inside in
    (λ i. record s { arrived = c.give_up.ensures.arrived i; front = None; early = c.give_up.ensures.early i; ending = c.args.ending })
    ∙ ap (λ (t : StreamState). record (quits t) { ending = c.args.ending }) c.self.view_is
