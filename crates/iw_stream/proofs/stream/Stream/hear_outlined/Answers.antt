use Rattle.std.proofs.Common.{◌≡◌, true, ap, sym, ◌∙◌, arith}
use Rattle.iw_ranges.specs.Arrived.{in_order, advanced}
use Rattle.iw_stream.specs.Fields.{state_of}
use Rattle.iw_startup.specs.declared.progress.Progress.TheVariants as progress
use Rattle.iw_stream.specs.Starting.{awaits_frame, first_place_in, progress_in, mismatch_in}
use Rattle.iw_stream.specs.Work.{Hear, opened_step, heard_step, after_opening, after_hearing, left_by}
use Rattle.iw_stream.specs.Stream.{StreamState, ends}
use Rattle.iw_stream.proofs.Keeping.{reaches}
use Rattle.iw_stream.proofs.Opening.{keeps_heard, awaits_closed}
use Rattle.iw_stream.proofs.stream.Stream.hear_outlined.Goals as goal

abbrev opened_by : StreamState → StreamState
opened_by s = after_opening s (mismatch_in s.start)

pub invariant_of-self : goal.invariant_of-self
invariant_of-self g c = record {
  keeps =
      let s = state_of c.self.inside in
      let awaits : awaits_frame (state_of c.self.inside).start ≡ true = ap (λ (t : StreamState). awaits_frame t.start) c.self.view_is ∙ c.requires in
      keeps_heard s (in_order s.arrived) c.hear.new.self c.hear.new.arrived.arrived c.hear.new.arrived.early awaits c.hear.ensures.after c.hear.ensures.out c.hear.ensures.arrived c.hear.ensures.early c.self.invariant.keeps;
  layout = c.hear.ensures.layout;
  base = c.hear.ensures.base;
}

pub invariant_of-self-in-Agreed : goal.invariant_of-self-in-Agreed
invariant_of-self-in-Agreed g c = record {
  keeps =
      let s = state_of c.self.inside in
      let awaits : awaits_frame (state_of c.self.inside).start ≡ true = ap (λ (t : StreamState). awaits_frame t.start) c.self.view_is ∙ c.requires in
      keeps_heard s (in_order s.arrived) c.hear-in-Agreed.new.self c.hear-in-Agreed.new.arrived.arrived c.hear-in-Agreed.new.arrived.early awaits c.hear-in-Agreed.ensures.after c.hear-in-Agreed.ensures.out c.hear-in-Agreed.ensures.arrived c.hear-in-Agreed.ensures.early c.self.invariant.keeps;
  layout = c.hear-in-Agreed.ensures.layout;
  base = c.hear-in-Agreed.ensures.base;
}

pub invariant_of-self-in-Faulted : goal.invariant_of-self-in-Faulted
invariant_of-self-in-Faulted g c = record {
  keeps =
      let s = state_of c.self.inside in
      let awaits : awaits_frame (state_of c.self.inside).start ≡ true = ap (λ (t : StreamState). awaits_frame t.start) c.self.view_is ∙ c.requires in
      keeps_heard s (in_order s.arrived) c.hear-in-Faulted.new.self c.hear-in-Faulted.new.arrived.arrived c.hear-in-Faulted.new.arrived.early awaits c.hear-in-Faulted.ensures.after c.hear-in-Faulted.ensures.out c.hear-in-Faulted.ensures.arrived c.hear-in-Faulted.ensures.early c.self.invariant.keeps;
  layout = c.hear-in-Faulted.ensures.layout;
  base = c.hear-in-Faulted.ensures.base;
}

pub open-requires : goal.open-requires
open-requires g c =
    let s = state_of c.self.inside in
    let comes : progress_in c.self.inside.start (in_order c.self.inside.arrived.arrived) ≡ progress.Agreed =
    sym (c.progress.ensures ∙ ap (progress_in s.start) c.octets_in_order.ensures.octets) ∙ c.in-Agreed.is in
    c.hear-in-Agreed.ensures.agreed comes

pub returns-in-Agreed-clause-step : goal.returns-in-Agreed-clause-step
returns-in-Agreed-clause-step g c = λ table.
    let s = state_of c.self.inside in
    let octets = in_order s.arrived in
    let comes : progress_in c.self.inside.start (in_order c.self.inside.arrived.arrived) ≡ progress.Agreed =
    sym (c.progress.ensures ∙ ap (progress_in s.start) c.octets_in_order.ensures.octets) ∙ c.in-Agreed.is in
    c.open.ensures.step ∙ ap (λ x. opened_step x (mismatch_in x)) c.hear-in-Agreed.ensures.after ∙ ap (heard_step s.start octets) (sym comes)
    ∙ ap (λ (t : StreamState). heard_step t.start (in_order t.arrived) (progress_in t.start (in_order t.arrived))) c.self.view_is

pub returns-in-Asked-clause-reach : goal.returns-in-Asked-clause-reach
returns-in-Asked-clause-reach g c =
    reaches (state_of c.self.inside) c.args.self.now c.hear.new.arrived.arrived (first_place_in c.hear.new.self) c.hear.ensures.arrived (omega (arith, c.hear.ensures.few)) c.self.view_is

pub returns-in-Agreed-clause-reach : goal.returns-in-Agreed-clause-reach
returns-in-Agreed-clause-reach g c =
    let near = reaches (state_of c.self.inside) c.args.self.now c.hear-in-Agreed.new.arrived.arrived (first_place_in c.hear-in-Agreed.new.self) c.hear-in-Agreed.ensures.arrived (omega (arith, c.hear-in-Agreed.ensures.few)) c.self.view_is in
    omega (arith, near, c.open.ensures.floor)

pub returns-in-Faulted-clause-reach : goal.returns-in-Faulted-clause-reach
returns-in-Faulted-clause-reach g c =
    let near = reaches (state_of c.self.inside) c.args.self.now c.hear-in-Faulted.new.arrived.arrived (first_place_in c.hear-in-Faulted.new.self) c.hear-in-Faulted.ensures.arrived (omega (arith, c.hear-in-Faulted.ensures.few)) c.self.view_is in
    omega (arith, near, ap (λ (t : StreamState). t.arrived.floor) c.end.ensures)

pub returns-in-Asked-clause-after : goal.returns-in-Asked-clause-after
returns-in-Asked-clause-after g c = λ table.
    let s = state_of c.self.inside in
    let awaits : awaits_frame (state_of c.self.inside).start ≡ true = ap (λ (t : StreamState). awaits_frame t.start) c.self.view_is ∙ c.requires in
    let none = c.self.invariant.keeps.unopened (awaits_closed c.self.inside.start awaits) in
    let comes : progress_in s.start (in_order s.arrived) ≡ c.progress.result = sym (c.progress.ensures ∙ ap (progress_in s.start) c.octets_in_order.ensures.octets) in
    (λ i. record s { start = c.hear.ensures.after i; arrived = (c.hear.ensures.arrived ∙ ap (λ x. advanced s.arrived (first_place_in x)) c.hear.ensures.after) i; early = (c.hear.ensures.early ∙ sym none) i })
    ∙ ap (after_hearing s) (sym (comes ∙ c.in-Asked.is)) ∙ ap (λ (t : StreamState). left_by table t Hear) c.self.view_is

pub returns-in-Agreed-clause-after : goal.returns-in-Agreed-clause-after
returns-in-Agreed-clause-after g c = λ table.
    let s = state_of c.self.inside in
    let awaits : awaits_frame (state_of c.self.inside).start ≡ true = ap (λ (t : StreamState). awaits_frame t.start) c.self.view_is ∙ c.requires in
    let none = c.self.invariant.keeps.unopened (awaits_closed c.self.inside.start awaits) in
    let comes : progress_in s.start (in_order s.arrived) ≡ c.progress.result = sym (c.progress.ensures ∙ ap (progress_in s.start) c.octets_in_order.ensures.octets) in
    c.open.ensures.after
    ∙ (λ i. opened_by (record s { start = c.hear-in-Agreed.ensures.after i; arrived = (c.hear-in-Agreed.ensures.arrived ∙ ap (λ x. advanced s.arrived (first_place_in x)) c.hear-in-Agreed.ensures.after) i; early = (c.hear-in-Agreed.ensures.early ∙ sym none) i }))
    ∙ ap (after_hearing s) (sym (comes ∙ c.in-Agreed.is)) ∙ ap (λ (t : StreamState). left_by table t Hear) c.self.view_is

pub returns-in-Faulted-clause-after : goal.returns-in-Faulted-clause-after
returns-in-Faulted-clause-after g c = λ table.
    let s = state_of c.self.inside in
    let awaits : awaits_frame (state_of c.self.inside).start ≡ true = ap (λ (t : StreamState). awaits_frame t.start) c.self.view_is ∙ c.requires in
    let comes : progress_in s.start (in_order s.arrived) ≡ c.progress.result = sym (c.progress.ensures ∙ ap (progress_in s.start) c.octets_in_order.ensures.octets) in
    c.end.ensures
    ∙ (λ i. ends (record s { start = c.hear-in-Faulted.ensures.after i; arrived = (c.hear-in-Faulted.ensures.arrived ∙ ap (λ x. advanced s.arrived (first_place_in x)) c.hear-in-Faulted.ensures.after) i }))
    ∙ ap (after_hearing s) (sym (comes ∙ c.in-Faulted.is)) ∙ ap (λ (t : StreamState). left_by table t Hear) c.self.view_is

pub hear-requires-clause-none : goal.hear-requires-clause-none
hear-requires-clause-none g c =
    c.self.invariant.keeps.unopened (awaits_closed c.self.inside.start (ap (λ (t : StreamState). awaits_frame t.start) c.self.view_is ∙ c.requires))
