use Rattle.std.proofs.Common.{◌≡◌, ◌-◌, false, true, Some, refl, ap, sym, ◌∙◌, subst}
use Rattle.std.specs.Option.{option_map_or}
use Rattle.iw_memory.specs.Table.{empty}
use Rattle.iw_stream.specs.Fields.{state_of}
use Rattle.iw_fpdu.specs.Places.{frame_start}
use Rattle.iw_stream.specs.declared.landing.Landing.TheVariants.{Send}
use Rattle.iw_stream.specs.Frames.{Frame, IsNext, placed, frame_by}
use Rattle.iw_stream.specs.Kept.{Keeps}
use Rattle.iw_stream.specs.Starting.{is_open, expecting, first_place_in}
use Rattle.iw_stream.specs.Stream.{StreamState}
use Rattle.iw_stream.specs.Work.{Judge, Rest, clashes, standing, waiting, next_frame, step_of, left_by, table_left, judged_step, after_judging, table_judged}
use Rattle.iw_stream.proofs.Early.{begins_at, clear_there, front_kept, kept_there}
use Rattle.iw_stream.proofs.Keeping.{keeps_judged}
use Rattle.iw_stream.proofs.Waiting.{clear_over, kept_scene}
use Rattle.iw_stream.proofs.Tagged.{next_is}
use Rattle.iw_stream.proofs.stream.Stream.judge_send_outlined.Goals as goal

pub held_at-requires-clause-kept : goal.held_at-requires-clause-kept
held_at-requires-clause-kept g c =
    let s = state_of c.self.inside in
    kept_there s c.expecting-layout.result c.first_place_in-base.result c.start_of-start.result c.floor.result c.expecting-layout.ensures c.first_place_in-base.ensures.place c.floor.ensures c.start_of-start.ensures
    (front_kept s (kept_scene s c.self.inside.arrived.layout c.self.inside.arrived.base c.self.invariant.layout c.self.invariant.base c.limits.ensures.tracked.keeps) c.limits.ensures.apart (ap waiting c.self.view_is ∙ c.requires.waiting))

pub held_at-requires-clause-clear : goal.held_at-requires-clause-clear
held_at-requires-clause-clear g c =
    let s = state_of c.self.inside in
    clear_there s c.self.inside.arrived c.start_of-start.result c.floor.result c.self.invariant.layout c.self.invariant.base refl refl c.floor.ensures
    (c.start_of-start.ensures ∙ (λ i. frame_start ((c.expecting-layout.ensures ∙ sym c.self.invariant.layout) i).markers (c.floor.result - (c.first_place_in-base.ensures.place ∙ sym c.self.invariant.base) i)))
    (subst (λ t. (frame : Frame) → next_frame t ≡ Some frame → clashes t frame ≡ false) (sym c.self.view_is) c.requires.clear)

pub held_at-requires-clause-layout : goal.held_at-requires-clause-layout
held_at-requires-clause-layout g c = c.expecting-layout.ensures ∙ sym c.self.invariant.layout

pub held_at-requires-clause-base : goal.held_at-requires-clause-base
held_at-requires-clause-base g c = c.first_place_in-base.ensures.place ∙ sym c.self.invariant.base

-- a Send's frame
pub invariant_of-self-2 : goal.invariant_of-self-2
invariant_of-self-2 g c = record {
  keeps =
      let s = state_of c.self.inside in
      let to = c.in_ok-to in
      let found = next_is s c.expecting-layout.result c.first_place_in-base.result c.start_of-start.result c.floor.result (Some (frame_by c.in_ok-fpdu.fpdu)) c.expecting-layout.ensures c.first_place_in-base.ensures.place c.floor.ensures c.start_of-start.ensures c.in_ok-fpdu.ensures.frame in
      let over = clear_over s c.self.invariant.keeps (kept_scene s c.self.inside.arrived.layout c.self.inside.arrived.base c.self.invariant.layout c.self.invariant.base c.limits.ensures.tracked.keeps) c.limits.ensures.apart c.limits.ensures.arrived (placed (frame_by c.in_ok-fpdu.fpdu)) (begins_at s c.in_ok-fpdu.fpdu c.expecting-layout.result c.first_place_in-base.result c.start_of-start.result c.floor.result c.expecting-layout.ensures c.first_place_in-base.ensures.place c.in_ok-fpdu.ensures.next) (ap (λ (t : StreamState). clashes t (frame_by c.in_ok-fpdu.fpdu)) c.self.view_is ∙ c.requires.clear (frame_by c.in_ok-fpdu.fpdu) (ap next_frame (sym c.self.view_is) ∙ found)) in
      let running : is_open (state_of c.self.inside).start ≡ true = ap (λ (t : StreamState). is_open t.start) c.self.view_is ∙ c.requires.open in
      let next : IsNext (expecting c.self.inside.start) c.self.inside.arrived.arrived (first_place_in c.self.inside.start) c.in_ok-fpdu.fpdu =
      subst (λ l. IsNext l c.self.inside.arrived.arrived (first_place_in c.self.inside.start) c.in_ok-fpdu.fpdu) c.expecting-layout.ensures
      (subst (λ b. IsNext c.expecting-layout.result c.self.inside.arrived.arrived b c.in_ok-fpdu.fpdu) c.first_place_in-base.ensures.place c.in_ok-fpdu.ensures.next) in
      subst (λ f. Keeps (record s { front = f; receiving = c.land_send.new.receiving })) (sym to.ensures.kept)
      (keeps_judged s empty c.in_ok-fpdu.fpdu c.land_send.new.receiving (Send c.in_ok-to.to.msn c.in_ok-to.to.mo c.in_ok-to.to.len) running next
      (to.ensures.landed (standing empty s) refl refl) tt to.ensures.receiving over c.self.invariant.keeps);
  layout = c.self.invariant.layout;
  base = c.self.invariant.base;
}

pub returns-clause-step : goal.returns-clause-step
returns-clause-step g c table =
    let s = state_of c.self.inside in
    let next = next_is s c.expecting-layout.result c.first_place_in-base.result c.start_of-start.result c.floor.result (Some (frame_by c.in_ok-fpdu.fpdu)) c.expecting-layout.ensures c.first_place_in-base.ensures.place c.floor.ensures c.start_of-start.ensures c.in_ok-fpdu.ensures.frame in
    ap judged_step (sym (c.in_ok-to.ensures.landed (standing table s) refl refl))
    ∙ ap (λ o. step_of table s (option_map_or Judge o Rest)) (sym next) ∙ ap (λ t. step_of table t (option_map_or Judge (next_frame t) Rest)) c.self.view_is

pub returns-clause-after : goal.returns-clause-after
returns-clause-after g c table =
    let s = state_of c.self.inside in
    let frame = frame_by c.in_ok-fpdu.fpdu in
    let to = c.in_ok-to in
    let next = next_is s c.expecting-layout.result c.first_place_in-base.result c.start_of-start.result c.floor.result (Some (frame_by c.in_ok-fpdu.fpdu)) c.expecting-layout.ensures c.first_place_in-base.ensures.place c.floor.ensures c.start_of-start.ensures c.in_ok-fpdu.ensures.frame in
    (λ i. record s { front = to.ensures.kept i; receiving = to.ensures.receiving i }) ∙ ap (after_judging s frame) (sym (to.ensures.landed (standing table s) refl refl))
    ∙ ap (λ o. left_by table s (option_map_or Judge o Rest)) (sym next) ∙ ap (λ t. left_by table t (option_map_or Judge (next_frame t) Rest)) c.self.view_is

pub returns-clause-memory : goal.returns-clause-memory
returns-clause-memory g c table =
    let s = state_of c.self.inside in
    let frame = frame_by c.in_ok-fpdu.fpdu in
    let next = next_is s c.expecting-layout.result c.first_place_in-base.result c.start_of-start.result c.floor.result (Some (frame_by c.in_ok-fpdu.fpdu)) c.expecting-layout.ensures c.first_place_in-base.ensures.place c.floor.ensures c.start_of-start.ensures c.in_ok-fpdu.ensures.frame in
    sym (ap (table_judged table frame) (sym (c.in_ok-to.ensures.landed (standing table s) refl refl))
    ∙ ap (λ o. table_left table s (option_map_or Judge o Rest)) (sym next) ∙ ap (λ t. table_left table t (option_map_or Judge (next_frame t) Rest)) c.self.view_is)
