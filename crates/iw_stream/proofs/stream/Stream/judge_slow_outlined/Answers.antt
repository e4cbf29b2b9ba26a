use Rattle.std.proofs.Common.{◌≡◌, ◌-◌, false, true, Some, Ok, length, refl, ap, sym, ◌∙◌, subst}
use Rattle.std.specs.Option.{option_map, option_map_or}
use Rattle.iw_fpdu.specs.Places.{frame_start}
use Rattle.iw_stream.specs.Fields.{state_of}
use Rattle.iw_stream.specs.declared.landing.Landing.TheVariants.{Request, Terminate}
use Rattle.iw_stream.specs.declared.landing.PlacedFrame.{PlacedFrame}
use Rattle.iw_stream.specs.Frames.{Frame, IsNext, placed, frame_at, frame_by}
use Rattle.iw_stream.specs.Kept.{Keeps, Stands, NoneReachesOver}
use Rattle.iw_stream.specs.Starting.{is_open, expecting, first_place_in}
use Rattle.iw_stream.specs.Stream.{StreamState, ends_by}
use Rattle.iw_stream.specs.Work.{Judge, Rest, clashes, left_by, next_frame, standing, waiting}
use Rattle.iw_stream.proofs.Keeping.{IsPlacing, keeps_judged, may_take, stands_next, whole_judged}
use Rattle.iw_stream.proofs.Early.{begins_at, clear_there, front_kept, kept_there}
use Rattle.iw_stream.proofs.Waiting.{clear_over, kept_scene}
use Rattle.iw_stream.proofs.Origins.{caused, judged_over}
use Rattle.iw_stream.proofs.stream.Stream.judge_slow_outlined.Goals as goal

pub invariant_of-self-in-Ok-Write : goal.invariant_of-self-in-Ok-Write
invariant_of-self-in-Ok-Write g c = record {
  keeps =
      let s = state_of c.self.inside in
      let layout = c.expecting-layout.ensures in
      let base = c.first_place_in-base.ensures.place in
      let start : c.start_of-start.result ≡ frame_start (expecting s.start).markers (s.arrived.floor - first_place_in s.start) =
      c.start_of-start.ensures ∙ (λ i. frame_start (layout i).markers (c.floor.ensures i - base i)) in
      let next_ : next_frame s ≡ Some (frame_by c.in-Some.fpdu) =
      (λ i. frame_at (sym layout i) s.arrived (sym base i) (sym start i)) ∙ sym c.held_at.ensures.frame ∙ ap (option_map frame_by) c.in-Some.is in
      let over = clear_over s c.self.invariant.keeps (kept_scene s c.self.inside.arrived.layout c.self.inside.arrived.base c.self.invariant.layout c.self.invariant.base c.limits.ensures.tracked.keeps) c.limits.ensures.apart c.limits.ensures.arrived (placed (frame_by c.in-Some.fpdu)) (begins_at s c.in-Some.fpdu c.expecting-layout.result c.first_place_in-base.result c.start_of-start.result c.floor.result c.expecting-layout.ensures c.first_place_in-base.ensures.place c.in-Some.ensures.next) (ap (λ (t : StreamState). clashes t (frame_by c.in-Some.fpdu)) c.self.view_is ∙ c.requires.clear (frame_by c.in-Some.fpdu) (ap next_frame (sym c.self.view_is) ∙ next_)) in
      let running : is_open (state_of c.self.inside).start ≡ true = ap (λ (t : StreamState). is_open t.start) c.self.view_is ∙ c.requires.open in
      let next : IsNext (expecting c.self.inside.start) c.self.inside.arrived.arrived (first_place_in c.self.inside.start) c.in-Some.fpdu =
      subst (λ l. IsNext l c.self.inside.arrived.arrived (first_place_in c.self.inside.start) c.in-Some.fpdu) c.expecting-layout.ensures
      (subst (λ b. IsNext c.expecting-layout.result c.self.inside.arrived.arrived b c.in-Some.fpdu) c.first_place_in-base.ensures.place c.in-Some.ensures.next) in
      subst (λ f. Keeps (record s { front = f; receiving = c.land_frame.new.receiving })) (sym c.keep_placed.ensures.kept)
      (keeps_judged s c.args.memory.now c.in-Some.fpdu c.land_frame.new.receiving c.in-Ok-Write.field-0 running next (sym c.land_frame.ensures.landed ∙ c.in-Ok-Write.is) (subst IsPlacing (sym c.in-Ok-Write.field-0-is) tt) c.in-Ok-Write.ensures.receiving over c.self.invariant.keeps);
  layout = c.self.invariant.layout;
  base = c.self.invariant.base;
}

pub invariant_of-self-in-Ok-Response : goal.invariant_of-self-in-Ok-Response
invariant_of-self-in-Ok-Response g c = record {
  keeps =
      let s = state_of c.self.inside in
      let layout = c.expecting-layout.ensures in
      let base = c.first_place_in-base.ensures.place in
      let start : c.start_of-start.result ≡ frame_start (expecting s.start).markers (s.arrived.floor - first_place_in s.start) =
      c.start_of-start.ensures ∙ (λ i. frame_start (layout i).markers (c.floor.ensures i - base i)) in
      let next_ : next_frame s ≡ Some (frame_by c.in-Some.fpdu) =
      (λ i. frame_at (sym layout i) s.arrived (sym base i) (sym start i)) ∙ sym c.held_at.ensures.frame ∙ ap (option_map frame_by) c.in-Some.is in
      let over = clear_over s c.self.invariant.keeps (kept_scene s c.self.inside.arrived.layout c.self.inside.arrived.base c.self.invariant.layout c.self.invariant.base c.limits.ensures.tracked.keeps) c.limits.ensures.apart c.limits.ensures.arrived (placed (frame_by c.in-Some.fpdu)) (begins_at s c.in-Some.fpdu c.expecting-layout.result c.first_place_in-base.result c.start_of-start.result c.floor.result c.expecting-layout.ensures c.first_place_in-base.ensures.place c.in-Some.ensures.next) (ap (λ (t : StreamState). clashes t (frame_by c.in-Some.fpdu)) c.self.view_is ∙ c.requires.clear (frame_by c.in-Some.fpdu) (ap next_frame (sym c.self.view_is) ∙ next_)) in
      let running : is_open (state_of c.self.inside).start ≡ true = ap (λ (t : StreamState). is_open t.start) c.self.view_is ∙ c.requires.open in
      let next : IsNext (expecting c.self.inside.start) c.self.inside.arrived.arrived (first_place_in c.self.inside.start) c.in-Some.fpdu =
      subst (λ l. IsNext l c.self.inside.arrived.arrived (first_place_in c.self.inside.start) c.in-Some.fpdu) c.expecting-layout.ensures
      (subst (λ b. IsNext c.expecting-layout.result c.self.inside.arrived.arrived b c.in-Some.fpdu) c.first_place_in-base.ensures.place c.in-Some.ensures.next) in
      subst (λ f. Keeps (record s { front = f; receiving = c.land_frame.new.receiving })) (sym c.keep_placed-in-Ok-Response.ensures.kept)
      (keeps_judged s c.args.memory.now c.in-Some.fpdu c.land_frame.new.receiving c.in-Ok-Response.field-0 running next (sym c.land_frame.ensures.landed ∙ c.in-Ok-Response.is) (subst IsPlacing (sym c.in-Ok-Response.field-0-is) tt) c.in-Ok-Response.ensures.receiving over c.self.invariant.keeps);
  layout = c.self.invariant.layout;
  base = c.self.invariant.base;
}

pub invariant_of-self-in-Ok-Send : goal.invariant_of-self-in-Ok-Send
invariant_of-self-in-Ok-Send g c = record {
  keeps =
      let s = state_of c.self.inside in
      let layout = c.expecting-layout.ensures in
      let base = c.first_place_in-base.ensures.place in
      let start : c.start_of-start.result ≡ frame_start (expecting s.start).markers (s.arrived.floor - first_place_in s.start) =
      c.start_of-start.ensures ∙ (λ i. frame_start (layout i).markers (c.floor.ensures i - base i)) in
      let next_ : next_frame s ≡ Some (frame_by c.in-Some.fpdu) =
      (λ i. frame_at (sym layout i) s.arrived (sym base i) (sym start i)) ∙ sym c.held_at.ensures.frame ∙ ap (option_map frame_by) c.in-Some.is in
      let over = clear_over s c.self.invariant.keeps (kept_scene s c.self.inside.arrived.layout c.self.inside.arrived.base c.self.invariant.layout c.self.invariant.base c.limits.ensures.tracked.keeps) c.limits.ensures.apart c.limits.ensures.arrived (placed (frame_by c.in-Some.fpdu)) (begins_at s c.in-Some.fpdu c.expecting-layout.result c.first_place_in-base.result c.start_of-start.result c.floor.result c.expecting-layout.ensures c.first_place_in-base.ensures.place c.in-Some.ensures.next) (ap (λ (t : StreamState). clashes t (frame_by c.in-Some.fpdu)) c.self.view_is ∙ c.requires.clear (frame_by c.in-Some.fpdu) (ap next_frame (sym c.self.view_is) ∙ next_)) in
      let running : is_open (state_of c.self.inside).start ≡ true = ap (λ (t : StreamState). is_open t.start) c.self.view_is ∙ c.requires.open in
      let next : IsNext (expecting c.self.inside.start) c.self.inside.arrived.arrived (first_place_in c.self.inside.start) c.in-Some.fpdu =
      subst (λ l. IsNext l c.self.inside.arrived.arrived (first_place_in c.self.inside.start) c.in-Some.fpdu) c.expecting-layout.ensures
      (subst (λ b. IsNext c.expecting-layout.result c.self.inside.arrived.arrived b c.in-Some.fpdu) c.first_place_in-base.ensures.place c.in-Some.ensures.next) in
      subst (λ f. Keeps (record s { front = f; receiving = c.land_frame.new.receiving })) (sym c.keep_frame.ensures)
      (keeps_judged s c.args.memory.now c.in-Some.fpdu c.land_frame.new.receiving c.in-Ok-Send.field-0 running next (sym c.land_frame.ensures.landed ∙ c.in-Ok-Send.is) (subst IsPlacing (sym c.in-Ok-Send.field-0-is) tt) c.in-Ok-Send.ensures.receiving over c.self.invariant.keeps);
  layout = c.self.invariant.layout;
  base = c.self.invariant.base;
}

pub held_at-requires-clause-kept : goal.held_at-requires-clause-kept
held_at-requires-clause-kept g c =
    let s = state_of c.self.inside in
    kept_there s c.expecting-layout.result c.first_place_in-base.result c.start_of-start.result c.floor.result c.expecting-layout.ensures c.first_place_in-base.ensures.place c.floor.ensures c.start_of-start.ensures
    (front_kept s (kept_scene s c.self.inside.arrived.layout c.self.inside.arrived.base c.self.invariant.layout c.self.invariant.base c.limits.ensures.tracked.keeps) c.limits.ensures.apart (ap waiting c.self.view_is ∙ c.requires.waiting))

pub held_at-requires-clause-clear : goal.held_at-requires-clause-clear
held_at-requires-clause-clear g c =
    let s = state_of c.self.inside in
    clear_there s c.self.inside.arrived c.start_of-start.result c.floor.result c.self.invariant.layout c.self.invariant.base refl refl c.floor.ensures
    (c.start_of-start.ensures ∙ (λ i. frame_start ((c.expecting-layout.ensures ∙ sym c.self.invariant.layout) i).markers (c.floor.result - (c.first_place_in-base.ensures.place ∙ sym c.self.invariant.base) i)))
    (subst (λ t. (frame : Frame) → next_frame t ≡ Some frame → clashes t frame ≡ false) (sym c.self.view_is) c.requires.clear)

pub held_at-requires-clause-layout : goal.held_at-requires-clause-layout
held_at-requires-clause-layout g c = c.expecting-layout.ensures ∙ sym c.self.invariant.layout

pub held_at-requires-clause-base : goal.held_at-requires-clause-base
held_at-requires-clause-base g c = c.first_place_in-base.ensures.place ∙ sym c.self.invariant.base

pub take_up-requires-clause-stands : goal.take_up-requires-clause-stands
take_up-requires-clause-stands g c =
    let s = state_of c.self.inside in
    let next : IsNext (expecting c.self.inside.start) c.self.inside.arrived.arrived (first_place_in c.self.inside.start) c.in-Some.fpdu =
    subst (λ l. IsNext l c.self.inside.arrived.arrived (first_place_in c.self.inside.start) c.in-Some.fpdu) c.expecting-layout.ensures
    (subst (λ b. IsNext c.expecting-layout.result c.self.inside.arrived.arrived b c.in-Some.fpdu) c.first_place_in-base.ensures.place c.in-Some.ensures.next) in
    subst (Stands (record s { receiving = c.land_frame.new.receiving })) (sym c.placed_frame-frame.ensures) (stands_next (record s { receiving = c.land_frame.new.receiving }) c.in-Some.fpdu next
    (whole_judged (standing c.args.memory.now s) c.in-Some.fpdu (Request c.in-Ok-Request.request) (sym c.land_frame.ensures.landed ∙ c.in-Ok-Request.is ∙ ap Ok c.in-Ok-Request.field-0-is)))

pub take_up-requires-clause-range : goal.take_up-requires-clause-range
take_up-requires-clause-range g c =
    let m = may_take (standing c.args.memory.now (state_of c.self.inside)) c.in-Some.fpdu c.in-Ok-Request.request (sym c.land_frame.ensures.landed ∙ c.in-Ok-Request.is ∙ ap Ok c.in-Ok-Request.field-0-is) in
    m.range

pub take_up-requires-clause-header : goal.take_up-requires-clause-header
take_up-requires-clause-header g c =
    let m = may_take (standing c.args.memory.now (state_of c.self.inside)) c.in-Some.fpdu c.in-Ok-Request.request (sym c.land_frame.ensures.landed ∙ c.in-Ok-Request.is ∙ ap Ok c.in-Ok-Request.field-0-is) in
    ap (λ (f : PlacedFrame). length f.header.items) c.placed_frame-frame.ensures ∙ m.header

pub terminate_judged-terminate-requires-clause-fits : goal.terminate_judged-terminate-requires-clause-fits
terminate_judged-terminate-requires-clause-fits g c =
    let k = caused (standing c.args.memory.now (state_of c.self.inside)) c.in-Some.fpdu c.in-Err.fault (sym c.land_frame.ensures.landed ∙ c.in-Err.is) in
    k.fits

pub terminate_judged-terminate-requires-clause-cause : goal.terminate_judged-terminate-requires-clause-cause
terminate_judged-terminate-requires-clause-cause g c =
    let k = caused (standing c.args.memory.now (state_of c.self.inside)) c.in-Some.fpdu c.in-Err.fault (sym c.land_frame.ensures.landed ∙ c.in-Err.is) in
    k.cause

pub hear_out-requires-clause-stands : goal.hear_out-requires-clause-stands
hear_out-requires-clause-stands g c =
    let s = state_of c.self.inside in
    let next : IsNext (expecting c.self.inside.start) c.self.inside.arrived.arrived (first_place_in c.self.inside.start) c.in-Some.fpdu =
    subst (λ l. IsNext l c.self.inside.arrived.arrived (first_place_in c.self.inside.start) c.in-Some.fpdu) c.expecting-layout.ensures
    (subst (λ b. IsNext c.expecting-layout.result c.self.inside.arrived.arrived b c.in-Some.fpdu) c.first_place_in-base.ensures.place c.in-Some.ensures.next) in
    subst (Stands (record s { receiving = c.land_frame.new.receiving })) (sym c.placed_frame-frame-in-Ok-Terminate.ensures) (stands_next (record s { receiving = c.land_frame.new.receiving }) c.in-Some.fpdu next
    (whole_judged (standing c.args.memory.now s) c.in-Some.fpdu (Terminate c.in-Ok-Terminate.fault) (sym c.land_frame.ensures.landed ∙ c.in-Ok-Terminate.is ∙ ap Ok c.in-Ok-Terminate.field-0-is)))

pub returns-in-Err-clause-after : goal.returns-in-Err-clause-after
returns-in-Err-clause-after g c =
    let s = state_of c.self.inside in
    let table = c.args.memory.now in
    let found = c.in-Some.fpdu in
    let layout = c.expecting-layout.ensures in
    let base = c.first_place_in-base.ensures.place in
    let start : c.start_of-start.result ≡ frame_start (expecting s.start).markers (s.arrived.floor - first_place_in s.start) =
    c.start_of-start.ensures ∙ (λ i. frame_start (layout i).markers (c.floor.ensures i - base i)) in
    let next : next_frame s ≡ Some (frame_by found) =
    (λ i. frame_at (sym layout i) s.arrived (sym base i) (sym start i)) ∙ sym c.held_at.ensures.frame ∙ ap (option_map frame_by) c.in-Some.is in
    c.end_at.ensures.after ∙ (λ i. ends_by (record s { receiving = c.in-Err.ensures.err.1 i }) (c.terminate_judged-terminate.ensures i))
    ∙ judged_over table s (frame_by found) c.in-Err.fault next (sym c.land_frame.ensures.landed ∙ c.in-Err.is)
    ∙ ap (λ (t : StreamState). left_by table t (option_map_or Judge (next_frame t) Rest)) c.self.view_is

pub take_up-requires-clause-over : goal.take_up-requires-clause-over
take_up-requires-clause-over g c =
    let s = state_of c.self.inside in
    let layout = c.expecting-layout.ensures in
    let base = c.first_place_in-base.ensures.place in
    let start : c.start_of-start.result ≡ frame_start (expecting s.start).markers (s.arrived.floor - first_place_in s.start) =
    c.start_of-start.ensures ∙ (λ i. frame_start (layout i).markers (c.floor.ensures i - base i)) in
    let next_ : next_frame s ≡ Some (frame_by c.in-Some.fpdu) =
    (λ i. frame_at (sym layout i) s.arrived (sym base i) (sym start i)) ∙ sym c.held_at.ensures.frame ∙ ap (option_map frame_by) c.in-Some.is in
    let over = clear_over s c.self.invariant.keeps (kept_scene s c.self.inside.arrived.layout c.self.inside.arrived.base c.self.invariant.layout c.self.invariant.base c.limits.ensures.tracked.keeps) c.limits.ensures.apart c.limits.ensures.arrived (placed (frame_by c.in-Some.fpdu)) (begins_at s c.in-Some.fpdu c.expecting-layout.result c.first_place_in-base.result c.start_of-start.result c.floor.result c.expecting-layout.ensures c.first_place_in-base.ensures.place c.in-Some.ensures.next) (ap (λ (t : StreamState). clashes t (frame_by c.in-Some.fpdu)) c.self.view_is ∙ c.requires.clear (frame_by c.in-Some.fpdu) (ap next_frame (sym c.self.view_is) ∙ next_)) in
    subst (NoneReachesOver (record s { receiving = c.land_frame.new.receiving })) (sym c.placed_frame-frame.ensures) over

pub hear_out-requires-clause-over : goal.hear_out-requires-clause-over
hear_out-requires-clause-over g c =
    let s = state_of c.self.inside in
    let layout = c.expecting-layout.ensures in
    let base = c.first_place_in-base.ensures.place in
    let start : c.start_of-start.result ≡ frame_start (expecting s.start).markers (s.arrived.floor - first_place_in s.start) =
    c.start_of-start.ensures ∙ (λ i. frame_start (layout i).markers (c.floor.ensures i - base i)) in
    let next_ : next_frame s ≡ Some (frame_by c.in-Some.fpdu) =
    (λ i. frame_at (sym layout i) s.arrived (sym base i) (sym start i)) ∙ sym c.held_at.ensures.frame ∙ ap (option_map frame_by) c.in-Some.is in
    let over = clear_over s c.self.invariant.keeps (kept_scene s c.self.inside.arrived.layout c.self.inside.arrived.base c.self.invariant.layout c.self.invariant.base c.limits.ensures.tracked.keeps) c.limits.ensures.apart c.limits.ensures.arrived (placed (frame_by c.in-Some.fpdu)) (begins_at s c.in-Some.fpdu c.expecting-layout.result c.first_place_in-base.result c.start_of-start.result c.floor.result c.expecting-layout.ensures c.first_place_in-base.ensures.place c.in-Some.ensures.next) (ap (λ (t : StreamState). clashes t (frame_by c.in-Some.fpdu)) c.self.view_is ∙ c.requires.clear (frame_by c.in-Some.fpdu) (ap next_frame (sym c.self.view_is) ∙ next_)) in
    subst (NoneReachesOver (record s { receiving = c.land_frame.new.receiving })) (sym c.placed_frame-frame-in-Ok-Terminate.ensures) over

pub take_up-requires-clause-room : goal.take_up-requires-clause-room
take_up-requires-clause-room g c =
    let m = may_take (standing c.args.memory.now (state_of c.self.inside)) c.in-Some.fpdu c.in-Ok-Request.request (sym c.land_frame.ensures.landed ∙ c.in-Ok-Request.is ∙ ap Ok c.in-Ok-Request.field-0-is) in
    m.room
