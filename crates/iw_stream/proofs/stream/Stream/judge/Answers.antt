use Rattle.std.specs.Prelude.{is_some}
use Rattle.std.proofs.Common.{◌≡◌, ◌-◌, false, true, Some, Ok, refl, ap, sym, ◌∙◌, subst}
use Rattle.std.specs.Option.{option_map_or}
use Rattle.iw_fpdu.specs.Found.{ulpdu}
use Rattle.iw_octets.specs.Segment.{read_segment}
use Rattle.iw_rdmap.proofs.Tags.{Passes, passes}
use Rattle.iw_stream.specs.Fields.{state_of}
use Rattle.iw_fpdu.specs.Places.{frame_start}
use Rattle.iw_stream.specs.Frames.{Frame, IsNext, placed, frame_by, payload_of}
use Rattle.iw_stream.specs.Judging.{landing_of, verdict}
use Rattle.iw_stream.specs.Kept.{Keeps}
use Rattle.iw_stream.specs.Starting.{is_open, expecting, first_place_in}
use Rattle.iw_stream.specs.Stream.{StreamState}
use Rattle.iw_stream.specs.Work.{Judge, Rest, clashes, standing, waiting, next_frame, step_of, left_by, table_left, judged_step, after_judging, table_judged}
use Rattle.iw_stream.proofs.Early.{begins_at, clear_there, front_kept, kept_there}
use Rattle.iw_stream.proofs.Keeping.{keeps_judged}
use Rattle.iw_stream.proofs.Waiting.{clear_over, kept_scene}
use Rattle.iw_stream.proofs.Tagged.{is_placing, leaves_receiving, next_is, none_next, payload_past, stream_placed, table_placed, tagged_first, tagged_front, tagged_long, tagged_there}
use Rattle.iw_stream.proofs.stream.Stream.judge.Goals as goal

pub returns-then-missing-floor-clause-whole : goal.returns-then-missing-floor-clause-whole
returns-then-missing-floor-clause-whole g c =
    let s = state_of c.self.inside in
    let table = c.args.memory.now in
    let none = none_next s c.missing.result c.floor.result c.self.invariant.keeps c.missing.ensures.missing c.floor.ensures c.if-missing-floor.true in
    sym (ap (λ t. is_some (next_frame t)) (sym c.self.view_is) ∙ ap is_some none)

pub returns-then-missing-floor-clause-after : goal.returns-then-missing-floor-clause-after
returns-then-missing-floor-clause-after g c =
    let s = state_of c.self.inside in
    let table = c.args.memory.now in
    let none = none_next s c.missing.result c.floor.result c.self.invariant.keeps c.missing.ensures.missing c.floor.ensures c.if-missing-floor.true in
    sym c.self.view_is
    ∙ ap (λ o. left_by table s (option_map_or Judge o Rest)) (sym none) ∙ ap (λ t. left_by table t (option_map_or Judge (next_frame t) Rest)) c.self.view_is

pub returns-then-missing-floor-clause-memory : goal.returns-then-missing-floor-clause-memory
returns-then-missing-floor-clause-memory g c =
    let s = state_of c.self.inside in
    let table = c.args.memory.now in
    let none = none_next s c.missing.result c.floor.result c.self.invariant.keeps c.missing.ensures.missing c.floor.ensures c.if-missing-floor.true in
    ap (λ o. table_left table s (option_map_or Judge o Rest)) (sym none) ∙ ap (λ t. table_left table t (option_map_or Judge (next_frame t) Rest)) c.self.view_is

pub held_at-requires-clause-kept : goal.held_at-requires-clause-kept
held_at-requires-clause-kept g c =
    let s = state_of c.self.inside in
    kept_there s c.expecting-layout.result c.first_place_in-base.result c.start_of-start.result c.floor-2.result c.expecting-layout.ensures c.first_place_in-base.ensures.place c.floor-2.ensures c.start_of-start.ensures
    (front_kept s (kept_scene s c.self.inside.arrived.layout c.self.inside.arrived.base c.self.invariant.layout c.self.invariant.base c.limits.ensures.tracked.keeps) c.limits.ensures.apart (ap waiting c.self.view_is ∙ c.requires.waiting))

pub held_at-requires-clause-clear : goal.held_at-requires-clause-clear
held_at-requires-clause-clear g c =
    let s = state_of c.self.inside in
    clear_there s c.self.inside.arrived c.start_of-start.result c.floor-2.result c.self.invariant.layout c.self.invariant.base refl refl c.floor-2.ensures
    (c.start_of-start.ensures ∙ (λ i. frame_start ((c.expecting-layout.ensures ∙ sym c.self.invariant.layout) i).markers (c.floor-2.result - (c.first_place_in-base.ensures.place ∙ sym c.self.invariant.base) i)))
    (subst (λ t. (frame : Frame) → next_frame t ≡ Some frame → clashes t frame ≡ false) (sym c.self.view_is) c.requires.clear)

pub held_at-requires-clause-layout : goal.held_at-requires-clause-layout
held_at-requires-clause-layout g c = c.expecting-layout.ensures ∙ sym c.self.invariant.layout

pub held_at-requires-clause-base : goal.held_at-requires-clause-base
held_at-requires-clause-base g c = c.first_place_in-base.ensures.place ∙ sym c.self.invariant.base

pub land_tagged-requires-clause-tagged : goal.land_tagged-requires-clause-tagged
land_tagged-requires-clause-tagged g c =
    let u = ulpdu c.in-Some.fpdu in
    let front = c.in-Some-tagged_parts.front.now in
    let head = c.in-Some-tagged_head.head in
    let p : Passes c.in-Some-tagged_parts.front.now c.in-Some-tagged_head.head = passes front head c.in-Some-tagged_head.ensures in
    tagged_there u head (tagged_front u front head (c.in-Some-tagged_parts.payload, c.in-Some-tagged_parts.ensures.0) p)

pub land_tagged-requires-clause-payload : goal.land_tagged-requires-clause-payload
land_tagged-requires-clause-payload g c = payload_past (ulpdu c.in-Some.fpdu) c.in-Some-tagged_parts.front.now c.in-Some-tagged_parts.payload c.in-Some-tagged_parts.ensures

pub keep_tagged-requires-clause-front : goal.keep_tagged-requires-clause-front
keep_tagged-requires-clause-front g c = (c.in-Some-tagged_parts.payload, c.in-Some-tagged_parts.ensures.0)

pub keep_tagged-requires-clause-tagged : goal.keep_tagged-requires-clause-tagged
keep_tagged-requires-clause-tagged g c =
    let front = c.in-Some-tagged_parts.front.now in
    let head = c.in-Some-tagged_head.head in
    tagged_first front head (passes front head c.in-Some-tagged_head.ensures)

pub keep_tagged-requires-clause-long : goal.keep_tagged-requires-clause-long
keep_tagged-requires-clause-long g c =
    let front = c.in-Some-tagged_parts.front.now in
    let head = c.in-Some-tagged_head.head in
    tagged_long front head (passes front head c.in-Some-tagged_head.ensures)

pub invariant_of-self : goal.invariant_of-self
invariant_of-self g c = record {
  keeps =
      let s = state_of c.self.inside in
      let found = next_is s c.expecting-layout.result c.first_place_in-base.result c.start_of-start.result c.floor-2.result (Some (frame_by c.in-Some.fpdu)) c.expecting-layout.ensures c.first_place_in-base.ensures.place c.floor-2.ensures c.start_of-start.ensures c.in-Some.ensures.frame in
      let over = clear_over s c.self.invariant.keeps (kept_scene s c.self.inside.arrived.layout c.self.inside.arrived.base c.self.invariant.layout c.self.invariant.base c.limits.ensures.tracked.keeps) c.limits.ensures.apart c.limits.ensures.arrived (placed (frame_by c.in-Some.fpdu)) (begins_at s c.in-Some.fpdu c.expecting-layout.result c.first_place_in-base.result c.start_of-start.result c.floor-2.result c.expecting-layout.ensures c.first_place_in-base.ensures.place c.in-Some.ensures.next) (ap (λ (t : StreamState). clashes t (frame_by c.in-Some.fpdu)) c.self.view_is ∙ c.requires.clear (frame_by c.in-Some.fpdu) (ap next_frame (sym c.self.view_is) ∙ found)) in
      let running : is_open (state_of c.self.inside).start ≡ true = ap (λ (t : StreamState). is_open t.start) c.self.view_is ∙ c.requires.open in
      let next : IsNext (expecting c.self.inside.start) c.self.inside.arrived.arrived (first_place_in c.self.inside.start) c.in-Some.fpdu =
      subst (λ l. IsNext l c.self.inside.arrived.arrived (first_place_in c.self.inside.start) c.in-Some.fpdu) c.expecting-layout.ensures
      (subst (λ b. IsNext c.expecting-layout.result c.self.inside.arrived.arrived b c.in-Some.fpdu) c.first_place_in-base.ensures.place c.in-Some.ensures.next) in
      let response = c.is_response-response.result in
      let at = c.in-Ok.placed in
      let ok : verdict (standing c.args.memory.now s) (frame_by c.in-Some.fpdu) ≡ Ok (landing_of c.is_response-response.result c.in-Ok.placed) = sym (c.in-Ok.ensures.landed (standing c.args.memory.now s) refl refl refl) in
      subst (λ f. Keeps (record s { front = f })) (sym c.keep_tagged.ensures)
      (keeps_judged s c.args.memory.now c.in-Some.fpdu c.self.inside.receiving (landing_of response at) running next ok (is_placing response at) (leaves_receiving response at c.self.inside.receiving (payload_of (read_segment (ulpdu c.in-Some.fpdu))))
      over c.self.invariant.keeps);
  layout = c.self.invariant.layout;
  base = c.self.invariant.base;
}

pub returns-in-Ok-clause-step : goal.returns-in-Ok-clause-step
returns-in-Ok-clause-step g c =
    let s = state_of c.self.inside in
    let table = c.args.memory.now in
    let frame = frame_by c.in-Some.fpdu in
    let response = c.is_response-response.result in
    let at = c.in-Ok.placed in
    let next = next_is s c.expecting-layout.result c.first_place_in-base.result c.start_of-start.result c.floor-2.result (Some (frame_by c.in-Some.fpdu)) c.expecting-layout.ensures c.first_place_in-base.ensures.place c.floor-2.ensures c.start_of-start.ensures c.in-Some.ensures.frame in
    let ok : verdict (standing table s) frame ≡ Ok (landing_of response at) = sym (c.in-Ok.ensures.landed (standing table s) refl refl refl) in
    ap (λ landing. judged_step (Ok landing)) c.landing_of.ensures ∙ ap judged_step (sym ok)
    ∙ ap (λ o. step_of table s (option_map_or Judge o Rest)) (sym next) ∙ ap (λ t. step_of table t (option_map_or Judge (next_frame t) Rest)) c.self.view_is

pub returns-in-Ok-clause-after : goal.returns-in-Ok-clause-after
returns-in-Ok-clause-after g c =
    let s = state_of c.self.inside in
    let table = c.args.memory.now in
    let frame = frame_by c.in-Some.fpdu in
    let response = c.is_response-response.result in
    let at = c.in-Ok.placed in
    let next = next_is s c.expecting-layout.result c.first_place_in-base.result c.start_of-start.result c.floor-2.result (Some (frame_by c.in-Some.fpdu)) c.expecting-layout.ensures c.first_place_in-base.ensures.place c.floor-2.ensures c.start_of-start.ensures c.in-Some.ensures.frame in
    let ok : verdict (standing table s) frame ≡ Ok (landing_of response at) = sym (c.in-Ok.ensures.landed (standing table s) refl refl refl) in
    ap (λ f. record s { front = f }) c.keep_tagged.ensures ∙ stream_placed response at s frame ∙ ap (after_judging s frame) (sym ok)
    ∙ ap (λ o. left_by table s (option_map_or Judge o Rest)) (sym next) ∙ ap (λ t. left_by table t (option_map_or Judge (next_frame t) Rest)) c.self.view_is

pub returns-in-Ok-clause-memory : goal.returns-in-Ok-clause-memory
returns-in-Ok-clause-memory g c =
    let s = state_of c.self.inside in
    let table = c.args.memory.now in
    let frame = frame_by c.in-Some.fpdu in
    let response = c.is_response-response.result in
    let at = c.in-Ok.placed in
    let next = next_is s c.expecting-layout.result c.first_place_in-base.result c.start_of-start.result c.floor-2.result (Some (frame_by c.in-Some.fpdu)) c.expecting-layout.ensures c.first_place_in-base.ensures.place c.floor-2.ensures c.start_of-start.ensures c.in-Some.ensures.frame in
    let ok : verdict (standing table s) frame ≡ Ok (landing_of response at) = sym (c.in-Ok.ensures.landed (standing table s) refl refl refl) in
    c.in-Ok.ensures.memory ∙ table_placed response at table frame ∙ ap (table_judged table frame) (sym ok)
    ∙ ap (λ o. table_left table s (option_map_or Judge o Rest)) (sym next) ∙ ap (λ t. table_left table t (option_map_or Judge (next_frame t) Rest)) c.self.view_is
