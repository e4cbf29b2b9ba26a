use Rattle.std.proofs.Common.{◌+◌, refl, ◌∙◌, ap, sym}
use Rattle.std.specs.Option.{option_map_or}
use Rattle.iw_ranges.specs.Arrived.{Arrived}
use Rattle.iw_stream.specs.Fields.{state_of}
use Rattle.iw_stream.specs.Incoming.{frame_in}
use Rattle.iw_stream.specs.Starting.{is_open}
use Rattle.iw_stream.specs.Stream.{StreamState}
use Rattle.iw_stream.specs.Work.{Try, Rest, early_frame, left_by, next_frame, step_of, table_left, tried_step, waiting}
use Rattle.iw_stream.proofs.Early.{IsFound, floor_tried, found_early, front_lacks, front_unplaced, keeps_tried, memory_tried, ok_is, on_ok, scene_is, step_tried, stream_tried}
use Rattle.iw_stream.proofs.stream.Stream.try_slow_outlined.Given as given
use Rattle.iw_stream.proofs.stream.Stream.try_slow_outlined.Goals.{in-None, in-Some-judge_early}
use Rattle.iw_stream.proofs.stream.Stream.try_slow_outlined.Goals as goal

pub next_early-requires-clause-turn : goal.next_early-requires-clause-turn
next_early-requires-clause-turn g c =
    let s = state_of c.self.inside in
    front_unplaced s c.self.inside.arrived (scene_is s c.self.inside.arrived c.self.invariant.layout c.self.invariant.base refl refl) c.limits.ensures.apart (ap waiting c.self.view_is ∙ c.requires.waiting)

pub next_early-requires-clause-lacking : goal.next_early-requires-clause-lacking
next_early-requires-clause-lacking g c =
    let s = state_of c.self.inside in
    front_lacks s c.self.inside.arrived (scene_is s c.self.inside.arrived c.self.invariant.layout c.self.invariant.base refl refl) (ap next_frame c.self.view_is ∙ c.requires.lacking)

-- the frame that was found is the one to try
found : (g : given.Over) (c : goal.Joined-judge_early g) → IsFound (state_of c.self.inside) c.ready.new.self c.in-Some.frame.start
found g c =
    found_early (state_of c.self.inside) c.self.inside.arrived c.next_early.new.self c.ready.new.self c.next_early.result c.in-Some.frame c.self.invariant.layout c.self.invariant.base refl refl
    c.next_early.ensures.same c.ready.ensures.same c.in-Some.is c.next_early.ensures.found

pub invariant_of-self-2 : goal.invariant_of-self-2
invariant_of-self-2 g c = record {
  keeps =
      keeps_tried (state_of c.self.inside) c.args.memory.now c.ready.new.self c.judge_early.new.arrived c.judge_early.new.receiving c.in-Some.frame.start c.judge_early.result
      (ap (λ (t : StreamState). is_open t.start) c.self.view_is ∙ c.requires.open) (ap waiting c.self.view_is ∙ c.requires.waiting) (found g c) c.judge_early.ensures.landed c.judge_early.ensures.arrived c.judge_early.ensures.early
      c.judge_early.ensures.receiving c.self.invariant.keeps;
  layout = c.judge_early.ensures.same.layout ∙ (found g c).layout;
  base = c.judge_early.ensures.same.base ∙ (found g c).base;
}

pub returns-clause-step : goal.returns-clause-step
returns-clause-step g c =
    let s = state_of c.self.inside in
    let frame = frame_in c.ready.new.self c.in-Some.frame.start in
    let is = step_tried c.args.memory.now s frame c.first_place_in.result c.judge_early.result (found g c).found c.judge_early.ensures.landed c.first_place_in.ensures.place
    ∙ ap (λ t. step_of c.args.memory.now t (option_map_or Try (early_frame t) Rest)) c.self.view_is in
    elim c.match-judge_early.branch [
      | in-None w ↦ ok_is c.match-judge_early.result _ _ w.result-is (ap (tried_step (c.first_place_in.result + frame.start)) (sym w.in-None.is) ∙ is)
      | in-Some-judge_early w ↦ ok_is c.match-judge_early.result _ _ w.result-is (w.landed_step.ensures.step ∙ ap (tried_step (c.first_place_in.result + frame.start)) (sym w.in-Some-judge_early.is) ∙ is)
    ]

pub returns-clause-after : goal.returns-clause-after
returns-clause-after g c =
    let is = stream_tried c.args.memory.now (state_of c.self.inside) c.ready.new.self c.judge_early.new.arrived c.judge_early.new.receiving c.in-Some.frame.start c.judge_early.result
    (found g c) c.judge_early.ensures.landed c.judge_early.ensures.arrived c.judge_early.ensures.early c.judge_early.ensures.receiving
    ∙ ap (λ t. left_by c.args.memory.now t (option_map_or Try (early_frame t) Rest)) c.self.view_is in
    elim c.match-judge_early.branch [
      | in-None w ↦ on_ok _ c.match-judge_early.result _ w.result-is is
      | in-Some-judge_early w ↦ on_ok _ c.match-judge_early.result _ w.result-is is
    ]

pub returns-clause-memory : goal.returns-clause-memory
returns-clause-memory g c =
    let is = memory_tried c.args.memory.now c.judge_early.new.memory (state_of c.self.inside) (frame_in c.ready.new.self c.in-Some.frame.start) c.judge_early.result
    (found g c).found c.judge_early.ensures.landed c.judge_early.ensures.memory
    ∙ ap (λ t. table_left c.args.memory.now t (option_map_or Try (early_frame t) Rest)) c.self.view_is in
    elim c.match-judge_early.branch [
      | in-None w ↦ on_ok _ c.match-judge_early.result _ w.result-is is
      | in-Some-judge_early w ↦ on_ok _ c.match-judge_early.result _ w.result-is is
    ]

pub returns-clause-floor : goal.returns-clause-floor
returns-clause-floor g c =
    floor_tried c.ready.new.self c.judge_early.new.arrived c.in-Some.frame.start c.judge_early.result c.judge_early.ensures.arrived ∙ ap (λ (a : Arrived). a.floor) (found g c).arrived
    ∙ ap (λ (t : StreamState). t.arrived.floor) c.self.view_is
