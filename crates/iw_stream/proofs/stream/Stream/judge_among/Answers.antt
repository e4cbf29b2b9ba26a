use Rattle.std.proofs.Common.{◌≡◌, false, Some, ◌∙◌, ap, subst}
use Rattle.iw_stream.specs.Fields.{state_of}
use Rattle.iw_stream.specs.Frames.{Frame, frame_by}
use Rattle.iw_stream.specs.Stream.{ends_by}
use Rattle.iw_stream.specs.Work.{waiting, clashes, step_of, left_by, next_frame, table_left}
use Rattle.iw_stream.proofs.Early.{IsSeen, front_kept, kept_there, none_clashes, seen, task_clashes, task_judges}
use Rattle.iw_stream.proofs.Waiting.{kept_scene}
use Rattle.iw_stream.proofs.stream.Stream.judge_among.Given as given
use Rattle.iw_stream.proofs.stream.Stream.judge_among.Goals as goal

-- the frame at the in-order point is whole; if it lies over a placed one
over : (g : given.Over) (c : goal.After-end_by g) → IsSeen c.args.self.now c.in-Some.fpdu c.overlaps_placed.result
over g c =
    subst (λ t. IsSeen t c.in-Some.fpdu c.overlaps_placed.result) c.self.view_is
    (seen (state_of c.self.inside) c.expecting-layout.result c.first_place_in-base.result c.floor.result c.start_of-start.result c.end.result c.in-Some.fpdu c.overlaps_placed.result
    c.expecting-layout.ensures c.first_place_in-base.ensures.place c.floor.ensures c.start_of-start.ensures c.in-Some.ensures.frame c.in-Some.ensures.next c.end.ensures c.overlaps_placed.ensures)

-- and if it does not
clear : (g : given.Over) (c : goal.After-judge_slow_outlined g) → IsSeen c.args.self.now c.in-Some.fpdu c.overlaps_placed.result
clear g c =
    subst (λ t. IsSeen t c.in-Some.fpdu c.overlaps_placed.result) c.self.view_is
    (seen (state_of c.self.inside) c.expecting-layout.result c.first_place_in-base.result c.floor.result c.start_of-start.result c.end.result c.in-Some.fpdu c.overlaps_placed.result
    c.expecting-layout.ensures c.first_place_in-base.ensures.place c.floor.ensures c.start_of-start.ensures c.in-Some.ensures.frame c.in-Some.ensures.next c.end.ensures c.overlaps_placed.ensures)

pub returns-then-overlaps_placed-clause-step : goal.returns-then-overlaps_placed-clause-step
returns-then-overlaps_placed-clause-step g c =
    ap (step_of c.args.memory.now c.args.self.now) (task_clashes c.args.self.now c.in-Some.fpdu c.overlaps_placed.result c.requires.waiting (over g c) c.if-overlaps_placed.true)

pub returns-then-overlaps_placed-clause-after : goal.returns-then-overlaps_placed-clause-after
returns-then-overlaps_placed-clause-after g c =
    let s = c.args.self.now in
    c.end_by.ensures ∙ ap (ends_by s) (c.terminate_clashed.ensures s.asked (frame_by c.in-Some.fpdu))
    ∙ ap (left_by c.args.memory.now c.args.self.now) (task_clashes c.args.self.now c.in-Some.fpdu c.overlaps_placed.result c.requires.waiting (over g c) c.if-overlaps_placed.true)

pub returns-then-overlaps_placed-clause-memory : goal.returns-then-overlaps_placed-clause-memory
returns-then-overlaps_placed-clause-memory g c =
    ap (table_left c.args.memory.now c.args.self.now) (task_clashes c.args.self.now c.in-Some.fpdu c.overlaps_placed.result c.requires.waiting (over g c) c.if-overlaps_placed.true)

pub judge_slow_outlined-requires-clause-clear : goal.judge_slow_outlined-requires-clause-clear
judge_slow_outlined-requires-clause-clear g c =
    let s = state_of c.self.inside in
    subst (λ t. (frame : Frame) → next_frame t ≡ Some frame → clashes t frame ≡ false) c.self.view_is
    (none_clashes s c.in-Some.fpdu c.overlaps_placed.result
    (seen s c.expecting-layout.result c.first_place_in-base.result c.floor.result c.start_of-start.result c.end.result c.in-Some.fpdu c.overlaps_placed.result
    c.expecting-layout.ensures c.first_place_in-base.ensures.place c.floor.ensures c.start_of-start.ensures c.in-Some.ensures.frame c.in-Some.ensures.next c.end.ensures c.overlaps_placed.ensures)
    c.if-overlaps_placed.false)

pub frame_at-requires-clause-kept : goal.frame_at-requires-clause-kept
frame_at-requires-clause-kept g c =
    let s = state_of c.self.inside in
    kept_there s c.expecting-layout.result c.first_place_in-base.result c.start_of-start.result c.floor.result c.expecting-layout.ensures c.first_place_in-base.ensures.place c.floor.ensures c.start_of-start.ensures
    (front_kept s (kept_scene s c.self.inside.arrived.layout c.self.inside.arrived.base c.self.invariant.layout c.self.invariant.base c.limits.ensures.tracked.keeps) c.limits.ensures.apart (ap waiting c.self.view_is ∙ c.requires.waiting))

pub returns-clause-step : goal.returns-clause-step
returns-clause-step g c =
    c.judge_slow_outlined.ensures.step ∙ ap (step_of c.args.memory.now c.args.self.now) (task_judges c.args.self.now c.in-Some.fpdu c.overlaps_placed.result c.requires.waiting (clear g c) c.if-overlaps_placed.false)

pub returns-clause-after : goal.returns-clause-after
returns-clause-after g c =
    c.judge_slow_outlined.ensures.after ∙ ap (left_by c.args.memory.now c.args.self.now) (task_judges c.args.self.now c.in-Some.fpdu c.overlaps_placed.result c.requires.waiting (clear g c) c.if-overlaps_placed.false)

pub returns-clause-memory : goal.returns-clause-memory
returns-clause-memory g c =
    c.judge_slow_outlined.ensures.memory ∙ ap (table_left c.args.memory.now c.args.self.now) (task_judges c.args.self.now c.in-Some.fpdu c.overlaps_placed.result c.requires.waiting (clear g c) c.if-overlaps_placed.false)
