use Rattle.std.proofs.Common.{◌≡◌, false, Some, ◌∙◌, ap, subst}
use Rattle.iw_stream.specs.Fields.{state_of}
use Rattle.iw_stream.specs.Frames.{Frame}
use Rattle.iw_stream.specs.Work.{waiting, clashes, next_frame}
use Rattle.iw_stream.proofs.Early.{front_kept, kept_there, none_clashes, seen}
use Rattle.iw_stream.proofs.Waiting.{kept_scene}
use Rattle.iw_stream.proofs.stream.Stream.is_clear.Goals as goal

pub frame_at-requires-clause-kept : goal.frame_at-requires-clause-kept
frame_at-requires-clause-kept g c =
    let s = state_of c.self.inside in
    kept_there s c.expecting-layout.result c.first_place_in-base.result c.start_of-start.result c.floor.result c.expecting-layout.ensures c.first_place_in-base.ensures.place c.floor.ensures c.start_of-start.ensures
    (front_kept s (kept_scene s c.self.inside.arrived.layout c.self.inside.arrived.base c.self.invariant.layout c.self.invariant.base c.limits.ensures.tracked.keeps) c.limits.ensures.apart (ap waiting c.self.view_is ∙ c.requires.none))

pub returns : goal.returns
returns g c so =
    let s = state_of c.self.inside in
    subst (λ t. (frame : Frame) → next_frame t ≡ Some frame → clashes t frame ≡ false) c.self.view_is
    (none_clashes s c.in-Some.fpdu c.overlaps_placed.result
    (seen s c.expecting-layout.result c.first_place_in-base.result c.floor.result c.start_of-start.result c.end.result c.in-Some.fpdu c.overlaps_placed.result
    c.expecting-layout.ensures c.first_place_in-base.ensures.place c.floor.ensures c.start_of-start.ensures c.in-Some.ensures.frame c.in-Some.ensures.next c.end.ensures c.overlaps_placed.ensures)
    c.if-overlaps_placed.false)
