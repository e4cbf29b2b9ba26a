use Rattle.std.proofs.Common.{ap, ◌∙◌}
use Rattle.iw_fpdu.specs.Found.{Found}
use Rattle.iw_locate.specs.Records.{added}
use Rattle.iw_stream.specs.Frames.{frame_by, record_of, state_tried, without}
use Rattle.iw_stream.specs.Incoming.{frame_in, scene_in}
use Rattle.iw_stream.proofs.Arriving.{readable, record_read}
use Rattle.iw_stream.proofs.stream.judgement.judge_early.Goals as goal

pub returns-clause-early : goal.returns-clause-early
returns-clause-early g c =
    let old = c.args.arrived.now in
    let r = readable (scene_in old) c.args.frame c.requires.next c.requires.early in
    let state = c.state_tried-state.ensures ∙ ap (λ (f : Found). state_tried (frame_by f) c.land_early-landing.result) c.read_early-fpdu.ensures.found in
    c.keep.ensures.early ∙ ap (added old.early) (record_read old c.args.frame c.state_tried-state.result r ∙ ap (record_of (frame_in old c.args.frame.start)) state)

pub returns-clause-arrived : goal.returns-clause-arrived
returns-clause-arrived g c =
    let old = c.args.arrived.now in
    let r = readable (scene_in old) c.args.frame c.requires.next c.requires.early in
    let state = c.state_tried-state.ensures ∙ ap (λ (f : Found). state_tried (frame_by f) c.land_early-landing.result) c.read_early-fpdu.ensures.found in
    c.keep.ensures.arrived
    ∙ (λ i. without old.base old.arrived ((record_read old c.args.frame c.state_tried-state.result r ∙ ap (record_of (frame_in old c.args.frame.start)) state) i) (state i))
