use Rattle.std.proofs.Common.{◌≡◌, ◌≤◌, ◌∙◌, ap, false, Some, None, subst, arith}
use Rattle.iw_stream.specs.Fields.{state_of}
use Rattle.iw_stream.specs.Frames.{Frame}
use Rattle.iw_stream.specs.Stream.{StreamState}
use Rattle.iw_stream.specs.Work.{waiting, next_frame, clashes}
use Rattle.iw_stream.proofs.Waiting.{kept_scene, none_begins, none_clash, none_waits}
use Rattle.iw_stream.proofs.stream.Stream.turn_early.Goals as goal

pub returns-then-missing-floor-clause-waiting : goal.returns-then-missing-floor-clause-waiting
returns-then-missing-floor-clause-waiting g c e =
    let s = state_of c.self.inside in
    let kept = kept_scene s c.self.inside.arrived.layout c.self.inside.arrived.base c.self.invariant.layout c.self.invariant.base c.limits.ensures.tracked.keeps in
    let low : c.missing.result ≤ s.arrived.floor = omega (arith, c.if-missing-floor.true, c.floor.ensures) in
    subst (λ t. waiting t ≡ None) c.self.view_is
    (none_waits s c.self.invariant.keeps kept c.limits.ensures.apart c.limits.ensures.arrived c.missing.result c.missing.ensures.missing
    (none_begins s c.self.invariant.keeps kept c.limits.ensures.apart c.limits.ensures.arrived c.missing.result low) (ap (λ (t : StreamState). t.front) c.self.view_is ∙ c.requires.none))

pub returns-then-missing-floor-clause-clear : goal.returns-then-missing-floor-clause-clear
returns-then-missing-floor-clause-clear g c e =
    let s = state_of c.self.inside in
    let kept = kept_scene s c.self.inside.arrived.layout c.self.inside.arrived.base c.self.invariant.layout c.self.invariant.base c.limits.ensures.tracked.keeps in
    let low : c.missing.result ≤ s.arrived.floor = omega (arith, c.if-missing-floor.true, c.floor.ensures) in
    subst (λ t. (frame : Frame) → next_frame t ≡ Some frame → clashes t frame ≡ false) c.self.view_is
    (none_clash s c.self.invariant.keeps kept c.limits.ensures.apart c.limits.ensures.arrived c.missing.result c.missing.ensures.missing
    (none_begins s c.self.invariant.keeps kept c.limits.ensures.apart c.limits.ensures.arrived c.missing.result low))
