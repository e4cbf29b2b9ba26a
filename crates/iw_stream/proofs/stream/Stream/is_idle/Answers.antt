use Rattle.std.proofs.Common.{◌≡◌, ◌≤◌, None, subst, ap, ◌∙◌, arith}
use Rattle.iw_stream.specs.Fields.{state_of}
use Rattle.iw_stream.specs.Stream.{StreamState}
use Rattle.iw_stream.specs.Work.{next_frame, waiting}
use Rattle.iw_stream.proofs.Calm.{task_rests}
use Rattle.iw_stream.proofs.Tagged.{none_next}
use Rattle.iw_stream.proofs.Waiting.{kept_scene, none_begins, none_waits}
use Rattle.iw_stream.proofs.stream.Stream.is_idle.Goals as goal

pub is_quiet-requires-clause-waiting : goal.is_quiet-requires-clause-waiting
is_quiet-requires-clause-waiting g c =
    let s = state_of c.self.inside in
    let kept = kept_scene s c.self.inside.arrived.layout c.self.inside.arrived.base c.self.invariant.layout c.self.invariant.base c.limits.ensures.tracked.keeps in
    let low : c.missing.result ≤ s.arrived.floor = omega (arith, c.if-missing-floor.false, c.floor.ensures) in
    subst (λ t. waiting t ≡ None) c.self.view_is
    (none_waits s c.self.invariant.keeps kept c.limits.ensures.apart c.limits.ensures.arrived c.missing.result c.missing.ensures.missing
    (none_begins s c.self.invariant.keeps kept c.limits.ensures.apart c.limits.ensures.arrived c.missing.result low) (ap (λ (t : StreamState). t.front) c.self.view_is ∙ c.requires.none))

pub returns : goal.returns
returns g c = λ quiet.
    let s = state_of c.self.inside in
    let kept = kept_scene s c.self.inside.arrived.layout c.self.inside.arrived.base c.self.invariant.layout c.self.invariant.base c.limits.ensures.tracked.keeps in
    let low : c.missing.result ≤ s.arrived.floor = omega (arith, c.if-missing-floor.false, c.floor.ensures) in
    let none : waiting c.args.self.now ≡ None = subst (λ t. waiting t ≡ None) c.self.view_is
    (none_waits s c.self.invariant.keeps kept c.limits.ensures.apart c.limits.ensures.arrived c.missing.result c.missing.ensures.missing
    (none_begins s c.self.invariant.keeps kept c.limits.ensures.apart c.limits.ensures.arrived c.missing.result low) (ap (λ (t : StreamState). t.front) c.self.view_is ∙ c.requires.none)) in
    let lacks : next_frame c.args.self.now ≡ None = subst (λ t. next_frame t ≡ None) c.self.view_is
    (none_next s c.missing.result c.floor.result c.self.invariant.keeps c.missing.ensures.missing c.floor.ensures c.if-missing-floor.false) in
    task_rests c.args.self.now none lacks (c.is_quiet.ensures quiet)
