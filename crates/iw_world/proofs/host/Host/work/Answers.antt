-- What was seen is what the step left, and its stream is the one that was worked at.
use Rattle.std.proofs.Common.{◌≡◌, true, ap, ◌∙◌}
use Rattle.iw_stream.specs.Work.{work_step}
use Rattle.iw_endpoint.specs.Endpoint.{EndpointState, has_stream, after_work}
use Rattle.iw_laws.specs.Rules.{EndState, seen_at}
use Rattle.iw_world.proofs.Steps.{step_seen, still_there}
use Rattle.iw_world.proofs.host.Host.work.Goals as goal

pub returns-clause-rule : goal.returns-clause-rule
returns-clause-rule g c =
    let e : EndpointState = c.args.self.now.endpoint in
    let same : c.self.inside.endpoint ≡ e = ap (λ (s : EndState). s.endpoint) c.self.view_is in
    let step_is = c.in_ok-step.ensures.step ∙ (λ i. work_step (same i).table (seen_at (same i) c.args.number)) in
    let left_is = c.in_ok-step.ensures.state ∙ (λ i. after_work (same i) c.args.number) in
    (c.requires.there, step_seen e c.work.new.endpoint c.args.number c.in_ok-step.step c.in_ok-seen.seen c.requires.there step_is left_is c.in_ok-seen.ensures)

pub seen-requires : goal.seen-requires
seen-requires g c =
    let there : has_stream c.self.inside.endpoint c.args.number ≡ true = ap (λ (s : EndState). has_stream s.endpoint c.args.number) c.self.view_is ∙ c.requires.there in
    still_there c.self.inside.endpoint c.work.new.endpoint c.args.number there c.in_ok-step.ensures.state
