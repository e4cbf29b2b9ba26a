use Rattle.iw_endpoint.specs.Endpoint.{stream_of, with_request}
use Rattle.iw_stream.specs.Stream.{post_refusal}
use Rattle.iw_world.proofs.Refusals.{is_refused}
use Rattle.iw_world.proofs.stream.post.Goals as goal

pub returns-in-Err-Refused-default : goal.returns-in-Err-Refused-default
returns-in-Err-Refused-default g c =
    let arm = c.in-Err-Refused-default in
    let r = is_refused (stream_of c.args.endpoint.now c.args.number) (λ s. post_refusal s c.args.request) arm.field-0-0 arm.refusal _ c.post.new.self c.args.endpoint.now (with_request c.args.endpoint.now c.args.number c.args.request)
    c.requires arm.field-0-0-is c.in_default.not-NoMemory arm.ensures.refused arm.ensures.memory arm.ensures.err in
    record { rule = r.told; state = r.kept; failure = tt }
