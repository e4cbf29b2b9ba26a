use Rattle.std.proofs.Common.{◌≡◌}
use Rattle.iw_handle.specs.Streams.{refusal_to_post, send_of}
use Rattle.iw_handle.proofs.Chains.{refused_is_err_with, why_err_with}
use Rattle.iw_handle.proofs.sending.send_shared.Goals as goal

pub returns-clause-refused : goal.returns-clause-refused
returns-clause-refused c =
    let copied : c.in-Ok.shared ≡ c.args.octets = c.in-Ok.ensures.cases in
    refused_is_err_with _ _ _ c.post_payload.result (λ i. refusal_to_post c.args.held.now.endpoint c.args.number (send_of (copied i) c.args.solicited c.args.invalidate)) c.post_payload.ensures.refused

pub returns-clause-why : goal.returns-clause-why
returns-clause-why c =
    let copied : c.in-Ok.shared ≡ c.args.octets = c.in-Ok.ensures.cases in
    why_err_with _ _ _ c.post_payload.result (λ i. refusal_to_post c.args.held.now.endpoint c.args.number (send_of (copied i) c.args.solicited c.args.invalidate)) c.post_payload.ensures.refused c.post_payload.ensures.memory
