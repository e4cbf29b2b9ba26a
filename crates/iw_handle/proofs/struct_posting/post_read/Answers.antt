use Rattle.std.proofs.Common.{◌≡◌}
use Rattle.iw_handle.specs.Streams.{refusal_to_post, read_of}
use Rattle.iw_handle.specs.Words.{read_request}
use Rattle.iw_handle.proofs.Chains.{refused_is_err, why_err}
use Rattle.iw_handle.proofs.struct_posting.post_read.Goals as goal

pub returns-clause-refused : goal.returns-clause-refused
returns-clause-refused c =
    let p = c.args.posting.now in
    let asked : c.read_request-request.result ≡ read_request p.sink p.sink_to p.len p.stag p.to = c.read_request-request.ensures in
    refused_is_err _ _ c.post.result (λ i. refusal_to_post c.args.held.now.endpoint c.args.number (read_of (asked i))) c.post.ensures.refused

pub returns-clause-why : goal.returns-clause-why
returns-clause-why c =
    let p = c.args.posting.now in
    let asked : c.read_request-request.result ≡ read_request p.sink p.sink_to p.len p.stag p.to = c.read_request-request.ensures in
    why_err _ _ c.post.result (λ i. refusal_to_post c.args.held.now.endpoint c.args.number (read_of (asked i))) c.post.ensures.refused c.post.ensures.memory
