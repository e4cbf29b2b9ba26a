use Rattle.std.proofs.Common.{◌≡◌}
use Rattle.iw_handle.specs.Streams.{refusal_to_post, write_of}
use Rattle.iw_handle.proofs.Chains.{refused_is_err, why_err}
use Rattle.iw_handle.proofs.posting.post_write.Goals as goal

pub returns-clause-refused : goal.returns-clause-refused
returns-clause-refused c =
    let copied : c.in-Ok.octets ≡ c.args.octets.now = c.in-Ok.ensures in
    refused_is_err _ _ c.post.result (λ i. refusal_to_post c.args.held.now.endpoint c.args.number (write_of c.args.stag c.args.to (copied i))) c.post.ensures.refused

pub returns-clause-why : goal.returns-clause-why
returns-clause-why c =
    let copied : c.in-Ok.octets ≡ c.args.octets.now = c.in-Ok.ensures in
    why_err _ _ c.post.result (λ i. refusal_to_post c.args.held.now.endpoint c.args.number (write_of c.args.stag c.args.to (copied i))) c.post.ensures.refused c.post.ensures.memory
