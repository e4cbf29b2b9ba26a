use Rattle.std.proofs.Common.{◌≡◌, length}
use Rattle.iw_handle.specs.StreamRegions.{refusal_to_limit}
use Rattle.iw_handle.proofs.Chains.{refused_is_err, why_err}
use Rattle.iw_handle.proofs.stream_regions.register_copy.Goals as goal

pub returns-clause-refused : goal.returns-clause-refused
returns-clause-refused c =
    let copied : c.in-Ok.copy.items ≡ c.args.octets.now = c.in-Ok.ensures.items in
    refused_is_err _ _ c.register_these.result (λ i. refusal_to_limit c.args.endpoint.now c.args.number c.args.base (length (copied i)) c.args.rights) c.register_these.ensures.refused

pub returns-clause-why : goal.returns-clause-why
returns-clause-why c =
    let copied : c.in-Ok.copy.items ≡ c.args.octets.now = c.in-Ok.ensures.items in
    why_err _ _ c.register_these.result (λ i. refusal_to_limit c.args.endpoint.now c.args.number c.args.base (length (copied i)) c.args.rights) c.register_these.ensures.refused c.register_these.ensures.memory
