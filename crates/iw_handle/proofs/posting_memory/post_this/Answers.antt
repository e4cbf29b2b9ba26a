use Rattle.std.proofs.Common.{◌≡◌, ◌∙◌, ap, subst, true, Err}
use Rattle.std.specs.Prelude.{IfSome}
use Rattle.iw_queues.specs.Outgoing.{request_of as request_in}
use Rattle.iw_handle.specs.Structs.{posting_from_refusal, request_of}
use Rattle.iw_handle.specs.Streams.{refusal_to_post}
use Rattle.iw_handle.proofs.Chains.{next_refused, err_paired}
use Rattle.iw_handle.proofs.posting_memory.post_this.Goals as goal

pub returns-in-Err-clause-refused : goal.returns-in-Err-clause-refused
returns-in-Err-clause-refused c =
    let p = c.args.posting.now in
    let o = refusal_to_post c.args.held.now.endpoint c.args.number (request_of p c.args.memory.now.octets) in
    let same : request_in c.message_of-message.result ≡ request_of p c.args.memory.now.octets =
    c.message_of-message.ensures ∙ ap (request_of p) (c.into_octets-octets.ensures ∙ ap (λ k. k.octets) c.replace.ensures.value) in
    let refused : IfSome o (λ x. (c.in-Err.refusal ≡ x) × (true ≡ true)) =
    subst (λ q. IfSome q (λ x. (c.in-Err.refusal ≡ x) × (true ≡ true))) (λ i. refusal_to_post c.args.held.now.endpoint c.args.number (same i)) c.in-Err.ensures.refused in
    next_refused (λ x. Err c.in-Err.refusal ≡ Err x) (posting_from_refusal p) o c.in_ok-check_posting_from.ensures (err_paired (Unit {0}) (true ≡ true) o c.in-Err.refusal refused)
