use Rattle.std.proofs.Common.{◌≡◌, subst, true, Err, length}
use Rattle.std.specs.Prelude.{IfSome, IfNone}
use Rattle.std.specs.Option.{option_map}
use Rattle.iw_octets.specs.declared.stag.Stag.{Stag}
use Rattle.iw_memory.specs.declared.refusal.RegisterRefusal.TheVariants.{NoMemory}
use Rattle.iw_endpoint.specs.declared.refusal.CallRefusal.TheVariants as call
use Rattle.iw_endpoint.specs.declared.refusal.LimitRefusal.TheVariants as limit
use Rattle.iw_endpoint.specs.Endpoint.{limit_refusal}
use Rattle.iw_handle.specs.Refusals.{limit_reason}
use Rattle.iw_handle.specs.Words.{bits_refusal}
use Rattle.iw_handle.proofs.Chains.{next_refused, next_memory, paired_refused, paired_memory, err_refused}
use Rattle.iw_handle.proofs.stream_regions.register_these.Goals as goal

pub returns-in-Err-clause-refused : goal.returns-in-Err-clause-refused
returns-in-Err-clause-refused c =
    let o = limit_refusal c.args.endpoint.now c.args.number c.args.base (length c.args.octets.now.items) in
    let same : c.replace-these.result ≡ c.args.octets.now = c.replace-these.ensures.value in
    let refused : IfSome o (λ r. (c.in-Err.refusal ≡ r) × (true ≡ true)) = subst (λ q. IfSome q (λ r. (c.in-Err.refusal ≡ r) × (true ≡ true))) (λ i. limit_refusal c.args.endpoint.now c.args.number c.args.base (length (same i).items)) c.in-Err.ensures.refused in
    next_refused (λ r. Err c.limit_reason.result ≡ Err r) (bits_refusal 16 c.args.rights) (option_map limit_reason o) c.in_ok-check_bits.ensures
    (err_refused Stag (option_map limit_reason o) c.limit_reason.result
    (paired_refused limit_reason (true ≡ true) o c.in-Err.refusal c.limit_reason.result c.limit_reason.ensures refused))

pub returns-in-Err-clause-memory : goal.returns-in-Err-clause-memory
returns-in-Err-clause-memory c =
    let o = limit_refusal c.args.endpoint.now c.args.number c.args.base (length c.args.octets.now.items) in
    let same : c.replace-these.result ≡ c.args.octets.now = c.replace-these.ensures.value in
    let none = call.Refused (limit.Refused NoMemory) in
    let memory : IfNone o (c.in-Err.refusal ≡ none) = subst (λ q. IfNone q (c.in-Err.refusal ≡ none)) (λ i. limit_refusal c.args.endpoint.now c.args.number c.args.base (length (same i).items)) c.in-Err.ensures.memory in
    next_memory (c.limit_reason.result ≡ limit_reason none) (bits_refusal 16 c.args.rights) (option_map limit_reason o) c.in_ok-check_bits.ensures
    (paired_memory limit_reason o c.in-Err.refusal none c.limit_reason.result c.limit_reason.ensures memory)
