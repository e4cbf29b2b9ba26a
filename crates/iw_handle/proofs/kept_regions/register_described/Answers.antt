use Rattle.std.proofs.Common.{◌≡◌, ◌∙◌, sym, true, false}
use Rattle.std.specs.Prelude.{IfSome, IfNone}
use Rattle.std.specs.Option.{option_map}
use Rattle.iw_memory.specs.Forms.{octets_refusal}
use Rattle.iw_memory.specs.declared.refusal.RegisterRefusal.TheVariants.{NoMemory}
use Rattle.iw_endpoint.specs.declared.refusal.CallRefusal.TheVariants as call
use Rattle.iw_endpoint.specs.declared.refusal.LimitRefusal.TheVariants as limit
use Rattle.iw_endpoint.specs.KeptRegions.{limited_refusal}
use Rattle.iw_handle.specs.Refusals.{limit_reason, register_reason}
use Rattle.iw_handle.specs.Registering.{is_limited}
use Rattle.iw_handle.specs.Words.{domain_number}
use Rattle.iw_handle.proofs.Chains.{paired_refused_in, paired_memory, chosen, left_over}
use Rattle.iw_handle.proofs.kept_regions.register_described.Goals as goal

pub returns-in-Err-clause-refused : goal.returns-in-Err-clause-refused
returns-in-Err-clause-refused c =
    let r = c.args.registration.now in
    let o = limited_refusal c.args.endpoint.now r.stream r.base c.args.octets in
    let limited : is_limited r ≡ true = sym c.has_flag.ensures ∙ c.if-has_flag.true in
    chosen (λ q. IfSome q (λ refusal. (c.limit_reason.result ≡ refusal) × (true ≡ true))) (is_limited r) (option_map limit_reason o) _ limited
    (paired_refused_in limit_reason (true ≡ true) o c.in-Err.refusal c.limit_reason.result c.limit_reason.ensures c.in-Err.ensures.refused)

pub returns-in-Err-clause-memory : goal.returns-in-Err-clause-memory
returns-in-Err-clause-memory c =
    let r = c.args.registration.now in
    let o = limited_refusal c.args.endpoint.now r.stream r.base c.args.octets in
    let limited : is_limited r ≡ true = sym c.has_flag.ensures ∙ c.if-has_flag.true in
    let none = call.Refused (limit.Refused NoMemory) in
    chosen (λ q. IfNone q (c.limit_reason.result ≡ limit_reason none)) (is_limited r) (option_map limit_reason o) _ limited
    (paired_memory limit_reason o c.in-Err.refusal none c.limit_reason.result c.limit_reason.ensures c.in-Err.ensures.memory)

pub returns-in-Err-register_in-clause-refused : goal.returns-in-Err-register_in-clause-refused
returns-in-Err-register_in-clause-refused c =
    let r = c.args.registration.now in
    let o = octets_refusal c.args.endpoint.now.table (domain_number r.pd) r.base c.args.octets in
    let not : is_limited r ≡ false = sym c.has_flag.ensures ∙ c.if-has_flag.false in
    left_over (λ q. IfSome q (λ refusal. (c.register_reason.result ≡ refusal) × (true ≡ true))) (is_limited r) _ (option_map register_reason o) not
    (paired_refused_in register_reason (true ≡ true) o c.in-Err-register_in.refusal c.register_reason.result c.register_reason.ensures c.in-Err-register_in.ensures.refused)

pub returns-in-Err-register_in-clause-memory : goal.returns-in-Err-register_in-clause-memory
returns-in-Err-register_in-clause-memory c =
    let r = c.args.registration.now in
    let o = octets_refusal c.args.endpoint.now.table (domain_number r.pd) r.base c.args.octets in
    let not : is_limited r ≡ false = sym c.has_flag.ensures ∙ c.if-has_flag.false in
    left_over (λ q. IfNone q (c.register_reason.result ≡ register_reason NoMemory)) (is_limited r) _ (option_map register_reason o) not
    (paired_memory register_reason o c.in-Err-register_in.refusal NoMemory c.register_reason.result c.register_reason.ensures c.in-Err-register_in.ensures.memory)
