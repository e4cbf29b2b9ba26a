use Rattle.std.proofs.Common.{◌≡◌, ◌∙◌, ℕ, sym, subst, None, Err, length}
use Rattle.std.specs.Prelude.{IfSome, IfNone, IfErr}
use Rattle.std.specs.Option.{option_map}
use Rattle.iw_endpoint.specs.declared.refusal.OpenNextRefusal.TheVariants.{NoMemory}
use Rattle.iw_endpoint.specs.Endpoint.{next_number, next_refusal}
use Rattle.iw_handle.specs.Refusals.{next_reason}
use Rattle.iw_handle.specs.Words.{role_refusal, role_in, config_refusal, config_of}
use Rattle.iw_handle.proofs.Chains.{chain_refused, chain_memory, reason_refused, reason_memory, err_refused}
use Rattle.iw_handle.proofs.stream_opening.open_next.Goals as goal

pub returns-in-Err-clause-refused : goal.returns-in-Err-clause-refused
returns-in-Err-clause-refused c =
    let n = length c.args.private.now in
    let e = c.args.held.now.endpoint in
    let role : c.in_ok-role.role ≡ role_in c.args.role = c.in_ok-role.ensures.role in
    let config : c.in_ok-config.config ≡ config_of c.args.options c.args.private.now = c.in_ok-config.ensures.config in
    let no_role : role_refusal c.args.role ≡ None = sym c.in_ok-role.ensures.refused in
    let no_config : config_refusal (role_in c.args.role) c.args.options n ≡ None = (λ i. config_refusal (sym role i) c.args.options n) ∙ sym c.in_ok-config.ensures.refused in
    let o = next_refusal e (next_number e) c.args.pd (role_in c.args.role) (config_of c.args.options c.args.private.now) in
    let refused : IfSome o (λ r. c.open_next_lined.result ≡ Err r) = subst (λ q. IfSome q (λ r. c.open_next_lined.result ≡ Err r)) (λ i. next_refusal e (next_number e) c.args.pd (role i) (config i)) c.open_next_lined.ensures.refused in
    chain_refused (λ r. Err c.next_reason.result ≡ Err r) (role_refusal c.args.role) (config_refusal (role_in c.args.role) c.args.options n) (option_map next_reason o) no_role no_config
    (err_refused ℕ (option_map next_reason o) c.next_reason.result
    (reason_refused next_reason o c.in-Err.refusal c.open_next_lined.result c.next_reason.result c.in-Err.is c.next_reason.ensures refused))

pub returns-in-Err-clause-memory : goal.returns-in-Err-clause-memory
returns-in-Err-clause-memory c =
    let n = length c.args.private.now in
    let e = c.args.held.now.endpoint in
    let role : c.in_ok-role.role ≡ role_in c.args.role = c.in_ok-role.ensures.role in
    let config : c.in_ok-config.config ≡ config_of c.args.options c.args.private.now = c.in_ok-config.ensures.config in
    let no_role : role_refusal c.args.role ≡ None = sym c.in_ok-role.ensures.refused in
    let no_config : config_refusal (role_in c.args.role) c.args.options n ≡ None = (λ i. config_refusal (sym role i) c.args.options n) ∙ sym c.in_ok-config.ensures.refused in
    let o = next_refusal e (next_number e) c.args.pd (role_in c.args.role) (config_of c.args.options c.args.private.now) in
    let memory : IfNone o (IfErr c.open_next_lined.result (λ x. x ≡ NoMemory)) = subst (λ q. IfNone q (IfErr c.open_next_lined.result (λ x. x ≡ NoMemory))) (λ i. next_refusal e (next_number e) c.args.pd (role i) (config i)) c.open_next_lined.ensures.memory in
    chain_memory (c.next_reason.result ≡ next_reason NoMemory) (role_refusal c.args.role) (config_refusal (role_in c.args.role) c.args.options n) (option_map next_reason o) no_role no_config
    (reason_memory next_reason o c.in-Err.refusal NoMemory c.open_next_lined.result c.next_reason.result c.in-Err.is c.next_reason.ensures memory)
