use Rattle.std.proofs.Common.{◌≡◌, subst, true, Err, length}
use Rattle.std.specs.Prelude.{IfSome}
use Rattle.iw_octets.specs.declared.stag.Stag.{Stag}
use Rattle.iw_handle.specs.Registering.{registration_refusal, described_refusal}
use Rattle.iw_handle.proofs.Chains.{next_refused, err_paired}
use Rattle.iw_handle.proofs.registering.register_these.Goals as goal

pub returns-in-Err-clause-refused : goal.returns-in-Err-clause-refused
returns-in-Err-clause-refused c =
    let r = c.args.registration.now in
    let o = described_refusal c.args.endpoint.now r (length c.args.octets.now.items) in
    let same : c.replace-these.result ≡ c.args.octets.now = c.replace-these.ensures.value in
    let refused : IfSome o (λ x. (c.in-Err.refusal ≡ x) × (true ≡ true)) = subst (λ q. IfSome q (λ x. (c.in-Err.refusal ≡ x) × (true ≡ true))) (λ i. described_refusal c.args.endpoint.now r (length (same i).items)) c.in-Err.ensures.refused in
    next_refused (λ x. Err c.in-Err.refusal ≡ Err x) (registration_refusal r) o c.in_ok-check_registration.ensures (err_paired Stag (true ≡ true) o c.in-Err.refusal refused)
