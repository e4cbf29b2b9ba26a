use Rattle.std.proofs.Common.{◌≡◌, ◌∙◌, ap, subst, true, Err, length}
use Rattle.std.specs.Prelude.{IfSome}
use Rattle.iw_octets.specs.declared.stag.Stag.{Stag}
use Rattle.iw_kept.specs.Octets.{octets_of}
use Rattle.iw_memory.specs.Region.{most_octets}
use Rattle.iw_handle.specs.Registering.{registration_refusal, described_refusal_within}
use Rattle.iw_handle.proofs.Chains.{next_refused, err_paired}
use Rattle.iw_handle.proofs.kept_regions.register_this.Goals as goal

pub returns-in-Err-clause-refused : goal.returns-in-Err-clause-refused
returns-in-Err-clause-refused c =
    let r = c.args.registration.now in
    let o = described_refusal_within (most_octets true) c.args.endpoint.now r (length c.args.memory.now.octets) in
    let same : octets_of c.of_kept-these.result ≡ c.args.memory.now.octets = c.of_kept-these.ensures.octets ∙ ap (λ k. k.octets) c.replace.ensures.value in
    let refused : IfSome o (λ x. (c.in-Err.refusal ≡ x) × (true ≡ true)) = subst (λ q. IfSome q (λ x. (c.in-Err.refusal ≡ x) × (true ≡ true))) (λ i. described_refusal_within (most_octets (c.of_kept-these.ensures.kept i)) c.args.endpoint.now r (length (same i))) c.in-Err.ensures.refused in
    next_refused (λ x. Err c.in-Err.refusal ≡ Err x) (registration_refusal r) o c.in_ok-check_registration.ensures (err_paired Stag (true ≡ true) o c.in-Err.refusal refused)
