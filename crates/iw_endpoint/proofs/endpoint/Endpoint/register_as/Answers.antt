use Rattle.std.proofs.Common.{◌≡◌, length, true, sym, subst}
use Rattle.std.specs.Prelude.{IfSome}
use Rattle.iw_kept.specs.Octets.{octets_of, is_kept}
use Rattle.iw_memory.specs.Forms.{octets_refusal}
use Rattle.iw_memory.specs.Region.{most_octets}
use Rattle.iw_endpoint.specs.Registering.{refusal_within}
use Rattle.iw_endpoint.proofs.Registrations.{told, told_first}
use Rattle.iw_endpoint.proofs.endpoint.Endpoint.register_as.Goals as goal

pub returns-in-Err-clause-refused : goal.returns-in-Err-clause-refused
returns-in-Err-clause-refused g c =
    let e = c.args.self.now in let base = c.args.registration.base in let n = length (octets_of c.args.octets) in
    subst (λ scope. IfSome (refusal_within (most_octets (is_kept c.args.octets)) e scope base n) (λ refusal. (told c.in-Err.refusal ≡ refusal) × (true ≡ true))) (sym c.in-Domain.is)
    (told_first (true ≡ true) (octets_refusal e.table c.in-Domain.pd base c.args.octets) c.in-Err.refusal c.in-Err.ensures.refused)
