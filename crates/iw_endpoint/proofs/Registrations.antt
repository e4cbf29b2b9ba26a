-- Why a registration is one of the calls, by cases of its scope and its random bits; and how a domain refuses it.
use Rattle.std.proofs.Common.{◌≡◌, ℕ, List, length, Bool, Option, Some, None, refl, ap}
use Rattle.std.specs.Prelude.{IfSome}
use Rattle.std.specs.Option.{option_map}
use Rattle.iw_memory.specs.declared.rights.Rights.{Rights}
use Rattle.iw_memory.specs.declared.refusal.RegisterRefusal.{RegisterRefusal}
use Rattle.iw_memory.specs.Region.{most_octets}
use Rattle.iw_memory.specs.Table.{register_refusal_within}
use Rattle.iw_endpoint.specs.declared.registration.Scope.{Scope}
use Rattle.iw_endpoint.specs.declared.registration.Scope.TheVariants.{Domain, Stream}
use Rattle.iw_endpoint.specs.declared.refusal.CallRefusal.{CallRefusal}
use Rattle.iw_endpoint.specs.declared.refusal.CallRefusal.TheVariants.{Refused}
use Rattle.iw_endpoint.specs.declared.refusal.LimitRefusal.{LimitRefusal}
use Rattle.iw_endpoint.specs.declared.refusal.LimitRefusal.TheVariants as limits
use Rattle.iw_endpoint.specs.Endpoint.{EndpointState}
use Rattle.iw_endpoint.specs.Isolation.{unless, after}
use Rattle.iw_endpoint.specs.KeptRegions.{registered_form, drawn_form}
use Rattle.iw_endpoint.specs.Registering.{refusal_within, registered_by}
use Rattle.iw_endpoint.specs.Registrations.{call_by, RegistrationsAreCalls}

unless_mapped : {R S : Type 0} (f : R → S) (o : Option R) (e left : EndpointState) → unless o e left ≡ unless (option_map f o) e left
unless_mapped f None e left = refl
unless_mapped f (Some refusal) e left = refl

called_by : (e : EndpointState) (scope : Scope) (base : ℕ) (octets : List ℕ) (kept : Bool) (rights : Rights) (drawn : Option ℕ)
    → after e (call_by scope base octets kept rights drawn) ≡ unless (refusal_within (most_octets kept) e scope base (length octets)) e (registered_by e scope base octets kept rights drawn)
called_by e (Domain pd) base octets kept rights None =
    unless_mapped (λ refusal. Refused (limits.Refused refusal)) (register_refusal_within (most_octets kept) e.table pd base (length octets)) e (registered_form e pd base octets kept rights)
called_by e (Domain pd) base octets kept rights (Some drawn) =
    unless_mapped (λ refusal. Refused (limits.Refused refusal)) (register_refusal_within (most_octets kept) e.table pd base (length octets)) e (drawn_form e pd base octets kept rights drawn)
called_by e (Stream number) base octets kept rights None = refl
called_by e (Stream number) base octets kept rights (Some drawn) = refl

pub registrations_called : RegistrationsAreCalls
registrations_called e r octets kept = called_by e r.scope r.base octets kept r.rights r.drawn

-- a domain's refusal, told as that of a stream's domain is
abbrev pub told : RegisterRefusal → CallRefusal LimitRefusal
told refusal = Refused (limits.Refused refusal)

pub told_first : (U : Type 0) (o : Option RegisterRefusal) (x : RegisterRefusal) → IfSome o (λ r. (x ≡ r) × U) → IfSome (option_map (λ refusal. Refused (limits.Refused refusal)) o) (λ r. (told x ≡ r) × U)
told_first U None x first = tt
told_first U (Some z) x first = (ap told first.0, first.1)
