-- A registration is one of the calls of the lists that the laws are over.
use Rattle.std.specs.Prelude.{◌≡◌, ℕ, List, length, Bool, Option, Some, None}
use Rattle.iw_memory.specs.declared.rights.Rights.{Rights}
use Rattle.iw_endpoint.specs.declared.registration.Registration.{Registration}
use Rattle.iw_endpoint.specs.declared.registration.Scope.{Scope}
use Rattle.iw_endpoint.specs.declared.registration.Scope.TheVariants.{Domain, Stream}
use Rattle.iw_endpoint.specs.Endpoint.{EndpointState}
use Rattle.iw_endpoint.specs.Isolation.{Call, RegisterOctets, RegisterOctetsDrawn, RegisterOctetsFor, RegisterOctetsDrawnFor, AtStream, unless, after}
use Rattle.iw_endpoint.specs.Registering.{registration_refusal, registered_as}

-- the call that these fields choose, of octets whose memory a program keeps or not
abbrev pub call_by : Scope → ℕ → List ℕ → Bool → Rights → Option ℕ → Call
call_by (Domain pd) base octets kept rights None = RegisterOctets pd base octets kept rights
call_by (Domain pd) base octets kept rights (Some drawn) = RegisterOctetsDrawn pd base octets kept rights drawn
call_by (Stream number) base octets kept rights None = AtStream number (RegisterOctetsFor base octets kept rights)
call_by (Stream number) base octets kept rights (Some drawn) = AtStream number (RegisterOctetsDrawnFor base octets kept rights drawn)

abbrev pub call_of : Registration → List ℕ → Bool → Call
call_of r octets kept = call_by r.scope r.base octets kept r.rights r.drawn

-- that call leaves what the registration leaves
abbrev pub RegistrationsAreCalls : Type 0
RegistrationsAreCalls =
    (e : EndpointState) (r : Registration) (octets : List ℕ) (kept : Bool)
    → after e (call_of r octets kept) ≡ unless (registration_refusal e r kept (length octets)) e (registered_as e r octets kept)
