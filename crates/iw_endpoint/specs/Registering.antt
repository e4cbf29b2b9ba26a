-- Registering a region that a struct describes: each registration is one of the calls for it.
use Rattle.std.specs.Prelude.{ℕ, List, Bool, Option, Some, None}
use Rattle.std.specs.Option.{option_map}
use Rattle.iw_octets.specs.declared.stag.Stag.{Stag}
use Rattle.iw_memory.specs.declared.rights.Rights.{Rights}
use Rattle.iw_memory.specs.Region.{most_octets}
use Rattle.iw_memory.specs.Table.{Table, register_refusal_within, next_stag, drawn_stag}
use Rattle.iw_endpoint.specs.declared.refusal.CallRefusal.{CallRefusal}
use Rattle.iw_endpoint.specs.declared.refusal.CallRefusal.TheVariants.{Refused}
use Rattle.iw_endpoint.specs.declared.refusal.LimitRefusal.{LimitRefusal}
use Rattle.iw_endpoint.specs.declared.refusal.LimitRefusal.TheVariants as limits
use Rattle.iw_endpoint.specs.declared.registration.Registration.{Registration}
use Rattle.iw_endpoint.specs.declared.registration.Scope.{Scope}
use Rattle.iw_endpoint.specs.declared.registration.Scope.TheVariants.{Domain, Stream}
use Rattle.iw_endpoint.specs.Endpoint.{EndpointState, stream_at, limit_refusal_within}
use Rattle.iw_endpoint.specs.KeptRegions.{registered_form, limited_form, drawn_form, limited_drawn_form}

-- why n octets are not registered for these streams, if a region may have `most`
abbrev pub refusal_within : ℕ → EndpointState → Scope → ℕ → ℕ → Option (CallRefusal LimitRefusal)
refusal_within most e (Domain pd) base n = option_map (λ refusal. Refused (limits.Refused refusal)) (register_refusal_within most e.table pd base n)
refusal_within most e (Stream number) base n = limit_refusal_within most e number base n

-- why n octets are not registered so, whose memory a program keeps or not
abbrev pub registration_refusal : EndpointState → Registration → Bool → ℕ → Option (CallRefusal LimitRefusal)
registration_refusal e r kept n = refusal_within (most_octets kept) e r.scope r.base n

-- the domain of the region
abbrev pub domain_of : EndpointState → Scope → ℕ
domain_of e (Domain pd) = pd
domain_of e (Stream number) = (stream_at e number).domain

-- the STag that is given there: the next, or the one that is drawn
abbrev pub stag_by : Table → ℕ → Option ℕ → Stag
stag_by table pd None = next_stag table pd
stag_by table pd (Some drawn) = drawn_stag table pd drawn

abbrev pub stag_as : EndpointState → Registration → Stag
stag_as e r = stag_by e.table (domain_of e r.scope) r.drawn

-- the octets, whose memory a program keeps or not, are a region of the domain
abbrev pub registered_within : EndpointState → ℕ → ℕ → List ℕ → Bool → Rights → Option ℕ → EndpointState
registered_within e pd base octets kept rights None = registered_form e pd base octets kept rights
registered_within e pd base octets kept rights (Some drawn) = drawn_form e pd base octets kept rights drawn

-- or one of the stream alone
abbrev pub registered_for : EndpointState → ℕ → ℕ → List ℕ → Bool → Rights → Option ℕ → EndpointState
registered_for e number base octets kept rights None = limited_form e number base octets kept rights
registered_for e number base octets kept rights (Some drawn) = limited_drawn_form e number base octets kept rights drawn

abbrev pub registered_by : EndpointState → Scope → ℕ → List ℕ → Bool → Rights → Option ℕ → EndpointState
registered_by e (Domain pd) base octets kept rights drawn = registered_within e pd base octets kept rights drawn
registered_by e (Stream number) base octets kept rights drawn = registered_for e number base octets kept rights drawn

abbrev pub registered_as : EndpointState → Registration → List ℕ → Bool → EndpointState
registered_as e r octets kept = registered_by e r.scope r.base octets kept r.rights r.drawn
