-- What a call says that takes both a handle's endpoint and a buffer's octets out.
use Rattle.std.proofs.Common.{◌≡◌, List, ℕ, Option, Some, subst}
use Rattle.std.specs.Prelude.{IfSome}
use Rattle.iw_buffer.specs.Octets as buffers
use Rattle.iw_endpoint.specs.Endpoint.{EndpointState}
use Rattle.iw_handle.specs.declared.open_handle.Held.{Held}
use Rattle.iw_handle.specs.declared.refusal.Refusal.{Refusal}
use Rattle.iw_handle.specs.State.{State, refusal_with}

pub refused_with : (P : Refusal → Type 0) (refusal : EndpointState → List ℕ → Option Refusal) (held : Held) (octets : List ℕ) (state : State) (buffer : buffers.State) →
    Some held ≡ state → Some octets ≡ buffer → IfSome (refusal held.endpoint octets) P → IfSome (refusal_with state buffer refusal) P
refused_with P refusal held octets state buffer s b = subst (λ o. IfSome o P) (λ i. refusal_with (s i) (b i) refusal)
