-- A call gives work to no stream but its own.
use Rattle.std.specs.Prelude.{◌≡◌, ◌≢◌, ℕ, false, Some, Ok}
use Rattle.iw_stream.specs.declared.answer.Step.TheVariants.{Idle}
use Rattle.iw_endpoint.specs.Endpoint.{EndpointState, step_at, has_due}
use Rattle.iw_endpoint.specs.Isolation.{Call, Open, OpenShared, OpenNext, OpenSharedNext, AtStream, after}

-- at the stream of number n work does nothing, and nothing is due
pub record HasNoWork (e : EndpointState) (n : ℕ) : Type 0 where
  pub idle : step_at e n ≡ Ok Idle
  pub due : has_due e n ≡ false

-- the call is not on the stream of number n, and opens none under it
abbrev pub IsElsewhere : ℕ → Call → Type 0
IsElsewhere n (AtStream m call) = n ≢ m
IsElsewhere n (Open m pd role config) = n ≢ m
IsElsewhere n (OpenShared m pd role config) = n ≢ m
IsElsewhere n (OpenNext m pd role config) = Some n ≢ m
IsElsewhere n (OpenSharedNext m pd role config) = Some n ≢ m
IsElsewhere n call = Unit {0}

abbrev pub CallsGiveWorkToTheirOwnStream : Type 0
CallsGiveWorkToTheirOwnStream = (e : EndpointState) (n : ℕ) (call : Call) → HasNoWork e n → IsElsewhere n call → HasNoWork (after e call) n
