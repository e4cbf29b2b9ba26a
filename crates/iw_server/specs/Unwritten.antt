-- Octets on their way from a stream to its socket.
use Rattle.std.specs.Prelude.{◌≡◌, ◌⊎◌, ℕ, List, ◌++◌, Option, false}
use Rattle.std.specs.Io.KnownBytes.{Appends}
use Rattle.iw_endpoint.specs.Endpoint.{EndpointState, emission_at, after_emit}
use Rattle.iw_connection.specs.Filling.{Emits, is_frame}

-- the socket took the front of these octets, and the rest is left: none is lost, and none is written twice
pub record Takes (before after : Option (List ℕ)) (octets left : List ℕ) : Type 0 where
  pub taken : List ℕ
  pub split : octets ≡ taken ++ left
  pub written : Appends before after taken

-- what the stream emitted stands behind what was left of it: whole frames, of which none is lost
pub record Gathers (old : EndpointState) (number : ℕ) (before after : List ℕ) (new : EndpointState) : Type 0 where
  pub n : ℕ
  pub at : EndpointState
  pub emits : Emits old number n before after at
  -- what comes then is no frame
  pub ends : (new ≡ at) ⊎ ((is_frame (emission_at at number) ≡ false) × (new ≡ after_emit at number))
