-- Messages that are posted from a buffer.
use Rattle.std.specs.Prelude.{◌≡◌, ◌⊎◌, ℕ, List, [], Option, Some, IfSome}
use Rattle.std.specs.Option.{option_map}
use Rattle.iw_buffer.specs.Octets as buffers
use Rattle.iw_queues.specs.declared.request.Request.{Request}
use Rattle.iw_lines.specs.Line.{with_payload, with_sent}
use Rattle.iw_lines.specs.Lines.{line_at, with_line}
use Rattle.iw_endpoint.specs.Endpoint.{with_request}
use Rattle.iw_handle.specs.declared.open_handle.Held.{Held}
use Rattle.iw_handle.specs.State.{State}

-- a message was posted from a buffer, which had these octets; the program knows it by this token
abbrev pub held_posted_from : Held → ℕ → Request (List ℕ) → ℕ → List ℕ → Held
held_posted_from held number request token octets = record held {
  endpoint = with_request held.endpoint number request;
  lines = with_line held.lines number (with_payload (line_at held.lines number) token octets);
}

abbrev pub posted_from : State → ℕ → Request (List ℕ) → ℕ → List ℕ → State
posted_from state number request token octets = option_map (λ held. held_posted_from held number request token octets) state

-- the octets of the message that was done or given up last at a stream, if it was posted from a buffer
abbrev pub sent_in : State → ℕ → Option (List ℕ)
sent_in state number = option_map (λ held. (line_at held.lines number).sent) state

-- these octets wait at the stream in their place
abbrev pub held_with_sent : Held → ℕ → List ℕ → Held
held_with_sent held number octets =
    record held { lines = with_line held.lines number (with_sent (line_at held.lines number) octets) }

abbrev pub with_sent_in : State → ℕ → List ℕ → State
with_sent_in state number octets = option_map (λ held. held_with_sent held number octets) state

-- nothing was posted, and the octets are where they were; or they wait at the stream, since there is no memory to move them
-- back
abbrev pub HasKept : Type 0 → Held → ℕ → List ℕ → Held → List ℕ → Type 0
HasKept is_out_of_memory held number octets after left =
    ((after ≡ held) × (left ≡ octets))
    ⊎ (is_out_of_memory × (after ≡ held_with_sent held number octets) × (left ≡ []))

-- the same of a handle and a buffer
abbrev pub HasKeptIn : Type 0 → State → ℕ → buffers.State → State → buffers.State → Type 0
HasKeptIn is_out_of_memory state number buffer after left =
    ((after ≡ state) × (left ≡ buffer))
    ⊎ (is_out_of_memory × IfSome buffer (λ octets. after ≡ with_sent_in state number octets) × (left ≡ Some []))
