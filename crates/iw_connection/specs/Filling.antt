-- Frames that are emitted one after another.
use Rattle.std.specs.Prelude.{◌≡◌, ◌⊎◌, ◌^◌, ℕ, zero, suc, ◌+◌, ◌<◌, ◌≤◌, Bool, true, false, not, nat_lt, if◌then◌else◌, List, [], length, ◌++◌, Option, None, Some, IsSome}
use Rattle.iw_stream.specs.declared.answer.Emission.{Emission}
use Rattle.iw_stream.specs.declared.answer.Emission.TheVariants as emissions
use Rattle.iw_stream.specs.Stream.{BeginsReads, IsNothing, due}
use Rattle.iw_endpoint.specs.Endpoint.{EndpointState, has_stream, stream_at, sent_at, emission_at, emitted_at, after_emit}
use Rattle.iw_connection.specs.declared.filling.Filled.{Filled}
use Rattle.iw_connection.specs.declared.filling.Filled.TheVariants.{All, More, Fault}
use Rattle.iw_connection.specs.declared.working.Refusal.{Refusal}
use Rattle.iw_connection.specs.declared.working.Refusal.TheVariants.{NoSuchStream, TooFar}

abbrev pub is_frame : Emission → Bool
is_frame (emissions.Frame from len) = true
is_frame (emissions.Fetched from len stag to n) = true
is_frame (emissions.Fault fault) = false
is_frame emissions.Nothing = false

-- why nothing is emitted, whatever memory there is
abbrev pub fill_refusal : EndpointState → ℕ → Option Refusal
fill_refusal e number = if not (has_stream e number) then Some NoSuchStream else if nat_lt (2 ^ 62) (sent_at e number) then Some TooFar else None

-- what n emissions of a stream leave
unfoldable pub after_emissions : ℕ → EndpointState → ℕ → EndpointState
after_emissions zero e number = e
after_emissions (suc n) e number = after_emit (after_emissions n e number) number

-- and their octets, in order
unfoldable pub octets_emitted : ℕ → EndpointState → ℕ → List ℕ
octets_emitted zero e number = []
octets_emitted (suc n) e number = octets_emitted n e number ++ emitted_at (after_emissions n e number) number

-- n frames were emitted, and nothing else: no octet of them is lost
pub record Emits (old : EndpointState) (number n : ℕ) (before after : List ℕ) (new : EndpointState) : Type 0 where
  pub frames : (k : ℕ) → k < n → is_frame (emission_at (after_emissions k old number) number) ≡ true
  pub octets : after ≡ before ++ octets_emitted n old number
  pub left : new ≡ after_emissions n old number

-- an emission that is not a frame is where it stops
abbrev pub Stopped : Emission → Option Filled → Type 0
Stopped emission None = is_frame emission ≡ true
Stopped emission (Some More) = ⊥
Stopped emission (Some All) = emission ≡ emissions.Nothing
Stopped emission (Some (Fault fault)) = emission ≡ emissions.Fault fault

-- why one frame more is held back, where `len` octets of a buffer are taken and `end` may be: it would pass them; nothing is emitted, whatever
-- memory there is; there is no room for all of them, so that memory was asked for; or a first Read is begun, for which memory is asked for
abbrev pub IsHeld : EndpointState → ℕ → ℕ → ℕ → ℕ → Type 0
IsHeld at number end len capacity =
    (end < len + length (emitted_at at number)) ⊎ (IsSome (fill_refusal at number) ⊎ ((capacity < end) ⊎ BeginsReads (stream_at at number) (due (stream_at at number))))

-- where it stops: behind a frame, since the next is held back; where nothing is due; or at a fault
abbrev pub Ends : EndpointState → ℕ → EndpointState → Type 0 → Filled → Type 0
Ends at number new held More = (new ≡ at) × held
Ends at number new held All = (emission_at at number ≡ emissions.Nothing) × (new ≡ after_emit at number)
Ends at number new held (Fault fault) = (emission_at at number ≡ emissions.Fault fault) × (new ≡ after_emit at number)

-- n frames are emitted up to there, whole: no more octets than `most`, but for a first frame that is longer
pub record FillsTo (old : EndpointState) (number most : ℕ) (before after : List ℕ) (capacity : ℕ) (new : EndpointState) (n : ℕ) (filled : Filled) : Type 0 where
  pub at : EndpointState
  pub emits : Emits old number n before after at
  pub ends : Ends at number new ((0 < n) × IsHeld at number (length before + most) (length after) capacity) filled
  pub few : (length after ≤ length before + most) ⊎ (n ≡ 1)

-- as many as they are
abbrev pub Fills : EndpointState → ℕ → ℕ → List ℕ → List ℕ → ℕ → EndpointState → Filled → Type 0
Fills old number most before after capacity new filled = (n : ℕ) × FillsTo old number most before after capacity new n filled

-- the next emission has at most `rest` octets, for which a buffer with `len` taken has room; and if it has none, nothing is due
abbrev pub Fits : EndpointState → ℕ → ℕ → ℕ → ℕ → Type 0
Fits at number rest len capacity =
    (length (emitted_at at number) ≤ rest) × (len + length (emitted_at at number) ≤ capacity) × (length (emitted_at at number) ≡ 0 → IsNothing (emission_at at number))
