-- Octets that are read from a stream's connection.
use Rattle.std.specs.Prelude.{ℕ, ◌≡◌, ◌<◌, ◌≤◌, min, false, if◌then◌else◌, List, [], length, Option, slice_index}
use Rattle.std.specs.Io.KnownBytes.{Consumes, IsAtEnd, Keeps}
use Rattle.iw_ranges.specs.declared.Delivery.TheVariants.{Kept}
use Rattle.iw_stream.specs.declared.intake.Intake.{Intake}
use Rattle.iw_stream.specs.declared.intake.Intake.TheVariants.{Came, End, Full}
use Rattle.iw_stream.specs.declared.intake.TheConstants.{MOST_READ}
use Rattle.iw_stream.specs.declared.intake.TakeLentRefusal.{TakeLentRefusal}
use Rattle.iw_stream.specs.Reading.{number_past, room_ahead, IsNotTaken}
use Rattle.iw_stream.specs.Stream.{StreamState, ended}
use Rattle.iw_endpoint.specs.declared.refusal.CallRefusal.{CallRefusal}
use Rattle.iw_endpoint.specs.declared.refusal.CallRefusal.TheVariants as calls
use Rattle.iw_endpoint.specs.declared.refusal.PlaceRefusal.{PlaceRefusal}
use Rattle.iw_endpoint.specs.declared.refusal.PlaceRefusal.TheVariants as places
use Rattle.iw_endpoint.specs.declared.scrap.TheConstants.{SCRAP}
use Rattle.iw_endpoint.specs.Endpoint.{EndpointState, stream_at, delivery_at, after_deliver}

-- n octets came, and they are what the reader gave: one delivery, past the last octet that came; none is dropped if the stream runs
pub record Took (old new : EndpointState) (number : ℕ) (before after : Option (List ℕ)) (n : ℕ) : Type 0 where
  pub octets : List ℕ
  pub len : length octets ≡ n
  pub given : Consumes before after octets
  pub delivered : new ≡ after_deliver old number (number_past (stream_at old number)) octets
  pub some : 0 < n
  pub most : n ≤ MOST_READ
  pub kept : ended (stream_at old number) ≡ false → delivery_at old number (number_past (stream_at old number)) n ≡ Kept
  pub fits : ended (stream_at old number) ≡ false → n ≤ room_ahead (stream_at old number).arrived

-- what one read leaves of the endpoint, and of the reader
abbrev pub IsRead : EndpointState → EndpointState → ℕ → Option (List ℕ) → Option (List ℕ) → Intake → Type 0
IsRead old new number before after (Came n) = Took old new number before after n
IsRead old new number before after End = (new ≡ old) × Consumes before after [] × IsAtEnd after
IsRead old new number before after Full = (new ≡ old) × Keeps before after × (ended (stream_at old number) ≡ false) × (room_ahead (stream_at old number).arrived ≡ 0)

-- ---- octets that the owner reads, to a place that is lent
-- for how many octets a place is lent, if n are wanted
abbrev pub lendable : StreamState → ℕ → ℕ
lendable s n = min n (if ended s then SCRAP else min MOST_READ (room_ahead s.arrived))

-- why none is: a stream that has ended lacks nothing but memory
abbrev pub IsNotLent : StreamState → PlaceRefusal → Type 0
IsNotLent s places.Full = (ended s ≡ false) × (room_ahead s.arrived ≡ 0)
IsNotLent s places.NoMemory = Unit {0}

abbrev pub IsNotLentAt : EndpointState → ℕ → CallRefusal PlaceRefusal → Type 0
IsNotLentAt e number calls.NoSuchStream = Unit {0}
IsNotLentAt e number (calls.Refused refusal) = IsNotLent (stream_at e number) refusal

-- why n octets are not taken
abbrev pub IsNotTakenAt : EndpointState → ℕ → ℕ → CallRefusal TakeLentRefusal → Type 0
IsNotTakenAt e number n calls.NoSuchStream = Unit {0}
IsNotTakenAt e number n (calls.Refused refusal) = IsNotTaken (stream_at e number) n refusal

-- the n octets that stood in the lent place came: one delivery, past the last octet that came; none is dropped if the stream runs
pub record Counts (old new : EndpointState) (number n : ℕ) : Type 0 where
  pub octets : List ℕ
  pub len : length octets ≡ n
  pub small : (k : ℕ) → slice_index octets k < 256
  pub delivered : new ≡ after_deliver old number (number_past (stream_at old number)) octets
  pub some : 0 < n
  pub most : n ≤ MOST_READ
  pub kept : ended (stream_at old number) ≡ false → delivery_at old number (number_past (stream_at old number)) n ≡ Kept
  pub fits : ended (stream_at old number) ≡ false → n ≤ room_ahead (stream_at old number).arrived
