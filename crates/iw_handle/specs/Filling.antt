-- What a call that fills a buffer with frames does.
use Rattle.std.specs.Prelude.{◌≡◌, ℕ, ◌+◌, ◌-◌, ◌≤◌, List, length, Option, Some, IfSome}
use Rattle.iw_buffer.specs.Octets as buffers
use Rattle.iw_connection.specs.declared.filling.Filled.{Filled}
use Rattle.iw_connection.specs.declared.working.Refusal as connection
use Rattle.iw_connection.specs.declared.working.Refusal.TheVariants as stops
use Rattle.iw_connection.specs.Filling.{FillsTo}
use Rattle.iw_stream.specs.Stream.{BeginsReads, due}
use Rattle.iw_endpoint.specs.Endpoint.{EndpointState, stream_at, emitted_at}
use Rattle.iw_handle.specs.declared.event.Filling.{Filling}
use Rattle.iw_handle.specs.declared.open_handle.Held.{Held}
use Rattle.iw_handle.specs.declared.refusal.Refusal.{Refusal}
use Rattle.iw_handle.specs.declared.refusal.Refusal.TheVariants as refusals
use Rattle.iw_handle.specs.Events.{filling_of}
use Rattle.iw_handle.specs.State.{State, with_endpoint}

abbrev pub stop_reason : connection.Refusal → Refusal
stop_reason stops.NoSuchStream = refusals.NoSuchStream
stop_reason stops.NoMemory = refusals.NoMemory
stop_reason stops.TooFar = refusals.TooFar

-- frames were put behind octets, up to where `fill` of a connection stops, where there is room for so many then, and this is told of
-- them
pub record FillsBy (old : EndpointState) (number most : ℕ) (before after : List ℕ) (capacity : ℕ) (new : EndpointState) (filling : Filling) : Type 0 where
  pub frames : ℕ
  pub filled : Filled
  pub fills : FillsTo old number most before after capacity new frames filled
  pub told : filling ≡ filling_of filled frames (length after - length before)

-- the same at a handle and a buffer, which has so much room then
pub record FillsAt (held : Held) (number most : ℕ) (before : List ℕ) (room : ℕ) (handle : State) (buffer : Option (List ℕ)) (filling : Filling) : Type 0 where
  pub after : List ℕ
  pub new : EndpointState
  pub fills : FillsBy held.endpoint number most before after room new filling
  pub handle_is : handle ≡ Some (with_endpoint held new)
  pub buffer_is : buffer ≡ Some after

-- where a buffer of so many octets has room for what is due behind them, memory is asked for only to begin a first Read
abbrev pub TakesMemoryForReads : EndpointState → ℕ → ℕ → ℕ → Type 0
TakesMemoryForReads e number len room = len + length (emitted_at e number) ≤ room → BeginsReads (stream_at e number) (due (stream_at e number))

-- the same of a handle and a buffer
abbrev pub TakesMemoryForReadsAt : State → ℕ → buffers.State → ℕ → Type 0
TakesMemoryForReadsAt state number buffer room =
    IfSome state (λ held. IfSome buffer (λ octets. TakesMemoryForReads held.endpoint number (length octets) room))
