-- The answers of `work` and `emit`, in numbers.
use Rattle.std.specs.Prelude.{ℕ, ◌+◌, Bool, if◌then◌else◌, List, length, Option, None, Some, is_some, unwrap_or, Result, Ok, Err}
use Rattle.std.specs.Option.{option_map_or}
use Rattle.iw_octets.specs.declared.stag.Stag.{Stag}
use Rattle.iw_octets.specs.declared.fault.Fault as faults
use Rattle.iw_octets.specs.Stag.{number_of}
use Rattle.iw_memory.specs.declared.region.Facts.{Facts}
use Rattle.iw_memory.specs.declared.rights.Rights.{Rights}
use Rattle.iw_memory.specs.declared.rights.Right.{Right}
use Rattle.iw_memory.specs.declared.rights.Right.TheVariants as rights
use Rattle.iw_queues.specs.declared.request.Kind.{Kind}
use Rattle.iw_queues.specs.declared.request.Kind.TheVariants as kinds
use Rattle.iw_ranges.specs.declared.Delivery.{Delivery}
use Rattle.iw_ranges.specs.declared.Delivery.TheVariants as deliveries
use Rattle.iw_startup.specs.declared.config.Agreed.{Agreed}
use Rattle.iw_startup.specs.declared.config.PeerOptions.{PeerOptions}
use Rattle.iw_startup.specs.declared.enhanced.EnhancedData.{EnhancedData}
use Rattle.iw_startup.specs.declared.enhanced.Rtr.{Rtr}
use Rattle.iw_startup.specs.declared.enhanced.Rtr.TheVariants as rtrs
use Rattle.iw_startup.specs.declared.progress.StartupFault.{StartupFault}
use Rattle.iw_startup.specs.declared.progress.StartupFault.TheVariants.{BadKey, BadRev, BadLength, Rejected}
use Rattle.iw_stream.specs.declared.answer.Emission as emission
use Rattle.iw_stream.specs.declared.answer.Emission.TheVariants as emissions
use Rattle.iw_stream.specs.declared.answer.Standing.{Standing}
use Rattle.iw_stream.specs.declared.answer.Standing.TheVariants as standings
use Rattle.iw_stream.specs.declared.answer.Step.{Step}
use Rattle.iw_stream.specs.declared.answer.Step.TheVariants.{Done, Flushed, FlushedRecv, Asked, Opened, Closed, Placed}
use Rattle.iw_stream.specs.declared.answer.Step.TheVariants.{Buffered, Requested, Tried, Passed, Received, Terminated}
use Rattle.iw_stream.specs.declared.answer.Step.TheVariants.{Fault, Idle}
use Rattle.iw_endpoint.specs.declared.refusal.NoSuchStream.{NoSuchStream}
use Rattle.iw_codes.specs.declared.numbers.TheConstants as numbers
use Rattle.iw_handle.specs.declared.event.Event.{Event}
use Rattle.iw_handle.specs.declared.event.Emitted.{Emitted}
use Rattle.iw_handle.specs.declared.event.Filling.{Filling}
use Rattle.iw_connection.specs.declared.filling.Filled.{Filled}
use Rattle.iw_connection.specs.declared.filling.Filled.TheVariants as fills
use Rattle.iw_handle.specs.declared.event.RegionFacts.{RegionFacts}
use Rattle.iw_handle.specs.declared.event.Told.{Told}

abbrev pub kind_number : Kind → ℕ
kind_number kinds.Write = numbers.MESSAGE_WRITE
kind_number kinds.Send = numbers.MESSAGE_SEND
kind_number kinds.Read = numbers.MESSAGE_READ

-- as in a sum of rights
abbrev pub right_number : Right → ℕ
right_number rights.Write = numbers.WRITE
right_number rights.Read = numbers.READ
right_number rights.Sink = numbers.SINK

abbrev pub startup_number : StartupFault → ℕ
startup_number BadKey = numbers.BAD_KEY
startup_number BadRev = numbers.BAD_REVISION
startup_number BadLength = numbers.BAD_LENGTH
startup_number Rejected = numbers.REJECTED

-- a power of two if this holds, else 0
abbrev pub flag : Bool → ℕ → ℕ
flag on value = if on then value else 0

-- the RTR that this end sends first, if it sends one
abbrev pub rtr_flag : Option Rtr → ℕ
rtr_flag None = 0
rtr_flag (Some rtrs.Write) = numbers.RTR_WRITE
rtr_flag (Some rtrs.Read) = numbers.RTR_READ

-- this end sends markers, the peer sends markers, CRCs are used, and the RTR
abbrev pub agreed_flags : Agreed → ℕ
agreed_flags agreed =
    flag agreed.send_markers numbers.SENDS_MARKERS + flag agreed.expect_markers numbers.EXPECTS_MARKERS
    + flag agreed.crc numbers.USES_CRC + rtr_flag agreed.rtr

-- the Send is solicited, it invalidated a region
abbrev pub received_flags : Bool → Option Stag → ℕ
received_flags solicited invalidate = flag solicited numbers.SOLICITED + flag (is_some invalidate) numbers.INVALIDATES

abbrev pub stag_number : Option Stag → ℕ
stag_number invalidate = option_map_or number_of invalidate 0

-- whether octets are kept
abbrev pub kept_number : Delivery → ℕ
kept_number deliveries.Kept = 1
kept_number deliveries.Dropped = 0

-- nothing was done
abbrev pub no_event : Event
no_event = record {
  kind = numbers.IDLE;
  message = 0;
  right = 0;
  flags = 0;
  stag = 0;
  msn = 0;
  mo = 0;
  layer = 0;
  error = 0;
  code = 0;
  to = 0;
  len = 0;
  token = 0;
  reserved_0 = 0;
  reserved_1 = 0;
  reserved_2 = 0;
  reserved_3 = 0;
}

-- the event of a message that was posted with this token
abbrev pub message_event : ℕ → Kind → ℕ → Event
message_event kind message token = record no_event { kind = kind; message = kind_number message; token = token }

abbrev pub fault_event : ℕ → faults.Fault → Event
fault_event kind fault = record no_event { kind = kind; layer = fault.layer; error = fault.kind; code = fault.code }

-- a Send of `len` octets is complete
abbrev pub received_event : ℕ → Bool → Option Stag → Event
received_event len solicited invalidate = record no_event {
  kind = numbers.RECEIVED;
  flags = received_flags solicited invalidate;
  stag = stag_number invalidate;
  len = len;
}

-- the message that was posted first has the token `oldest`
abbrev pub event_of : ℕ → Step (List ℕ) → Event
event_of oldest Idle = no_event
event_of oldest (Done message) = message_event numbers.DONE message oldest
event_of oldest (Flushed message) = message_event numbers.FLUSHED message oldest
event_of oldest (FlushedRecv buffer) = record no_event { kind = numbers.FLUSHED_RECV; len = length buffer }
event_of oldest Asked = record no_event { kind = numbers.ASKED }
event_of oldest (Opened agreed) = record no_event { kind = numbers.OPENED; flags = agreed_flags agreed; len = agreed.ord }
event_of oldest (Closed fault) = record no_event { kind = numbers.CLOSED_BY_PEER; code = startup_number fault }
event_of oldest (Placed right stag to len) =
    record no_event { kind = numbers.PLACED; right = right_number right; stag = number_of stag; to = to; len = len }
event_of oldest (Buffered msn mo len) = record no_event { kind = numbers.BUFFERED; msn = msn; mo = mo; len = len }
event_of oldest (Requested size stag to) = record no_event { kind = numbers.REQUESTED; stag = number_of stag; to = to; len = size }
event_of oldest Passed = record no_event { kind = numbers.PASSED }
event_of oldest (Received buffer len solicited invalidate) = received_event len solicited invalidate
event_of oldest (Terminated fault) = fault_event numbers.TERMINATED fault
event_of oldest (Fault fault) = fault_event numbers.FAULT fault
event_of oldest (Tried place) = record no_event { kind = numbers.TRIED; to = place }

abbrev pub event_at : ℕ → Result (Step (List ℕ)) NoSuchStream → Event
event_at oldest (Ok step) = event_of oldest step
event_at oldest (Err missing) = no_event

-- nothing was due
abbrev pub none_emitted : Emitted
none_emitted = record {
  kind = numbers.NOTHING;
  stag = 0;
  layer = 0;
  error = 0;
  code = 0;
  spare = 0;
  from = 0;
  to = 0;
  n = 0;
  reserved_0 = 0;
  reserved_1 = 0;
  reserved_2 = 0;
  reserved_3 = 0;
}

abbrev pub emitted_of : emission.Emission → Emitted
emitted_of emissions.Nothing = none_emitted
emitted_of (emissions.Frame from len) = record none_emitted { kind = numbers.FRAME; from = from }
emitted_of (emissions.Fetched from len stag to n) =
    record none_emitted { kind = numbers.FETCHED; from = from; stag = number_of stag; to = to; n = n }
emitted_of (emissions.Fault fault) =
    record none_emitted { kind = numbers.DENIED; layer = fault.layer; error = fault.kind; code = fault.code }

-- so much was appended, and nothing more is due
abbrev none_filled : ℕ → ℕ → Filling
none_filled frames n = record {
  kind = numbers.FILL_ALL;
  layer = 0;
  error = 0;
  code = 0;
  frames = frames;
  n = n;
  reserved_0 = 0;
  reserved_1 = 0;
  reserved_2 = 0;
  reserved_3 = 0;
}

-- where a call of `fill` stopped, which appended n octets in so many frames
abbrev pub filling_of : Filled → ℕ → ℕ → Filling
filling_of fills.All frames n = none_filled frames n
filling_of fills.More frames n = record (none_filled frames n) { kind = numbers.FILL_MORE }
filling_of (fills.Fault fault) frames n = record (none_filled frames n) { kind = numbers.FILL_DENIED; layer = fault.layer; error = fault.kind; code = fault.code }

-- octets are due
abbrev pub IsFrame : emission.Emission → Type 0
IsFrame emissions.Nothing = ⊥
IsFrame (emissions.Frame from len) = Unit {0}
IsFrame (emissions.Fetched from len stag to n) = Unit {0}
IsFrame (emissions.Fault fault) = ⊥

-- the facts of a region
abbrev pub rights_number : Rights → ℕ
rights_number rights =
    flag rights.write numbers.WRITE + flag rights.read numbers.READ + flag rights.sink numbers.SINK + flag rights.invalidate numbers.INVALIDATE

abbrev pub facts_of : Facts → RegionFacts
facts_of facts = record {
  base = facts.base;
  len = facts.len;
  rights = rights_number facts.rights;
  valid = flag facts.valid 1;
  limited = flag (is_some facts.bound) 1;
  stream = unwrap_or facts.bound 0;
}

-- a start-up frame that was not read told nothing
abbrev pub nothing_told : Told
nothing_told = record {
  revision = 0;
  markers = 0;
  crc = 0;
  has_word = 0;
  ird = 0;
  ord = 0;
  peer_to_peer = 0;
  rtr_send = 0;
  rtr_write = 0;
  rtr_read = 0;
}

-- by the word of IRD and ORD, if it has one
abbrev pub word_told : Option EnhancedData → Told
word_told None = nothing_told
word_told (Some word) = record nothing_told {
  has_word = 1;
  ird = word.ird;
  ord = word.ord;
  peer_to_peer = flag word.peer_to_peer 1;
  rtr_send = flag word.rtr_send 1;
  rtr_write = flag word.rtr_write 1;
  rtr_read = flag word.rtr_read 1;
}

-- what the peer told in its start-up frame: what it asks for, and the word
abbrev pub peer_told : Option PeerOptions → Option EnhancedData → Told
peer_told None word = word_told word
peer_told (Some options) word =
    record (word_told word) { revision = options.revision; markers = flag options.markers 1; crc = flag options.crc 1 }

-- starting, open or ended
abbrev pub state_number : Standing → ℕ
state_number standings.Starting = numbers.STATE_STARTING
state_number standings.Open = numbers.STATE_OPEN
state_number standings.Ended = numbers.STATE_ENDED
