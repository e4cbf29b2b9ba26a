-- What a stream keeps of its fields, and the limits that callers may rely on.
use Rattle.std.specs.Prelude.{◌≡◌, ◌≢◌, ◌⊎◌, ℕ, ◌+◌, ◌<◌, ◌≤◌, ◌%◌, ◌-◌, ◌^◌, true, false, List, [], ◌∷◌, length, Option, Some, None, IsSome, IfSome}
use Rattle.iw_octets.specs.declared.segment.Segment.{Segment}
use Rattle.iw_octets.specs.declared.segment.Segment.TheVariants.{Tagged, Untagged}
use Rattle.iw_ranges.specs.Arrived.{IsWithinLimits, has_come, window}
use Rattle.iw_fpdu.specs.Frame.{frame_end}
use Rattle.iw_fpdu.specs.Laws.{IsBetween}
use Rattle.std.specs.List.{Contains}
use Rattle.arrayvec.specs.ArrayVec.{ArrayVec}
use Rattle.iw_octets.specs.Segment.{read_segment}
use Rattle.iw_locate.specs.declared.judged.State.{State}
use Rattle.iw_locate.specs.declared.judged.State.TheVariants as states
use Rattle.iw_locate.specs.Records as records
use Rattle.iw_locate.specs.Records.{from_of, max_records}
use Rattle.iw_locate.specs.Free.{front_of, point_of}
use Rattle.iw_untagged.specs.Receiving.{Receiving, HasRoom, HasRoomAt, HoldsLimits, ahead_of, buffer_in}
use Rattle.iw_queues.specs.Completions as completions
use Rattle.iw_queues.specs.Completions.{IsAwaited}
use Rattle.iw_queues.specs.Queue as queues
use Rattle.iw_rdmap.specs.Terminate.{header_len}
use Rattle.iw_reads.specs.declared.reads.Outstanding.{Outstanding}
use Rattle.iw_reads.specs.Outstanding as outstanding
use Rattle.iw_reads.specs.Requests as requests
use Rattle.iw_stream.specs.declared.answer.Step.{Step}
use Rattle.iw_stream.specs.declared.answer.Step.TheVariants.{Done, Flushed, FlushedRecv, Asked, Opened, Closed, Placed, Buffered, Requested, Tried, Passed, Received, Terminated, Fault, Idle}
use Rattle.iw_stream.specs.declared.landing.PlacedFrame.{PlacedFrame}
use Rattle.iw_stream.specs.declared.landing.Turning.{Turning}
use Rattle.iw_stream.specs.declared.landing.Turning.TheVariants as turnings
use Rattle.iw_stream.specs.Ending.{last_word}
use Rattle.iw_stream.specs.Frames.{EarlyRecord, head_in, payload_len}
use Rattle.iw_stream.specs.Starting.{is_open, expecting, first_place_in, first_place_out}
use Rattle.iw_stream.specs.Stream.{StreamState, ended, least_mulpdu, most_mulpdu}
use Rattle.iw_stream.specs.Work.{scene, place_past}

-- a segment of n octets that was placed: a Send's has its buffer, with room for it
abbrev pub HasBuffer : Receiving → ℕ → Option (Segment (List ℕ)) → Type 0
HasBuffer r n None = ⊥
HasBuffer r n (Some (Tagged head payload)) = Unit {0}
HasBuffer r n (Some (Untagged head payload)) = HasRoomAt r (ahead_of r.due head.msn) (head.mo + n)

-- at its turn: if a Send's message is the one that is due, the oldest buffer has room for the segment
abbrev pub HasRoomInTurn : Receiving → ℕ → Option (Segment (List ℕ)) → Type 0
HasRoomInTurn r n None = ⊥
HasRoomInTurn r n (Some (Tagged head payload)) = Unit {0}
HasRoomInTurn r n (Some (Untagged head payload)) = ahead_of r.due head.msn ≡ 0 → HasRoom r (head.mo + n)

-- a Send's message was handed out since the segment was placed: its number lies behind the one that is due. Each turn moves that on by one at most, and the
-- in-order point by one at least, so that it doesn't come round to the message before the frame, whose span begins at `place`, has its turn.
abbrev pub WasHandedOut : Receiving → ℕ → ℕ → Option (Segment (List ℕ)) → Type 0
WasHandedOut r point place None = ⊥
WasHandedOut r point place (Some (Tagged head payload)) = ⊥
WasHandedOut r point place (Some (Untagged head payload)) = 2 ^ 32 - ahead_of r.due head.msn + place ≤ point + window

-- a Send that is complete has its buffer
abbrev pub IsPosted : Turning → Receiving → Type 0
IsPosted turnings.Passed r = Unit {0}
IsPosted (turnings.Completed solicited invalidate) r = IsSome (buffer_in r.source 0)
IsPosted (turnings.Answered ticket) r = Unit {0}

-- the frame at the in-order point: it came whole, and the next one begins where it ends
pub record Stands (s : StreamState) (frame : PlacedFrame) : Type 0 where
  pub begins : frame.start ≡ front_of (scene s)
  pub low : frame.start ≤ s.arrived.floor + 4
  pub whole : header_len frame.header.items ≤ length frame.header.items
  pub header : length frame.header.items ≤ frame.len
  pub on : s.arrived.floor < place_past s frame
  pub near : place_past s frame ≤ s.arrived.floor + 2 ^ 18
  pub come : (p : ℕ) → p < place_past s frame → has_come s.arrived p ≡ true
  pub next : IsBetween (expecting s.start).markers (frame_end (expecting s.start).markers frame.start frame.len)

-- and was placed
pub record IsPlaced (s : StreamState) (frame : PlacedFrame) : Type 0 where
  pub stands : Stands s frame
  pub room : HasRoomInTurn s.receiving (payload_len frame) (head_in frame)

-- no frame that was placed early reaches over the end of this one
abbrev pub NoneReachesOver : StreamState → PlacedFrame → Type 0
NoneReachesOver s frame =
    let end = frame_end (expecting s.start).markers frame.start frame.len in
    (r : EarlyRecord) → Contains s.early r → records.IsPlaced r.state → from_of r < end → r.end ≤ end

-- a segment of a Write or a Read Response
abbrev pub IsTagged : Option (Segment (List ℕ)) → Type 0
IsTagged None = ⊥
IsTagged (Some (Tagged head payload)) = Unit {0}
IsTagged (Some (Untagged head payload)) = ⊥

-- of a frame that was placed early the whole header is kept
pub record HasHeader (len : ℕ) (header : List ℕ) : Type 0 where
  pub whole : header_len header ≤ length header
  pub within : length header ≤ len

abbrev pub KeepsHeader : EarlyRecord → State (ArrayVec ℕ) → Type 0
KeepsHeader r states.Tried = Unit {0}
KeepsHeader r (states.Placed header) = HasHeader r.length header.items

-- and a Send's has its buffer, until its message is handed out
abbrev pub KeepsBuffer : Receiving → ℕ → EarlyRecord → State (ArrayVec ℕ) → Type 0
KeepsBuffer r point x states.Tried = Unit {0}
KeepsBuffer r point x (states.Placed header) =
    HasBuffer r (x.length - length header.items) (read_segment header.items) ⊎ WasHandedOut r point (from_of x) (read_segment header.items)

-- how far the start-up has come
pub record IsStarted (s : StreamState) : Type 0 where
  -- before the stream is open no frame had its turn, or was placed, and no Terminate is due
  pub unopened : is_open s.start ≡ false → (s.arrived.floor ≡ first_place_in s.start) × (s.front ≡ None) × (last_word s.ending ≡ None)
  -- this end's start-up frame is the first that it emits, whole, and the only one before the stream is open
  pub unsent : s.sent < first_place_out s.start → s.sent ≡ 0
  pub alone : is_open s.start ≡ false → s.sent ≤ first_place_out s.start
  -- no Read is outstanding before a frame was sent
  pub unread : s.sent ≤ first_place_out s.start → s.reads ≡ []
  -- the peer's frames stand past its start-up frame
  pub beyond : first_place_in s.start ≤ s.arrived.floor

-- none of the Reads has this ticket
abbrev pub AreOthers : ℕ → List Outstanding → Type 0
AreOthers ticket [] = Unit {0}
AreOthers ticket (read ∷ reads) = (read.ticket ≢ Some ticket) × AreOthers ticket reads

-- a Read that was posted has a ticket that none of the later ones has, and is awaited; nothing is asked of the RTR, which has none
abbrev pub IsPosting : completions.Outstanding → Option ℕ → List Outstanding → Type 0
IsPosting sent None later = Unit {0}
IsPosting sent (Some ticket) later = (ticket < 2 ^ 64) × IsAwaited sent ticket × AreOthers ticket later

-- the Reads were sent and are not finished, each with a ticket of its own
abbrev pub AreAwaited : completions.Outstanding → List Outstanding → Type 0
AreAwaited sent [] = Unit {0}
AreAwaited sent (read ∷ reads) = IsPosting sent read.ticket reads × AreAwaited sent reads

pub record Keeps (s : StreamState) : Type 0 where
  pub started : IsStarted s
  pub between : IsBetween (expecting s.start).markers (s.arrived.floor - first_place_in s.start)
  pub aligned : (s.sent - first_place_out s.start) % 4 ≡ 0
  pub enough : least_mulpdu ≤ s.mulpdu
  pub few : s.mulpdu ≤ most_mulpdu
  pub is_placed : ended s ≡ false → IfSome s.front (IsPlaced s)
  pub clear : ended s ≡ false → IfSome s.front (NoneReachesOver s)
  pub headed : (r : EarlyRecord) → Contains s.early r → KeepsHeader r r.state
  pub buffered : ended s ≡ false → (r : EarlyRecord) → Contains s.early r → KeepsBuffer s.receiving (point_of (scene s)) r r.state
  pub unopened : is_open s.start ≡ false → s.early ≡ []
  pub first : s.queue.sent.first < 2 ^ 64
  pub awaited : ended s ≡ false → AreAwaited s.queue.sent s.reads

-- at most 1,024 islands and 262,144 octets past the in-order point, 4,096 frames judged before their turn, 256 messages of 16,777,216 octets, 256 receive buffers, 16 outstanding
-- Reads each way, a maximum ULPDU of 128 to 64,512 octets
pub record IsWithin (s : StreamState) : Type 0 where
  pub arrived : IsWithinLimits s.arrived
  pub early : length s.early ≤ max_records
  pub queue : queues.IsWithinLimits s.queue
  pub receiving : HoldsLimits s.receiving
  pub reads : outstanding.HoldsLimits s.reads
  pub asked : requests.HoldsLimits s.asked
  pub enough : least_mulpdu ≤ s.mulpdu
  pub few : s.mulpdu ≤ most_mulpdu

-- a message that is handed out lies in its buffer
abbrev pub IsWithinBuffer : Step (List ℕ) → Type 0
IsWithinBuffer (Received buffer len solicited invalidate) = len ≤ length buffer
IsWithinBuffer (Done kind) = Unit {0}
IsWithinBuffer (Flushed kind) = Unit {0}
IsWithinBuffer (FlushedRecv buffer) = Unit {0}
IsWithinBuffer Asked = Unit {0}
IsWithinBuffer (Opened agreed) = Unit {0}
IsWithinBuffer (Closed fault) = Unit {0}
IsWithinBuffer (Placed right stag to len) = Unit {0}
IsWithinBuffer (Buffered msn mo len) = Unit {0}
IsWithinBuffer (Requested size stag to) = Unit {0}
IsWithinBuffer (Tried place) = Unit {0}
IsWithinBuffer Passed = Unit {0}
IsWithinBuffer (Terminated fault) = Unit {0}
IsWithinBuffer (Fault fault) = Unit {0}
IsWithinBuffer Idle = Unit {0}
