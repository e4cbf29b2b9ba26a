-- The state of a stream, and what each call but work leaves of it.
use Rattle.std.specs.Prelude.{ℕ, ◌≡◌, ◌+◌, ◌-◌, ◌==◌, nat_lt, nat_le, Bool, true, false, not, ◌&&◌, ◌||◌, List, [], length, drop, if◌then◌else◌, Option, Some, None, Result, Ok, Err}
use Rattle.std.specs.Option.{option_map, option_map_or}
use Rattle.iw_octets.specs.declared.constants.TheConstants.{MAX_ULPDU}
use Rattle.iw_octets.specs.declared.fault.Fault.{Fault}
use Rattle.iw_octets.specs.declared.segment.Segment.{Segment}
use Rattle.iw_octets.specs.declared.segment.Segment.TheVariants.{Tagged, Untagged}
use Rattle.iw_octets.specs.Segment.{segment_octets}
use Rattle.iw_memory.specs.declared.peer.Peer.{Peer}
use Rattle.iw_memory.specs.Table.{Table}
use Rattle.iw_ranges.specs.declared.Delivery.{Delivery}
use Rattle.iw_ranges.specs.declared.Delivery.TheVariants.{Kept, Dropped}
use Rattle.iw_ranges.specs.Arrived.{Arrived, nothing, delivery, taken_in, emptied}
use Rattle.iw_ranges.specs.Nearest.{place_near, before_start}
use Rattle.iw_fpdu.specs.Frame.{frame_octets}
use Rattle.iw_untagged.specs.declared.queue.BufferRefusal.{BufferRefusal}
use Rattle.iw_untagged.specs.declared.queue.BufferRefusal.TheVariants as buffer_refusals
use Rattle.iw_untagged.specs.Receiving.{Receiving, nothing_received, sharing, is_shared, lent, full_refusal}
use Rattle.iw_untagged.specs.Receiving as receiving
use Rattle.iw_queues.specs.declared.request.Refusal.{Refusal}
use Rattle.iw_queues.specs.declared.request.Refusal.TheVariants as refusals
use Rattle.iw_queues.specs.declared.request.Request.{Request}
use Rattle.iw_queues.specs.declared.request.Request.TheVariants as requests
use Rattle.iw_queues.specs.declared.send_queue.Part.{Part}
use Rattle.iw_queues.specs.Queue.{Queue, nothing_posted, posted, next_part, part_sent}
use Rattle.iw_queues.specs.Queue as queues
use Rattle.iw_queues.specs.Segments.{Numbers, first_numbers, segment_of, numbers_after, numbers_beyond}
use Rattle.iw_rdmap.specs.Laws.{terminate_head}
use Rattle.iw_reads.specs.declared.reads.Outstanding.{Outstanding}
use Rattle.iw_reads.specs.declared.response.ResponsePart.{ResponsePart}
use Rattle.iw_reads.specs.Outstanding.{asked_for}
use Rattle.iw_reads.specs.Requests.{Requested, nothing_asked, response_part, part_fetched}
use Rattle.iw_reads.specs.Response.{fetch_fault, fetched_octets}
use Rattle.arrayvec.specs.ArrayVec.{ArrayVec}
use Rattle.iw_startup.specs.declared.config.Config.{Config}
use Rattle.iw_startup.specs.declared.enhanced.Rtr.{Rtr}
use Rattle.iw_startup.specs.declared.side.Reply.TheVariants.{Accept, Reject}
use Rattle.iw_stream.specs.declared.answer.AnswerRefusal.{AnswerRefusal}
use Rattle.iw_stream.specs.declared.answer.AnswerRefusal.TheVariants.{NotAsked}
use Rattle.iw_stream.specs.declared.answer.Role.{Role}
use Rattle.iw_stream.specs.declared.answer.Emission.{Emission}
use Rattle.iw_stream.specs.declared.answer.Emission.TheVariants as emissions
use Rattle.iw_stream.specs.declared.answer.FirstRefusal.{FirstRefusal}
use Rattle.iw_stream.specs.declared.answer.FirstRefusal.TheVariants.{Late}
use Rattle.iw_stream.specs.declared.answer.PostRefusal.{PostRefusal}
use Rattle.iw_stream.specs.declared.answer.PostRefusal.TheVariants as post_refusals
use Rattle.iw_stream.specs.declared.answer.RecvRefusal.{RecvRefusal}
use Rattle.iw_stream.specs.declared.answer.RecvRefusal.TheVariants as recv_refusals
use Rattle.iw_stream.specs.declared.answer.SizeRefusal.{SizeRefusal}
use Rattle.iw_stream.specs.declared.answer.SizeRefusal.TheVariants.{BadSize}
use Rattle.iw_stream.specs.declared.answer.Standing.{Standing}
use Rattle.iw_stream.specs.declared.answer.Standing.TheVariants as standings
use Rattle.iw_stream.specs.declared.landing.PlacedFrame.{PlacedFrame}
use Rattle.iw_stream.specs.declared.ending.Ending.{Ending}
use Rattle.iw_stream.specs.declared.ending.Ending.TheVariants.{Runs, Over, Broken}
use Rattle.iw_stream.specs.Ending.{has_ended, is_broken, last_word, with_last_word}
use Rattle.iw_stream.specs.Frames.{EarlyRecord}
use Rattle.iw_stream.specs.Judging.{fault_or}
use Rattle.iw_stream.specs.Rtr.{rtr_message, rtr_segment}
use Rattle.iw_stream.specs.Terminating.{terminate_fetched}
use Rattle.iw_stream.specs.Starting.{StartState, start_at_first, is_open, sending, most_reads_in, rtr_in, own_frame, first_place_in, first_place_out, is_responder, is_asked, answered_with}
use Rattle.iw_stream.specs.Starting as starting

pub record StreamState : Type 0 where
  pub domain : ℕ
  pub number : Option ℕ  -- its number in its domain, if it was given one
  pub start : StartState  -- how far its start-up is
  pub mulpdu : ℕ  -- the maximum ULPDU: how many octets one that is sent has at most
  pub queue : Queue  -- what was posted and not handed out
  pub numbers : Numbers  -- the message sequence numbers of the next messages
  pub sent : ℕ  -- octets emitted
  pub receiving : Receiving
  pub reads : List Outstanding  -- the Reads whose requests were emitted and whose responses have not come whole, oldest first
  pub asked : Requested  -- the peer's Read Requests
  pub first : ℕ  -- the sequence number of the peer's first octet
  pub answered : Bool  -- octets were delivered, and kept or dropped
  pub arrived : Arrived  -- what came, from the in-order point on
  pub front : Option PlacedFrame  -- the frame at the in-order point, once it was placed there
  pub early : List EarlyRecord  -- the frames that were judged before their turn, lowest first
  pub ending : Ending

-- a stream of a domain to which nothing has happened
abbrev pub opened : ℕ → Role → Config → StreamState
opened domain role config = record {
  domain = domain;
  number = None;
  start = start_at_first role config;
  mulpdu = 1400;
  queue = nothing_posted;
  numbers = first_numbers;
  sent = 0;
  receiving = nothing_received;
  reads = [];
  asked = nothing_asked;
  first = 0;
  answered = false;
  arrived = nothing;
  front = None;
  early = [];
  ending = Runs;
}

-- one whose receive buffers come from a pool that other streams share
abbrev pub opened_shared : ℕ → Role → Config → StreamState
opened_shared domain role config = record (opened domain role config) { receiving = sharing }

-- a number is given to it
abbrev pub numbered : StreamState → ℕ → StreamState
numbered s number = record s { number = Some number }

-- who asks for the use of regions on it
abbrev pub peer_of : StreamState → Peer
peer_of s = record { domain = s.domain; stream = s.number }

abbrev pub shares : StreamState → Bool
shares s = is_shared s.receiving

-- its pool is lent to it; one that shares none does not see it
abbrev pub sees : StreamState → List (List ℕ) → StreamState
sees s pool = record s { receiving = lent s.receiving pool }

-- ---- the end

abbrev pub ended : StreamState → Bool
ended s = has_ended s.ending

abbrev pub standing_of : StreamState → Standing
standing_of s = if ended s then standings.Ended else if is_open s.start then standings.Open else standings.Starting

-- a responder sends no frame before a frame of the peer had its turn (RFC 5044 7.1.2): the in-order point lies where those begin
abbrev pub is_silent : StartState → Arrived → Bool
is_silent start arrived = is_responder start && (arrived.floor == first_place_in start)

abbrev pub keeps_silent : StreamState → Bool
keeps_silent s = is_silent s.start s.arrived

-- what came and had no turn is given up, with what is kept of frames: a stream that has ended never looks at it again. The in-order point stays.
abbrev pub quits : StreamState → StreamState
quits s = record s { arrived = emptied s.arrived; front = None; early = [] }

-- it has ended, and no Terminate is due
abbrev pub ends : StreamState → StreamState
ends s = record (quits s) { ending = Over None }

-- the end by a fault: a Terminate with this payload is due (RFC 5040 5.4), but of a responder that keeps silent
abbrev pub over : StartState → Arrived → List ℕ → Ending
over start arrived payload = if is_silent start arrived then Over None else with_last_word payload

abbrev pub ends_by : StreamState → List ℕ → StreamState
ends_by s payload = record (quits s) { ending = over s.start s.arrived payload }

-- its link broke
abbrev pub breaks : StreamState → StreamState
breaks s = record (quits s) { ending = Broken }

-- ---- a responder's answer

-- the user may answer the Request
abbrev pub may_answer : StreamState → Bool
may_answer s = not (ended s) && is_asked s.start

-- why an answer with this private data is refused, if it is
abbrev pub answer_refusal : StreamState → List ℕ → Option AnswerRefusal
answer_refusal s private = if ended s then Some NotAsked else starting.answer_refusal s.start private

abbrev pub accepted : StreamState → ArrayVec ℕ → StreamState
accepted s private = record s { start = answered_with s.start (Accept private) }

-- the stream has ended; the Reply is still to be emitted
abbrev pub rejected : StreamState → ArrayVec ℕ → StreamState
rejected s private = record (quits s) { start = answered_with s.start (Reject private); ending = Over None }

-- ---- emission

-- this end's start-up frame is to be emitted
abbrev pub owes_frame : StreamState → Bool
owes_frame s = not (is_broken s.ending) && nat_lt s.sent (first_place_out s.start)

-- no frame may be sent: the stream has ended or is not open, or a responder keeps silent
abbrev pub is_mute : StreamState → Bool
is_mute s = ended s || (not (is_open s.start) || keeps_silent s)

abbrev pub is_read : Request (List ℕ) → Bool
is_read (requests.Message m) = false
is_read (requests.Read request) = true

-- the RTR is to be sent: this end has sent no frame yet
abbrev pub rtr_due : StreamState → Option Rtr
rtr_due s = if s.sent == first_place_out s.start then rtr_in s.start else None

-- a Read is not begun while as many are outstanding as may be, and all after it wait too
abbrev pub may_go : ℕ → List Outstanding → Option (Part (Request (List ℕ))) → Option (Part (Request (List ℕ)))
may_go most reads None = None
may_go most reads (Some part) = if is_read part.message && nat_le most (length reads) then None else Some part

-- the part of what was posted that is to be sent next
abbrev pub part_due : StreamState → Option (Part (Request (List ℕ)))
part_due s = may_go (most_reads_in s.start) s.reads (next_part s.queue s.mulpdu)

-- the part of a response that is to be sent next, the peer's oldest request first; none while a message is begun, since the parts of two
-- messages never mingle
abbrev pub response_due : StreamState → Option ResponsePart
response_due s = if nat_lt 0 s.queue.offset then None else response_part s.asked s.mulpdu

-- what is to be emitted next
pub data Due : Type 0 where
  StartUp : Due  -- this end's start-up frame
  LastWord : List ℕ → Due  -- the Terminate with this payload
  Ready : Rtr → Due  -- the frame of the RTR
  Response : ResponsePart → Due  -- the frame of a part of a response, if its source is not denied
  NextPart : Part (Request (List ℕ)) → Due  -- the frame of a part of what was posted
  NoneDue : Due

-- of responses and messages
abbrev pub message_due : StreamState → Due
message_due s = option_map_or Response (response_due s) (option_map_or NextPart (part_due s) NoneDue)

abbrev pub due : StreamState → Due
due s =
    if owes_frame s then StartUp
    else option_map_or LastWord (last_word s.ending)
    (if is_mute s then NoneDue else option_map_or Ready (rtr_due s) (message_due s))

abbrev pub is_none_due : Due → Bool
is_none_due StartUp = false
is_none_due (LastWord payload) = false
is_none_due (Ready rtr) = false
is_none_due (Response part) = false
is_none_due (NextPart part) = false
is_none_due NoneDue = true

-- the frame that carries a segment, at the place that is next
abbrev pub frame_of : StreamState → Segment (List ℕ) → List ℕ
frame_of s segment = frame_octets (sending s.start) (s.sent - first_place_out s.start) (segment_octets segment)

-- a Terminate: its queue's first message, in one segment (RFC 5040 5.4)
abbrev pub frame_of_terminate : StreamState → List ℕ → List ℕ
frame_of_terminate s payload = frame_of s (Untagged terminate_head payload)

abbrev pub frame_of_rtr : StreamState → Rtr → List ℕ
frame_of_rtr s rtr = frame_of s (rtr_segment s.numbers rtr)

abbrev pub frame_of_part : StreamState → Part (Request (List ℕ)) → List ℕ
frame_of_part s part = frame_of s (segment_of s.numbers part)

-- the frame of a part of a response, whose octets are fetched as it is sent, or why they are denied
abbrev pub frame_fetched : Table → StreamState → ResponsePart → Result (List ℕ) Fault
frame_fetched table s part = fault_or (fetch_fault table (peer_of s) part) (frame_of s (Tagged part.head (fetched_octets table part)))

-- its octets
abbrev pub octets_fetched : Result (List ℕ) Fault → List ℕ
octets_fetched (Ok frame) = frame
octets_fetched (Err fault) = []

abbrev pub octets_due : Table → StreamState → Due → List ℕ
octets_due table s StartUp = own_frame s.start
octets_due table s (LastWord payload) = frame_of_terminate s payload
octets_due table s (Ready rtr) = frame_of_rtr s rtr
octets_due table s (Response part) = octets_fetched (frame_fetched table s part)
octets_due table s (NextPart part) = frame_of_part s part
octets_due table s NoneDue = []

abbrev pub emission_fetched : StreamState → ResponsePart → Result (List ℕ) Fault → Emission
emission_fetched s part (Ok frame) = emissions.Fetched s.sent (length frame) part.stag part.to part.n
emission_fetched s part (Err fault) = emissions.Fault fault

-- no frame
abbrev pub IsNothing : Emission → Type 0
IsNothing (emissions.Frame from len) = ⊥
IsNothing (emissions.Fetched from len stag to n) = ⊥
IsNothing (emissions.Fault fault) = Unit {0}
IsNothing emissions.Nothing = Unit {0}

abbrev pub emission_due : Table → StreamState → Due → Emission
emission_due table s StartUp = emissions.Frame s.sent (length (own_frame s.start))
emission_due table s (LastWord payload) = emissions.Frame s.sent (length (frame_of_terminate s payload))
emission_due table s (Ready rtr) = emissions.Frame s.sent (length (frame_of_rtr s rtr))
emission_due table s (Response part) = emission_fetched s part (frame_fetched table s part)
emission_due table s (NextPart part) = emissions.Frame s.sent (length (frame_of_part s part))
emission_due table s NoneDue = emissions.Nothing

-- a Read is outstanding once its request was sent
abbrev pub reads_with : List Outstanding → Option ℕ → Request (List ℕ) → List Outstanding
reads_with reads ticket (requests.Message m) = reads
reads_with reads ticket (requests.Read request) = asked_for reads ticket request

abbrev pub left_fetched : StreamState → ResponsePart → Result (List ℕ) Fault → StreamState
left_fetched s part (Ok frame) = record s { asked = part_fetched s.asked (Some part); sent = s.sent + length frame }
left_fetched s part (Err fault) = ends_by s (terminate_fetched s.asked fault)

abbrev pub left_due : Table → StreamState → Due → StreamState
left_due table s StartUp = record s { sent = s.sent + length (own_frame s.start) }
left_due table s (LastWord payload) = record s { sent = s.sent + length (frame_of_terminate s payload); ending = Over None }
left_due table s (Ready rtr) = record s {
  numbers = numbers_after s.numbers (rtr_message rtr);
  sent = s.sent + length (frame_of_rtr s rtr);
  reads = reads_with s.reads None (rtr_message rtr);
}
left_due table s (Response part) = left_fetched s part (frame_fetched table s part)
left_due table s (NextPart part) = record s {
  queue = part_sent s.queue (Some part);
  numbers = numbers_beyond s.numbers part;
  sent = s.sent + length (frame_of_part s part);
  reads = reads_with s.reads (Some part.ticket) part.message;
}
left_due table s NoneDue = s

-- a Read is begun while none is outstanding: memory for all that may be is taken then
abbrev pub BeginsReads : StreamState → Due → Type 0
BeginsReads s StartUp = ⊥
BeginsReads s (LastWord payload) = ⊥
BeginsReads s (Ready rtr) = (is_read (rtr_message rtr) ≡ true) × (s.reads ≡ [])
BeginsReads s (Response part) = ⊥
BeginsReads s (NextPart part) = (is_read part.message ≡ true) × (s.reads ≡ [])
BeginsReads s NoneDue = ⊥

-- what a call to emit appends, answers and leaves
abbrev pub emitted : Table → StreamState → List ℕ
emitted table s = octets_due table s (due s)

abbrev pub emission_of : Table → StreamState → Emission
emission_of table s = emission_due table s (due s)

abbrev pub after_emit : Table → StreamState → StreamState
after_emit table s = left_due table s (due s)

-- ---- delivery

-- why the number of the peer's first octet is not set: octets were delivered before
abbrev pub first_refusal : StreamState → Option FirstRefusal
first_refusal s = if s.answered then Some Late else None

abbrev pub with_first : StreamState → ℕ → StreamState
with_first s number = record s { first = number }

-- the place of the first octet of a delivery, by its sequence number: the one nearest to the in-order point, or 0 if that lies before the stream
abbrev pub place_of : StreamState → ℕ → ℕ
place_of s number = place_near number s.first s.arrived.floor

-- how many of its octets lie before the stream then: they are left out
abbrev pub left_out : StreamState → ℕ → ℕ
left_out s number = before_start number s.first s.arrived.floor

-- what becomes of n octets, the first of which has this number
abbrev pub delivery_of : StreamState → ℕ → ℕ → Delivery
delivery_of s number n = if ended s then Dropped else delivery s.arrived (place_of s number) (n - left_out s number)

-- of an octet that came before, the first copy stays
abbrev pub after_deliver : StreamState → ℕ → List ℕ → Delivery → StreamState
after_deliver s number octets Kept = record s { arrived = taken_in s.arrived (place_of s number) (drop (left_out s number) octets); answered = true }
after_deliver s number octets Dropped = record s { answered = true }

-- ---- postings

abbrev pub post_refusal_of : Refusal → PostRefusal
post_refusal_of refusals.Full = post_refusals.Full
post_refusal_of refusals.TooLong = post_refusals.TooLong
post_refusal_of refusals.NoMemory = post_refusals.NoMemory

-- why a posting is refused, if it is
abbrev pub post_refusal : StreamState → Request (List ℕ) → Option PostRefusal
post_refusal s request =
    if ended s || not (is_open s.start) then Some post_refusals.NotOpen
    else if is_read request && (most_reads_in s.start == 0) then Some post_refusals.NoReads
    else option_map post_refusal_of (queues.post_refusal s.queue request)

abbrev pub with_request : StreamState → Request (List ℕ) → StreamState
with_request s request = record s { queue = posted s.queue request }

abbrev pub recv_refusal_of : BufferRefusal → RecvRefusal
recv_refusal_of buffer_refusals.Full = recv_refusals.Full
recv_refusal_of buffer_refusals.NoMemory = recv_refusals.NoMemory

-- why a receive buffer is refused, if it is
abbrev pub recv_refusal : StreamState → Option RecvRefusal
recv_refusal s =
    if shares s then Some recv_refusals.Shared
    else if ended s then Some recv_refusals.Ended
    else option_map recv_refusal_of (full_refusal s.receiving)

abbrev pub with_buffer : StreamState → List ℕ → StreamState
with_buffer s buffer = record s { receiving = receiving.with_buffer s.receiving buffer }

-- ---- sizes

-- the maximum ULPDU that is sent lies between these (this endpoint's limits)
abbrev pub least_mulpdu : ℕ
least_mulpdu = 128

abbrev pub most_mulpdu : ℕ
most_mulpdu = MAX_ULPDU

-- why a ULPDU size is refused, if it is
abbrev pub size_refusal : ℕ → Option SizeRefusal
size_refusal size = if nat_lt size least_mulpdu then Some BadSize else if nat_lt most_mulpdu size then Some BadSize else None

-- it holds for every part that is cut from then on
abbrev pub with_mulpdu : StreamState → ℕ → StreamState
with_mulpdu s size = record s { mulpdu = size }
