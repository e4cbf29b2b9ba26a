-- What calls on a stream answer and change.
use Rattle.std.specs.Prelude.{◌≡◌, ℕ, ◌-◌, ◌^◌, ◌==◌, nat_lt, Bool, false, not, if◌then◌else◌, List, length, replicate}
use Rattle.std.specs.Prelude.{Option, None, Some, Result, Ok, Err}
use Rattle.std.specs.Option.{option_map}
use Rattle.iw_octets.specs.declared.message.Message.TheVariants as messages
use Rattle.iw_octets.specs.declared.payload.ReadRequest.{ReadRequest}
use Rattle.iw_octets.specs.declared.stag.Stag.{Stag}
use Rattle.iw_queues.specs.declared.request.Request.{Request}
use Rattle.iw_queues.specs.declared.request.Request.TheVariants as requests
use Rattle.iw_ranges.specs.Arrived.{BringsOctets}
use Rattle.iw_ranges.specs.declared.Delivery.{Delivery}
use Rattle.iw_ranges.specs.declared.Delivery.TheVariants.{Kept, Dropped}
use Rattle.iw_stream.specs.Stream.{ended, place_of, left_out}
use Rattle.iw_stream.specs.Work.{IsTry, task}
use Rattle.iw_stream.specs.declared.answer.Step.{Step}
use Rattle.iw_stream.specs.declared.answer.Step.TheVariants.{Done, Flushed, FlushedRecv, Asked, Opened, Closed, Placed}
use Rattle.iw_stream.specs.declared.answer.Step.TheVariants.{Buffered, Requested, Tried, Passed, Received, Terminated}
use Rattle.iw_stream.specs.declared.answer.Step.TheVariants.{Fault, Idle}
use Rattle.iw_lines.specs.Handed.{nothing_handed, whole, told_of}
use Rattle.iw_lines.specs.Line.{with_handed, with_posted, oldest_token, without_oldest, counted_dropped, counted_tried}
use Rattle.iw_lines.specs.Lines.{LineTable, line_at, with_line}
use Rattle.iw_endpoint.specs.declared.refusal.NoSuchStream.{NoSuchStream}
use Rattle.iw_endpoint.specs.Endpoint as endpoint
use Rattle.iw_endpoint.specs.Endpoint.{EndpointState, has_stream, stream_at, private_at, sent_at, point_at}
use Rattle.iw_endpoint.specs.Endpoint.{delivery_at, after_deliver, step_at, after_work, emission_at, emitted_at, pool_of, lent_to}
use Rattle.iw_endpoint.specs.Sharing.{bound_at}
use Rattle.iw_codes.specs.declared.numbers.TheConstants as numbers
use Rattle.iw_handle.specs.declared.event.Event.{Event}
use Rattle.iw_handle.specs.declared.event.Progress.{Progress}
use Rattle.iw_handle.specs.declared.open_handle.Held.{Held}
use Rattle.iw_handle.specs.declared.refusal.Refusal.{Refusal}
use Rattle.iw_handle.specs.declared.refusal.Refusal.TheVariants as refusals
use Rattle.iw_handle.specs.Events.{event_at, emitted_of}
use Rattle.iw_handle.specs.Refusals.{open_reason, answer_reason, post_reason, recv_reason, first_reason, size_reason}
use Rattle.iw_handle.specs.State.{State, first_of, stream_refusal, room_refusal, length_refusal, copy_refusal}
use Rattle.iw_handle.specs.Words.{role_refusal, role_in, config_of, private_refusal, config_refusal, bits_refusal, has_bit, invalidated_by}

-- ---- refusals

-- a stream is opened, with the number of a role, options and private data
abbrev pub refusal_to_open : EndpointState → ℕ → ℕ → ℕ → ℕ → List ℕ → Option Refusal
refusal_to_open e number pd role options private =
    first_of (role_refusal role)
    (first_of (config_refusal (role_in role) options (length private))
    (option_map open_reason (endpoint.open_refusal e number pd (role_in role) (config_of options private))))

-- a Request is answered with private data
abbrev pub refusal_to_answer : EndpointState → ℕ → List ℕ → Option Refusal
refusal_to_answer e number private =
    first_of (private_refusal (length private)) (option_map answer_reason (endpoint.answer_refusal e number private))

abbrev pub refusal_to_post : EndpointState → ℕ → Request (List ℕ) → Option Refusal
refusal_to_post e number request = option_map post_reason (endpoint.post_refusal e number request)

-- a receive buffer of `n` octets is posted
abbrev pub refusal_to_lend : EndpointState → ℕ → ℕ → Option Refusal
refusal_to_lend e number n = first_of (length_refusal n) (option_map recv_reason (endpoint.recv_refusal e number))

abbrev pub first_refusal : EndpointState → ℕ → Option Refusal
first_refusal e number = option_map first_reason (endpoint.first_refusal e number)

abbrev pub size_refusal : EndpointState → ℕ → ℕ → Option Refusal
size_refusal e number size = option_map size_reason (endpoint.size_refusal e number size)

-- no stream takes in, or emits, more than 2^62 octets
abbrev pub far_refusal : ℕ → Option Refusal
far_refusal place = if nat_lt (2 ^ 62) place then Some refusals.TooFar else None

abbrev pub refusal_to_work : EndpointState → ℕ → Option Refusal
refusal_to_work e number = first_of (stream_refusal e number) (far_refusal (point_at e number))

abbrev pub refusal_to_go_on : EndpointState → ℕ → Option Refusal
refusal_to_go_on e number = first_of (stream_refusal e number) (far_refusal (sent_at e number))

-- into a buffer of `room` octets
abbrev pub refusal_to_emit : EndpointState → ℕ → ℕ → Option Refusal
refusal_to_emit e number room = first_of (refusal_to_go_on e number) (room_refusal (length (emitted_at e number)) room)

-- ---- octets

abbrev pub if_none : Option Refusal → List ℕ → Option (List ℕ)
if_none None octets = Some octets
if_none (Some r) octets = None

-- what is due, if the stream may emit
abbrev pub due_shown : EndpointState → ℕ → Option (List ℕ)
due_shown e number = if_none (refusal_to_go_on e number) (emitted_at e number)

-- the peer's private data, if there is a stream
abbrev pub private_shown : EndpointState → ℕ → Option (List ℕ)
private_shown e number = if has_stream e number then Some (private_at e number) else None

-- a delivery that was dropped is counted
abbrev pub lines_delivered : Delivery → ℕ → LineTable → LineTable
lines_delivered Kept number lines = lines
lines_delivered Dropped number lines = with_line lines number (counted_dropped (line_at lines number))

-- what a delivery leaves
abbrev pub held_delivered : Held → ℕ → ℕ → List ℕ → Held
held_delivered held number from octets = record held {
  endpoint = after_deliver held.endpoint number from octets;
  lines = lines_delivered (delivery_at held.endpoint number from (length octets)) number held.lines;
}

abbrev pub delivered : State → ℕ → ℕ → List ℕ → State
delivered state number from octets = option_map (λ held. held_delivered held number from octets) state

-- a frame that was judged before its turn is counted
abbrev pub lines_passed : Step (List ℕ) → ℕ → LineTable → LineTable
lines_passed (Tried place) number lines = with_line lines number (counted_tried (line_at lines number))
lines_passed step number lines = lines

-- what waits at a stream after a step: the message, or the buffer of an ended stream, that it hands back; and what is posted,
-- without the message that is done or given up, whose octets wait if it was posted from a buffer. A frame that was judged before
-- its turn is counted
abbrev pub lines_by : Step (List ℕ) → ℕ → LineTable → LineTable
lines_by (Received buffer len solicited invalidate) number lines =
    with_line lines number (with_handed (line_at lines number) (record { buffer = buffer; len = len }))
lines_by (FlushedRecv buffer) number lines = with_line lines number (with_handed (line_at lines number) (whole buffer))
lines_by (Done kind) number lines = with_line lines number (without_oldest (line_at lines number))
lines_by (Flushed kind) number lines = with_line lines number (without_oldest (line_at lines number))
lines_by Asked number lines = lines
lines_by (Opened agreed) number lines = lines
lines_by (Closed fault) number lines = lines
lines_by (Placed right stag to len) number lines = lines
lines_by (Buffered msn mo len) number lines = lines
lines_by (Requested size stag to) number lines = lines
lines_by (Tried place) number lines = with_line lines number (counted_tried (line_at lines number))
lines_by Passed number lines = lines
lines_by (Terminated fault) number lines = lines
lines_by (Fault fault) number lines = lines
lines_by Idle number lines = lines

abbrev pub lines_after : Result (Step (List ℕ)) NoSuchStream → ℕ → LineTable → LineTable
lines_after (Ok step) number lines = lines_by step number lines
lines_after (Err missing) number lines = lines

-- what a step of work leaves
abbrev pub held_worked : Held → ℕ → Held
held_worked held number = record held {
  endpoint = after_work held.endpoint number;
  lines = lines_after (step_at held.endpoint number) number held.lines;
}

abbrev pub worked : State → ℕ → State
worked state number = option_map (λ held. held_worked held number) state

-- what a step of work tells
abbrev pub event_in : Held → ℕ → Event
event_in held number = event_at (oldest_token (line_at held.lines number)) (step_at held.endpoint number)

-- the octets that a stream handed back and that were not fetched yet, if there is such a stream
abbrev pub handed_at : Held → ℕ → Option (List ℕ)
handed_at held number =
    if has_stream held.endpoint number then Some (told_of (line_at held.lines number).handed) else None

abbrev pub handed_in : State → ℕ → Option (List ℕ)
handed_in None number = None
handed_in (Some held) number = handed_at held number

-- why they are not copied to a buffer of `room` octets
abbrev pub refusal_to_fetch : State → ℕ → ℕ → Option Refusal
refusal_to_fetch None number room = Some refusals.Closed
refusal_to_fetch (Some held) number room = copy_refusal (handed_at held number) refusals.NoSuchStream room

-- they were fetched
abbrev pub without_handed : Held → ℕ → Held
without_handed held number =
    record held { lines = with_line held.lines number (with_handed (line_at held.lines number) nothing_handed) }

abbrev pub fetched : State → ℕ → State
fetched state number = option_map (λ held. without_handed held number) state

-- the next call of emit reports something
abbrev pub wants_write : EndpointState → ℕ → Bool
wants_write e number = not ((emitted_of (emission_at e number)).kind == numbers.NOTHING)

-- how far a stream is
abbrev pub progress_at : Held → ℕ → Progress
progress_at held number = let e = held.endpoint in let slow = (line_at held.lines number).slow in record {
  sent = sent_at e number;
  in_order = point_at e number;
  due = length (emitted_at e number);
  bound = bound_at e number;
  dropped = slow.dropped;
  tried = slow.tried;
  reserved_0 = 0;
}

-- ---- what is posted

abbrev pub send_of : List ℕ → Bool → Option Stag → Request (List ℕ)
send_of octets solicited invalidate = requests.Message (messages.Send octets solicited invalidate)

-- the Send that these numbers describe
abbrev pub sent : List ℕ → ℕ → ℕ → Request (List ℕ)
sent octets flags stag = send_of octets (has_bit flags numbers.SOLICITED) (invalidated_by flags stag)

abbrev pub refusal_to_send : EndpointState → ℕ → List ℕ → ℕ → ℕ → Option Refusal
refusal_to_send e number octets flags stag =
    first_of (bits_refusal 4 flags) (refusal_to_post e number (sent octets flags stag))

abbrev pub write_of : Stag → ℕ → List ℕ → Request (List ℕ)
write_of stag to octets = requests.Message (messages.Write stag to octets)

abbrev pub read_of : ReadRequest → Request (List ℕ)
read_of request = requests.Read request

-- a message was posted, which the program knows by this token
abbrev pub held_posted : Held → ℕ → Request (List ℕ) → ℕ → Held
held_posted held number request token = record held {
  endpoint = endpoint.with_request held.endpoint number request;
  lines = with_line held.lines number (with_posted (line_at held.lines number) token);
}

abbrev pub posted : State → ℕ → Request (List ℕ) → ℕ → State
posted state number request token = option_map (λ held. held_posted held number request token) state

abbrev pub zeroes : ℕ → List ℕ
zeroes n = replicate n 0

-- ---- out of memory

-- a frame is judged before its turn
abbrev pub TriesAt : EndpointState → ℕ → Type 0
TriesAt e number = let s = stream_at e number in IsTry (task (lent_to (pool_of e s.domain) s))

-- octets are kept, and one of them is new
abbrev pub BringsAt : EndpointState → ℕ → ℕ → ℕ → Type 0
BringsAt e number from n =
    let s = stream_at e number in (ended s ≡ false) × BringsOctets s.arrived (place_of s from) (n - left_out s from)
