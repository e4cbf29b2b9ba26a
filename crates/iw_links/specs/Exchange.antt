-- What a connection does at an endpoint, from its opening to its end.
use Rattle.std.specs.Prelude.{◌≡◌, ℕ, ◌+◌, ◌≤◌, List, [], ◌∷◌, ◌++◌, length, replicate, take, ◌⊎◌, Option, None, Some, Bool, true, false, not, is_some, if◌then◌else◌, Ok}
use Rattle.std.specs.Option.{option_map}
use Rattle.std.specs.Io.KnownBytes.{Appends, Consumes, IsAtEnd}
use Rattle.arrayvec.specs.ArrayVec.{ArrayVec}
use Rattle.iw_memory.specs.declared.rights.Rights.{Rights}
use Rattle.iw_memory.specs.Table.{next_stag}
use Rattle.iw_octets.specs.declared.message.Message.TheVariants as messages
use Rattle.iw_octets.specs.declared.stag.Stag.{Stag}
use Rattle.iw_octets.specs.Stag.{spelled, stag_at}
use Rattle.iw_queues.specs.declared.request.Request.{Request}
use Rattle.iw_queues.specs.declared.request.Request.TheVariants as requests
use Rattle.iw_ranges.specs.declared.Delivery.TheVariants.{Kept}
use Rattle.iw_startup.specs.declared.config.Config.{Config}
use Rattle.iw_startup.specs.declared.config.Establishment.{Establishment}
use Rattle.iw_startup.specs.declared.config.Establishment.TheVariants as establishments
use Rattle.iw_stream.specs.declared.answer.Emission.{Emission}
use Rattle.iw_stream.specs.declared.answer.Emission.TheVariants as emissions
use Rattle.iw_stream.specs.declared.answer.Role.{Role}
use Rattle.iw_stream.specs.declared.answer.Role.TheVariants as roles
use Rattle.iw_stream.specs.declared.answer.Step.{Step}
use Rattle.iw_stream.specs.declared.answer.Step.TheVariants as steps
use Rattle.iw_stream.specs.Reading.{number_past}
use Rattle.iw_stream.specs.Stream.{ended}
use Rattle.iw_endpoint.specs.Endpoint.{EndpointState, fresh, added, registered, opened, octets_of, with_buffer, accepted, delivery_at, after_deliver, step_at, after_work, with_request, emission_at, emitted_at, after_emit, private_at, broken, has_stream, stream_at}
use Rattle.iw_links.specs.declared.exchange.Terms.{Terms}
use Rattle.iw_links.specs.declared.report.Ended.{Ended}
use Rattle.iw_links.specs.declared.report.Ended.TheVariants as ends
use Rattle.iw_links.specs.declared.report.Report.{Report}

-- an endpoint of one domain, with no region and no stream
abbrev pub with_domain : EndpointState
with_domain = added fresh 1

-- peers may write
abbrev pub writable : Rights
writable = record { write = true; read = false; sink = false; invalidate = false }

-- n zero octets
unfoldable pub zero_octets : ℕ → List ℕ
zero_octets count = replicate count 0

-- the endpoint that listens, and its region, which all its connections share
abbrev pub listening : EndpointState
listening = registered with_domain 1 0 (zero_octets 65536) writable

abbrev pub shared_region : Stag
shared_region = next_stag with_domain.table 1

-- ---- the report of a connection

abbrev pub nothing_told : Report
nothing_told = record { received = None; ended = None; broken = false }

abbrev pub is_completed : Report → Bool
is_completed report =
    if is_some report.received then if is_some report.ended then false else not report.broken else false

-- so far, while its link has not broken
pub record Told : Type 0 where
  pub received : Option (List ℕ)
  pub ended : Option Ended

abbrev pub report_of : Told → Bool → Report
report_of told broke = record { received = told.received; ended = told.ended; broken = broke }

abbrev pub with_received : Told → List ℕ → Told
with_received told octets = record { received = Some octets; ended = told.ended }

abbrev pub with_end : Told → Ended → Told
with_end told end = record { received = told.received; ended = Some end }

-- a step of work adds to it
abbrev pub told_by : Told → Step (List ℕ) → Told
told_by told (steps.Done kind) = told
told_by told (steps.Flushed kind) = told
told_by told (steps.FlushedRecv buffer) = told
told_by told steps.Asked = told
told_by told (steps.Opened agreed) = told
told_by told (steps.Closed fault) = with_end told (ends.Closed fault)
told_by told (steps.Placed right stag to len) = told
told_by told (steps.Buffered msn mo len) = told
told_by told (steps.Requested size stag to) = told
told_by told (steps.Tried place) = told
told_by told steps.Passed = told
told_by told (steps.Received buffer len solicited invalidate) = with_received told (take len buffer)
told_by told (steps.Terminated fault) = with_end told (ends.Terminated fault)
told_by told (steps.Fault fault) = with_end told (ends.Fault fault)
told_by told steps.Idle = told

-- and so does what was emitted
abbrev pub told_of : Told → Emission → Told
told_of told (emissions.Frame from len) = told
told_of told (emissions.Fetched from len stag to n) = told
told_of told (emissions.Fault fault) = with_end told (ends.Fault fault)
told_of told emissions.Nothing = told

-- ---- what is to be done

-- what an end does on a connection
pub data Part : Type 0 where
  Serves : Stag → Part  -- peers may write into this region; the front of it is sent back
  Asks : List ℕ → Part  -- this text is written into the region that the peer names, and sent

pub record Plan : Type 0 where
  pub number : ℕ  -- of its stream
  pub config : Config  -- what its start-up frame asks for
  pub part : Part

abbrev pub role_of : Part → Role
role_of (Serves region) = roles.Responder
role_of (Asks text) = roles.Initiator

-- what a start-up frame asks for by these terms; it has no private data
abbrev pub config_of : Terms → Config
config_of terms = record {
  markers = terms.markers;
  crc = terms.crc;
  establishment = terms.establishment;
  private = record { items = [] };
}

abbrev pub plan_for : Terms → Part → Plan
plan_for terms part = record { number = terms.number; config = config_of terms; part = part }

-- the private data with which a Request is accepted: the region's STag
abbrev pub private_of : Part → List ℕ
private_of (Serves region) = spelled region
private_of (Asks text) = []

-- how many messages are posted, if the stream does not end before
abbrev pub most_posted : Part → ℕ
most_posted (Serves region) = 1
most_posted (Asks text) = 2

-- the one receive buffer
abbrev pub receive_buffer : List ℕ
receive_buffer = zero_octets 4096

abbrev pub send_of : List ℕ → Request (List ℕ)
send_of octets = requests.Message (messages.Send octets false None)

abbrev pub write_of : Stag → List ℕ → Request (List ℕ)
write_of stag octets = requests.Message (messages.Write stag 0 octets)

-- What is done next. Octets are read in `Listening` alone: then there is no work to do, and nothing to emit.
pub data Phase : Type 0 where
  Lending : Phase  -- the receive buffer is to be posted
  Listening : Phase  -- octets may come, or a message be posted
  Working : Phase  -- there may be work to do
  Accepting : Phase  -- the peer's Request is to be accepted
  Speaking : Phase  -- there may be something to emit
  Closing : Phase  -- the peer's start-up frame was at fault: nothing more is done, and the connection closes

-- the MPA Request of an asking end is written before the first read
abbrev pub after_lending : Part → Phase
after_lending (Serves region) = Listening
after_lending (Asks text) = Speaking

abbrev pub after_step : Step (List ℕ) → Phase
after_step (steps.Done kind) = Working
after_step (steps.Flushed kind) = Working
after_step (steps.FlushedRecv buffer) = Working
after_step steps.Asked = Accepting
after_step (steps.Opened agreed) = Working
after_step (steps.Closed fault) = Closing
after_step (steps.Placed right stag to len) = Working
after_step (steps.Buffered msn mo len) = Working
after_step (steps.Requested size stag to) = Working
after_step (steps.Tried place) = Working
after_step steps.Passed = Working
after_step (steps.Received buffer len solicited invalidate) = Working
after_step (steps.Terminated fault) = Working
after_step (steps.Fault fault) = Working
after_step steps.Idle = Speaking

abbrev pub after_emission : Emission → Phase
after_emission (emissions.Frame from len) = Speaking
after_emission (emissions.Fetched from len stag to n) = Speaking
after_emission (emissions.Fault fault) = Speaking
after_emission emissions.Nothing = Listening

-- ---- what was done

-- one call at the endpoint
pub data Event : Type 0 where
  Lent : List ℕ → Event
  Accepted : ArrayVec ℕ → Event
  Delivered : List ℕ → Event
  Worked : Step (List ℕ) → Event
  Posted : Request (List ℕ) → Event
  Emitted : Emission → List ℕ → Event

-- The state of a connection: the endpoint, the report so far, what is done next, and how many messages were posted.
pub record Standing : Type 0 where
  pub endpoint : EndpointState
  pub told : Told
  pub phase : Phase
  pub posted : ℕ

-- right after its stream was opened
abbrev pub started : Plan → EndpointState → Standing
started p e = record {
  endpoint = opened e p.number 1 (role_of p.part) p.config;
  told = record { received = None; ended = None };
  phase = Lending;
  posted = 0;
}

-- Whether a serving end answers once the Send was received, or at the end of the peer's output. Peers that open with an
-- enhanced frame may not be able to end their output alone.
abbrev pub answers_at_once : Establishment → Bool
answers_at_once establishments.Plain = false
answers_at_once establishments.Enhanced = true
answers_at_once establishments.PeerToPeer = true

-- a serving end reads nothing after it has answered; one that answers at once reads nothing while an answer is due
abbrev pub MayAwait : Bool → Told → ℕ → Type 0
MayAwait false told posted = posted ≡ 0
MayAwait true told posted = (told.received ≡ None) ⊎ (is_some told.ended ≡ true) ⊎ (posted ≡ 1)

abbrev pub Awaits : Part → Bool → Told → ℕ → Type 0
Awaits (Serves region) at_once told posted = MayAwait at_once told posted
Awaits (Asks text) at_once told posted = posted ≤ 2

abbrev pub MayHear : Plan → Told → ℕ → Type 0
MayHear p told posted = Awaits p.part (answers_at_once p.config.establishment) told posted

-- The answer to the Send that was received: as many octets as that had, the first of the region as it then stands.
pub record IsAnswer (region : Stag) (s : Standing) (request : Request (List ℕ)) : Type 0 where
  pub phase : s.phase ≡ Listening
  pub first : s.posted ≡ 0
  pub goes_on : s.told.ended ≡ None
  pub received : List ℕ
  pub got : s.told.received ≡ Some received
  pub octets : List ℕ
  pub front : option_map (take (length received)) (octets_of s.endpoint region) ≡ Some octets
  pub is : request ≡ send_of octets

-- a Write of the text to the region that the peer's private data name, at tagged offset 0
pub record IsWrite (n : ℕ) (text : List ℕ) (s : Standing) (request : Request (List ℕ)) : Type 0 where
  pub phase : s.phase ≡ Listening
  pub first : s.posted ≡ 0
  pub named : length (private_at s.endpoint n) ≡ 4
  pub is : request ≡ write_of (stag_at (private_at s.endpoint n) 0) text

-- and then a Send of it
pub record IsSend (text : List ℕ) (s : Standing) (request : Request (List ℕ)) : Type 0 where
  pub phase : s.phase ≡ Speaking
  pub second : s.posted ≡ 1
  pub is : request ≡ send_of text

abbrev pub IsDue : Part → ℕ → Standing → Request (List ℕ) → Type 0
IsDue (Serves region) n s request = IsAnswer region s request
IsDue (Asks text) n s request = IsWrite n text s request ⊎ IsSend text s request

-- the sequence number past the last octet that came
abbrev pub next_number : EndpointState → ℕ → ℕ
next_number e n = number_past (stream_at e n)

-- octets that are delivered there are dropped only if the stream has ended
abbrev pub AreKept : EndpointState → ℕ → List ℕ → Type 0
AreKept e n octets = ended (stream_at e n) ≡ false → delivery_at e n (next_number e n) (length octets) ≡ Kept

-- The call, on the stream of the plan, takes one state to the other. Octets are delivered past all that came before, and
-- none is dropped unless the stream has ended.
abbrev pub Goes : Plan → Standing → Event → Standing → Type 0
Goes p s (Lent buffer) s' =
    (s.phase ≡ Lending) × (buffer ≡ receive_buffer) ×
    (s' ≡ record s { endpoint = with_buffer s.endpoint p.number buffer; phase = after_lending p.part })
Goes p s (Accepted private) s' =
    (s.phase ≡ Accepting) × (private.items ≡ private_of p.part) ×
    (s' ≡ record s { endpoint = accepted s.endpoint p.number private; phase = Working })
Goes p s (Delivered octets) s' =
    (s.phase ≡ Listening) × MayHear p s.told s.posted × AreKept s.endpoint p.number octets ×
    (s' ≡ record s { endpoint = after_deliver s.endpoint p.number (next_number s.endpoint p.number) octets; phase = Working })
Goes p s (Worked step) s' =
    (s.phase ≡ Working) × (step_at s.endpoint p.number ≡ Ok step) ×
    (s' ≡ record s { endpoint = after_work s.endpoint p.number; told = told_by s.told step; phase = after_step step })
Goes p s (Posted request) s' =
    IsDue p.part p.number s request ×
    (s' ≡ record s { endpoint = with_request s.endpoint p.number request; phase = Speaking; posted = s.posted + 1 })
Goes p s (Emitted emission octets) s' =
    (s.phase ≡ Speaking) × (emission ≡ emission_at s.endpoint p.number) × (octets ≡ emitted_at s.endpoint p.number) ×
    (s' ≡ record s {
      endpoint = after_emit s.endpoint p.number;
      told = told_of s.told emission;
      phase = after_emission emission;
    })

abbrev pub Runs : Plan → Standing → List Event → Standing → Type 0
Runs p s [] s' = s' ≡ s
Runs p s (event ∷ events) s' = (m : Standing) × Goes p s event m × Runs p m events s'

abbrev pub came_in : Event → List ℕ
came_in (Lent buffer) = []
came_in (Accepted private) = []
came_in (Delivered octets) = octets
came_in (Worked step) = []
came_in (Posted request) = []
came_in (Emitted emission octets) = []

abbrev pub went_out : Event → List ℕ
went_out (Lent buffer) = []
went_out (Accepted private) = []
went_out (Delivered octets) = []
went_out (Worked step) = []
went_out (Posted request) = []
went_out (Emitted emission octets) = octets

-- the octets that were delivered
abbrev pub inputs : List Event → List ℕ
inputs [] = []
inputs (event ∷ events) = came_in event ++ inputs events

-- the octets that were emitted
abbrev pub outputs : List Event → List ℕ
outputs [] = []
outputs (event ∷ events) = went_out event ++ outputs events

-- From one state to another by calls on the plan's stream, which delivered and emitted these octets.
pub record Did (p : Plan) (s s' : Standing) (ins outs : List ℕ) : Type 0 where
  pub events : List Event
  pub runs : Runs p s events s'
  pub came : inputs events ≡ ins
  pub went : outputs events ≡ outs

-- The same, with the emitted octets appended to those gathered before.
pub record Emits (p : Plan) (s s' : Standing) (out out' : List ℕ) : Type 0 where
  pub outs : List ℕ
  pub did : Did p s s' [] outs
  pub appends : out' ≡ out ++ outs

-- The same, with the input and the output before and after: what the reader gave was delivered, and what was emitted
-- was written, in order and whole.
pub record Exchanged (p : Plan) (s : Standing) (i o : Option (List ℕ)) (s' : Standing) (i' o' : Option (List ℕ)) :
    Type 0 where
  pub ins : List ℕ
  pub outs : List ℕ
  pub did : Did p s s' ins outs
  pub reads : Consumes i i' ins
  pub writes : Appends o o' outs

-- The same up to the break of the link, in any phase: what the reader gave was delivered, and what was emitted was
-- written, or only the front of it.
pub record Failed (p : Plan) (s : Standing) (i o : Option (List ℕ)) (at : Phase → ℕ → Standing) (i' o' : Option (List ℕ)) :
    Type 0 where
  pub phase : Phase
  pub posted : ℕ
  pub ins : List ℕ
  pub written : List ℕ
  pub unwritten : List ℕ
  pub did : Did p s (at phase posted) ins (written ++ unwritten)
  pub reads : Consumes i i' ins
  pub writes : Appends o o' written

-- The same up to a fault of the peer's start-up frame (RFC 5044 8), which closes the connection: all that was due before
-- is written, and nothing more is read or written.
pub record Closes (p : Plan) (s : Standing) (i o : Option (List ℕ)) (at : Phase → ℕ → Standing) (i' o' : Option (List ℕ)) : Type 0 where
  pub posted : ℕ
  pub exchanged : Exchanged p s i o (at Closing posted) i' o'

-- ---- a whole connection

-- after a stream's link broke; nothing changes if there is no such stream
abbrev pub after_break : EndpointState → ℕ → EndpointState
after_break e n = if has_stream e n then broken e n else e

-- a Send was received, or the peer ended the stream
abbrev pub IsSettled : Told → Type 0
IsSettled told = (is_some told.received ≡ true) ⊎ (is_some told.ended ≡ true)

-- what an end has to post was posted, unless the stream ended
abbrev pub IsSaid : Part → Told → ℕ → Type 0
IsSaid part told posted = (posted ≡ most_posted part) ⊎ (is_some told.ended ≡ true)

-- All that was read is worked on and all that is due is written; a Send was received and all messages were posted,
-- unless the stream ended.
pub record Finished (p : Plan) (s : Standing) (i o : Option (List ℕ)) (at : Phase → ℕ → Standing) (i' o' : Option (List ℕ))
    (told : Told) : Type 0 where
  pub posted : ℕ
  pub exchanged : Exchanged p s i o (at Listening posted) i' o'
  pub said : IsSaid p.part told posted
  pub settled : IsSettled told

-- the input was read to its end, and the link did not break
pub record Completed (p : Plan) (e : EndpointState) (i o : Option (List ℕ)) (e' : EndpointState) (i' o' : Option (List ℕ))
    (report : Report) : Type 0 where
  pub told : Told
  pub finished : Finished p (started p e) i o (λ phase posted. record { endpoint = e'; told = told; phase = phase; posted = posted }) i' o' told
  pub is : report ≡ report_of told false
  pub end : IsAtEnd i'

-- the link broke: that is reported once, after all else
pub record BrokeOff (p : Plan) (e : EndpointState) (i o : Option (List ℕ)) (e' : EndpointState) (i' o' : Option (List ℕ))
    (report : Report) : Type 0 where
  pub last : EndpointState
  pub told : Told
  pub failed : Failed p (started p e) i o (λ phase posted. record { endpoint = last; told = told; phase = phase; posted = posted }) i' o'
  pub endpoint : e' ≡ after_break last p.number
  pub is : report ≡ report_of told true

-- the peer's start-up frame was at fault: what is left of the input is not read, and the link did not break
pub record ClosedOff (p : Plan) (e : EndpointState) (i o : Option (List ℕ)) (e' : EndpointState) (i' o' : Option (List ℕ))
    (report : Report) : Type 0 where
  pub told : Told
  pub closes : Closes p (started p e) i o (λ phase posted. record { endpoint = e'; told = told; phase = phase; posted = posted }) i' o'
  pub is : report ≡ report_of told false

-- a connection: it was completed, or the peer's start-up frame closed it, or its link broke, and the report says which
abbrev pub Served : Plan → EndpointState → Option (List ℕ) → Option (List ℕ) →
    EndpointState → Option (List ℕ) → Option (List ℕ) → Report → Type 0
Served p e i o e' i' o' report =
    Completed p e i o e' i' o' report ⊎ ClosedOff p e i o e' i' o' report ⊎ BrokeOff p e i o e' i' o' report
