-- What a trace says has happened, by its entries alone.
use Rattle.std.specs.Prelude.{◌≡◌, ℕ, ◌==◌, List, [], ◌∷◌, ◌++◌, take, Bool, true, false, is_none, if◌then◌else◌, Option, Some, None, Result, Ok, Err, fold, unwrap_or, slice_set}
use Rattle.std.specs.List.{flat_map}
use Rattle.std.specs.Option.{option_map_or}
use Rattle.iw_octets.specs.declared.stag.Stag.{Stag}
use Rattle.iw_octets.specs.declared.message.Message.TheVariants.{Write, Send}
use Rattle.iw_memory.specs.declared.rights.Right.{Right}
use Rattle.iw_memory.specs.declared.rights.Right.TheVariants as rights
use Rattle.iw_memory.specs.declared.peer.Peer.{Peer}
use Rattle.iw_memory.specs.Region.{Region, new_region}
use Rattle.iw_memory.specs.Part.{with_room}
use Rattle.iw_memory.specs.Table.{Table, empty, slots_of, with_part, put, added, deregistered, invalidated}
use Rattle.iw_queues.specs.declared.request.Kind.{Kind}
use Rattle.iw_queues.specs.declared.request.Request.{Request}
use Rattle.iw_queues.specs.declared.request.Request.TheVariants.{Message as Posted, Read}
use Rattle.iw_ranges.specs.declared.Delivery.{Delivery}
use Rattle.iw_ranges.specs.declared.Delivery.TheVariants.{Kept, Dropped}
use Rattle.iw_ranges.specs.Arrived.{Arrived, taken_in}
use Rattle.iw_events.specs.declared.call.End.{End}
use Rattle.iw_events.specs.declared.call.End.TheVariants.{A, B}
use Rattle.iw_events.specs.declared.call.Options.{Options}
use Rattle.arrayvec.specs.ArrayVec.{ArrayVec}
use Rattle.iw_startup.specs.declared.config.Establishment.TheVariants as establishments
use Rattle.iw_startup.specs.declared.config.Config.{Config}
use Rattle.iw_startup.specs.declared.config.Agreed.{Agreed}
use Rattle.iw_startup.specs.declared.side.Reply.{Reply}
use Rattle.iw_startup.specs.declared.side.Reply.TheVariants as replies
use Rattle.iw_stream.specs.declared.answer.AnswerRefusal.{AnswerRefusal}
use Rattle.iw_stream.specs.declared.answer.Role.{Role}
use Rattle.iw_stream.specs.declared.answer.Role.TheVariants.{Preset}
use Rattle.iw_events.specs.declared.act.Act.{Act}
use Rattle.iw_events.specs.declared.act.Act.TheVariants.{Domain, Register, Deregister, Invalidate, Store, Open, Share, Pool, Unpool, OpenShared, Stream}
use Rattle.iw_events.specs.declared.act.StreamAct.{StreamAct}
use Rattle.iw_events.specs.declared.act.StreamAct.TheVariants.{Recv, Post, Emit, First, Deliver, Raw, Mulpdu, Accept, Reject, Work, Break}
use Rattle.iw_events.specs.declared.act.Shown.{Shown}
use Rattle.iw_events.specs.declared.act.Shown.TheVariants.{Frame, Fetched, Fault as Denied, Nothing}
use Rattle.iw_events.specs.declared.act.Seen.{Seen}
use Rattle.iw_events.specs.declared.act.Seen.TheVariants as seen
use Rattle.iw_events.specs.declared.act.Entry.{Entry}

-- octets as lists, in every entry
abbrev pub Octets : Type 0
Octets = List ℕ

abbrev pub other : End → End
other A = B
other B = A

-- ---- the acts of one end, and those of one of its streams

abbrev pub acts_if : End → End → Act Octets → List (Act Octets)
acts_if A A act = act ∷ []
acts_if B B act = act ∷ []
acts_if A B act = []
acts_if B A act = []

unfoldable pub acts : End → List (Entry Octets) → List (Act Octets)
acts x trace = flat_map (λ e. acts_if x e.end e.act) trace

-- the stream that an act is of, and what was done there
abbrev pub of_stream : Act Octets → Option (ℕ × StreamAct Octets)
of_stream (Stream number act) = Some (number, act)
of_stream (Domain pd refused) = None
of_stream (Register pd base rights octets answer) = None
of_stream (Deregister stag answer) = None
of_stream (Invalidate stag refused) = None
of_stream (Store stag to octets refused) = None
of_stream (Open number pd role options private refused) = None
of_stream (Share pd refused) = None
of_stream (Pool pd len refused) = None
of_stream (Unpool pd answer) = None
of_stream (OpenShared number pd role options private refused) = None

abbrev pub stream_acts_by : ℕ → Act Octets → List (StreamAct Octets)
stream_acts_by n act = option_map_or (λ x. if x.0 == n then x.1 ∷ [] else []) (of_stream act) []

unfoldable pub stream_acts : ℕ → List (Act Octets) → List (StreamAct Octets)
stream_acts n done = flat_map (stream_acts_by n) done

-- ---- a stream that was opened

-- in which domain, in which role, what the end asked for, and whether its receive buffers come from the pool of its domain
pub record Opening : Type 0 where
  pub domain : ℕ
  pub role : Role
  pub config : Config
  pub shared : Bool

-- private data as a start-up frame has it, which has room for 512 octets
abbrev pub private_data : Octets → ArrayVec ℕ
private_data private = record { items = take 512 private }

abbrev pub config_for : Options → Octets → Config
config_for options private = record { markers = options.markers; crc = options.crc; establishment = options.establishment; private = private_data private }

abbrev pub openings_by : ℕ → Act Octets → List Opening
openings_by n (Open number pd role options private None) =
    if number == n then record { domain = pd; role = role; config = config_for options private; shared = false } ∷ [] else []
openings_by n (OpenShared number pd role options private None) =
    if number == n then record { domain = pd; role = role; config = config_for options private; shared = true } ∷ [] else []
openings_by n (OpenShared number pd role options private (Some refusal)) = []
openings_by n (Open number pd role options private (Some refusal)) = []
openings_by n (Stream number act) = []
openings_by n (Domain pd refused) = []
openings_by n (Register pd base rights octets answer) = []
openings_by n (Deregister stag answer) = []
openings_by n (Invalidate stag refused) = []
openings_by n (Store stag to octets refused) = []
openings_by n (Share pd refused) = []
openings_by n (Pool pd len refused) = []
openings_by n (Unpool pd answer) = []

-- the openings of the stream: one, where it was opened
unfoldable pub openings : ℕ → List (Act Octets) → List Opening
openings n done = flat_map (openings_by n) done

abbrev pub was_opened : List Opening → Bool
was_opened [] = false
was_opened (opening ∷ others) = true

-- what stands for an opening where there was none
abbrev pub no_opening : Opening
no_opening = record { domain = 0; role = Preset; config = record { markers = false; crc = false; establishment = establishments.Plain; private = record { items = [] } }; shared = false }

abbrev pub opening_in : List Opening → Opening
opening_in [] = no_opening
opening_in (opening ∷ others) = opening

abbrev pub opening_of : ℕ → List (Act Octets) → Opening
opening_of n done = opening_in (openings n done)

-- the domain that the stream was opened in
abbrev pub domain_of : ℕ → List (Act Octets) → ℕ
domain_of n done = (opening_of n done).domain

-- the peer of the stream, as the regions know it
abbrev pub peer_at : ℕ → List (Act Octets) → Peer
peer_at n done = record { domain = domain_of n done; stream = Some n }

-- ---- what an act did

-- a Send as it is posted, and as it is received
pub record Sent : Type 0 where
  pub octets : List ℕ
  pub solicited : Bool
  pub invalidate : Option Stag

-- octets that came, the first of them with this number, and what became of them
pub record Coming : Type 0 where
  pub from : Option ℕ  -- the place of the first of them in what the other end sent; none of raw ones, which it need not have sent
  pub number : ℕ
  pub octets : Octets
  pub delivery : Delivery

-- octets that were placed in a region, and by which right
pub record Placing : Type 0 where
  pub right : Right
  pub stag : Stag
  pub to : ℕ
  pub octets : Octets

-- a Send's segment that was placed in the buffer of its message
pub record Buffering : Type 0 where
  pub msn : ℕ
  pub mo : ℕ
  pub len : ℕ

-- octets of a region that were fetched for a Read of the peer
pub record Fetching : Type 0 where
  pub stag : Stag
  pub to : ℕ
  pub octets : Octets

-- what an act did at its stream; a call that was refused did nothing
pub record Deed : Type 0 where
  pub posted : Option (Request Octets)
  pub buffer : Option ℕ  -- the length of a receive buffer that was posted
  pub size : Option ℕ  -- the ULPDU size that was set
  pub reply : Option Reply  -- how the peer's Request was answered
  pub first : Option ℕ  -- the number of the peer's first octet
  pub coming : Option Coming
  pub shown : Option (Shown Octets)  -- what a call to emit gave; and of it:
  pub fetched : Option Fetching
  pub step : Option (Seen Octets)  -- what a step of work gave; and of it:
  pub finished : Option Kind
  pub given_up : Option Kind
  pub placing : Option Placing
  pub buffering : Option Buffering
  pub received : Option Sent
  pub returned : Option Octets  -- a receive buffer that was handed back when the stream had ended
  pub ends : Bool  -- the stream ends by it
  pub breaks : Bool  -- and by a break of its link

abbrev pub no_deed : Deed
no_deed = record {
  posted = None;
  buffer = None;
  size = None;
  reply = None;
  first = None;
  coming = None;
  shown = None;
  fetched = None;
  step = None;
  finished = None;
  given_up = None;
  placing = None;
  buffering = None;
  received = None;
  returned = None;
  ends = false;
  breaks = false;
}

-- what was asked for, where it was not refused
abbrev pub unless : {R A : Type 0} → Option R → A → Option A
unless None x = Some x
unless (Some refusal) x = None

abbrev pub acceptance : Octets → Result Agreed AnswerRefusal → Option Reply
acceptance private (Ok agreed) = Some (replies.Accept (private_data private))
acceptance private (Err refusal) = None

abbrev pub fetched_in : Shown Octets → Option Fetching
fetched_in (Frame from octets) = None
fetched_in (Fetched from frame stag to octets) = Some (record { stag = stag; to = to; octets = octets })
fetched_in (Denied fault) = None
fetched_in Nothing = None

-- the source of a Read was denied: the stream ends
abbrev pub is_denied : Shown Octets → Bool
is_denied (Frame from octets) = false
is_denied (Fetched from frame stag to octets) = false
is_denied (Denied fault) = true
is_denied Nothing = false

abbrev pub deed_of_step : Seen Octets → Deed
deed_of_step (seen.Done kind) = record no_deed { finished = Some kind }
deed_of_step (seen.Flushed kind) = record no_deed { given_up = Some kind }
deed_of_step (seen.FlushedRecv octets) = record no_deed { returned = Some octets }
deed_of_step (seen.Asked told private) = no_deed
deed_of_step (seen.Opened agreed told private) = no_deed
deed_of_step (seen.Closed fault) = record no_deed { ends = true }
deed_of_step (seen.Placed right stag to octets) =
    record no_deed { placing = Some (record { right = right; stag = stag; to = to; octets = octets }) }
deed_of_step (seen.Buffered msn mo len) = record no_deed { buffering = Some (record { msn = msn; mo = mo; len = len }) }
deed_of_step (seen.Requested size stag to) = no_deed
deed_of_step (seen.Tried place) = no_deed
deed_of_step seen.Passed = no_deed
deed_of_step (seen.Received octets solicited invalidate) =
    record no_deed { received = Some (record { octets = octets; solicited = solicited; invalidate = invalidate }) }
deed_of_step (seen.Terminated fault) = record no_deed { ends = true }
deed_of_step (seen.Fault fault) = record no_deed { ends = true }
deed_of_step seen.Idle = no_deed

abbrev pub deed : StreamAct Octets → Deed
deed (Recv len refused) = record no_deed { buffer = unless refused len }
deed (Post request refused) = record no_deed { posted = unless refused request }
deed (Emit shown) = record no_deed { shown = Some shown; fetched = fetched_in shown; ends = is_denied shown }
deed (First number refused) = record no_deed { first = unless refused number }
deed (Deliver from number octets delivery) =
    record no_deed { coming = Some (record { from = Some from; number = number; octets = octets; delivery = delivery }) }
deed (Raw number octets delivery) =
    record no_deed { coming = Some (record { from = None; number = number; octets = octets; delivery = delivery }) }
deed (Mulpdu size refused) = record no_deed { size = unless refused size }
deed (Accept private answer) = record no_deed { reply = acceptance private answer }
deed (Reject private refused) =
    record no_deed { reply = unless refused (replies.Reject (private_data private)); ends = is_none refused }
deed (Work step) =
    let d : Deed = deed_of_step step in
    record no_deed {
      step = Some step;
      finished = d.finished;
      given_up = d.given_up;
      placing = d.placing;
      buffering = d.buffering;
      received = d.received;
      returned = d.returned;
      ends = d.ends;
    }
deed Break = record no_deed { ends = true; breaks = true }

abbrev pub listed : {A : Type 0} → Option A → List A
listed None = []
listed (Some x) = x ∷ []

-- ---- messages

abbrev pub posted_by : StreamAct Octets → List (Request Octets)
posted_by act = listed (deed act).posted

-- the messages accepted, in order
unfoldable pub posted : List (StreamAct Octets) → List (Request Octets)
posted done = flat_map posted_by done

abbrev pub finished_by : StreamAct Octets → List Kind
finished_by act = listed (deed act).finished

-- the messages that were finished, in order, by their kinds
unfoldable pub finished_kinds : List (StreamAct Octets) → List Kind
finished_kinds done = flat_map finished_by done

abbrev pub handed_by : StreamAct Octets → List Kind
handed_by act = listed (deed act).finished ++ listed (deed act).given_up

-- the messages that were handed back, finished or given up, in order, by their kinds
unfoldable pub handed_kinds : List (StreamAct Octets) → List Kind
handed_kinds done = flat_map handed_by done

abbrev pub sends : List (Request Octets) → List Sent
sends [] = []
sends (Posted (Write stag to octets) ∷ ms) = sends ms
sends (Posted (Send octets solicited invalidate) ∷ ms) =
    record { octets = octets; solicited = solicited; invalidate = invalidate } ∷ sends ms
sends (Read request ∷ ms) = sends ms

abbrev pub received_by : StreamAct Octets → List Sent
received_by act = listed (deed act).received

-- the Sends received, in order
unfoldable pub received : List (StreamAct Octets) → List Sent
received done = flat_map received_by done

-- ---- the end of a stream

abbrev pub ended_after : Bool → StreamAct Octets → Bool
ended_after ended act = if (deed act).ends then true else ended

-- whether the stream has ended: by a fault, by the peer's start-up frame or Terminate, by this end's rejection, or by a break of its link
unfoldable pub ended : List (StreamAct Octets) → Bool
ended done = fold ended_after false done

-- ---- octets

abbrev pub octets_shown : Shown Octets → Octets
octets_shown (Frame from octets) = octets
octets_shown (Fetched from frame stag to octets) = frame
octets_shown (Denied fault) = []
octets_shown Nothing = []

abbrev pub sent_by : StreamAct Octets → Octets
sent_by act = option_map_or octets_shown (deed act).shown []

-- the octets emitted, in order
unfoldable pub sent : List (StreamAct Octets) → Octets
sent done = flat_map sent_by done

abbrev pub size_after : ℕ → StreamAct Octets → ℕ
size_after size act = unwrap_or (deed act).size size

-- the most octets that a ULPDU may have which is sent: 1,400, or what was set last
unfoldable pub size_set : List (StreamAct Octets) → ℕ
size_set done = fold size_after 1400 done

abbrev pub taken : Arrived → ℕ → Octets → Delivery → Arrived
taken came from octets Kept = taken_in came from octets
taken came from octets Dropped = came

-- ---- memory

-- octets that were placed stand in their region, and the STag that a Send took away is not valid
abbrev pub table_by_deed : Table → Deed → Table
table_by_deed table d =
    option_map_or (λ p. put table p.stag p.to p.octets) d.placing
    (option_map_or (λ message. option_map_or (invalidated table) message.invalidate table) d.received table)

abbrev pub table_seen : Table → Seen Octets → Table
table_seen table step = table_by_deed table (deed_of_step step)

abbrev pub table_by_stream : Table → StreamAct Octets → Table
table_by_stream table act = table_by_deed table (deed act)

-- the table with a new region under this STag
abbrev pub registered_under : Table → Stag → Region → Table
registered_under table stag region =
    with_part table stag.domain
    (Some (slice_set (with_room (slots_of table stag.domain)) stag.slot (record { key = stag.key; region = Some region })))

abbrev pub table_by : Table → Act Octets → Table
table_by table (Domain pd None) = added table pd
table_by table (Domain pd (Some refusal)) = table
table_by table (Register pd base rights octets (Ok stag)) =
    registered_under table stag (new_region base octets rights)
table_by table (Register pd base rights octets (Err refusal)) = table
table_by table (Deregister stag (Ok octets)) = deregistered table stag
table_by table (Deregister stag (Err refusal)) = table
table_by table (Invalidate stag None) = invalidated table stag
table_by table (Invalidate stag (Some refusal)) = table
table_by table (Store stag to octets None) = put table stag to octets
table_by table (Store stag to octets (Some refusal)) = table
table_by table (Open number pd role options private refused) = table
table_by table (Share pd refused) = table
table_by table (Pool pd len refused) = table
table_by table (Unpool pd answer) = table
table_by table (OpenShared number pd role options private refused) = table
table_by table (Stream number act) = table_by_stream table act

-- the regions of an end: what was registered, less what was deregistered, with what was stored and placed, and what was
-- invalidated not valid
unfoldable pub table_after : List (Act Octets) → Table
table_after done = fold table_by empty done

-- ---- placements

abbrev pub placed_by : StreamAct Octets → List Placing
placed_by act = listed (deed act).placing

-- what was placed in regions, in order
unfoldable pub placings : List (StreamAct Octets) → List Placing
placings done = flat_map placed_by done

-- a placement, as a Write of its octets
abbrev pub as_write : Placing → Request Octets
as_write p = Posted (Write p.stag p.to p.octets)

-- those for Writes
abbrev pub written_by : Right → Request Octets → List (Request Octets)
written_by rights.Write placement = placement ∷ []
written_by rights.Read placement = []
written_by rights.Sink placement = []

abbrev pub written : List Placing → List (Request Octets)
written ps = flat_map (λ p. written_by p.right (as_write p)) ps

-- those for the responses to Reads
abbrev pub sunk_by : Right → Request Octets → List (Request Octets)
sunk_by rights.Write placement = []
sunk_by rights.Read placement = []
sunk_by rights.Sink placement = placement ∷ []

abbrev pub sunk : List Placing → List (Request Octets)
sunk ps = flat_map (λ p. sunk_by p.right (as_write p)) ps

-- ---- laws that speak of each entry, at the moment before it

-- it is so of what is there
abbrev pub OnSome : {A : Type 0} → (A → Type 0) → Option A → Type 0
OnSome {A} P None = Unit {0}
OnSome {A} P (Some x) = P x

-- an act of a stream is so, by what was done at its end before
abbrev pub OnStream : (List (Act Octets) → ℕ → StreamAct Octets → Type 0) → List (Act Octets) → Act Octets → Type 0
OnStream P before act = OnSome (λ x. P before x.0 x.1) (of_stream act)

-- each act is so, by what was done at its end before
abbrev pub AtEach : (List (Act Octets) → Act Octets → Type 0) → List (Entry Octets) → Type 0
AtEach P trace =
    (past : List (Entry Octets)) (e : Entry Octets) (future : List (Entry Octets)) → trace ≡ past ++ e ∷ future
    → P (acts e.end past) e.act
