-- The state of both ends, which answer is right in a state, and what each entry leaves of it.
use Rattle.std.specs.Prelude.{◌≡◌, ℕ, ◌+◌, ◌%◌, ◌<◌, ◌^◌, List, [], ◌∷◌, ◌++◌, length, take, replicate, slice_index_or, slice_set, Bool, true, false, Option, Some, None}
use Rattle.std.specs.Option.{option_map_or}
use Rattle.iw_octets.specs.declared.stag.Stag.{Stag}
use Rattle.iw_octets.specs.declared.message.Message.TheVariants.{Write, Send}
use Rattle.iw_octets.specs.Payload.{FitsRequest}
use Rattle.iw_octets.specs.Stag.{FitsStag}
use Rattle.iw_memory.specs.Table.{Table, register_refusal, next_stag, octets_at}
use Rattle.iw_queues.specs.declared.request.Request.{Request}
use Rattle.iw_queues.specs.declared.request.Request.TheVariants.{Message as Posted, Read}
use Rattle.iw_stream.specs.declared.answer.Step.{Step}
use Rattle.iw_stream.specs.declared.answer.Step.TheVariants as steps
use Rattle.iw_stream.specs.declared.answer.Emission.{Emission}
use Rattle.iw_stream.specs.declared.answer.Emission.TheVariants as emissions
use Rattle.iw_stream.specs.Starting.{StartState, private_in, told_in, agreement_in}
use Rattle.iw_stream.specs.Stream.{StreamState, recv_refusal, post_refusal, size_refusal, emission_of, emitted, first_refusal, answer_refusal, delivery_of}
use Rattle.iw_stream.specs.Work.{work_step, worked, table_worked}
use Rattle.iw_events.specs.declared.call.End.{End}
use Rattle.iw_events.specs.declared.call.End.TheVariants.{A, B}
use Rattle.iw_events.specs.declared.call.StreamCall.{StreamCall}
use Rattle.iw_events.specs.declared.call.StreamCall.TheVariants as stream_calls
use Rattle.iw_events.specs.Events.{stream_call_of}
use Rattle.iw_events.specs.declared.act.Act.{Act}
use Rattle.iw_events.specs.declared.act.Act.TheVariants.{Domain, Register, Deregister, Invalidate, Store, Open, Share, Pool, Unpool, OpenShared, Stream}
use Rattle.iw_events.specs.declared.act.StreamAct.{StreamAct}
use Rattle.iw_events.specs.declared.act.StreamAct.TheVariants.{Recv, Post, Emit, First, Deliver, Raw, Mulpdu, Accept, Reject, Work, Break}
use Rattle.iw_events.specs.declared.act.Shown.{Shown}
use Rattle.iw_events.specs.declared.act.Shown.TheVariants.{Frame, Fetched, Fault as Denied, Nothing}
use Rattle.iw_events.specs.declared.act.Seen.{Seen}
use Rattle.iw_events.specs.declared.act.Seen.TheVariants as seen
use Rattle.iw_events.specs.declared.act.Entry.{Entry}
use Rattle.iw_endpoint.specs.Endpoint.{EndpointState, fresh, has_stream, stream_at, stream_numbers, pool_of, lent_to, domain_refusal, store_refusal, open_refusal, share_refusal, pool_refusal, take_refusal, taken_at, open_shared_refusal}
use Rattle.iw_endpoint.specs.Isolation as calls
use Rattle.iw_endpoint.specs.Isolation.{answer_or, after}
use Rattle.iw_laws.specs.Words.{Octets, other, deed, octets_shown, config_for, private_data}
use Rattle.iw_laws.specs.Calls.{deregister_answer, invalidate_refusal, StandIn}
use Rattle.iw_laws.specs.Words.{OnSome, of_stream}

-- ---- the numbers of a message fit the fields of its header

abbrev pub FitsOptional : Option Stag → Type 0
FitsOptional None = Unit {0}
FitsOptional (Some stag) = FitsStag stag

abbrev pub FitsPosted : Request (List ℕ) → Type 0
FitsPosted (Posted (Write stag to octets)) = FitsStag stag × (to < 2 ^ 64)
FitsPosted (Posted (Send octets solicited invalidate)) = FitsOptional invalidate
FitsPosted (Read request) = FitsRequest request

-- ---- states

-- one end: its endpoint, and the octets that each stream emitted, by its number
pub record EndState : Type 0 where
  pub endpoint : EndpointState
  pub wires : List Octets

-- both ends
pub record State : Type 0 where
  pub a : EndState
  pub b : EndState

-- no stream emitted anything
unfoldable pub no_wires : List Octets
no_wires = replicate stream_numbers []

abbrev pub at_first : EndState
at_first = record { endpoint = fresh; wires = no_wires }

abbrev pub start : State
start = record { a = at_first; b = at_first }

abbrev pub end_of : End → State → EndState
end_of A w = w.a
end_of B w = w.b

abbrev pub with_end : End → EndState → State → State
with_end A s w = record w { a = s }
with_end B s w = record w { b = s }

-- what the stream of this number emitted
abbrev pub wire_at : EndState → ℕ → Octets
wire_at s n = slice_index_or s.wires n []

-- ---- which answer is right

-- what was shown of an emission of these octets, by the regions
abbrev pub shown_of : Table → Emission → List ℕ → Shown Octets
shown_of table (emissions.Frame from len) octets = Frame from octets
shown_of table (emissions.Fetched from len stag to n) octets = Fetched from octets stag to (octets_at table stag to n)
shown_of table (emissions.Fault fault) octets = Denied fault
shown_of table emissions.Nothing octets = Nothing

-- what was seen of a step, where it left this table and this start-up
abbrev pub seen_of : Table → StartState → Step Octets → Seen Octets
seen_of table s (steps.Done kind) = seen.Done kind
seen_of table s (steps.Flushed kind) = seen.Flushed kind
seen_of table s (steps.FlushedRecv buffer) = seen.FlushedRecv buffer
seen_of table s steps.Asked = seen.Asked (told_in s) (private_in s)
seen_of table s (steps.Opened agreed) = seen.Opened agreed (told_in s) (private_in s)
seen_of table s (steps.Closed fault) = seen.Closed fault
seen_of table s (steps.Placed right stag to len) = seen.Placed right stag to (octets_at table stag to len)
seen_of table s (steps.Buffered msn mo len) = seen.Buffered msn mo len
seen_of table s (steps.Requested size stag to) = seen.Requested size stag to
seen_of table s (steps.Tried place) = seen.Tried place
seen_of table s steps.Passed = seen.Passed
seen_of table s (steps.Received buffer len solicited invalidate) = seen.Received (take len buffer) solicited invalidate
seen_of table s (steps.Terminated fault) = seen.Terminated fault
seen_of table s (steps.Fault fault) = seen.Fault fault
seen_of table s steps.Idle = seen.Idle

-- the right answer at a stream, whoever sent the octets that come
abbrev pub StreamRule : Table → StreamState → StreamAct Octets → Type 0
StreamRule table s (Recv len refused) = refused ≡ recv_refusal s
StreamRule table s (Post request refused) = FitsPosted request × (refused ≡ post_refusal s request)
StreamRule table s (Emit shown) = shown ≡ shown_of table (emission_of table s) (emitted table s)
StreamRule table s (First number refused) = refused ≡ first_refusal s
StreamRule table s (Deliver from number octets delivery) = (number ≡ (s.first + from) % 2 ^ 32) × (delivery ≡ delivery_of s number (length octets))
StreamRule table s (Raw number octets delivery) = delivery ≡ delivery_of s number (length octets)
StreamRule table s (Mulpdu size refused) = refused ≡ size_refusal size
StreamRule table s (Accept private answer) = answer ≡ answer_or (answer_refusal s (private_data private).items) (agreement_in s.start)
StreamRule table s (Reject private refused) = refused ≡ answer_refusal s (private_data private).items
StreamRule table s (Work step) =
    step ≡ seen_of (table_worked table s) (worked table s).start (work_step table s)
StreamRule table s Break = Unit {0}

-- octets that are delivered are those that the other end sent on the stream
abbrev pub WireRule : Octets → StreamAct Octets → Type 0
WireRule wire act = OnSome (λ c. OnSome (λ from. StandIn wire from c.octets) c.from) (deed act).coming

-- a delivery needs the stream at the other end too
abbrev pub needs_peer : StreamCall Octets → Bool
needs_peer (stream_calls.Deliver from len) = true
needs_peer (stream_calls.Raw number octets) = false
needs_peer (stream_calls.First number) = false
needs_peer (stream_calls.Mulpdu size) = false
needs_peer (stream_calls.Accept private) = false
needs_peer (stream_calls.Reject private) = false
needs_peer (stream_calls.Recv len) = false
needs_peer (stream_calls.Post message) = false
needs_peer stream_calls.Emit = false
needs_peer stream_calls.Work = false
needs_peer stream_calls.Break = false

-- the stream of this number with the pool of its domain, if there is one, lent to it
abbrev pub seen_at : EndpointState → ℕ → StreamState
seen_at e n = lent_to (pool_of e (stream_at e n).domain) (stream_at e n)

-- as it stands at an act: the pool is lent to each step of work
abbrev pub stream_for : EndpointState → ℕ → StreamAct Octets → StreamState
stream_for e n act = option_map_or (λ step. seen_at e n) (deed act).step (stream_at e n)

-- the right answer at an end, whatever is done at the other
abbrev pub EndRule : EndpointState → Act Octets → Type 0
EndRule e (Domain pd refused) = refused ≡ domain_refusal e pd
EndRule e (Register pd base rights octets answer) = answer ≡ answer_or (register_refusal e.table pd base (length octets)) (next_stag e.table pd)
EndRule e (Deregister stag answer) = answer ≡ deregister_answer e.table stag
EndRule e (Invalidate stag refused) = refused ≡ invalidate_refusal e.table stag
EndRule e (Store stag to octets refused) = refused ≡ store_refusal e stag to (length octets)
EndRule e (Open n pd role options private refused) = refused ≡ open_refusal e n pd role (config_for options private)
EndRule e (Share pd refused) = refused ≡ share_refusal e pd
EndRule e (Pool pd len refused) = refused ≡ pool_refusal e pd
EndRule e (Unpool pd answer) = answer ≡ answer_or (take_refusal e pd) (taken_at e pd)
EndRule e (OpenShared n pd role options private refused) = refused ≡ open_shared_refusal e n pd role (config_for options private)
EndRule e (Stream n act) = (has_stream e n ≡ true) × StreamRule e.table (stream_for e n act) act

-- what the other end has to do with it
abbrev pub PeerRule : EndState → Act Octets → Type 0
PeerRule peer act =
    OnSome (λ x. (needs_peer (stream_call_of x.1) ≡ true → has_stream peer.endpoint x.0 ≡ true) × WireRule (wire_at peer x.0) x.1)
    (of_stream act)

-- the right answer at an end of two
abbrev pub Rule : EndState → EndState → Act Octets → Type 0
Rule s peer act = EndRule s.endpoint act × PeerRule peer act

-- ---- what an entry leaves

-- the call of the endpoint that an act made
abbrev pub stream_call_made : StreamAct Octets → calls.StreamCall
stream_call_made (Recv len refused) = calls.PostRecv (replicate len 0)
stream_call_made (Post request refused) = calls.Post request
stream_call_made (Emit shown) = calls.Emit
stream_call_made (First number refused) = calls.FirstNumber number
stream_call_made (Deliver from number octets delivery) = calls.Deliver number octets
stream_call_made (Raw number octets delivery) = calls.Deliver number octets
stream_call_made (Mulpdu size refused) = calls.SetMulpdu size
stream_call_made (Accept private answer) = calls.Accept (private_data private)
stream_call_made (Reject private refused) = calls.Reject (private_data private)
stream_call_made (Work step) = calls.Work
stream_call_made Break = calls.BreakLink

abbrev pub call_made : Act Octets → calls.Call
call_made (Domain pd refused) = calls.AddDomain pd
call_made (Register pd base rights octets answer) = calls.Register pd base octets rights
call_made (Deregister stag answer) = calls.TakeRegion stag
call_made (Invalidate stag refused) = calls.Invalidate stag
call_made (Store stag to octets refused) = calls.Store stag to octets
call_made (Open n pd role options private refused) = calls.Open n pd role (config_for options private)
call_made (Share pd refused) = calls.Share pd
call_made (Pool pd len refused) = calls.PostShared pd (replicate len 0)
call_made (Unpool pd answer) = calls.TakeShared pd
call_made (OpenShared n pd role options private refused) = calls.OpenShared n pd role (config_for options private)
call_made (Stream n act) = calls.AtStream n (stream_call_made act)

-- what is emitted goes out after what was
abbrev pub wires_after : List Octets → Act Octets → List Octets
wires_after wires act =
    option_map_or
    (λ x. option_map_or (λ shown. slice_set wires x.0 (slice_index_or wires x.0 [] ++ octets_shown shown)) (deed x.1).shown wires)
    (of_stream act) wires

abbrev pub end_after : EndState → Act Octets → EndState
end_after s act = record { endpoint = after s.endpoint (call_made act); wires = wires_after s.wires act }

abbrev pub after_entry : State → Entry Octets → State
after_entry w e = with_end e.end (end_after (end_of e.end w) e.act) w

-- the state that the entries leave
abbrev pub state_after : State → List (Entry Octets) → State
state_after w [] = w
state_after w (e ∷ es) = state_after (after_entry w e) es

-- each answer is the one that the rules give in the state that the entries before it leave
abbrev pub Follows : State → List (Entry Octets) → Type 0
Follows w [] = Unit {0}
Follows w (e ∷ es) = Rule (end_of e.end w) (end_of (other e.end) w) e.act × Follows (after_entry w e) es
