-- Runs of ends that serve any number of connections: streams of any number, which come and go.
use Rattle.std.specs.Prelude.{◌≡◌, ℕ, List, [], ◌∷◌, ◌++◌, length, map, Bool, true, nat_le, nat_lt, unwrap_or, if◌then◌else◌, Option, Some, None, Ok, Err}
use Rattle.std.specs.Result.{result_map_both}
use Rattle.iw_memory.specs.Table.{next_stag}
use Rattle.iw_stream.specs.Reading.{number_past}
use Rattle.iw_endpoint.specs.declared.refusal.CallRefusal.TheVariants.{Refused}
use Rattle.iw_endpoint.specs.Endpoint.{EndpointState, has_stream, stream_at, stream_numbers, is_taken, next_number, next_refusal, next_shared_refusal, limit_refusal, rest_refusal}
use Rattle.iw_endpoint.specs.Isolation as calls
use Rattle.iw_endpoint.specs.Isolation.{answer_or, after}
use Rattle.iw_events.specs.declared.call.End.{End}
use Rattle.iw_events.specs.Events.{stream_call_of}
use Rattle.iw_events.specs.declared.act.Act.{Act}
use Rattle.iw_events.specs.declared.act.Act.TheVariants as acts
use Rattle.iw_events.specs.declared.act.StreamAct.{StreamAct}
use Rattle.iw_events.specs.declared.act.StreamAct.TheVariants.{Deliver, Raw}
use Rattle.iw_events.specs.declared.act.Entry.{Entry}
use Rattle.iw_events.specs.declared.server.ServerAct.{ServerAct}
use Rattle.iw_events.specs.declared.server.ServerAct.TheVariants.{Plain, Stream, OpenNext, OpenSharedNext, Read, ReadRaw, RegisterFor, Close}
use Rattle.iw_events.specs.declared.server.ServerEntry.{ServerEntry}
use Rattle.iw_laws.specs.Words.{Octets, other, config_for, OnSome, of_stream}
use Rattle.iw_laws.specs.Rules.{EndState, State, end_of, with_end, wire_at, wires_after, EndRule, WireRule, needs_peer, call_made, stream_call_made}

-- ---- connections

-- the connection that the stream of each number belongs to, at each end: the streams of both ends that belong to one are connected
abbrev pub Connections : Type 0
Connections = End → ℕ → ℕ

-- the streams of an end belong to different ones
abbrev pub AreApart : Connections → Type 0
AreApart name = (x : End) (n m : ℕ) → name x n ≡ name x m → n ≡ m

-- ---- what an entry tells, in words of schedules

-- an act that schedules have, at the stream of its connection; of an opening that was refused nothing
abbrev pub plain_told : (ℕ → ℕ) → Act Octets → List (Act Octets)
plain_told name (acts.Open n pd role options private None) = acts.Open (name n) pd role options private None ∷ []
plain_told name (acts.Open n pd role options private (Some refusal)) = []
plain_told name (acts.OpenShared n pd role options private None) = acts.OpenShared (name n) pd role options private None ∷ []
plain_told name (acts.OpenShared n pd role options private (Some refusal)) = []
plain_told name (acts.Stream n act) = acts.Stream (name n) act ∷ []
plain_told name (acts.Domain pd refused) = acts.Domain pd refused ∷ []
plain_told name (acts.Register pd base rights octets answer) = acts.Register pd base rights octets answer ∷ []
plain_told name (acts.Deregister stag answer) = acts.Deregister stag answer ∷ []
plain_told name (acts.Invalidate stag refused) = acts.Invalidate stag refused ∷ []
plain_told name (acts.Store stag to octets refused) = acts.Store stag to octets refused ∷ []
plain_told name (acts.Share pd refused) = acts.Share pd refused ∷ []
plain_told name (acts.Pool pd len refused) = acts.Pool pd len refused ∷ []
plain_told name (acts.Unpool pd answer) = acts.Unpool pd answer ∷ []

-- a stream that is given a number is opened; octets that are read are delivered; a region for one stream and a close tell nothing
abbrev pub told_by : (ℕ → ℕ) → ServerAct Octets → List (Act Octets)
told_by name (Plain act) = plain_told name act
told_by name (Stream n act) = acts.Stream (name n) act ∷ []
told_by name (OpenNext pd role options private (Ok n)) = acts.Open (name n) pd role options private None ∷ []
told_by name (OpenNext pd role options private (Err refusal)) = []
told_by name (OpenSharedNext pd role options private (Ok n)) = acts.OpenShared (name n) pd role options private None ∷ []
told_by name (OpenSharedNext pd role options private (Err refusal)) = []
told_by name (Read n from number octets delivery) = acts.Stream (name n) (Deliver from number octets delivery) ∷ []
told_by name (ReadRaw n number octets delivery) = acts.Stream (name n) (Raw number octets delivery) ∷ []
told_by name (RegisterFor n base rights octets answer) = []
told_by name (Close n refused) = []

abbrev pub at_end : End → List (Act Octets) → List (Entry Octets)
at_end x done = map (λ act. record { end = x; act = act }) done

-- each stream has the number of its connection
abbrev pub told : Connections → List (ServerEntry Octets) → List (Entry Octets)
told name [] = []
told name (e ∷ es) = at_end e.end (told_by (name e.end) e.act) ++ told name es

-- ---- which answer is right

-- a stream was opened under this number, whether or not it was closed since
abbrev pub was_used : EndpointState → ℕ → Bool
was_used e n = if nat_le stream_numbers n then nat_lt n (length e.streams) else is_taken e n

-- octets come from the stream of the other end that belongs to the same connection, which was opened, and are those that it sent
pub record IsSent (own other : ℕ → ℕ) (peer : EndState) (n : ℕ) (act : StreamAct Octets) : Type 0 where
  pub from : ℕ
  pub connected : other from ≡ own n
  pub opened : was_used peer.endpoint from ≡ true
  pub sent : WireRule (wire_at peer from) act

-- what the other end has to do with an act that schedules have
abbrev pub PlainPeerRule : (ℕ → ℕ) → (ℕ → ℕ) → EndState → Act Octets → Type 0
PlainPeerRule own other peer act = OnSome (λ x. needs_peer (stream_call_of x.1) ≡ true → IsSent own other peer x.0 x.1) (of_stream act)

abbrev pub ServerPeerRule : (ℕ → ℕ) → (ℕ → ℕ) → EndState → ServerAct Octets → Type 0
ServerPeerRule own other peer (Plain act) = PlainPeerRule own other peer act
ServerPeerRule own other peer (Stream n act) = PlainPeerRule own other peer (acts.Stream n act)
ServerPeerRule own other peer (Read n from number octets delivery) = PlainPeerRule own other peer (acts.Stream n (Deliver from number octets delivery))
ServerPeerRule own other peer (ReadRaw n number octets delivery) = Unit {0}
ServerPeerRule own other peer (OpenNext pd role options private answer) = Unit {0}
ServerPeerRule own other peer (OpenSharedNext pd role options private answer) = Unit {0}
ServerPeerRule own other peer (RegisterFor n base rights octets answer) = Unit {0}
ServerPeerRule own other peer (Close n refused) = Unit {0}

-- the right answer at an endpoint whose next number is this
abbrev pub AnsweredWith : Option ℕ → EndpointState → ServerAct Octets → Type 0
AnsweredWith next e (Plain act) = EndRule e act
AnsweredWith next e (Stream n act) = EndRule e (acts.Stream n act)
AnsweredWith next e (OpenNext pd role options private answer) = answer ≡ answer_or (next_refusal e next pd role (config_for options private)) (unwrap_or next 0)
AnsweredWith next e (OpenSharedNext pd role options private answer) = answer ≡ answer_or (next_shared_refusal e next pd role (config_for options private)) (unwrap_or next 0)
-- octets are read past the last that came
AnsweredWith next e (Read n from number octets delivery) = (number ≡ number_past (stream_at e n)) × EndRule e (acts.Stream n (Deliver from number octets delivery))
AnsweredWith next e (ReadRaw n number octets delivery) = (number ≡ number_past (stream_at e n)) × EndRule e (acts.Stream n (Raw number octets delivery))
AnsweredWith next e (RegisterFor n base rights octets answer) =
    (has_stream e n ≡ true)
    × (result_map_both (λ stag. stag) Refused answer ≡ answer_or (limit_refusal e n base (length octets)) (next_stag e.table (stream_at e n).domain))
AnsweredWith next e (Close n refused) = (has_stream e n ≡ true) × (refused ≡ rest_refusal (stream_at e n))

-- the right answer at an end, whatever is done at the other
abbrev pub ServerEndRule : EndState → ServerAct Octets → Type 0
ServerEndRule s act = AnsweredWith (next_number s.endpoint) s.endpoint act

-- the right answer at an end of two, where the streams of both belong to these connections
abbrev pub ServerRule : (ℕ → ℕ) → (ℕ → ℕ) → EndState → EndState → ServerAct Octets → Type 0
ServerRule own other s peer act = ServerEndRule s act × ServerPeerRule own other peer act

-- ---- what an entry leaves

-- the call of the endpoint that an act made, where its next number was this
abbrev pub call_with : Option ℕ → ServerAct Octets → calls.Call
call_with next (Plain act) = call_made act
call_with next (Stream n act) = calls.AtStream n (stream_call_made act)
call_with next (OpenNext pd role options private answer) = calls.OpenNext next pd role (config_for options private)
call_with next (OpenSharedNext pd role options private answer) = calls.OpenSharedNext next pd role (config_for options private)
call_with next (Read n from number octets delivery) = calls.AtStream n (calls.Deliver number octets)
call_with next (ReadRaw n number octets delivery) = calls.AtStream n (calls.Deliver number octets)
call_with next (RegisterFor n base rights octets answer) = calls.AtStream n (calls.RegisterFor base octets rights)
call_with next (Close n refused) = calls.AtStream n calls.Close

abbrev pub server_call : EndpointState → ServerAct Octets → calls.Call
server_call e act = call_with (next_number e) act

-- a number that is given has emitted nothing; what a stream emitted stays when it is closed, and may be on its way
abbrev pub server_wires : List Octets → ServerAct Octets → List Octets
server_wires wires (Plain act) = wires_after wires act
server_wires wires (Stream n act) = wires_after wires (acts.Stream n act)
server_wires wires (OpenNext pd role options private (Ok n)) = wires ++ [] ∷ []
server_wires wires (OpenNext pd role options private (Err refusal)) = wires
server_wires wires (OpenSharedNext pd role options private (Ok n)) = wires ++ [] ∷ []
server_wires wires (OpenSharedNext pd role options private (Err refusal)) = wires
server_wires wires (Read n from number octets delivery) = wires
server_wires wires (ReadRaw n number octets delivery) = wires
server_wires wires (RegisterFor n base rights octets answer) = wires
server_wires wires (Close n refused) = wires

abbrev pub server_after : EndState → ServerAct Octets → EndState
server_after s act = record { endpoint = after s.endpoint (server_call s.endpoint act); wires = server_wires s.wires act }

abbrev pub after_server_entry : State → ServerEntry Octets → State
after_server_entry w e = with_end e.end (server_after (end_of e.end w) e.act) w

-- the state that the entries leave
abbrev pub server_state_after : State → List (ServerEntry Octets) → State
server_state_after w [] = w
server_state_after w (e ∷ es) = server_state_after (after_server_entry w e) es

-- each answer is the one that the rules give in the state that the entries before it leave
abbrev pub ServerFollows : Connections → State → List (ServerEntry Octets) → Type 0
ServerFollows name w [] = Unit {0}
ServerFollows name w (e ∷ es) =
    ServerRule (name e.end) (name (other e.end)) (end_of e.end w) (end_of (other e.end) w) e.act × ServerFollows name (after_server_entry w e) es
