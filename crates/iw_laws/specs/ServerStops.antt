-- Why a run of events at ends that serve any number of connections has no trace.
use Rattle.std.specs.Prelude.{◌≡◌, ℕ, ◌+◌, false, List, ◌∷◌, ◌++◌, map, length, Some}
use Rattle.iw_events.specs.declared.call.Call.TheVariants as calls
use Rattle.iw_events.specs.declared.server.ServerCall.{ServerCall}
use Rattle.iw_events.specs.declared.server.ServerCall.TheVariants.{Plain, Stream, OpenNext, OpenSharedNext, RegisterFor, Close}
use Rattle.iw_events.specs.declared.server.ServerEvent.{ServerEvent}
use Rattle.iw_events.specs.declared.server.ServerEntry.{ServerEntry}
use Rattle.iw_events.specs.Servers.{server_event_of}
use Rattle.iw_endpoint.specs.Endpoint.{has_stream}
use Rattle.iw_laws.specs.declared.fault.WorldFault.{WorldFault}
use Rattle.iw_laws.specs.declared.fault.WorldFault.TheVariants.{NotSent, NoSuchStream, NoMemory}
use Rattle.iw_laws.specs.Words.{Octets, other}
use Rattle.iw_laws.specs.Rules.{EndState, end_of, start}
use Rattle.iw_laws.specs.Bounds.{LacksStream, AsksTooMuch}
use Rattle.iw_laws.specs.Servers.{server_state_after, ServerFollows}
use Rattle.iw_laws.specs.ServerLaws.{by_number}

-- the call needs a stream that is not there: it was not opened, or it was closed
abbrev pub LacksServerStream : EndState → EndState → ServerCall Octets → Type 0
LacksServerStream s peer (Plain call) = LacksStream s peer call
LacksServerStream s peer (Stream n call) = LacksStream s peer (calls.Stream n call)
LacksServerStream s peer (OpenNext pd role options private) = ⊥
LacksServerStream s peer (OpenSharedNext pd role options private) = ⊥
LacksServerStream s peer (RegisterFor n base rights octets) = has_stream s.endpoint n ≡ false
LacksServerStream s peer (Close n) = has_stream s.endpoint n ≡ false

-- the call has its streams, and delivers octets that were not emitted
abbrev pub AsksServerTooMuch : EndState → EndState → ServerCall Octets → Type 0
AsksServerTooMuch s peer (Plain call) = AsksTooMuch s peer call
AsksServerTooMuch s peer (Stream n call) = AsksTooMuch s peer (calls.Stream n call)
AsksServerTooMuch s peer (OpenNext pd role options private) = ⊥
AsksServerTooMuch s peer (OpenSharedNext pd role options private) = ⊥
AsksServerTooMuch s peer (RegisterFor n base rights octets) = ⊥
AsksServerTooMuch s peer (Close n) = ⊥

-- the events before the n-th have answers that follow the rules, and the n-th is so in the state that they leave
pub record ServerStopsWhere (IsSo : EndState → EndState → ServerCall Octets → Type 0) (events : List (ServerEvent Octets)) (n : ℕ) : Type 0 where
  pub trace : List (ServerEntry Octets)
  pub event : ServerEvent Octets
  pub others : List (ServerEvent Octets)
  pub front : List (ServerEvent Octets)
  pub split : events ≡ front ++ event ∷ others
  pub made : map server_event_of trace ≡ map Some front
  pub number : n ≡ length trace + 1
  pub follows : ServerFollows by_number start trace
  pub is_so : IsSo (end_of event.end (server_state_after start trace)) (end_of (other event.end) (server_state_after start trace)) event.call

abbrev pub ServerStopsAt : List (ServerEvent Octets) → WorldFault → Type 0
ServerStopsAt events (NoSuchStream n) = ServerStopsWhere LacksServerStream events n
ServerStopsAt events (NotSent n) = ServerStopsWhere AsksServerTooMuch events n
ServerStopsAt events NoMemory = Unit {0}
