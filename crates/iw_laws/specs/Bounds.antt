-- How far the streams have come, and calls that cannot happen, as the state says it.
use Rattle.std.specs.Prelude.{◌≡◌, ℕ, ◌+◌, ◌<◌, ◌≤◌, ◌^◌, ◌⊎◌, true, false, List, length}
use Rattle.iw_events.specs.declared.call.End.{End}
use Rattle.iw_events.specs.declared.call.Call.{Call}
use Rattle.iw_events.specs.declared.call.Call.TheVariants.{Domain, Register, Deregister, Invalidate, Store, Open, Share, Pool, Unpool, OpenShared, Stream}
use Rattle.iw_events.specs.declared.call.StreamCall.{StreamCall}
use Rattle.iw_events.specs.declared.call.StreamCall.TheVariants.{Recv, Post, Emit, First, Deliver, Raw, Mulpdu, Accept, Reject, Work, Break}
use Rattle.iw_stream.specs.Stream.{StreamState}
use Rattle.iw_laws.specs.Words.{Octets}
use Rattle.iw_endpoint.specs.Endpoint.{has_stream, stream_at}
use Rattle.iw_laws.specs.Rules.{EndState, State, end_of, wire_at, needs_peer}

-- at most 2^62 octets were emitted, and the in-order point lies at 2^62 at most
pub record IsShort (s : StreamState) : Type 0 where
  pub sent : s.sent ≤ 2 ^ 62
  pub point : s.arrived.floor ≤ 2 ^ 62

-- so at each stream of an end, and what each emitted has a place
pub record IsShortEnd (s : EndState) : Type 0 where
  pub laid : length s.wires ≡ length s.endpoint.streams
  pub streams : (n : ℕ) → IsShort (stream_at s.endpoint n)
  pub wires : (n : ℕ) → length (wire_at s n) ≤ 2 ^ 62

abbrev pub IsShortState : State → Type 0
IsShortState w = (x : End) → IsShortEnd (end_of x w)

-- ---- calls that cannot happen

-- a delivery of octets that were not emitted
abbrev pub AsksOver : List ℕ → StreamCall Octets → Type 0
AsksOver peer (Deliver from len) = length peer < from + len
AsksOver peer (Raw number octets) = ⊥
AsksOver peer (First number) = ⊥
AsksOver peer (Mulpdu size) = ⊥
AsksOver peer (Accept private) = ⊥
AsksOver peer (Reject private) = ⊥
AsksOver peer (Recv len) = ⊥
AsksOver peer (Post message) = ⊥
AsksOver peer Emit = ⊥
AsksOver peer Work = ⊥
AsksOver peer Break = ⊥

-- the call is one of a stream, and is so
abbrev pub IsOfStream : (ℕ → StreamCall Octets → Type 0) → Call Octets → Type 0
IsOfStream P (Stream n call) = P n call
IsOfStream P (Domain pd) = ⊥
IsOfStream P (Register pd base rights octets) = ⊥
IsOfStream P (Deregister stag) = ⊥
IsOfStream P (Invalidate stag) = ⊥
IsOfStream P (Store stag to octets) = ⊥
IsOfStream P (Open n pd role options private) = ⊥
IsOfStream P (Share pd) = ⊥
IsOfStream P (Pool pd len) = ⊥
IsOfStream P (Unpool pd) = ⊥
IsOfStream P (OpenShared n pd role options private) = ⊥

-- the call needs a stream that was not opened
abbrev pub LacksStream : EndState → EndState → Call Octets → Type 0
LacksStream s peer = IsOfStream (λ n call.
    (has_stream s.endpoint n ≡ false) ⊎ ((needs_peer call ≡ true) × (has_stream peer.endpoint n ≡ false)))

-- the call has its streams, and delivers octets that were not emitted
abbrev pub AsksTooMuch : EndState → EndState → Call Octets → Type 0
AsksTooMuch s peer = IsOfStream (λ n call.
    (has_stream s.endpoint n ≡ true)
    × (needs_peer call ≡ true → has_stream peer.endpoint n ≡ true) × AsksOver (wire_at peer n) call)
