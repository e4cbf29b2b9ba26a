-- What becomes of a stream that has ended.
use Rattle.std.specs.Prelude.{◌≡◌, ◌⊎◌, Bool, true, false, not, ◌&&◌, ◌||◌, nat_lt, is_some, if◌then◌else◌, ℕ, ◌≤◌, List, length, slice_get, Option, Some, None}
use Rattle.iw_queues.specs.declared.request.Kind.{Kind}
use Rattle.iw_queues.specs.declared.request.Request.{Request}
use Rattle.iw_queues.specs.Request.{kind_of}
use Rattle.iw_events.specs.declared.act.Act.{Act}
use Rattle.iw_events.specs.declared.act.StreamAct.{StreamAct}
use Rattle.iw_events.specs.declared.act.Shown.{Shown}
use Rattle.iw_events.specs.declared.act.Shown.TheVariants.{Frame, Fetched, Fault as Denied, Nothing}
use Rattle.iw_events.specs.declared.act.Seen.{Seen}
use Rattle.iw_events.specs.declared.act.Seen.TheVariants as seen
use Rattle.iw_events.specs.declared.act.Entry.{Entry}
use Rattle.iw_untagged.specs.Receiving.{first_buffer}
use Rattle.iw_stream.specs.Ending.{is_broken, last_word}
use Rattle.iw_stream.specs.Starting.{own_frame}
use Rattle.iw_endpoint.specs.declared.refusal.NotAtRest.{NotAtRest}
use Rattle.iw_laws.specs.Words.{Octets, deed, stream_acts, posted, handed_kinds, ended, sent}
use Rattle.iw_laws.specs.Turns.{Story, story_of}
use Rattle.iw_laws.specs.Sends.{CanFinish, IsStartFrame, IsLastWord}
use Rattle.iw_laws.specs.Words.{OnSome, OnStream, AtEach}

-- every message that was posted has been handed back
abbrev pub HoldsNoMessage : List (StreamAct Octets) → Type 0
HoldsNoMessage before = length (posted before) ≤ length (handed_kinds before)

-- and every receive buffer
pub record HoldsNothing (t : Story) (before : List (StreamAct Octets)) : Type 0 where
  pub messages : HoldsNoMessage before
  pub buffers : first_buffer t.receiving.source ≡ None

-- the stream has ended; the oldest message that was not handed back has this kind, and cannot be finished
pub record IsGivenUp (over : Bool) (t : Story) (before : List (StreamAct Octets)) (kind : Kind) : Type 0 where
  pub over_so : over ≡ true
  pub message : Request Octets
  pub is : slice_get (posted before) (length (handed_kinds before)) ≡ Some message
  pub kind_is : kind ≡ kind_of message
  pub unfinished : (other : Kind) → ¬ CanFinish t before other

-- the stream has ended, no message is held, and the octets are the oldest receive buffer, with what was placed in it
pub record IsReturned (over : Bool) (t : Story) (before : List (StreamAct Octets)) (octets : Octets) : Type 0 where
  pub over_so : over ≡ true
  pub messages : HoldsNoMessage before
  pub is : first_buffer t.receiving.source ≡ Some octets

abbrev pub EndSeen : Bool → Story → List (StreamAct Octets) → Seen Octets → Type 0
EndSeen over t before (seen.Done kind) = Unit {0}
EndSeen over t before (seen.Flushed kind) = IsGivenUp over t before kind
EndSeen over t before (seen.FlushedRecv octets) = IsReturned over t before octets
EndSeen over t before seen.Idle = over ≡ true → HoldsNothing t before
EndSeen over t before (seen.Asked told private) = over ≡ false
EndSeen over t before (seen.Opened agreed told private) = over ≡ false
EndSeen over t before (seen.Closed fault) = over ≡ false
EndSeen over t before (seen.Placed right stag to octets) = over ≡ false
EndSeen over t before (seen.Buffered msn mo len) = over ≡ false
EndSeen over t before (seen.Requested size stag to) = over ≡ false
EndSeen over t before (seen.Tried place) = over ≡ false
EndSeen over t before seen.Passed = over ≡ false
EndSeen over t before (seen.Received octets solicited invalidate) = over ≡ false
EndSeen over t before (seen.Terminated fault) = over ≡ false
EndSeen over t before (seen.Fault fault) = over ≡ false

-- the start-up frame, of a stream whose link has not broken
pub record IsStartDue (t : Story) (before octets : Octets) : Type 0 where
  pub unbroken : is_broken t.ending ≡ false
  pub is : IsStartFrame t before octets

abbrev pub EndShown : Bool → Story → Octets → Shown Octets → Type 0
EndShown over t before (Frame from octets) = over ≡ true → IsStartDue t before octets ⊎ IsLastWord t before octets
EndShown over t before (Fetched from frame stag to octets) = over ≡ false
EndShown over t before (Denied fault) = over ≡ false
EndShown over t before Nothing = Unit {0}

-- ---- a stream is closed

-- what was posted has not all been handed back
abbrev pub holds_posted : Story → List (StreamAct Octets) → Bool
holds_posted t before = nat_lt (length (handed_kinds before)) (length (posted before)) || is_some (first_buffer t.receiving.source)

-- there is a last word to send: the start-up frame, where the link has not broken, or the Terminate that is due
abbrev pub has_last_word : Story → Octets → Bool
has_last_word t sent = (not (is_broken t.ending) && nat_lt (length sent) (length (own_frame t.start))) || is_some (last_word t.ending)

-- why a stream is not closed: it has not ended, or holds what was posted, or has a last word to send
abbrev pub closing_refusal : Story → List (StreamAct Octets) → Option NotAtRest
closing_refusal t before = if ended before && not (holds_posted t before || has_last_word t (sent before)) then None else Some (record {})

-- ---- the law

abbrev pub EndsStream : List (Act Octets) → ℕ → StreamAct Octets → Type 0
EndsStream before n act =
    let done = stream_acts n before in
    OnSome (EndSeen (ended done) (story_of n before) done) (deed act).step
    × OnSome (EndShown (ended done) (story_of n before) (sent done)) (deed act).shown

-- a stream that has ended hands back what was posted, the messages first, and does nothing else; it sends what is due, and nothing
-- else
abbrev pub Ends : List (Entry Octets) → Type 0
Ends = AtEach (OnStream EndsStream)
