-- Where there is nothing to do.
use Rattle.std.specs.Prelude.{◌≡◌, Bool, true, false, ℕ, List, None}
use Rattle.iw_startup.specs.declared.progress.Progress.TheVariants as progress
use Rattle.iw_queues.specs.declared.request.Kind.{Kind}
use Rattle.iw_events.specs.declared.act.Act.{Act}
use Rattle.iw_events.specs.declared.act.StreamAct.{StreamAct}
use Rattle.iw_events.specs.declared.act.Seen.{Seen}
use Rattle.iw_events.specs.declared.act.Seen.TheVariants as seen
use Rattle.iw_events.specs.declared.act.Entry.{Entry}
use Rattle.iw_laws.specs.Words.{Octets, deed, stream_acts, ended}
use Rattle.iw_stream.specs.Starting.{is_open, awaits_frame}
use Rattle.iw_laws.specs.Turns.{Story, story_of, next_frame, early_frame, HearsFrame}
use Rattle.iw_laws.specs.Sends.{CanFinish}
use Rattle.iw_laws.specs.Words.{OnSome, OnStream, AtEach}

-- why there is nothing to do: the stream has ended; the peer's start-up frame is not whole; the user has not answered it;
-- or the stream is open, the frame whose turn is next is not whole, and none can be judged before its turn
pub data HasRest (over : Bool) (t : Story) : Type 0 where
  Over : over ≡ true → HasRest over t
  AwaitsFrame : HearsFrame over t progress.More → HasRest over t
  AwaitsAnswer : is_open t.start ≡ false → awaits_frame t.start ≡ false → HasRest over t
  NoFrame : is_open t.start ≡ true → next_frame t ≡ None → early_frame t ≡ None → HasRest over t

-- there is a reason, and no message can be finished
pub record IsAtRest (over : Bool) (t : Story) (before : List (StreamAct Octets)) : Type 0 where
  pub reason : HasRest over t
  pub unfinished : (kind : Kind) → ¬ CanFinish t before kind

abbrev pub IdleSeen : Bool → Story → List (StreamAct Octets) → Seen Octets → Type 0
IdleSeen over t before seen.Idle = IsAtRest over t before
IdleSeen over t before (seen.Done kind) = Unit {0}
IdleSeen over t before (seen.Flushed kind) = Unit {0}
IdleSeen over t before (seen.FlushedRecv octets) = Unit {0}
IdleSeen over t before (seen.Asked told private) = Unit {0}
IdleSeen over t before (seen.Opened agreed told private) = Unit {0}
IdleSeen over t before (seen.Closed fault) = Unit {0}
IdleSeen over t before (seen.Placed right stag to octets) = Unit {0}
IdleSeen over t before (seen.Buffered msn mo len) = Unit {0}
IdleSeen over t before (seen.Requested size stag to) = Unit {0}
IdleSeen over t before (seen.Tried place) = Unit {0}
IdleSeen over t before seen.Passed = Unit {0}
IdleSeen over t before (seen.Received octets solicited invalidate) = Unit {0}
IdleSeen over t before (seen.Terminated fault) = Unit {0}
IdleSeen over t before (seen.Fault fault) = Unit {0}

abbrev pub IdleStream : List (Act Octets) → ℕ → StreamAct Octets → Type 0
IdleStream before n act = OnSome (IdleSeen (ended (stream_acts n before)) (story_of n before) (stream_acts n before)) (deed act).step

abbrev pub IdleOnlyAtRest : List (Entry Octets) → Type 0
IdleOnlyAtRest = AtEach (OnStream IdleStream)
