-- Frames that are judged before their turn, and their turn when it comes.
use Rattle.std.specs.Prelude.{◌≡◌, ◌⊎◌, ℕ, ◌+◌, ◌≤◌, true, false, Bool, List, length, Some, None, Ok}
use Rattle.iw_memory.specs.Table.{Table}
use Rattle.iw_locate.specs.Free.{IsFree}
use Rattle.iw_locate.specs.Records.{max_records}
use Rattle.iw_stream.specs.declared.landing.Landing.{Landing}
use Rattle.iw_stream.specs.declared.landing.Landing.TheVariants as landing
use Rattle.iw_stream.specs.Frames.{Frame, placed, head_in}
use Rattle.iw_stream.specs.Judging.{Standing, verdict, turn_of}
use Rattle.iw_stream.specs.Kept.{IsTagged}
use Rattle.iw_stream.specs.Starting.{is_open, expecting, first_place_in}
use Rattle.iw_events.specs.declared.act.Act.{Act}
use Rattle.iw_events.specs.declared.act.StreamAct.{StreamAct}
use Rattle.iw_events.specs.declared.act.Seen.{Seen}
use Rattle.iw_events.specs.declared.act.Seen.TheVariants as seen
use Rattle.iw_events.specs.declared.act.Entry.{Entry}
use Rattle.iw_laws.specs.Words.{Octets, deed, stream_acts, ended}
use Rattle.iw_laws.specs.Words.{OnSome, OnStream, AtEach}
use Rattle.iw_laws.specs.Turns.{Story, scene, next_frame, early_frame, was_placed, seen_judged, seen_turned, story_of, standing}

-- ---- before their turn

-- no frame can be judged before its turn: no place is free, or there are as many records as there may be
abbrev pub NoneIsFree : Story → Type 0
NoneIsFree t = ((place : ℕ) → IsFree (scene t) place → ⊥) ⊎ (max_records ≤ length t.early)

-- the payload has a place to go to: a Write's, a Read Response's or a Send's
abbrev pub HasPlace : Landing → Type 0
HasPlace (landing.Write at) = Unit {0}
HasPlace (landing.Response at) = Unit {0}
HasPlace (landing.Send msn mo len) = Unit {0}
HasPlace (landing.Request request) = ⊥
HasPlace (landing.Terminate fault) = ⊥

-- it passes its checks, and its payload has a place to go to
abbrev pub CanBePlaced : Standing → Frame → Type 0
CanBePlaced s frame = (at : Landing) × (verdict s frame ≡ Ok at) × HasPlace at

-- the frame whose turn is next is not whole, and that at the lowest free place is judged: if it can be placed, it is placed in that step, and otherwise it is left:
-- the story has a record of it, and nothing else changes (`story_seen`, `table_seen`)
pub record IsJudgedEarly (t : Story) (s : Standing) (step : Seen Octets) : Type 0 where
  pub frame : Frame
  pub no_next : next_frame t ≡ None
  pub lowest : early_frame t ≡ Some frame
  pub placed : (at : Landing) → verdict s frame ≡ Ok at → HasPlace at → step ≡ seen_judged frame (Ok at)
  pub left : (CanBePlaced s frame → ⊥) → step ≡ seen.Tried (first_place_in t.start + frame.start)

abbrev pub EarlySeen : Bool → Story → Standing → Seen Octets → Type 0
EarlySeen over t s seen.Idle = over ≡ false → is_open t.start ≡ true → (expecting t.start).markers ≡ true → NoneIsFree t
EarlySeen over t s (seen.Placed right stag to octets) = next_frame t ≡ None → IsJudgedEarly t s (seen.Placed right stag to octets)
EarlySeen over t s (seen.Buffered msn mo len) = next_frame t ≡ None → IsJudgedEarly t s (seen.Buffered msn mo len)
EarlySeen over t s (seen.Tried place) = IsJudgedEarly t s (seen.Tried place)
EarlySeen over t s (seen.Done kind) = Unit {0}
EarlySeen over t s (seen.Flushed kind) = Unit {0}
EarlySeen over t s (seen.FlushedRecv octets) = Unit {0}
EarlySeen over t s (seen.Asked told private) = Unit {0}
EarlySeen over t s (seen.Opened agreed told private) = Unit {0}
EarlySeen over t s (seen.Closed fault) = Unit {0}
EarlySeen over t s (seen.Requested size stag to) = Unit {0}
EarlySeen over t s seen.Passed = Unit {0}
EarlySeen over t s (seen.Received octets solicited invalidate) = Unit {0}
EarlySeen over t s (seen.Terminated fault) = Unit {0}
EarlySeen over t s (seen.Fault fault) = Unit {0}

abbrev pub EarlyStream : List (Act Octets) → ℕ → StreamAct Octets → Type 0
EarlyStream before n act = OnSome (EarlySeen (ended (stream_acts n before)) (story_of n before) (standing n before)) (deed act).step

-- at every step of work: none is idle while a frame can be judged before its turn, and each that is judged so is placed at once, or left
abbrev pub JudgesEarly : List (Entry Octets) → Type 0
JudgesEarly = AtEach (OnStream EarlyStream)

-- ---- their turn

-- the answer is that of the frame's turn alone, whatever became of the regions since it was placed, where its segment is tagged
pub record IsTurnAlone (t : Story) (s : Standing) (step : Seen Octets) (frame : Frame) : Type 0 where
  pub answer : step ≡ seen_turned s.receiving (placed frame) (turn_of s (placed frame))
  pub anyway : IsTagged (head_in (placed frame)) → (table : Table) → step ≡ seen_turned s.receiving (placed frame) (turn_of (record s { table = table }) (placed frame))

-- of the frame whose turn is next, where it was placed
abbrev pub TurnsPlaced : Story → Standing → Seen Octets → Type 0
TurnsPlaced t s step = was_placed t ≡ true → (frame : Frame) → next_frame t ≡ Some frame → IsTurnAlone t s step frame

abbrev pub SecondSeen : Story → Standing → Seen Octets → Type 0
SecondSeen t s (seen.Placed right stag to octets) = TurnsPlaced t s (seen.Placed right stag to octets)
SecondSeen t s (seen.Buffered msn mo len) = TurnsPlaced t s (seen.Buffered msn mo len)
SecondSeen t s (seen.Requested size stag to) = TurnsPlaced t s (seen.Requested size stag to)
SecondSeen t s (seen.Tried place) = TurnsPlaced t s (seen.Tried place)
SecondSeen t s seen.Passed = TurnsPlaced t s seen.Passed
SecondSeen t s (seen.Received octets solicited invalidate) = TurnsPlaced t s (seen.Received octets solicited invalidate)
SecondSeen t s (seen.Terminated fault) = TurnsPlaced t s (seen.Terminated fault)
SecondSeen t s (seen.Fault fault) = TurnsPlaced t s (seen.Fault fault)
SecondSeen t s (seen.Done kind) = Unit {0}
SecondSeen t s (seen.Flushed kind) = Unit {0}
SecondSeen t s (seen.FlushedRecv octets) = Unit {0}
SecondSeen t s (seen.Asked told private) = Unit {0}
SecondSeen t s (seen.Opened agreed told private) = Unit {0}
SecondSeen t s (seen.Closed fault) = Unit {0}
SecondSeen t s seen.Idle = Unit {0}

abbrev pub SecondStream : List (Act Octets) → ℕ → StreamAct Octets → Type 0
SecondStream before n act = OnSome (SecondSeen (story_of n before) (standing n before)) (deed act).step

-- at every step of work: a frame that was placed, then or before its turn, is not checked again
abbrev pub ChecksOnce : List (Entry Octets) → Type 0
ChecksOnce = AtEach (OnStream SecondStream)
