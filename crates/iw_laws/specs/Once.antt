-- Each frame is placed once.
use Rattle.std.specs.Prelude.{◌≡◌, ◌⊎◌, ◌≤◌, ◌||◌, ℕ, is_some, Bool, List, [], ◌∷◌, ◌++◌, length, map, fold, if◌then◌else◌, Option, Some, Ok}
use Rattle.std.specs.List.{Contains}
use Rattle.std.specs.Option.{option_map}
use Rattle.iw_fpdu.specs.declared.layout.Layout.{Layout}
use Rattle.iw_fpdu.specs.Frame.{frame_end}
use Rattle.iw_fpdu.specs.Places.{span_start}
use Rattle.iw_stream.specs.declared.landing.Landing.{Landing}
use Rattle.iw_stream.specs.Frames.{Frame}
use Rattle.iw_stream.specs.Judging.{Standing, verdict}
use Rattle.iw_stream.specs.Starting.{expecting}
use Rattle.iw_events.specs.declared.call.End.{End}
use Rattle.iw_events.specs.declared.act.Act.{Act}
use Rattle.iw_events.specs.declared.act.StreamAct.{StreamAct}
use Rattle.iw_events.specs.declared.act.Seen.{Seen}
use Rattle.iw_events.specs.declared.act.Seen.TheVariants as seen
use Rattle.iw_events.specs.declared.act.Entry.{Entry}
use Rattle.iw_laws.specs.Words.{Octets, Opening, Deed, acts, deed, stream_acts, opening_of}
use Rattle.iw_laws.specs.Words.{OnSome, OnStream, AtEach}
use Rattle.iw_laws.specs.Turns.{Story, story_after, untold, judged_frame, seen_judged, story_of, standing}

-- ---- where frames lie

-- the frame places from `from` up to `to`
pub record Span : Type 0 where
  pub from : ℕ
  pub to : ℕ

-- two have no place in common
abbrev pub IsApart : Span → Span → Type 0
IsApart x y = (x.to ≤ y.from) ⊎ (y.to ≤ x.from)

-- no two of these have
abbrev pub NoneOverlap : List Span → Type 0
NoneOverlap [] = Unit {0}
NoneOverlap (x ∷ xs) = ((y : Span) → Contains xs y → IsApart x y) × NoneOverlap xs

-- with the marker directly before it, if there is one, and those within it
abbrev pub span_of : Layout → Frame → Span
span_of layout frame = record { from = span_start layout.markers frame.start; to = frame_end layout.markers frame.start (length frame.ulpdu) }

-- ---- of those that were placed

-- octets were placed, in a region or in a receive buffer
abbrev pub places_octets : Deed → Bool
places_octets d = is_some d.placing || is_some d.buffering

-- where the frame lies that is judged next
abbrev pub judged_span : Story → Option Span
judged_span t = option_map (span_of (expecting t.start)) (judged_frame t)

-- of one act, by what the acts before it say
abbrev pub spans_by : Story → StreamAct Octets → List (Option Span)
spans_by t act = if places_octets (deed act) then judged_span t ∷ [] else []

-- what the acts of a stream say, and where each frame lies that was placed
pub record Placed : Type 0 where
  pub story : Story
  pub spans : List (Option Span)

abbrev pub placed_after : Placed → StreamAct Octets → Placed
placed_after p act = record { story = story_after p.story act; spans = p.spans ++ spans_by p.story act }

-- one for each act that placed octets, in order
unfoldable pub spans_placed : Opening → List (StreamAct Octets) → List (Option Span)
spans_placed o done = (fold placed_after (record { story = untold o; spans = [] }) done).spans

-- ---- the law

-- the frame that is judged next, and its placement as things stand
pub record IsPlacement (t : Story) (s : Standing) (step : Seen Octets) : Type 0 where
  pub frame : Frame
  pub is : judged_frame t ≡ Some frame
  pub at : Landing
  pub lands : verdict s frame ≡ Ok at
  pub answer : step ≡ seen_judged frame (Ok at)

abbrev pub PlacedSeen : Story → Standing → Seen Octets → Type 0
PlacedSeen t s (seen.Placed right stag to octets) = IsPlacement t s (seen.Placed right stag to octets)
PlacedSeen t s (seen.Buffered msn mo len) = IsPlacement t s (seen.Buffered msn mo len)
PlacedSeen t s (seen.Requested size stag to) = Unit {0}
PlacedSeen t s (seen.Tried place) = Unit {0}
PlacedSeen t s seen.Passed = Unit {0}
PlacedSeen t s (seen.Received octets solicited invalidate) = Unit {0}
PlacedSeen t s (seen.Terminated fault) = Unit {0}
PlacedSeen t s (seen.Fault fault) = Unit {0}
PlacedSeen t s (seen.Done kind) = Unit {0}
PlacedSeen t s (seen.Flushed kind) = Unit {0}
PlacedSeen t s (seen.FlushedRecv octets) = Unit {0}
PlacedSeen t s (seen.Asked told private) = Unit {0}
PlacedSeen t s (seen.Opened agreed told private) = Unit {0}
PlacedSeen t s (seen.Closed fault) = Unit {0}
PlacedSeen t s seen.Idle = Unit {0}

abbrev pub PlacedStream : List (Act Octets) → ℕ → StreamAct Octets → Type 0
PlacedStream before n act = OnSome (PlacedSeen (story_of n before) (standing n before)) (deed act).step

-- each act that placed octets has its frame, and no two of these overlap
pub record AreOnce (spans : List (Option Span)) : Type 0 where
  pub known : List Span
  pub are : spans ≡ map Some known
  pub apart : NoneOverlap known

-- no two frames of a stream that were placed overlap
abbrev pub NonePlacedTwice : List (Entry Octets) → Type 0
NonePlacedTwice trace =
    (past future : List (Entry Octets)) → trace ≡ past ++ future → (x : End) (n : ℕ) → AreOnce (spans_placed (opening_of n (acts x past)) (stream_acts n (acts x past)))

-- each placement is that of the frame that is judged then, as things then stand, and no two of these frames of a stream overlap
pub record PlacesOnce (trace : List (Entry Octets)) : Type 0 where
  pub placements : AtEach (OnStream PlacedStream) trace
  pub once : NonePlacedTwice trace
