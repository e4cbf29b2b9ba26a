-- The events that a schedule stands for, or the first fault, by lines and by words.
use Rattle.std.specs.Prelude.{◌≡◌, ℕ, ◌+◌, ◌==◌, Bool, true, nat_lt, List, [], ◌∷◌, ◌++◌, length, map, Result, Ok, Err, if◌then◌else◌}
use Rattle.iw_events.specs.declared.call.End.{End}
use Rattle.iw_events.specs.declared.call.Event.{Event}
use Rattle.iw_events.specs.declared.call.Call.{Call}
use Rattle.iw_schedules.specs.declared.fault.FaultName.{FaultName}
use Rattle.iw_schedules.specs.declared.fault.FaultName.TheVariants.{BadWord, TooMany}
use Rattle.iw_schedules.specs.declared.fault.ScheduleFault.{ScheduleFault}
use Rattle.iw_schedules.specs.declared.fault.ScheduleFault.TheVariants as faults
use Rattle.iw_schedules.specs.declared.schedule.TheConstants.{MAX_EVENTS}
use Rattle.iw_schedules.specs.Reading.{◌>>=◌}
use Rattle.iw_schedules.specs.Pieces.{lines, words}
use Rattle.iw_schedules.specs.Words.{end_word}
use Rattle.iw_schedules.specs.Calls.{field, calls_at}

abbrev pub Events : Type 0
Events = List (Event (List ℕ))

-- an empty line, or a comment
abbrev pub is_skipped : List ℕ → Bool
is_skipped [] = true
is_skipped (octet ∷ line) = octet == 35

-- no word is left
abbrev pub ended : {X : Type 0} → X → List (List ℕ) → Result X FaultName
ended x [] = Ok x
ended x (word ∷ words) = Err BadWord

abbrev pub event_at : End → Call (List ℕ) → Event (List ℕ)
event_at end call = record { end = end; call = call }

-- the events of a line of these words
unfoldable pub events_of : List (List ℕ) → Result Events FaultName
events_of words = do
  end ← field end_word words
  calls ← calls_at end.1
  ended (map (event_at end.0) calls.0) calls.1

-- more events after others
abbrev pub with_events : Events → Events → Result Events FaultName
with_events before events = if nat_lt MAX_EVENTS (length before + length events) then Err TooMany else Ok (before ++ events)

-- the events before a line and those of the line
unfoldable pub with_line : Events → List ℕ → Result Events FaultName
with_line before line = if is_skipped line then Ok before else events_of (words line) >>= with_events before

abbrev pub and_then : ℕ → Result Events FaultName → (Events → Result Events ScheduleFault) → Result Events ScheduleFault
and_then number (Ok events) f = f events
and_then number (Err name) f = Err (faults.Line number name)

-- the events before these lines and those of the lines, the first of which has this number
unfoldable pub with_lines : ℕ → Events → List (List ℕ) → Result Events ScheduleFault
with_lines number before [] = Ok before
with_lines number before (line ∷ lines) =
    and_then number (with_line before line) (λ events. with_lines (number + 1) events lines)

unfoldable pub schedule_of : List ℕ → Result Events ScheduleFault
schedule_of text = with_lines 1 [] (lines text)

-- what a function returned is what the text stands for, unless memory ran out
abbrev pub FailsWith : {Y : Type 0} → ScheduleFault → Result Y ScheduleFault → Type 0
FailsWith faults.NoMemory read = Unit {0}
FailsWith (faults.Line line name) read = read ≡ Err (faults.Line line name)

abbrev pub Reads : {X Y : Type 0} → (X → Y) → Result X ScheduleFault → Result Y ScheduleFault → Type 0
Reads view (Ok x) read = read ≡ Ok (view x)
Reads view (Err fault) read = FailsWith fault read
