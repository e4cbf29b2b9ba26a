-- What a replay reads and writes.
use Rattle.std.specs.Prelude.{◌≡◌, ℕ, List, map, take, Option}
use Rattle.std.specs.Io.KnownBytes.{Appends, Consumes, IsAtEnd, Keeps}
use Rattle.iw_events.specs.declared.act.Entry.{Entry}
use Rattle.iw_events.specs.Events.{event_of}
use Rattle.iw_schedules.specs.Schedule.{Events}
use Rattle.iw_schedules.specs.Grammar.{IsSchedule, FirstFault}
use Rattle.iw_schedules.specs.Trace.{trace_text}
use Rattle.iw_laws.specs.declared.fault.WorldFault.{WorldFault}
use Rattle.iw_laws.specs.Rules.{start, Follows}
use Rattle.iw_laws.specs.Stops.{StopsAt}
use Rattle.iw_output.specs.declared.status.Status.{Status}
use Rattle.iw_program.specs.declared.fault.Refusal.{Refusal}
use Rattle.iw_program.specs.declared.fault.Refusal.TheVariants.{Schedule, World, NoMemory}
use Rattle.iw_program.specs.declared.fault.ReplayFault.{ReplayFault}
use Rattle.iw_program.specs.declared.fault.ReplayFault.TheVariants.{Refused, Input, Output}
use Rattle.iw_program.specs.Status.{status_of}

-- the text is a schedule, whose trace prints so and has this status
pub record Replays (text printed : List ℕ) (status : Status) : Type 0 where
  pub events : Events
  pub trace : List (Entry (List ℕ))
  pub reads : IsSchedule text events
  pub answers : map event_of trace ≡ events
  pub follows : Follows start trace
  pub prints : printed ≡ trace_text trace
  pub ends : status ≡ status_of trace

-- the text is a schedule, whose run stops with this fault
pub record StopsIn (text : List ℕ) (fault : WorldFault) : Type 0 where
  pub events : Events
  pub reads : IsSchedule text events
  pub stops : StopsAt events fault

-- why a text has no trace; if memory ran out, nothing is said of the text
abbrev pub Refuses : List ℕ → Refusal → Type 0
Refuses text (Schedule fault) = FirstFault text fault
Refuses text (World fault) = StopsIn text fault
Refuses text NoMemory = Unit {0}

-- ---- over an input and an output: their octets before and after, if they are known

-- the whole input was this text
abbrev pub IsRead : Option (List ℕ) → Option (List ℕ) → List ℕ → Type 0
IsRead before after text = Consumes before after text × IsAtEnd after

-- reading fails by itself, or memory runs out
abbrev pub IsReadFault : ReplayFault → Type 0
IsReadFault (Refused NoMemory) = Unit {0}
IsReadFault (Refused (Schedule fault)) = ⊥
IsReadFault (Refused (World fault)) = ⊥
IsReadFault Input = Unit {0}
IsReadFault Output = ⊥

-- the input was a schedule, and its printed trace was written
pub record Prints (input input' output output' : Option (List ℕ)) (status : Status) : Type 0 where
  pub text : List ℕ
  pub printed : List ℕ
  pub is_read : IsRead input input' text
  pub replays : Replays text printed status
  pub writes : Appends output output' printed

-- the input was a schedule, and the front of its printed trace was written
pub record PrintsFront (input input' output output' : Option (List ℕ)) : Type 0 where
  pub text : List ℕ
  pub printed : List ℕ
  pub status : Status
  pub count : ℕ
  pub is_read : IsRead input input' text
  pub replays : Replays text printed status
  pub writes : Appends output output' (take count printed)

-- the input was refused, and nothing was written
pub record WritesNothing (input input' output output' : Option (List ℕ)) (refusal : Refusal) : Type 0 where
  pub text : List ℕ
  pub is_read : IsRead input input' text
  pub refuses : Refuses text refusal
  pub keeps : Keeps output output'

abbrev pub Stops : Option (List ℕ) → Option (List ℕ) → Option (List ℕ) → Option (List ℕ) → ReplayFault → Type 0
Stops input input' output output' (Refused (Schedule fault)) = WritesNothing input input' output output' (Schedule fault)
Stops input input' output output' (Refused (World fault)) = WritesNothing input input' output output' (World fault)
Stops input input' output output' (Refused NoMemory) = Keeps output output'
Stops input input' output output' Input = Keeps output output'
Stops input input' output output' Output = PrintsFront input input' output output'
