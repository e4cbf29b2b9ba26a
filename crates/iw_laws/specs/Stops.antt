-- Why a run of events has no trace.
use Rattle.std.specs.Prelude.{◌≡◌, ℕ, ◌+◌, ◌⊎◌, true, List, [], ◌∷◌, ◌++◌, map, length}
use Rattle.iw_events.specs.declared.call.Call.{Call}
use Rattle.iw_events.specs.declared.call.Event.{Event}
use Rattle.iw_events.specs.declared.act.Act.{Act}
use Rattle.iw_events.specs.declared.act.Entry.{Entry}
use Rattle.iw_events.specs.Events.{event_of}
use Rattle.iw_laws.specs.declared.fault.WorldFault.{WorldFault}
use Rattle.iw_laws.specs.declared.fault.WorldFault.TheVariants.{NotSent, NoSuchStream, NoMemory}
use Rattle.iw_laws.specs.Words.{Octets, other, acts, stream_acts, openings, sent}
use Rattle.iw_laws.specs.Rules.{start, Follows, needs_peer}
use Rattle.iw_laws.specs.Bounds.{IsOfStream, AsksOver}

-- the stream was never opened at this end
abbrev pub IsUnopened : List (Act Octets) → ℕ → Type 0
IsUnopened done n = openings n done ≡ []

-- the call names a stream that was never opened, where own and peer are what was done at its end and at the other
abbrev pub NamesNoStream : List (Act Octets) → List (Act Octets) → Call Octets → Type 0
NamesNoStream own peer = IsOfStream (λ n call. IsUnopened own n ⊎ ((needs_peer call ≡ true) × IsUnopened peer n))

-- the call names streams that were opened, and delivers octets that the other end has not emitted
abbrev pub AsksNotSent : List (Act Octets) → List (Act Octets) → Call Octets → Type 0
AsksNotSent own peer call =
    (¬ NamesNoStream own peer call) × IsOfStream (λ n call. AsksOver (sent (stream_acts n peer)) call) call

-- the events before the n-th have answers that follow the rules, and the n-th is so, after what was done at its end and at the other
pub record StopsWhere (IsSo : List (Act Octets) → List (Act Octets) → Call Octets → Type 0) (events : List (Event Octets)) (n : ℕ) : Type 0 where
  pub trace : List (Entry Octets)
  pub event : Event Octets
  pub others : List (Event Octets)
  pub split : events ≡ map event_of trace ++ event ∷ others
  pub number : n ≡ length trace + 1
  pub follows : Follows start trace
  pub is_so : IsSo (acts event.end trace) (acts (other event.end) trace) event.call

abbrev pub StopsAt : List (Event Octets) → WorldFault → Type 0
StopsAt events (NoSuchStream n) = StopsWhere NamesNoStream events n
StopsAt events (NotSent n) = StopsWhere AsksNotSent events n
StopsAt events NoMemory = Unit {0}
