-- A schedule is read as the grammar says, and nothing else is.
use Rattle.std.proofs.Common.{◌≡◌, ◌⊎◌, inl, inr, ℕ, ◌+◌, ◌≤◌, Bool, true, false, cond, ltb, eqb, List, [], ◌∷◌, get_or, ◌++◌, length, map, Result, Ok, Err, refl, sym, ap, subst, ◌∙◌, append_assoc, codes, arith}
use Rattle.std.specs.Prelude.{IfOk, IfErr}
use Rattle.std.proofs.lemmas.Bool.{ltb-false, le-ltb}
use Rattle.std.proofs.lemmas.List.{append-nil, length-append}
use Rattle.iw_events.specs.declared.call.End.{End}
use Rattle.iw_events.specs.declared.call.End.TheVariants.{A, B}
use Rattle.iw_events.specs.declared.call.Call.{Call}
use Rattle.iw_schedules.specs.declared.fault.FaultName.{FaultName}
use Rattle.iw_schedules.specs.declared.fault.FaultName.TheVariants.{TooMany}
use Rattle.iw_schedules.specs.declared.fault.ScheduleFault.{ScheduleFault}
use Rattle.iw_schedules.specs.declared.fault.ScheduleFault.TheVariants as faults
use Rattle.iw_schedules.specs.declared.schedule.TheConstants.{MAX_EVENTS}
use Rattle.iw_schedules.specs.Pieces.{split_at_first, lines, words}
use Rattle.iw_schedules.specs.Words.{end_text, ends, end_word}
use Rattle.iw_schedules.specs.Calls.{field, calls_at}
use Rattle.iw_schedules.specs.Schedule.{Events, is_skipped, ended, event_at, events_of, with_line, and_then, with_lines, schedule_of, Reads}
use Rattle.iw_schedules.specs.Grammar.{Word, IsLine, AreLines, IsSchedule, IsFirstFault, FirstFault}
use Rattle.iw_schedules.specs.Grammar.AreLines.{no_lines, skipped, spoken}
use Rattle.iw_schedules.proofs.InPieces.{pieces-split}
use Rattle.iw_schedules.proofs.KindLaws.{bind_ok, okay, one_of_is}
use Rattle.iw_schedules.proofs.CallLaws.{field_is, calls_are, calls_again}

-- ---- lines

abbrev Calls : Type 0
Calls = List (Call (List ℕ))

abbrev okay_events : Events → Result Events ScheduleFault
okay_events events = Ok events

abbrev failed : FaultName → Result Events FaultName
failed name = Err name

abbrev both : Calls → List Word → Calls × List Word
both calls others = (calls, others)

ended_is : {X : Type 0} (x y : X) (others : List Word) → ended x others ≡ Ok y → (others ≡ []) × (x ≡ y)
ended_is x y [] e = (refl, cc)
ended_is x y (word ∷ others) e = absurd cc

end_again : (end : End) → end_word (end_text end) ≡ Ok end
end_again A = refl
end_again B = refl

pub line_is : (line : List ℕ) (events : Events) → events_of (words line) ≡ Ok events → IsLine line events
unfolding events_of
line_is line events e =
    let a = bind_ok (field end_word (words line)) _ events e in
    let b = bind_ok (calls_at a.0.1) _ events a.2 in
    let end = ended_is (map (event_at a.0.0) b.0.0) events b.0.1 b.2 in
    let f = field_is end_word (words line) a.0 a.1 in
    let text = one_of_is end_text ends f.word a.0.0 f.value in
    let whole : b.0 ≡ both b.0.0 [] = ap (both b.0.0) end.0 in
    record {
      end = a.0.0;
      others = a.0.1;
      calls = b.0.0;
      words_are = cc (f.words_are, text);
      call = calls_are a.0.1 b.0.0 (b.1 ∙ ap (okay FaultName) whole);
      events_are = end.1;
    }

line_again : (line : List ℕ) (events : Events) → IsLine line events → events_of (words line) ≡ Ok events
unfolding events_of
line_again line events is =
    rw (is.words_are, end_again is.end, calls_again is.others is.calls is.call) (ap (okay FaultName) is.events_are)

-- a line that stands for events begins with an end
begins_at : (x : ℕ) (xs : List ℕ) (end : End) (b : Bool) → eqb x 32 ≡ b → (split_at_first 32 (x ∷ xs)).0 ≡ end_text end → eqb x 35 ≡ false
begins_at x xs A true space e = let nothing : [] ≡ codes "a" = rw space at e in absurd cc
begins_at x xs B true space e = let nothing : [] ≡ codes "b" = rw space at e in absurd cc
begins_at x xs A false space e =
    let spelled : x ∷ (split_at_first 32 xs).0 ≡ codes "a" = rw space at e in
    let first : x ≡ 97 = ap (λ ys. get_or ys 0 0) spelled in
    rw first refl
begins_at x xs B false space e =
    let spelled : x ∷ (split_at_first 32 xs).0 ≡ codes "b" = rw space at e in
    let first : x ≡ 98 = ap (λ ys. get_or ys 0 0) spelled in
    rw first refl

begins : (line : List ℕ) (end : End) → (split_at_first 32 line).0 ≡ end_text end → is_skipped line ≡ false
begins [] A e = absurd cc
begins [] B e = absurd cc
begins (x ∷ xs) end e = begins_at x xs end (eqb x 32) refl e

first_word : (word : Word) (others : List Word) (first : Word) (beyond : List Word) → word ∷ others ≡ first ∷ beyond → word ≡ first
first_word word others first beyond e = cc

is_spoken : (line : List ℕ) (events : Events) → IsLine line events → is_skipped line ≡ false
is_spoken line events is = begins line is.end (first_word _ _ _ _ (sym (pieces-split 32 line) ∙ is.words_are))

-- ---- a line behind others

if_err_ok : {X : Type 0} (b : Bool) (fault : FaultName) (x y : X) → cond b (Err fault) (Ok x) ≡ Ok y → (b ≡ false) × (x ≡ y)
if_err_ok true fault x y e = absurd cc
if_err_ok false fault x y e = (refl, cc)

-- what a line added
abbrev Added : Events → List ℕ → Events → Type 0
Added before line after = ((is_skipped line ≡ true) × (before ≡ after)) ⊎ ((events : Events) × IsLine line events × (before ++ events ≡ after) × (length after ≤ MAX_EVENTS))

added_told : (before after : Events) (line : List ℕ) (b : Bool) → is_skipped line ≡ b → with_line before line ≡ Ok after → Added before line after
unfolding with_line
added_told before after line true skip e = let same : before ≡ after = cc (rw skip at e) in inl (skip, same)
added_told before after line false skip e =
    let a = bind_ok (events_of (words line)) _ after (rw skip at e) in
    let t = if_err_ok (ltb MAX_EVENTS (length before + length a.0)) TooMany (before ++ a.0) after a.2 in
    let few : length before + length a.0 ≤ MAX_EVENTS = ltb-false _ _ t.0 in
    inr (a.0, line_is line a.0 a.1, t.1, rw (← t.1, length-append before a.0) few)

added_is : (before after : Events) (line : List ℕ) → with_line before line ≡ Ok after → Added before line after
added_is before after line e = added_told before after line (is_skipped line) refl e

with_line-skipped : (before : Events) (line : List ℕ) → is_skipped line ≡ true → with_line before line ≡ Ok before
unfolding with_line
with_line-skipped before line skip = rw skip refl

with_line-spoken : (before events : Events) (line : List ℕ) → IsLine line events → length before + length events ≤ MAX_EVENTS → with_line before line ≡ Ok (before ++ events)
unfolding with_line
with_line-spoken before events line is few =
    rw (is_spoken line events is, line_again line events is, le-ltb MAX_EVENTS (length before + length events) few) refl

-- ---- all lines

and_then_ok : (number : ℕ) (r : Result Events FaultName) (f : Events → Result Events ScheduleFault) (y : Events) → and_then number r f ≡ Ok y → (x : Events) × (r ≡ Ok x) × (f x ≡ Ok y)
and_then_ok number (Ok x) f y e = (x, refl, e)
and_then_ok number (Err name) f y e = absurd cc

-- these lines, and what they added
record Adds (before after : Events) (lines : List (List ℕ)) : Type 0 where
  events : Events
  each : AreLines lines events
  after_is : before ++ events ≡ after
  few : length after ≤ MAX_EVENTS

adds_more : (before mid after : Events) (line : List ℕ) (others : List (List ℕ)) → Added before line mid → Adds mid after others → Adds before after (line ∷ others)
adds_more before mid after line others (inl skip) more =
    record { events = more.events; each = skipped skip.0 more.each; after_is = ap (λ es. es ++ more.events) skip.1 ∙ more.after_is; few = more.few }
adds_more before mid after line others (inr told) more =
    record {
      events = told.0 ++ more.events;
      each = spoken told.1 more.each;
      after_is = sym (append_assoc before told.0 more.events) ∙ (ap (λ es. es ++ more.events) told.2 ∙ more.after_is);
      few = more.few;
    }

still_few : (before after : Events) (line : List ℕ) → length before ≤ MAX_EVENTS → Added before line after → length after ≤ MAX_EVENTS
still_few before after line few (inl skip) = rw (← skip.1) few
still_few before after line few (inr told) = told.3

lines_are : (number : ℕ) (before after : Events) (lines : List (List ℕ)) → length before ≤ MAX_EVENTS → with_lines number before lines ≡ Ok after → Adds before after lines
unfolding with_lines
lines_are number before after [] few e =
    let same : before ≡ after = cc in
    record { events = []; each = no_lines; after_is = append-nil before ∙ same; few = rw (← same) few }
lines_are number before after (line ∷ lines) few e =
    let a = and_then_ok number (with_line before line) (λ events. with_lines (number + 1) events lines) after e in
    let added = added_is before a.0 line a.1 in
    adds_more before a.0 after line lines added (lines_are (number + 1) a.0 after lines (still_few before a.0 line few added) a.2)

lines_again : (number : ℕ) (before events : Events) (lines : List (List ℕ)) → AreLines lines events → length before + length events ≤ MAX_EVENTS → with_lines number before lines ≡ Ok (before ++ events)
unfolding with_lines
lines_again number before events lines no_lines few = ap okay_events (sym (append-nil before))
lines_again number before events lines (skipped {line} {others} skip each) few =
    rw (with_line-skipped before line skip) (lines_again (number + 1) before events others each few)
lines_again number before out lines (spoken {line} {others} {events} {more} is each) few =
    let total : length before + length events + length more ≤ MAX_EVENTS = omega (arith, few, length-append events more) in
    rw (with_line-spoken before events line is (omega arith)) (lines_again (number + 1) (before ++ events) more others each (omega (arith, total, length-append before events)) ∙ ap okay_events (append_assoc before events more))

pub schedule_is : (text : List ℕ) (events : Events) → schedule_of text ≡ Ok events → IsSchedule text events
unfolding schedule_of
schedule_is text events e =
    let a = lines_are 1 [] events (lines text) (omega arith) e in
    record { each = subst (λ es. AreLines (lines text) es) a.after_is a.each; few = a.few }

pub schedule_again : (text : List ℕ) (events : Events) → IsSchedule text events → schedule_of text ≡ Ok events
unfolding schedule_of
schedule_again text events is = lines_again 1 [] events (lines text) is.each (omega (arith, is.few))

-- no text stands for two lists of events
pub one_list : (text : List ℕ) (events others : Events) → IsSchedule text events → IsSchedule text others → events ≡ others
one_list text events others is also =
    let both_are : okay_events events ≡ okay_events others = sym (schedule_again text events is) ∙ schedule_again text others also in
    cc

-- ---- the first fault

and_then_err : (number n : ℕ) (name : FaultName) (r : Result Events FaultName) (f : Events → Result Events ScheduleFault) → and_then number r f ≡ Err (faults.Line n name)
    → ((number ≡ n) × (r ≡ Err name)) ⊎ ((x : Events) × (r ≡ Ok x) × (f x ≡ Err (faults.Line n name)))
and_then_err number n name (Ok x) f e = inr (x, refl, e)
and_then_err number n name (Err other) f e =
    let same : faults.Line number other ≡ faults.Line n name = cc in
    let is_name : other ≡ name = cc in
    inl (cc, ap failed is_name)

-- these lines up to the first with a fault
record Faulty (number n : ℕ) (name : FaultName) (before : Events) (lines : List (List ℕ)) : Type 0 where
  good : List (List ℕ)
  bad : List ℕ
  beyond : List (List ℕ)
  events : Events
  lines_are : lines ≡ good ++ bad ∷ beyond
  number_is : number + length good ≡ n
  each : AreLines good events
  few : length (before ++ events) ≤ MAX_EVENTS
  fault : with_line (before ++ events) bad ≡ Err name

faulty_later : (number n : ℕ) (name : FaultName) (before mid : Events) (line : List ℕ) (others : List (List ℕ)) → Added before line mid → Faulty (number + 1) n name mid others → Faulty number n name before (line ∷ others)
faulty_later number n name before mid line others (inl skip) later =
    let same : mid ++ later.events ≡ before ++ later.events = ap (λ es. es ++ later.events) (sym skip.1) in
    record {
      good = line ∷ later.good;
      bad = later.bad;
      beyond = later.beyond;
      events = later.events;
      lines_are = ap (λ ls. line ∷ ls) later.lines_are;
      number_is = omega (arith, later.number_is);
      each = skipped skip.0 later.each;
      few = rw (← same) later.few;
      fault = rw (← same) later.fault;
    }
faulty_later number n name before mid line others (inr told) later =
    let same : mid ++ later.events ≡ before ++ (told.0 ++ later.events) = ap (λ es. es ++ later.events) (sym told.2) ∙ append_assoc before told.0 later.events in
    record {
      good = line ∷ later.good;
      bad = later.bad;
      beyond = later.beyond;
      events = told.0 ++ later.events;
      lines_are = ap (λ ls. line ∷ ls) later.lines_are;
      number_is = omega (arith, later.number_is);
      each = spoken told.1 later.each;
      few = rw (← same) later.few;
      fault = rw (← same) later.fault;
    }

lines_fault : (number n : ℕ) (name : FaultName) (before : Events) (lines : List (List ℕ)) → length before ≤ MAX_EVENTS → with_lines number before lines ≡ Err (faults.Line n name) → Faulty number n name before lines
unfolding with_lines
lines_fault number n name before [] few e = absurd cc
lines_fault number n name before (line ∷ lines) few e =
    elim (and_then_err number n name (with_line before line) (λ events. with_lines (number + 1) events lines) e) [
      | inl here ↦
          record {
            good = [];
            bad = line;
            beyond = lines;
            events = [];
            lines_are = refl;
            number_is = omega (arith, here.0);
            each = no_lines;
            few = rw (append-nil before) few;
            fault = rw (append-nil before) here.1;
          }
      | inr later ↦
          let added = added_is before later.0 line later.1 in
          faulty_later number n name before later.0 line lines added (lines_fault (number + 1) n name later.0 lines (still_few before later.0 line few added) later.2)
    ]

first_fault_is : (text : List ℕ) (number : ℕ) (name : FaultName) → schedule_of text ≡ Err (faults.Line number name) → IsFirstFault text number name
unfolding schedule_of
first_fault_is text number name e =
    let f = lines_fault 1 number name [] (lines text) (omega arith) e in
    record { good = f.good; bad = f.bad; beyond = f.beyond; events = f.events; lines_are = f.lines_are; number_is = omega (arith, f.number_is); each = f.each; few = f.few; fault = f.fault }

pub found : (text : List ℕ) {X : Type 0} (view : X → Events) (r : Result X ScheduleFault) → Reads view r (schedule_of text) → IfOk r (λ x. IsSchedule text (view x))
found text view (Ok x) reads = schedule_is text (view x) reads
found text view (Err fault) reads = tt

pub only : (text : List ℕ) (events : Events) {X : Type 0} (view : X → Events) (r : Result X ScheduleFault) → IsSchedule text events → Reads view r (schedule_of text) → Reads view r (Ok events)
only text events view r is reads = rw (schedule_again text events is) at reads

pub first : (text : List ℕ) {X : Type 0} (view : X → Events) (r : Result X ScheduleFault) → Reads view r (schedule_of text) → IfErr r (FirstFault text)
first text view (Ok x) reads = tt
first text view (Err (faults.Line number name)) reads = first_fault_is text number name reads
first text view (Err faults.NoMemory) reads = tt
