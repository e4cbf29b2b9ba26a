-- What quiet steps one after another come to, and the step past them.
use Rattle.std.proofs.Common.{◌≡◌, ℕ, ◌+◌, ◌<◌, ◌≤◌, true, false, List, refl, sym, ◌∙◌, ap, subst, add-one}
use Rattle.std.proofs.Common.{Option, None, Some, Result, Ok, Err, IfSome, IfNone}
use Rattle.std.proofs.lemmas.Bool.{false≢true}
use borrow.Author.Count.{below_more}
use Rattle.iw_stream.specs.declared.answer.Step.{Step}
use Rattle.iw_stream.specs.declared.answer.Step.TheVariants.{Done, Flushed, FlushedRecv, Asked, Opened, Closed, Placed}
use Rattle.iw_stream.specs.declared.answer.Step.TheVariants.{Buffered, Requested, Tried, Passed, Received, Terminated}
use Rattle.iw_stream.specs.declared.answer.Step.TheVariants.{Fault, Idle}
use Rattle.iw_endpoint.specs.Endpoint.{EndpointState, step_at, after_work}
use Rattle.iw_handle.specs.declared.event.Event.{Event}
use Rattle.iw_handle.specs.declared.open_handle.Held.{Held}
use Rattle.iw_lines.specs.Line.{oldest_token}
use Rattle.iw_lines.specs.Lines.{LineTable, line_at}
use Rattle.iw_handle.specs.declared.refusal.Refusal.{Refusal}
use Rattle.iw_handle.specs.declared.refusal.Refusal.TheVariants.{NoMemory}
use Rattle.iw_handle.specs.Events.{event_of, event_at}
use Rattle.iw_handle.specs.Streams.{refusal_to_work, TriesAt, lines_by, lines_passed, lines_after, held_worked}
use Rattle.iw_handle.specs.Steps.{is_quiet, is_quiet_answer, is_quiet_at, GoesQuietly, after_steps, Works, WorksOn}

-- it hands nothing back, and no message is done
pub lines_by-quiet : (step : Step (List ℕ)) (number : ℕ) (lines : LineTable) → is_quiet step ≡ true → lines_by step number lines ≡ lines_passed step number lines
lines_by-quiet (Placed right stag to len) number lines quiet = refl
lines_by-quiet (Buffered msn mo len) number lines quiet = refl
lines_by-quiet (Requested size stag to) number lines quiet = refl
lines_by-quiet (Tried place) number lines quiet = refl
lines_by-quiet Passed number lines quiet = refl
lines_by-quiet (Done message) number lines quiet = absurd (false≢true quiet)
lines_by-quiet (Flushed message) number lines quiet = absurd (false≢true quiet)
lines_by-quiet (FlushedRecv buffer) number lines quiet = absurd (false≢true quiet)
lines_by-quiet Asked number lines quiet = refl
lines_by-quiet (Opened agreed) number lines quiet = refl
lines_by-quiet (Closed fault) number lines quiet = refl
lines_by-quiet (Received buffer len solicited invalidate) number lines quiet = absurd (false≢true quiet)
lines_by-quiet (Terminated fault) number lines quiet = refl
lines_by-quiet (Fault fault) number lines quiet = refl
lines_by-quiet Idle number lines quiet = refl

-- what a step of the endpoint answered
abbrev pub Answered : Type 0
Answered = Result (Step (List ℕ)) Refusal

-- a step that was done was not refused
pub none_refused : (o : Option Refusal) (step : Step (List ℕ)) →
    IfSome o (λ r. let answer : Answered = Ok step in answer ≡ Err r) → o ≡ None
none_refused None step refused = refl
none_refused (Some r) step refused = cc

-- a refusal is the same of a step and of what is told of it
pub same_refusal : (o : Option Refusal) (refusal : Refusal) →
    IfSome o (λ r. let answer : Answered = Err refusal in answer ≡ Err r) → IfSome o (λ r. Some refusal ≡ Some r)
same_refusal None refusal is = tt
same_refusal (Some r) refusal is = cc

after_steps-more : (n : ℕ) (held : Held) (number : ℕ) →
    after_steps (n + 1) held number ≡ held_worked (after_steps n held number) number
unfolding after_steps
after_steps-more n held number = ap (λ k. after_steps k held number) (add-one n)

module _ (now : Held) (number : ℕ) (step : Step (List ℕ))
    (refused : IfSome (refusal_to_work now.endpoint number) (λ r. let answer : Answered = Ok step in answer ≡ Err r))
    (is : Ok step ≡ step_at now.endpoint number) (e : EndpointState) (left : e ≡ after_work now.endpoint number) where
  none : refusal_to_work now.endpoint number ≡ None
  none = none_refused (refusal_to_work now.endpoint number) step refused

  lines_after-step : lines_after (step_at now.endpoint number) number now.lines ≡ lines_by step number now.lines
  lines_after-step = ap (λ answer. lines_after answer number now.lines) (sym is)

  goes : is_quiet step ≡ true → GoesQuietly now number
  goes quiet = record { may = none; quiet = ap is_quiet_answer (sym is) ∙ quiet }

  worked : (lines : LineTable) → lines ≡ lines_by step number now.lines →
      let after : Held = record now { endpoint = e; lines = lines } in after ≡ held_worked now number
  worked lines kept = let same = kept ∙ sym lines_after-step in λ i. record now { endpoint = left i; lines = same i }

  -- one more quiet step
  module _ (held : Held) (before : ℕ) (came : now ≡ after_steps before held number) (quiet : is_quiet step ≡ true) where
    pub more_quiet : ((k : ℕ) → k < before → GoesQuietly (after_steps k held number) number) →
        (k : ℕ) → k < before + 1 → GoesQuietly (after_steps k held number) number
    more_quiet all =
        let P : ℕ → Type 0 = λ k. GoesQuietly (after_steps k held number) number in
        below_more P before all (subst (λ (h : Held). GoesQuietly h number) came (goes quiet))

    pub one_more : (lines : LineTable) → lines ≡ lines_passed step number now.lines →
        let after : Held = record now { endpoint = e; lines = lines } in after ≡ after_steps (before + 1) held number
    one_more lines passed =
        worked lines (passed ∙ sym (lines_by-quiet step number now.lines quiet)) ∙ ap (λ h. held_worked h number) came
        ∙ sym (after_steps-more before held number)

  -- the step is told, and what it hands back is kept
  pub works-told : (event : Event) (lines : LineTable) → event ≡ event_of (oldest_token (line_at now.lines number)) step →
      lines ≡ lines_by step number now.lines → Works now number None event (record now { endpoint = e; lines = lines })
  works-told event lines told kept = record {
    refused = subst (λ o. IfSome o (λ r. let refusal : Option Refusal = None in refusal ≡ Some r)) (sym none) tt;
    memory = subst (λ o. IfNone o (Unit {0})) (sym none) tt;
    want = λ bad. cc;
    told = λ _. told ∙ ap (λ answer. event_at (oldest_token (line_at now.lines number)) answer) is;
    ok = λ _. worked lines kept;
    err = tt;
  }

  pub is_loud : is_quiet step ≡ false → is_quiet_at now number ≡ false
  is_loud loud = ap is_quiet_answer (sym is) ∙ loud

-- the step was refused
pub works-refused : (now : Held) (number : ℕ) (refusal : Refusal) (event : Event) (e : EndpointState) →
    IfSome (refusal_to_work now.endpoint number) (λ r. let answer : Answered = Err refusal in answer ≡ Err r) →
    IfNone (refusal_to_work now.endpoint number) (refusal ≡ NoMemory) →
    ((let answer : Answered = Err refusal in answer ≡ Err NoMemory) → TriesAt now.endpoint number) → e ≡ now.endpoint →
    Works now number (Some refusal) event (record now { endpoint = e; lines = now.lines })
works-refused now number refusal event e refused memory want same = record {
  refused = same_refusal (refusal_to_work now.endpoint number) refusal refused;
  memory = memory;
  want = λ is. want cc;
  told = λ bad. cc;
  ok = λ bad. cc;
  err = λ i. record now { endpoint = same i; lines = now.lines };
}

pub works_on : (most : ℕ) (held : Held) (number before : ℕ) (now : Held) (refusal : Option Refusal) (event : Event) (after : Held) →
    before ≤ most → now ≡ after_steps before held number →
    ((k : ℕ) → k < before → GoesQuietly (after_steps k held number) number) → Works now number refusal event after →
    (before < most → refusal ≡ None → is_quiet_at now number ≡ false) → WorksOn most held number refusal event after
works_on most held number before now refusal event after few came quiet works ends = record {
  before = before;
  few = few;
  quiet = quiet;
  last = subst (λ h. Works h number refusal event after) came works;
  ends = subst (λ h. before < most → refusal ≡ None → is_quiet_at h number ≡ false) came ends;
}
