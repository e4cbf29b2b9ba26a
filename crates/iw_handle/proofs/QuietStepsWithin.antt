-- The same as QuietSteps, of steps with a share of the pool.
use Rattle.std.proofs.Common.{◌≡◌, ℕ, ◌+◌, ◌<◌, ◌≤◌, true, false, List, sym, ◌∙◌, ap, subst, add-one}
use Rattle.std.proofs.Common.{Option, None, Some, Ok, Err, IfSome, IfNone}
use borrow.Author.Count.{below_more}
use Rattle.iw_stream.specs.declared.answer.Step.{Step}
use Rattle.iw_endpoint.specs.Endpoint.{EndpointState}
use Rattle.iw_endpoint.specs.Sharing.{step_within, after_work_within}
use Rattle.iw_handle.specs.declared.event.Event.{Event}
use Rattle.iw_handle.specs.declared.open_handle.Held.{Held}
use Rattle.iw_lines.specs.Line.{oldest_token}
use Rattle.iw_lines.specs.Lines.{LineTable, line_at}
use Rattle.iw_handle.specs.declared.refusal.Refusal.{Refusal}
use Rattle.iw_handle.specs.declared.refusal.Refusal.TheVariants.{NoMemory}
use Rattle.iw_handle.specs.Events.{event_of, event_at}
use Rattle.iw_handle.specs.Streams.{refusal_to_work, lines_by, lines_passed, lines_after}
use Rattle.iw_handle.specs.Steps.{is_quiet, is_quiet_answer}
use Rattle.iw_handle.specs.Sharing.{TriesWithin, held_worked_within, is_quiet_within, GoesQuietlyWithin, after_steps_within, WorksWithin, WorksOnWithin}
use Rattle.iw_handle.proofs.QuietSteps.{lines_by-quiet, Answered, none_refused, same_refusal}

after_steps_within-more : (n : ℕ) (held : Held) (number share : ℕ) →
    after_steps_within (n + 1) held number share ≡ held_worked_within (after_steps_within n held number share) number share
unfolding after_steps_within
after_steps_within-more n held number share = ap (λ k. after_steps_within k held number share) (add-one n)

module _ (now : Held) (number share : ℕ) (step : Step (List ℕ))
    (refused : IfSome (refusal_to_work now.endpoint number) (λ r. let answer : Answered = Ok step in answer ≡ Err r))
    (is : Ok step ≡ step_within now.endpoint number share) (e : EndpointState) (left : e ≡ after_work_within now.endpoint number share) where
  none : refusal_to_work now.endpoint number ≡ None
  none = none_refused (refusal_to_work now.endpoint number) step refused

  lines_after-step : lines_after (step_within now.endpoint number share) number now.lines ≡ lines_by step number now.lines
  lines_after-step = ap (λ answer. lines_after answer number now.lines) (sym is)

  goes : is_quiet step ≡ true → GoesQuietlyWithin now number share
  goes quiet = record { may = none; quiet = ap is_quiet_answer (sym is) ∙ quiet }

  worked : (lines : LineTable) → lines ≡ lines_by step number now.lines →
      let after : Held = record now { endpoint = e; lines = lines } in after ≡ held_worked_within now number share
  worked lines kept = let same = kept ∙ sym lines_after-step in λ i. record now { endpoint = left i; lines = same i }

  -- one more quiet step
  module _ (held : Held) (before : ℕ) (came : now ≡ after_steps_within before held number share) (quiet : is_quiet step ≡ true) where
    pub more_quiet : ((k : ℕ) → k < before → GoesQuietlyWithin (after_steps_within k held number share) number share) →
        (k : ℕ) → k < before + 1 → GoesQuietlyWithin (after_steps_within k held number share) number share
    more_quiet all =
        let P : ℕ → Type 0 = λ k. GoesQuietlyWithin (after_steps_within k held number share) number share in
        below_more P before all (subst (λ (h : Held). GoesQuietlyWithin h number share) came (goes quiet))

    pub one_more : (lines : LineTable) → lines ≡ lines_passed step number now.lines →
        let after : Held = record now { endpoint = e; lines = lines } in after ≡ after_steps_within (before + 1) held number share
    one_more lines passed =
        worked lines (passed ∙ sym (lines_by-quiet step number now.lines quiet)) ∙ ap (λ h. held_worked_within h number share) came
        ∙ sym (after_steps_within-more before held number share)

  -- the step is told, and what it hands back is kept
  pub works-told : (event : Event) (lines : LineTable) → event ≡ event_of (oldest_token (line_at now.lines number)) step →
      lines ≡ lines_by step number now.lines → WorksWithin now number share None event (record now { endpoint = e; lines = lines })
  works-told event lines told kept = record {
    refused = subst (λ o. IfSome o (λ r. let refusal : Option Refusal = None in refusal ≡ Some r)) (sym none) tt;
    memory = subst (λ o. IfNone o (Unit {0})) (sym none) tt;
    want = λ bad. cc;
    told = λ _. told ∙ ap (λ answer. event_at (oldest_token (line_at now.lines number)) answer) is;
    ok = λ _. worked lines kept;
    err = tt;
  }

  pub is_loud : is_quiet step ≡ false → is_quiet_within now number share ≡ false
  is_loud loud = ap is_quiet_answer (sym is) ∙ loud

-- the step was refused
pub works-refused : (now : Held) (number share : ℕ) (refusal : Refusal) (event : Event) (e : EndpointState) →
    IfSome (refusal_to_work now.endpoint number) (λ r. let answer : Answered = Err refusal in answer ≡ Err r) →
    IfNone (refusal_to_work now.endpoint number) (refusal ≡ NoMemory) →
    ((let answer : Answered = Err refusal in answer ≡ Err NoMemory) → TriesWithin now.endpoint number share) → e ≡ now.endpoint →
    WorksWithin now number share (Some refusal) event (record now { endpoint = e; lines = now.lines })
works-refused now number share refusal event e refused memory want same = record {
  refused = same_refusal (refusal_to_work now.endpoint number) refusal refused;
  memory = memory;
  want = λ is. want cc;
  told = λ bad. cc;
  ok = λ bad. cc;
  err = λ i. record now { endpoint = same i; lines = now.lines };
}

pub works_on : (most : ℕ) (held : Held) (number share before : ℕ) (now : Held) (refusal : Option Refusal) (event : Event) (after : Held) →
    before ≤ most → now ≡ after_steps_within before held number share →
    ((k : ℕ) → k < before → GoesQuietlyWithin (after_steps_within k held number share) number share) → WorksWithin now number share refusal event after →
    (before < most → refusal ≡ None → is_quiet_within now number share ≡ false) → WorksOnWithin most held number share refusal event after
works_on most held number share before now refusal event after few came quiet works ends = record {
  before = before;
  few = few;
  quiet = quiet;
  last = subst (λ h. WorksWithin h number share refusal event after) came works;
  ends = subst (λ h. before < most → refusal ≡ None → is_quiet_within h number share ≡ false) came ends;
}
