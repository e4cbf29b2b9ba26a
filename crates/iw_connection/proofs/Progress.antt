-- Steps of progress one after another.
use Rattle.std.proofs.Common.{◌≡◌, ℕ, ◌+◌, true, List, Result, Ok, Err, OnErr, refl, sym, ap, ◌∙◌, add-one, arith}
use borrow.Author.Count.{below_more}
use Rattle.iw_stream.specs.declared.answer.Step.{Step}
use Rattle.iw_endpoint.specs.Endpoint.{EndpointState, step_at, after_work}
use Rattle.iw_endpoint.specs.Sharing.{step_within, after_work_within}
use Rattle.iw_connection.specs.Steps.{is_progress, progresses, after_steps, Progresses}
use Rattle.iw_connection.specs.Within.{after_steps_within, ProgressesWithin}

pub after_steps-more : (n : ℕ) (e : EndpointState) (number : ℕ) → after_steps (n + 1) e number ≡ after_work (after_steps n e number) number
unfolding after_steps
after_steps-more n e number = ap (λ k. after_steps k e number) (add-one n)

pub none_yet : (e : EndpointState) (number : ℕ) → Progresses e number 0 e
unfolding after_steps
none_yet e number = record { progress = λ k low. absurd (omega arith); left = refl }

pub one_more : (old now new : EndpointState) (number n : ℕ) (step : Step (List ℕ)) → Progresses old number n now → Ok step ≡ step_at now number → new ≡ after_work now number → is_progress step ≡ true
    → Progresses old number (n + 1) new
one_more old now new number n step p is left quiet =
    let here : progresses (step_at (after_steps n old number) number) ≡ true = ap (λ e. progresses (step_at e number)) (sym p.left) ∙ ap progresses (sym is) ∙ quiet in
    record {
      progress = below_more (λ k. progresses (step_at (after_steps k old number) number) ≡ true) n p.progress here;
      left = left ∙ ap (λ e. after_work e number) p.left ∙ sym (after_steps-more n old number);
    }

pub on_err : {T E : Type 0} (r : Result T E) (P : Type 0) → P → OnErr r P
on_err (Ok x) P p = tt
on_err (Err e) P p = p

-- ---- the same within a share
pub after_steps_within-more : (n : ℕ) (e : EndpointState) (number share : ℕ) → after_steps_within (n + 1) e number share ≡ after_work_within (after_steps_within n e number share) number share
unfolding after_steps_within
after_steps_within-more n e number share = ap (λ k. after_steps_within k e number share) (add-one n)

pub none_within : (e : EndpointState) (number share : ℕ) → ProgressesWithin e number share 0 e
unfolding after_steps_within
none_within e number share = record { progress = λ k low. absurd (omega arith); left = refl }

pub one_within : (old now new : EndpointState) (number share n : ℕ) (step : Step (List ℕ)) → ProgressesWithin old number share n now → Ok step ≡ step_within now number share → new ≡ after_work_within now number share → is_progress step ≡ true
    → ProgressesWithin old number share (n + 1) new
one_within old now new number share n step p is left quiet =
    let here : progresses (step_within (after_steps_within n old number share) number share) ≡ true = ap (λ e. progresses (step_within e number share)) (sym p.left) ∙ ap progresses (sym is) ∙ quiet in
    record {
      progress = below_more (λ k. progresses (step_within (after_steps_within k old number share) number share) ≡ true) n p.progress here;
      left = left ∙ ap (λ e. after_work_within e number share) p.left ∙ sym (after_steps_within-more n old number share);
    }
