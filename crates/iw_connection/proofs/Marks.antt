-- Steps of progress one after another, none of which passes a mark.
use Rattle.std.proofs.Common.{◌≡◌, ℕ, ◌+◌, Bool, true, false, List, Ok, refl, sym, ap, ◌∙◌, arith}
use Rattle.std.specs.Prelude.{not, ◌&&◌}
use Rattle.std.proofs.lemmas.Bool.{true≢false}
use borrow.Author.Count.{below_more}
use Rattle.iw_stream.specs.declared.answer.Step.{Step}
use Rattle.iw_endpoint.specs.Endpoint.{EndpointState, has_stream}
use Rattle.iw_endpoint.specs.Sharing.{step_within, after_work_within}
use Rattle.iw_connection.specs.Steps.{is_progress}
use Rattle.iw_connection.specs.Within.{after_steps_within}
use Rattle.iw_connection.specs.Marking.{is_above_mark, passes_mark, passes_over, ProgressesMarked, GoesMarked}
use Rattle.iw_connection.proofs.Binding.{passes_buffered}
use Rattle.iw_connection.proofs.Progress.{none_within, one_within}

-- ---- the test of a step
over_progress : (progress before after : Bool) → passes_over progress before after ≡ true → progress ≡ true
over_progress true before after over = refl
over_progress false before after over = over

over_unmarked : (progress before after : Bool) → passes_over progress before after ≡ true → (not before && after) ≡ false
over_unmarked false before after over = absurd (true≢false (sym over))
over_unmarked true true after over = refl
over_unmarked true false true over = absurd (true≢false (sym over))
over_unmarked true false false over = refl

told_marked : (progress before after : Bool) → passes_over progress before after ≡ false → progress ≡ true → (not before && after) ≡ true
told_marked false before after told is = absurd (true≢false (sym is))
told_marked true true after told is = absurd (true≢false told)
told_marked true false true told is = refl
told_marked true false false told is = absurd (true≢false told)

-- a step within a share that was tested so: whether it is passed over
module _ (now new : EndpointState) (number share mark : ℕ) (progress above over : Bool) (left : new ≡ after_work_within now number share)
    (was : above ≡ is_above_mark now number mark) (test : over ≡ passes_over progress above (is_above_mark new number mark)) where
  tested : over ≡ passes_over progress (is_above_mark now number mark) (is_above_mark (after_work_within now number share) number mark)
  tested =
      test ∙ ap (λ b. passes_over progress b (is_above_mark new number mark)) was
      ∙ ap (λ e. passes_over progress (is_above_mark now number mark) (is_above_mark e number mark)) left

  pub progress_over : over ≡ true → progress ≡ true
  progress_over passed = over_progress progress (is_above_mark now number mark) (is_above_mark (after_work_within now number share) number mark) (sym tested ∙ passed)

  pub unmarked_over : over ≡ true → passes_mark now number share mark ≡ false
  unmarked_over passed = over_unmarked progress (is_above_mark now number mark) (is_above_mark (after_work_within now number share) number mark) (sym tested ∙ passed)

  pub marked_told : over ≡ false → progress ≡ true → passes_mark now number share mark ≡ true
  marked_told told = told_marked progress (is_above_mark now number mark) (is_above_mark (after_work_within now number share) number mark) (sym tested ∙ told)

-- ---- steps one after another
pub none_marked : (e : EndpointState) (number share mark : ℕ) → ProgressesMarked e number share mark 0 e
none_marked e number share mark = record { within = none_within e number share; unmarked = λ k low. absurd (omega arith) }

module _ (now new : EndpointState) (number share mark : ℕ) (step : Step (List ℕ)) (above over : Bool) (left : new ≡ after_work_within now number share)
    (was : above ≡ is_above_mark now number mark) (test : over ≡ passes_over (is_progress step) above (is_above_mark new number mark))
    (old : EndpointState) (n : ℕ) (p : ProgressesMarked old number share mark n now) (is : Ok step ≡ step_within now number share) where
  -- one more that is passed over
  pub one_marked : over ≡ true → ProgressesMarked old number share mark (n + 1) new
  one_marked passed =
      let here : passes_mark (after_steps_within n old number share) number share mark ≡ false =
      ap (λ e. passes_mark e number share mark) (sym p.within.left) ∙ unmarked_over now new number share mark (is_progress step) above over left was test passed in
      record {
        within = one_within old now new number share n step p.within is left (progress_over now new number share mark (is_progress step) above over left was test passed);
        unmarked = below_more (λ k. passes_mark (after_steps_within k old number share) number share mark ≡ false) n p.unmarked here;
      }

  -- the one that is told
  pub goes_marked : has_stream now number ≡ true → over ≡ false → GoesMarked old number share mark step new
  goes_marked there told = record {
    before = n;
    at = now;
    progress = p;
    is = is;
    left = left;
    acts = marked_told now new number share mark (is_progress step) above over left was test told;
    buffered = passes_buffered now number share mark step there is;
  }
