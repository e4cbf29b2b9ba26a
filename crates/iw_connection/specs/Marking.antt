-- Steps of work one after another at a stream that shares a pool, up to the next that the application has to act on, or by which the stream passes a high-water mark (the
-- high-water notification of RFC 5042 6.4.3.1: more than so many buffers are in process on a stream).
use Rattle.std.specs.Prelude.{◌≡◌, ◌⊎◌, ◌^◌, ℕ, ◌-◌, ◌<◌, Bool, true, false, not, ◌&&◌, nat_lt, List, None, Some, Ok}
use Rattle.iw_stream.specs.declared.answer.Step.{Step}
use Rattle.iw_stream.specs.declared.answer.Step.TheVariants.{Buffered}
use Rattle.iw_endpoint.specs.Endpoint.{EndpointState}
use Rattle.iw_endpoint.specs.Sharing.{bound_at, step_within, after_work_within}
use Rattle.iw_connection.specs.declared.working.Refusal.{Refusal}
use Rattle.iw_connection.specs.declared.working.Refusal.TheVariants as refusals
use Rattle.iw_connection.specs.Steps.{is_progress, work_refusal}
use Rattle.iw_connection.specs.Within.{after_steps_within, ProgressesWithin, TriesWithin}

-- the stream has more than `mark` of its pool's buffers bound
abbrev pub is_above_mark : EndpointState → ℕ → ℕ → Bool
is_above_mark e number mark = nat_lt mark (bound_at e number)

-- by its next step it comes to have more than that: it has `mark` or fewer before
abbrev pub passes_mark : EndpointState → ℕ → ℕ → ℕ → Bool
passes_mark e number share mark = not (is_above_mark e number mark) && is_above_mark (after_work_within e number share) number mark

-- a step of progress need not be acted on if it does not take the stream above the mark
abbrev pub passes_over : Bool → Bool → Bool → Bool
passes_over progress above_before above_after = progress && not (not above_before && above_after)

-- a step placed octets of a Send in its buffer
pub record IsBuffered (step : Step (List ℕ)) : Type 0 where
  pub msn : ℕ
  pub mo : ℕ
  pub len : ℕ
  pub is : step ≡ Buffered msn mo len

-- n steps were done, none of them has to be acted on, and none passed the mark
pub record ProgressesMarked (old : EndpointState) (number share mark n : ℕ) (new : EndpointState) : Type 0 where
  pub within : ProgressesWithin old number share n new
  pub unmarked : (k : ℕ) → k < n → passes_mark (after_steps_within k old number share) number share mark ≡ false

-- the next step that has to be acted on, or that passes the mark, is this one; it passes the mark by placing octets of a Send
pub record GoesMarked (old : EndpointState) (number share mark : ℕ) (step : Step (List ℕ)) (new : EndpointState) : Type 0 where
  pub before : ℕ
  pub at : EndpointState
  pub progress : ProgressesMarked old number share mark before at
  pub is : Ok step ≡ step_within at number share
  pub left : new ≡ after_work_within at number share
  pub acts : is_progress step ≡ true → passes_mark at number share mark ≡ true
  pub buffered : passes_mark at number share mark ≡ true → IsBuffered step

-- it stopped short of one
pub record StopsMarked (old : EndpointState) (number share mark : ℕ) (new : EndpointState) : Type 0 where
  pub before : ℕ
  pub progress : ProgressesMarked old number share mark before new

-- why it stopped there: the reasons are those of a call that looks at no mark
abbrev pub StopsMarkedFor : EndpointState → ℕ → ℕ → ℕ → EndpointState → Refusal → Type 0
StopsMarkedFor old number share mark new refusal =
    (work_refusal new number ≡ Some refusal)
    ⊎ (((work_refusal new number ≡ None) × (refusal ≡ refusals.NoMemory) × TriesWithin new number share)
    ⊎ ((refusal ≡ refusals.TooFar) × ProgressesMarked old number share mark (2 ^ 64 - 1) new))
