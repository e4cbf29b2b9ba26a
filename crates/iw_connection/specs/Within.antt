-- Steps of work one after another at a stream that binds no more than its share of a pool, up to the next that the application has to act on.
use Rattle.std.specs.Prelude.{◌≡◌, ◌⊎◌, ◌^◌, ℕ, zero, suc, ◌-◌, ◌<◌, true, false, List, None, Some, Ok}
use Rattle.iw_stream.specs.declared.answer.Step.{Step}
use Rattle.iw_stream.specs.Work.{IsTry, task}
use Rattle.iw_endpoint.specs.Endpoint.{EndpointState}
use Rattle.iw_endpoint.specs.Sharing.{step_within, after_work_within, lent_within}
use Rattle.iw_connection.specs.declared.working.Refusal.{Refusal}
use Rattle.iw_connection.specs.declared.working.Refusal.TheVariants as refusals
use Rattle.iw_connection.specs.Steps.{is_progress, progresses, work_refusal}

-- what n steps at a stream leave
unfoldable pub after_steps_within : ℕ → EndpointState → ℕ → ℕ → EndpointState
after_steps_within zero e number share = e
after_steps_within (suc n) e number share = after_work_within (after_steps_within n e number share) number share

-- n steps were done, and none of them has to be acted on
pub record ProgressesWithin (old : EndpointState) (number share n : ℕ) (new : EndpointState) : Type 0 where
  pub progress : (k : ℕ) → k < n → progresses (step_within (after_steps_within k old number share) number share) ≡ true
  pub left : new ≡ after_steps_within n old number share

-- the next step that has to be acted on is this one: those before it were progress
pub record GoesWithin (old : EndpointState) (number share : ℕ) (step : Step (List ℕ)) (new : EndpointState) : Type 0 where
  pub before : ℕ
  pub at : EndpointState
  pub progress : ProgressesWithin old number share before at
  pub is : Ok step ≡ step_within at number share
  pub left : new ≡ after_work_within at number share
  pub acts : is_progress step ≡ false

-- it stopped short of one
pub record StopsWithin (old : EndpointState) (number share : ℕ) (new : EndpointState) : Type 0 where
  pub before : ℕ
  pub progress : ProgressesWithin old number share before new

-- a frame is to be judged before its turn, for which memory is asked for
abbrev pub TriesWithin : EndpointState → ℕ → ℕ → Type 0
TriesWithin e number share = IsTry (task (lent_within e number share))

-- why it stopped there: the reasons are those of a call that looks at no share
abbrev pub StopsWithinFor : EndpointState → ℕ → ℕ → EndpointState → Refusal → Type 0
StopsWithinFor old number share new refusal =
    (work_refusal new number ≡ Some refusal)
    ⊎ (((work_refusal new number ≡ None) × (refusal ≡ refusals.NoMemory) × TriesWithin new number share)
    ⊎ ((refusal ≡ refusals.TooFar) × ProgressesWithin old number share (2 ^ 64 - 1) new))
