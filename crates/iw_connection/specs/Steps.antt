-- Steps of work one after another, up to the next that the application has to act on.
use Rattle.std.specs.Prelude.{◌≡◌, ◌⊎◌, ◌^◌, ℕ, zero, suc, ◌-◌, ◌<◌, Bool, true, false, not, nat_lt, if◌then◌else◌, List, Option, None, Some, Result, Ok, Err}
use Rattle.iw_stream.specs.declared.answer.Step.{Step}
use Rattle.iw_stream.specs.declared.answer.Step.TheVariants.{Done, Flushed, FlushedRecv, Asked, Opened, Closed, Placed}
use Rattle.iw_stream.specs.declared.answer.Step.TheVariants.{Buffered, Requested, Tried, Passed, Received, Terminated}
use Rattle.iw_stream.specs.declared.answer.Step.TheVariants.{Fault, Idle}
use Rattle.iw_endpoint.specs.declared.refusal.NoSuchStream.{NoSuchStream}
use Rattle.iw_stream.specs.Work.{IsTry, task}
use Rattle.iw_endpoint.specs.Endpoint.{EndpointState, has_stream, stream_at, point_at, pool_of, lent_to, step_at, after_work}
use Rattle.iw_connection.specs.declared.working.Refusal.{Refusal}
use Rattle.iw_connection.specs.declared.working.Refusal.TheVariants as refusals

-- a step that tells how far the stream has come, and no more: the application need not act on it
abbrev pub is_progress : Step (List ℕ) → Bool
is_progress (Placed right stag to len) = true
is_progress (Buffered msn mo len) = true
is_progress (Requested size stag to) = true
is_progress (Tried place) = true
is_progress Passed = true
is_progress (Done message) = false
is_progress (Flushed message) = false
is_progress (FlushedRecv buffer) = false
is_progress Asked = false
is_progress (Opened agreed) = false
is_progress (Closed fault) = false
is_progress (Received buffer len solicited invalidate) = false
is_progress (Terminated fault) = false
is_progress (Fault fault) = false
is_progress Idle = false

abbrev pub progresses : Result (Step (List ℕ)) NoSuchStream → Bool
progresses (Ok step) = is_progress step
progresses (Err missing) = false

-- what n steps at a stream leave
unfoldable pub after_steps : ℕ → EndpointState → ℕ → EndpointState
after_steps zero e number = e
after_steps (suc n) e number = after_work (after_steps n e number) number

-- n steps were done, and none of them has to be acted on
pub record Progresses (old : EndpointState) (number n : ℕ) (new : EndpointState) : Type 0 where
  pub progress : (k : ℕ) → k < n → progresses (step_at (after_steps k old number) number) ≡ true
  pub left : new ≡ after_steps n old number

-- the next step that has to be acted on is this one: those before it were progress
pub record GoesTo (old : EndpointState) (number : ℕ) (step : Step (List ℕ)) (new : EndpointState) : Type 0 where
  pub before : ℕ
  pub at : EndpointState
  pub progress : Progresses old number before at
  pub is : Ok step ≡ step_at at number
  pub left : new ≡ after_work at number
  pub acts : is_progress step ≡ false

-- it stopped short of one
pub record Stops (old : EndpointState) (number : ℕ) (new : EndpointState) : Type 0 where
  pub before : ℕ
  pub progress : Progresses old number before new

-- why no step is done, whatever memory there is
abbrev pub work_refusal : EndpointState → ℕ → Option Refusal
work_refusal e number = if not (has_stream e number) then Some refusals.NoSuchStream else if nat_lt (2 ^ 62) (point_at e number) then Some refusals.TooFar else None

-- a frame is to be judged before its turn, for which memory is asked for
abbrev pub TriesAt : EndpointState → ℕ → Type 0
TriesAt e number = IsTry (task (lent_to (pool_of e (stream_at e number).domain) (stream_at e number)))

-- why it stopped there: what is refused there, whatever memory there is; else there was none to judge a frame before its turn; or as many
-- steps were done as can be counted
abbrev pub StopsFor : EndpointState → ℕ → EndpointState → Refusal → Type 0
StopsFor old number new refusal =
    (work_refusal new number ≡ Some refusal)
    ⊎ (((work_refusal new number ≡ None) × (refusal ≡ refusals.NoMemory) × TriesAt new number)
    ⊎ ((refusal ≡ refusals.TooFar) × Progresses old number (2 ^ 64 - 1) new))
