-- Steps of work one after another, with a share of the pool: as in Steps, where each step is lent the pool only while the stream has
-- fewer of its buffers than that.
use Rattle.std.specs.Prelude.{◌≡◌, ℕ, zero, suc, ◌<◌, ◌≤◌, Bool, true, false, Option, None, Some}
use Rattle.std.specs.Prelude.{ℤ, pos, IfSome, IfNone}
use Rattle.iw_stream.specs.Work.{IsTry, task}
use Rattle.iw_endpoint.specs.Endpoint.{EndpointState}
use Rattle.iw_endpoint.specs.Sharing.{step_within, after_work_within, lent_within}
use Rattle.iw_lines.specs.Line.{oldest_token}
use Rattle.iw_lines.specs.Lines.{line_at}
use Rattle.iw_handle.specs.declared.event.Event.{Event}
use Rattle.iw_handle.specs.declared.open_handle.Held.{Held}
use Rattle.iw_handle.specs.declared.refusal.Refusal.{Refusal}
use Rattle.iw_handle.specs.declared.refusal.Refusal.TheVariants.{NoMemory}
use Rattle.iw_handle.specs.Events.{event_at}
use Rattle.iw_handle.specs.Refusals.{code_of}
use Rattle.iw_handle.specs.Steps.{is_quiet_answer}
use Rattle.iw_handle.specs.Streams.{refusal_to_work, lines_after}

-- a frame is judged before its turn
abbrev pub TriesWithin : EndpointState → ℕ → ℕ → Type 0
TriesWithin e number share = IsTry (task (lent_within e number share))

-- what a step leaves
abbrev pub held_worked_within : Held → ℕ → ℕ → Held
held_worked_within held number share = record held {
  endpoint = after_work_within held.endpoint number share;
  lines = lines_after (step_within held.endpoint number share) number held.lines;
}

-- what it tells
abbrev pub event_within : Held → ℕ → ℕ → Event
event_within held number share = event_at (oldest_token (line_at held.lines number)) (step_within held.endpoint number share)

-- the next step is quiet
abbrev pub is_quiet_within : Held → ℕ → ℕ → Bool
is_quiet_within held number share = is_quiet_answer (step_within held.endpoint number share)

-- and is not refused
pub record GoesQuietlyWithin (held : Held) (number share : ℕ) : Type 0 where
  pub may : refusal_to_work held.endpoint number ≡ None
  pub quiet : is_quiet_within held number share ≡ true

-- what n steps leave
unfoldable pub after_steps_within : ℕ → Held → ℕ → ℕ → Held
after_steps_within zero held number share = held
after_steps_within (suc n) held number share = held_worked_within (after_steps_within n held number share) number share

-- what one step answers and leaves: its refusal, or its event
pub record WorksWithin (held : Held) (number share : ℕ) (refusal : Option Refusal) (event : Event) (after : Held) : Type 0 where
  pub refused : IfSome (refusal_to_work held.endpoint number) (λ r. refusal ≡ Some r)
  pub memory : IfNone (refusal_to_work held.endpoint number) (IfSome refusal (λ r. r ≡ NoMemory))
  pub want : refusal ≡ Some NoMemory → TriesWithin held.endpoint number share
  pub told : refusal ≡ None → event ≡ event_within held number share
  pub ok : refusal ≡ None → after ≡ held_worked_within held number share
  pub err : IfSome refusal (λ _. after ≡ held)

-- steps one after another: at most `most` quiet ones, and a last one, whose answer this is. The last is quiet only if
-- `most` steps came before it
pub record WorksOnWithin (most : ℕ) (held : Held) (number share : ℕ) (refusal : Option Refusal) (event : Event) (after : Held) : Type 0 where
  pub before : ℕ
  pub few : before ≤ most
  pub quiet : (k : ℕ) → k < before → GoesQuietlyWithin (after_steps_within k held number share) number share
  pub last : WorksWithin (after_steps_within before held number share) number share refusal event after
  pub ends : before < most → refusal ≡ None → is_quiet_within (after_steps_within before held number share) number share ≡ false

-- the same, with the code of the last answer
pub record TellsOnWithin (most : ℕ) (held : Held) (number share : ℕ) (code : ℤ) (event : Event) (after : Held) : Type 0 where
  pub refusal : Option Refusal
  pub is : code ≡ pos (code_of refusal)
  pub works : WorksOnWithin most held number share refusal event after
