-- Steps of work one after another, until the program has to act.
use Rattle.std.specs.Prelude.{◌≡◌, ℕ, zero, suc, ◌<◌, ◌≤◌, Bool, true, false, List, Option, None, Some, Result, Ok, Err}
use Rattle.std.specs.Prelude.{ℤ, pos, IfSome, IfNone}
use Rattle.iw_stream.specs.declared.answer.Step.{Step}
use Rattle.iw_endpoint.specs.declared.refusal.NoSuchStream.{NoSuchStream}
use Rattle.iw_endpoint.specs.Endpoint.{step_at}
use Rattle.iw_connection.specs.Steps.{is_progress}
use Rattle.iw_handle.specs.declared.event.Event.{Event}
use Rattle.iw_handle.specs.declared.open_handle.Held.{Held}
use Rattle.iw_handle.specs.declared.refusal.Refusal.{Refusal}
use Rattle.iw_handle.specs.declared.refusal.Refusal.TheVariants.{NoMemory}
use Rattle.iw_handle.specs.Refusals.{code_of}
use Rattle.iw_handle.specs.Streams.{refusal_to_work, TriesAt, held_worked, event_in}

-- a quiet step: the program need not act on it
abbrev pub is_quiet : Step (List ℕ) → Bool
is_quiet step = is_progress step

abbrev pub is_quiet_answer : Result (Step (List ℕ)) NoSuchStream → Bool
is_quiet_answer (Ok step) = is_quiet step
is_quiet_answer (Err missing) = false

-- the next step at a stream is quiet
abbrev pub is_quiet_at : Held → ℕ → Bool
is_quiet_at held number = is_quiet_answer (step_at held.endpoint number)

-- and is not refused
pub record GoesQuietly (held : Held) (number : ℕ) : Type 0 where
  pub may : refusal_to_work held.endpoint number ≡ None
  pub quiet : is_quiet_at held number ≡ true

-- what n steps leave
unfoldable pub after_steps : ℕ → Held → ℕ → Held
after_steps zero held number = held
after_steps (suc n) held number = held_worked (after_steps n held number) number

-- what one step answers and leaves: its refusal, or its event
pub record Works (held : Held) (number : ℕ) (refusal : Option Refusal) (event : Event) (after : Held) : Type 0 where
  pub refused : IfSome (refusal_to_work held.endpoint number) (λ r. refusal ≡ Some r)
  pub memory : IfNone (refusal_to_work held.endpoint number) (IfSome refusal (λ r. r ≡ NoMemory))
  pub want : refusal ≡ Some NoMemory → TriesAt held.endpoint number
  pub told : refusal ≡ None → event ≡ event_in held number
  pub ok : refusal ≡ None → after ≡ held_worked held number
  pub err : IfSome refusal (λ _. after ≡ held)

-- steps one after another: at most `most` quiet ones, and a last one, whose answer this is. The last is quiet only if
-- `most` steps came before it
pub record WorksOn (most : ℕ) (held : Held) (number : ℕ) (refusal : Option Refusal) (event : Event) (after : Held) : Type 0 where
  pub before : ℕ
  pub few : before ≤ most
  pub quiet : (k : ℕ) → k < before → GoesQuietly (after_steps k held number) number
  pub last : Works (after_steps before held number) number refusal event after
  pub ends : before < most → refusal ≡ None → is_quiet_at (after_steps before held number) number ≡ false

-- the same, with the code of the last answer
pub record TellsOn (most : ℕ) (held : Held) (number : ℕ) (code : ℤ) (event : Event) (after : Held) : Type 0 where
  pub refusal : Option Refusal
  pub is : code ≡ pos (code_of refusal)
  pub works : WorksOn most held number refusal event after
