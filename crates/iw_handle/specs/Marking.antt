-- Steps of work one after another, with a share of the pool and a high-water mark (RFC 5042 6.4.3.1): as in Sharing, but the step by which
-- the stream comes to have more buffers bound than the mark is told too.
use Rattle.std.specs.Prelude.{◌≡◌, ℕ, ◌<◌, ◌≤◌, Bool, true, false, if◌then◌else◌, Option, None, ℤ, pos}
use Rattle.iw_codes.specs.declared.numbers.TheConstants as numbers
use Rattle.iw_connection.specs.Marking.{passes_mark}
use Rattle.iw_handle.specs.declared.event.Event.{Event}
use Rattle.iw_handle.specs.declared.open_handle.Held.{Held}
use Rattle.iw_handle.specs.declared.refusal.Refusal.{Refusal}
use Rattle.iw_handle.specs.Refusals.{code_of}
use Rattle.iw_handle.specs.Sharing.{is_quiet_within, GoesQuietlyWithin, after_steps_within, WorksWithin}

-- the next step takes the stream above the mark
abbrev pub marks_at : Held → ℕ → ℕ → ℕ → Bool
marks_at held number share mark = passes_mark held.endpoint number share mark

-- an event that also tells that its step took the stream above the mark, if it did
abbrev pub with_mark : Bool → Event → Event
with_mark marks event = if marks then record event { flags = numbers.ABOVE_MARK } else event

-- what one step answers and leaves: as in Sharing, and its event tells whether it took the stream above the mark
pub record WorksMarked (held : Held) (number share mark : ℕ) (refusal : Option Refusal) (event : Event) (after : Held) : Type 0 where
  pub plain : Event
  pub works : WorksWithin held number share refusal plain after
  pub told : refusal ≡ None → event ≡ with_mark (marks_at held number share mark) plain

-- steps one after another: at most `most` quiet ones that do not pass the mark, and a last one, whose answer this is. The last is
-- quiet only if it passes the mark, or `most` steps came before it; one that passes the mark is told as `BUFFERED`
pub record WorksOnMarked (most : ℕ) (held : Held) (number share mark : ℕ) (refusal : Option Refusal) (event : Event) (after : Held) : Type 0 where
  pub before : ℕ
  pub few : before ≤ most
  pub quiet : (k : ℕ) → k < before → GoesQuietlyWithin (after_steps_within k held number share) number share
  pub unmarked : (k : ℕ) → k < before → marks_at (after_steps_within k held number share) number share mark ≡ false
  pub last : WorksMarked (after_steps_within before held number share) number share mark refusal event after
  pub ends : before < most → refusal ≡ None → is_quiet_within (after_steps_within before held number share) number share ≡ true →
      marks_at (after_steps_within before held number share) number share mark ≡ true
  pub kind : refusal ≡ None → marks_at (after_steps_within before held number share) number share mark ≡ true → event.kind ≡ numbers.BUFFERED

-- the same, with the code of the last answer
pub record TellsOnMarked (most : ℕ) (held : Held) (number share mark : ℕ) (code : ℤ) (event : Event) (after : Held) : Type 0 where
  pub refusal : Option Refusal
  pub is : code ≡ pos (code_of refusal)
  pub works : WorksOnMarked most held number share mark refusal event after
