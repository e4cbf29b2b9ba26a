-- Steps with a share of the pool and a mark: what is said of these beside QuietStepsWithin.
use Rattle.std.proofs.Common.{◌≡◌, ℕ, ◌+◌, ◌<◌, ◌≤◌, Bool, true, false, List, Option, None, Some, Ok, refl, sym, ◌∙◌, ap, subst}
use Rattle.std.specs.Prelude.{not, ◌&&◌}
use borrow.Author.Count.{below_more}
use Rattle.iw_stream.specs.declared.answer.Step.{Step}
use Rattle.iw_endpoint.specs.Endpoint.{EndpointState, has_stream}
use Rattle.iw_endpoint.specs.Sharing.{step_within, after_work_within}
use Rattle.iw_connection.specs.Marking.{is_above_mark, passes_mark}
use Rattle.iw_connection.proofs.Binding.{passes_buffered}
use Rattle.iw_codes.specs.declared.numbers.TheConstants as numbers
use Rattle.iw_handle.specs.declared.event.Event.{Event}
use Rattle.iw_handle.specs.declared.open_handle.Held.{Held}
use Rattle.iw_handle.specs.declared.refusal.Refusal.{Refusal}
use Rattle.iw_handle.specs.Events.{event_of}
use Rattle.iw_handle.specs.Marking.{marks_at, with_mark, WorksMarked, WorksOnMarked}
use Rattle.iw_handle.specs.Sharing.{is_quiet_within, GoesQuietlyWithin, after_steps_within, WorksWithin}

-- one more step that does not pass the mark
pub more_unmarked : (held now : Held) (number share mark before : ℕ) → now ≡ after_steps_within before held number share → marks_at now number share mark ≡ false →
    ((k : ℕ) → k < before → marks_at (after_steps_within k held number share) number share mark ≡ false) →
    (k : ℕ) → k < before + 1 → marks_at (after_steps_within k held number share) number share mark ≡ false
more_unmarked held now number share mark before came unmarked all =
    below_more (λ k. marks_at (after_steps_within k held number share) number share mark ≡ false) before all
    (ap (λ h. marks_at h number share mark) (sym came) ∙ unmarked)

-- a step that passes the mark is told as one that placed octets of a Send
pub kind_told : (now : Held) (number share mark oldest : ℕ) (step : Step (List ℕ)) (event : Event) → has_stream now.endpoint number ≡ true → Ok step ≡ step_within now.endpoint number share →
    event ≡ event_of oldest step → marks_at now number share mark ≡ true → event.kind ≡ numbers.BUFFERED
kind_told now number share mark oldest step event there is told marked =
    let placed = passes_buffered now.endpoint number share mark step there is marked in
    ap (λ (e : Event). e.kind) (told ∙ ap (λ s. event_of oldest s) placed.is)

kind_with_mark : (marks : Bool) (event : Event) → (with_mark marks event).kind ≡ event.kind
kind_with_mark true event = refl
kind_with_mark false event = refl

-- as it was found out of the stream before the step (`above`) and after it
marks_here : (now new : EndpointState) (number share mark : ℕ) (above : Bool) → new ≡ after_work_within now number share → above ≡ is_above_mark now number mark →
    (not above && is_above_mark new number mark) ≡ passes_mark now number share mark
marks_here now new number share mark above left was =
    ap (λ b. not b && is_above_mark new number mark) was ∙ ap (λ e. not (is_above_mark now number mark) && is_above_mark e number mark) left

-- the step is told, and whether it passes the mark
module _ (now : Held) (new : EndpointState) (number share mark : ℕ) (above : Bool) (plain event : Event) (left : new ≡ after_work_within now.endpoint number share)
    (was : above ≡ is_above_mark now.endpoint number mark) (told : event ≡ with_mark (not above && is_above_mark new number mark) plain) where
  marked_event : event ≡ with_mark (marks_at now number share mark) plain
  marked_event = told ∙ ap (λ b. with_mark b plain) (marks_here now.endpoint new number share mark above left was)

  pub works-marked : (after : Held) → WorksWithin now number share None plain after → WorksMarked now number share mark None event after
  works-marked after works = record { plain = plain; works = works; told = λ _. marked_event }

  pub kind_marked : plain.kind ≡ numbers.BUFFERED → event.kind ≡ numbers.BUFFERED
  kind_marked is = ap (λ (e : Event). e.kind) marked_event ∙ kind_with_mark (marks_at now number share mark) plain ∙ is

-- the step was refused
pub refused-marked : (now : Held) (number share mark : ℕ) (refusal : Refusal) (event : Event) (after : Held) → WorksWithin now number share (Some refusal) event after →
    WorksMarked now number share mark (Some refusal) event after
refused-marked now number share mark refusal event after works = record { plain = event; works = works; told = λ bad. cc }

pub works_on-marked : (most : ℕ) (held : Held) (number share mark before : ℕ) (now : Held) (refusal : Option Refusal) (event : Event) (after : Held) →
    before ≤ most → now ≡ after_steps_within before held number share →
    ((k : ℕ) → k < before → GoesQuietlyWithin (after_steps_within k held number share) number share) →
    ((k : ℕ) → k < before → marks_at (after_steps_within k held number share) number share mark ≡ false) → WorksMarked now number share mark refusal event after →
    (before < most → refusal ≡ None → is_quiet_within now number share ≡ true → marks_at now number share mark ≡ true) →
    (refusal ≡ None → marks_at now number share mark ≡ true → event.kind ≡ numbers.BUFFERED) → WorksOnMarked most held number share mark refusal event after
works_on-marked most held number share mark before now refusal event after few came quiet unmarked works ends kind = record {
  before = before;
  few = few;
  quiet = quiet;
  unmarked = unmarked;
  last = subst (λ h. WorksMarked h number share mark refusal event after) came works;
  ends = subst (λ h. before < most → refusal ≡ None → is_quiet_within h number share ≡ true → marks_at h number share mark ≡ true) came ends;
  kind = subst (λ h. refusal ≡ None → marks_at h number share mark ≡ true → event.kind ≡ numbers.BUFFERED) came kind;
}
