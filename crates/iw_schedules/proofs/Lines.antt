-- A schedule, line by line.
use Rattle.std.proofs.Common.{◌≡◌, ℕ, ◌+◌, List, Option, None, Ok, refl, ◌∙◌}
use Rattle.iw_schedules.specs.declared.fault.ReadError.{ReadError}
use Rattle.iw_schedules.specs.declared.fault.ReadError.TheVariants as errors
use Rattle.iw_schedules.specs.Reading.{Fails, fault_at}
use Rattle.iw_schedules.specs.Pieces.{split_at_first, pieces_left, lines}
use Rattle.iw_schedules.specs.Schedule.{Events, and_then, with_line, with_lines, FailsWith}
use Rattle.iw_schedules.proofs.InPieces.{pieces-split}

-- the first line, and then those behind it
pub first_line : (number : ℕ) (before : Events) (left line : List ℕ) (beyond : Option (List ℕ)) → line ≡ (split_at_first 10 left).0 → beyond ≡ (split_at_first 10 left).1
    → with_lines number before (lines left) ≡ and_then number (with_line before line) (λ events. with_lines (number + 1) events (pieces_left 10 beyond))
unfolding with_lines
first_line number before left line beyond front back = rw (pieces-split 10 left, front, back) refl

pub goes_on : (number : ℕ) (before after : Events) (left line : List ℕ) (beyond : Option (List ℕ)) → line ≡ (split_at_first 10 left).0 → beyond ≡ (split_at_first 10 left).1
    → with_line before line ≡ Ok after → with_lines number before (lines left) ≡ with_lines (number + 1) after (pieces_left 10 beyond)
goes_on number before after left line beyond front back e = first_line number before left line beyond front back ∙ rw e refl

pub is_last : (number : ℕ) (before : Events) → with_lines number before (pieces_left 10 None) ≡ Ok before
unfolding with_lines
is_last number before = refl

pub ends : (error : ReadError) (number : ℕ) (before : Events) (left line : List ℕ) (beyond : Option (List ℕ)) → line ≡ (split_at_first 10 left).0 → beyond ≡ (split_at_first 10 left).1
    → Fails error (with_line before line) → FailsWith (fault_at number error) (with_lines number before (lines left))
ends errors.NoMemory number before left line beyond front back e = tt
ends (errors.Fault name) number before left line beyond front back e = first_line number before left line beyond front back ∙ rw e refl
