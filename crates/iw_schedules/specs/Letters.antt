-- Words of letters, each at most once, in a fixed order.
use Rattle.std.specs.Prelude.{ℕ, ◌==◌, ◌&&◌, Bool, true, false, nat_lt, List, [], ◌∷◌, length, drop, slice_index, if◌then◌else◌}

abbrev pub letter_if : Bool → ℕ → List ℕ
letter_if granted letter = if granted then letter ∷ [] else []

-- whether the word begins with the letter, and the rest of the word
abbrev pub letter_at : ℕ → List ℕ → Bool × List ℕ
letter_at letter word = if nat_lt 0 (length word) && (slice_index word 0 == letter) then (true, drop 1 word) else (false, word)
