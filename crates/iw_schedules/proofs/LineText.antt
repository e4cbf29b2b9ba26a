-- Words appended one after the other are the words with a space before each.
use Rattle.std.proofs.Common.{◌≡◌, ℕ, List, [], ◌∷◌, ◌++◌, refl, sym, ◌∙◌, append_assoc}
use Rattle.std.proofs.lemmas.List.{append-nil}
use Rattle.iw_schedules.specs.Answers.{Words}
use Rattle.iw_schedules.specs.Trace.{spaced}
use Rattle.iw_schedules.specs.Appended.{with_words}

pub with_words-is : (text : List ℕ) (words : Words) → with_words text words ≡ text ++ spaced words
with_words-is text [] = sym (append-nil text)
with_words-is text (word ∷ words) = with_words-is (text ++ 32 ∷ word) words ∙ append_assoc text (32 ∷ word) (spaced words)

-- a line: the end, the words, a line feed
pub line-is : (text end : List ℕ) (words : Words) → with_words (text ++ end) words ++ 10 ∷ [] ≡ text ++ (end ++ (spaced words ++ 10 ∷ []))
line-is text end words = rw (with_words-is (text ++ end) words, append_assoc (text ++ end) (spaced words) (10 ∷ []), append_assoc text end (spaced words ++ 10 ∷ [])) refl
