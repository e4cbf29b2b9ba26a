-- Text in pieces: the lines of a text, the words of a line.
use Rattle.std.specs.Prelude.{ℕ, ◌==◌, List, [], ◌∷◌, Option, Some, None, if◌then◌else◌}

-- the text before the first separator, and the text after it, if there is a separator
abbrev pub split_at_first : ℕ → List ℕ → List ℕ × Option (List ℕ)
split_at_first separator [] = ([], None)
split_at_first separator (x ∷ xs) =
    if x == separator then ([], Some xs)
    else (x ∷ (split_at_first separator xs).0, (split_at_first separator xs).1)

abbrev pub onto_first : ℕ → List (List ℕ) → List (List ℕ)
onto_first x [] = []
onto_first x (piece ∷ pieces) = (x ∷ piece) ∷ pieces

-- the pieces between the separators, from left to right: one more than there are separators
unfoldable pub pieces : ℕ → List ℕ → List (List ℕ)
pieces separator [] = [] ∷ []
pieces separator (x ∷ xs) =
    if x == separator then [] ∷ pieces separator xs
    else onto_first x (pieces separator xs)

-- the pieces of the rest, if there is one
abbrev pub pieces_left : ℕ → Option (List ℕ) → List (List ℕ)
pieces_left separator None = []
pieces_left separator (Some xs) = pieces separator xs

-- the lines of a text, without their line feeds; after the last line feed there is one more, which may be empty
abbrev pub lines : List ℕ → List (List ℕ)
lines text = pieces 10 text

-- the words of a line, which one space separates
abbrev pub words : List ℕ → List (List ℕ)
words line = pieces 32 line
