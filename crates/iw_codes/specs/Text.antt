-- Texts as C has them.
use Rattle.std.specs.Prelude.{ℕ, ◌==◌, ◌&&◌, not, Bool, false, List, [], ◌∷◌}

-- the last octet is 0, and no other is
abbrev pub is_text : List ℕ → Bool
is_text [] = false
is_text (x ∷ []) = x == 0
is_text (x ∷ y ∷ rest) = not (x == 0) && is_text (y ∷ rest)
