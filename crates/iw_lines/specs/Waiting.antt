-- Values that wait, oldest first.
use Rattle.std.specs.Prelude.{List, [], ◌∷◌, ◌++◌, length, nat_lt, if◌then◌else◌}

-- behind those that wait, of which there are at most 256
abbrev pub pushed : {A : Type 0} → List A → A → List A
pushed xs x = if nat_lt (length xs) 256 then xs ++ x ∷ [] else xs
