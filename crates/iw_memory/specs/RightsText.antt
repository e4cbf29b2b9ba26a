-- How rights print.
use Rattle.std.specs.Prelude.{ℕ, Bool, ◌||◌, List, [], ◌++◌, codes, if◌then◌else◌}
use Rattle.iw_memory.specs.declared.rights.Rights.{Rights}

-- a letter where this is granted
abbrev pub letter_of : Bool → List ℕ → List ℕ
letter_of granted letter = if granted then letter else []

-- the letters of what is granted, in the order `wrsi`, or `-` where nothing is
abbrev pub rights_text : Rights → List ℕ
rights_text rights =
    if rights.write || rights.read || rights.sink || rights.invalidate
    then letter_of rights.write (codes "w") ++ letter_of rights.read (codes "r") ++ letter_of rights.sink (codes "s") ++ letter_of rights.invalidate (codes "i")
    else codes "-"
