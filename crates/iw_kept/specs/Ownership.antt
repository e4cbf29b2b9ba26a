-- What memory that a program keeps is.
use Rattle.std.specs.Prelude.{ℕ, List, [], ◌∷◌, Option, None, Some}
use Rattle.std.specs.Coded.{Coded, coded_list, coded_ℕ}
use base.Fraction.{full_share}
use base.Fml.{Fml}
use denote.RawPtr.{Ptr, lies_at}
use denote.Array.{Array}
use denote.Builtin.{u8}
use Rattle.std_alloc.specs.Vec.Ownership.{owns_if, has_block}

abbrev pub octets_coded : Coded (List ℕ)
octets_coded = coded_list coded_ℕ

-- all of the n octets that lie at the pointer, which may be null if there are none
abbrev pub kept_owns : Ptr → ℕ → List ℕ → Fml
kept_owns at n octets = owns_if (has_block n) (lies_at (Array u8 n) full_share at octets)

-- octets, if there are any
abbrev pub if_any : List ℕ → Option (List ℕ)
if_any [] = None
if_any (x ∷ xs) = Some (x ∷ xs)
