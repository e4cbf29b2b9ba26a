-- The octets that there are, in either form.
use Rattle.std.specs.Prelude.{Bool, true, false, ℕ, List, length, take, drop, ◌++◌, Result, Ok, Err}
use Rattle.std.specs.Vec.{with_items, with_items_from}
use Rattle.std_alloc.specs.declared.vec.Vec.{Vec}
use Rattle.iw_kept.specs.declared.octets.RegionOctets.{RegionOctets}
use Rattle.iw_kept.specs.declared.octets.RegionOctets.TheVariants.{Own, Kept}

abbrev pub octets_of : {A : Type 0} → RegionOctets A → List ℕ
octets_of (Own v) = v.items
octets_of (Kept v) = v.items

-- whether a program keeps them
abbrev pub is_kept : {A : Type 0} → RegionOctets A → Bool
is_kept (Own v) = false
is_kept (Kept v) = true

-- with new octets written from place `at` on
abbrev pub written : {A : Type 0} → RegionOctets A → ℕ → List ℕ → RegionOctets A
written (Own v) at w = Own (with_items_from v at w)
written (Kept v) at w = Kept (with_items_from v at w)

-- with all octets written
abbrev pub overwritten : {A : Type 0} → RegionOctets A → List ℕ → RegionOctets A
overwritten (Own v) w = Own (with_items v w)
overwritten (Kept v) w = Kept (with_items v w)

-- as many octets as before, with new ones from place `at` on
abbrev pub overlay : List ℕ → ℕ → List ℕ → List ℕ
overlay octets at new = take (length octets) (take at octets ++ (new ++ drop (length new) (drop at octets)))

-- an answer that hands a vector back, as one that hands octets back
abbrev pub own_result : {A T R : Type 0} → Result T (R × Vec ℕ A) → Result T (R × RegionOctets A)
own_result (Ok answer) = Ok answer
own_result (Err e) = Err (e.0, Own e.1)
