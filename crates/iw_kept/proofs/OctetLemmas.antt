-- What is written is what the octets then are.
use Rattle.std.proofs.Common.{◌≡◌, ℕ, ◌≤◌, List, ◌++◌, length, take, drop, refl, ap, ◌∙◌, arith, length-append, length-drop}
use Rattle.std.proofs.lemmas.List.{length-take, take-append-le}
use Rattle.iw_kept.specs.declared.octets.RegionOctets.{RegionOctets}
use Rattle.iw_kept.specs.declared.octets.RegionOctets.TheVariants.{Own, Kept}
use Rattle.iw_kept.specs.Octets.{octets_of, is_kept, written, overwritten, overlay}

-- as many as before, which are there
refilled : (n : ℕ) (xs : List ℕ) (at : ℕ) (w : List ℕ) → n ≡ length xs
    → take n ((take at xs ++ (w ++ drop (length w) (drop at xs))) ++ drop (length (take at xs ++ (w ++ drop (length w) (drop at xs)))) xs) ≡ overlay xs at w
refilled n xs at w e =
    let all : List ℕ = take at xs ++ (w ++ drop (length w) (drop at xs)) in
    let enough : n ≤ length all = grind (arith, e, length-take, length-append, length-drop) in
    take-append-le n all (drop (length all) xs) enough ∙ ap (λ k. take k all) e

pub octets-written : {A : Type 0} (o : RegionOctets A) (at : ℕ) (w : List ℕ) → octets_of (written o at w) ≡ overlay (octets_of o) at w
octets-written (Own v) at w = refilled v.len v.items at w v.ok.0
octets-written (Kept v) at w = refilled v.len v.items at w v.ok.0

pub octets-overwritten : {A : Type 0} (o : RegionOctets A) (w : List ℕ) → octets_of (overwritten o w) ≡ overlay (octets_of o) 0 w
octets-overwritten (Own v) w = ap (λ k. take k (w ++ drop (length w) v.items)) v.ok.0
octets-overwritten (Kept v) w = ap (λ k. take k (w ++ drop (length w) v.items)) v.ok.0

pub kept-written : {A : Type 0} (o : RegionOctets A) (at : ℕ) (w : List ℕ) → is_kept (written o at w) ≡ is_kept o
kept-written (Own v) at w = refl
kept-written (Kept v) at w = refl

pub kept-overwritten : {A : Type 0} (o : RegionOctets A) (w : List ℕ) → is_kept (overwritten o w) ≡ is_kept o
kept-overwritten (Own v) w = refl
kept-overwritten (Kept v) w = refl
