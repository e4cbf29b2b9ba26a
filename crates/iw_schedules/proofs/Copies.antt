-- Octets and events, repeated.
use Rattle.std.proofs.Common.{◌≡◌, ℕ, zero, suc, List, [], ◌∷◌, replicate, refl, ap}
use Rattle.std.specs.List.{AllZip, repeat}

-- a list whose elements are those of another, in order
pub zip_same : (xs ys : List ℕ) → AllZip (λ x y. y ≡ x) xs ys → ys ≡ xs
zip_same [] [] h = refl
zip_same [] (y ∷ ys) h = absurd h
zip_same (x ∷ xs) [] h = absurd h
zip_same (x ∷ xs) (y ∷ ys) h = rw (h.0, zip_same xs ys h.1) refl

-- one octet, repeated
pub repeat-one : (n x : ℕ) → replicate n x ≡ repeat n (x ∷ [])
repeat-one zero x = refl
repeat-one (suc n) x = ap (λ xs. x ∷ xs) (repeat-one n x)
