-- Lists under a map that changes at one place.
use Rattle.iw_memory.specs.Region.{overlay}
use Rattle.std.proofs.Common.{◌≡◌, ◌≢◌, ℕ, zero, suc, ◌+◌, ◌<◌, ◌≤◌, take, drop, sym, List, [], ◌∷◌, ◌++◌, map, length, get_or, set, replicate, refl, ap, ◌∙◌, arith, length-append, length-drop}
use Rattle.std.proofs.lemmas.List.{length-take, take_all}
use Rattle.std.proofs.Math.Seq.{drop-append_seam, take-append_seam}

pub map-replicate : {A B : Type 0} (f : A → B) (n : ℕ) (x : A) → map f (replicate n x) ≡ replicate n (f x)
map-replicate f zero x = refl
map-replicate f (suc n) x = ap (λ xs. f x ∷ xs) (map-replicate f n x)

-- two functions that agree on the elements have one map
pub map-same : {A B : Type 0} (f g : A → B) (l : List A) (d : A) → ((j : ℕ) → j < length l → g (get_or l j d) ≡ f (get_or l j d)) → map g l ≡ map f l
map-same f g [] d h = refl
map-same f g (x ∷ xs) d h =
    ap (λ ys. g x ∷ ys) (map-same f g xs d (λ j l. h (suc j) (omega arith))) ∙ ap (λ y. y ∷ map f xs) (h 0 (omega arith))

-- one element is replaced, and the functions agree on the others
pub map-set_others : {A B : Type 0} (f g : A → B) (l : List A) (i : ℕ) (v d : A) → ((j : ℕ) → j < length l → j ≢ i → g (get_or l j d) ≡ f (get_or l j d)) → map g (set l i v) ≡ set (map f l) i (g v)
map-set_others f g [] i v d h = refl
map-set_others f g (x ∷ xs) zero v d h = ap (λ ys. g v ∷ ys) (map-same f g xs d (λ j l. h (suc j) (omega arith) (λ e. absurd (omega arith))))
map-set_others f g (x ∷ xs) (suc i) v d h =
    ap (λ ys. g x ∷ ys) (map-set_others f g xs i v d (λ j l ne. h (suc j) (omega arith) (λ e. ne (omega arith))))
    ∙ ap (λ y. y ∷ set (map f xs) i (g v)) (h 0 (omega arith) (λ e. absurd (omega arith)))

pub set-set : {A : Type 0} (l : List A) (i : ℕ) (x y : A) → set (set l i x) i y ≡ set l i y
set-set [] i x y = refl
set-set (z ∷ zs) zero x y = refl
set-set (z ∷ zs) (suc i) x y = ap (λ ys. z ∷ ys) (set-set zs i x y)

-- one more of the default reads the same
pub get_or-push_default : {A : Type 0} (xs : List A) (d : A) (m : ℕ) → get_or (xs ++ d ∷ []) m d ≡ get_or xs m d
get_or-push_default [] d zero = refl
get_or-push_default [] d (suc m) = refl
get_or-push_default (x ∷ xs) d zero = refl
get_or-push_default (x ∷ xs) d (suc m) = get_or-push_default xs d m

pub get_or-replicate_default : {X : Type 0} (n i : ℕ) (x : X) → get_or (replicate n x) i x ≡ x
get_or-replicate_default zero i x = refl
get_or-replicate_default (suc n) zero x = refl
get_or-replicate_default (suc n) (suc i) x = get_or-replicate_default n i x

-- any number more of the default reads the same
pub get_or-padded : {X : Type 0} (xs : List X) (n i : ℕ) (x : X) → get_or (xs ++ replicate n x) i x ≡ get_or xs i x
get_or-padded [] n i x = get_or-replicate_default n i x
get_or-padded (y ∷ ys) n zero x = refl
get_or-padded (y ∷ ys) n (suc i) x = get_or-padded ys n i x

-- what is written over is as long as before
pub length-overlay : (octets : List ℕ) (at : ℕ) (new : List ℕ) → length (overlay octets at new) ≡ length octets
length-overlay octets at new = grind (arith, length-take, length-append, length-drop)

-- what fits is written between what stands before and behind it
pub overlay-fits : (octets : List ℕ) (at : ℕ) (new : List ℕ) → at + length new ≤ length octets → overlay octets at new ≡ take at octets ++ (new ++ drop (length new) (drop at octets))
overlay-fits octets at new fits =
    take_all (length octets) (take at octets ++ (new ++ drop (length new) (drop at octets)))
    (grind (arith, length-take, length-append, length-drop))

-- what fits is read again
pub overlay-read : (octets : List ℕ) (at : ℕ) (new : List ℕ) → at + length new ≤ length octets → take (length new) (drop at (overlay octets at new)) ≡ new
overlay-read octets at new fits =
    let rest = new ++ drop (length new) (drop at octets) in
    let before : length (take at octets) ≡ at = grind (arith, length-take) in
    ap (λ xs. take (length new) (drop at xs)) (overlay-fits octets at new fits)
    ∙ ap (λ n. take (length new) (drop n (take at octets ++ rest))) (sym before)
    ∙ ap (take (length new)) (drop-append_seam (take at octets) rest)
    ∙ take-append_seam new (drop (length new) (drop at octets))
