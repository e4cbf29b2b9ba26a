-- Some of the elements of a list, in its order.
use Rattle.std.proofs.Common.{◌≡◌, ℕ, suc, ◌+◌, ◌≤◌, List, [], ◌∷◌, ◌++◌, map, Option, Some, None, Bool, true, false, cond, refl, sym, ap, ◌∙◌, subst, arith, append_assoc, inl, inr}
use Rattle.std.proofs.lemmas.List.{map-append}
use Rattle.std.proofs.lemmas.List.Elements.{filter_map-append}
use Rattle.std.proofs.lemmas.List.Sums.{sum_by-append}
use Rattle.std.specs.Prelude.{◌⊎◌}
use Rattle.std.specs.List.{Contains, filter, filter_map, cons_option, sum_by}

-- xs are some of ys, in the same order
abbrev pub IsSublist : {A : Type 0} → List A → List A → Type 0
IsSublist [] ys = Unit {0}
IsSublist {A} (x ∷ xs) ys = (before after : List A) × (ys ≡ before ++ x ∷ after) × IsSublist xs after

pub sublist_past : {A : Type 0} (xs zs ys : List A) → IsSublist xs ys → IsSublist xs (zs ++ ys)
sublist_past [] zs ys h = tt
sublist_past (x ∷ xs) zs ys (before, after, is, rest) = (zs ++ before, after, ap (λ w. zs ++ w) is ∙ sym (append_assoc zs before (x ∷ after)), rest)

pub sublist_all : {A : Type 0} (xs : List A) → IsSublist xs xs
sublist_all [] = tt
sublist_all (x ∷ xs) = ([], xs, refl, sublist_all xs)

-- without the first
pub sublist_rest : {A : Type 0} (x : A) (xs ys : List A) → IsSublist (x ∷ xs) ys → IsSublist xs ys
sublist_rest x xs ys (before, after, is, rest) = subst (IsSublist xs) (append_assoc before (x ∷ []) after ∙ sym is) (sublist_past xs (before ++ x ∷ []) after rest)

pub sublist_within : {A : Type 0} (xs ys zs : List A) → IsSublist xs ys → IsSublist ys zs → IsSublist xs zs
sublist_within [] ys zs h k = tt
sublist_within {A} (x ∷ xs) ys zs (before, after, is, rest) k = go (λ a m. sublist_within xs after a rest m) before zs (subst (λ w. IsSublist w zs) is k)
  where
    go : ((a : List A) → IsSublist after a → IsSublist xs a) → (front ws : List A) → IsSublist (front ++ x ∷ after) ws → IsSublist (x ∷ xs) ws
    go more [] ws (b, a, e, m) = (b, a, e, more a m)
    go more (y ∷ front) ws (b, a, e, m) = subst (IsSublist (x ∷ xs)) (append_assoc b (y ∷ []) a ∙ sym e) (sublist_past (x ∷ xs) (b ++ y ∷ []) a (go more front a m))

pub sublist-map : {A B : Type 0} (f : A → B) (xs ys : List A) → IsSublist xs ys → IsSublist (map f xs) (map f ys)
sublist-map f [] ys h = tt
sublist-map f (x ∷ xs) ys (before, after, is, rest) = (map f before, map f after, ap (map f) is ∙ map-append f before (x ∷ after), sublist-map f xs after rest)

pub sublist-filter : {A : Type 0} (p : A → Bool) (xs : List A) → IsSublist (filter p xs) xs
sublist-filter p [] = tt
sublist-filter p (x ∷ xs) = go (p x) (sublist-filter p xs)
  where
    go : (b : Bool) → IsSublist (filter p xs) xs → IsSublist (cond b (x ∷ filter p xs) (filter p xs)) (x ∷ xs)
    go true h = ([], xs, refl, h)
    go false h = sublist_past (filter p xs) (x ∷ []) xs h

-- what is read off each of xs is what is read off the element of ys that it has, or nothing
pub sublist-picked : {R A B : Type 0} (pick : R → Option B) (has : R → A) (read : A → Option B) (rs : List R) (ys : List A)
    → ((r : R) → Contains rs r → (pick r ≡ None) ⊎ (pick r ≡ read (has r))) → IsSublist (map has rs) ys → IsSublist (filter_map pick rs) (filter_map read ys)
sublist-picked pick has read [] ys picked h = tt
sublist-picked {R} {A} {B} pick has read (r ∷ rs) ys picked (before, after, is, rest) =
    subst (IsSublist (cons_option (pick r) (filter_map pick rs))) (sym (ap (filter_map read) is ∙ filter_map-append read before (has r ∷ after)))
    (sublist_past (cons_option (pick r) (filter_map pick rs)) (filter_map read before) (cons_option (read (has r)) (filter_map read after))
    (go (pick r) (read (has r)) (picked r (0, omega arith, refl)) (sublist-picked pick has read rs after (λ x (k, lt, e). picked x (suc k, omega arith, e)) rest)))
  where
    go : (o p : Option B) → (o ≡ None) ⊎ (o ≡ p) → IsSublist (filter_map pick rs) (filter_map read after) → IsSublist (cons_option o (filter_map pick rs)) (cons_option p (filter_map read after))
    go None None e h = h
    go None (Some y) e h = sublist_past (filter_map pick rs) (y ∷ []) (filter_map read after) h
    go (Some x) p (inl e) h = absurd (cc e)
    go (Some x) p (inr e) h = ([], filter_map read after, ap (λ z. cons_option z (filter_map read after)) (sym e), h)

-- what is read off each element, where something is
pub filter_map-map : {A B : Type 0} (read : A → Option B) (xs : List A) (ys : List B) → map read xs ≡ map Some ys → filter_map read xs ≡ ys
filter_map-map read [] [] e = refl
filter_map-map read [] (y ∷ ys) e = absurd (cc e)
filter_map-map read (x ∷ xs) [] e = absurd (cc e)
filter_map-map read (x ∷ xs) (y ∷ ys) e =
    let first : read x ≡ Some y = cc e in
    let rest : map read xs ≡ map Some ys = cc e in
    (λ i. cons_option (first i) (filter_map-map read xs ys rest i))

-- ---- what is counted over some elements is at most what is counted over all
pub sublist_counts : {A : Type 0} (count : List A → ℕ) → ((xs ys : List A) → count (xs ++ ys) ≡ count xs + count ys) → (xs ys : List A) → IsSublist xs ys → count xs ≤ count ys
sublist_counts count joins [] ys h = omega (arith, joins [] [])
sublist_counts count joins (x ∷ xs) ys (before, after, is, rest) =
    omega (arith, ap count is, joins before (x ∷ after), joins (x ∷ []) xs, joins (x ∷ []) after, sublist_counts count joins xs after rest)

pub sublist_sum : {A : Type 0} (weight : A → ℕ) (xs ys : List A) → IsSublist xs ys → sum_by weight xs ≤ sum_by weight ys
sublist_sum weight xs ys h = sublist_counts (sum_by weight) (sum_by-append weight) xs ys h
