-- Lists that have a place for each number.
use Rattle.std.proofs.Common.{◌≡◌, ◌≢◌, ◌⊎◌, ℕ, zero, suc, ◌+◌, ◌-◌, ◌<◌, ◌≤◌, List, [], ◌∷◌, ◌++◌, length, set, get_or, replicate, Option, Some, None, refl, sym, ap, ◌∙◌, inl, inr, arith}
use Rattle.std.specs.Prelude.{IfSome}
use Rattle.std.proofs.lemmas.Bool.{cases_lt}
use Rattle.std.proofs.lemmas.Option.{none-some}
use Rattle.std.proofs.lemmas.List.{get_or_past, get_or-set_same, get_or-set_other, append_assoc, length-append, length-replicate, length-set, set-append_left}
use Rattle.iw_endpoint.specs.Numbers.{filled, put_at, in_front, trimmed}

-- o stands at this number, all else is as it was, and no place is gone
pub record IsPut {X : Type 0} (xs ys : List (Option X)) (n : ℕ) (o : Option X) : Type 0 where
  pub here : get_or ys n None ≡ o
  pub others : (m : ℕ) → m ≢ n → get_or ys m None ≡ get_or xs m None
  pub more : length xs ≤ length ys

module _ {X : Type 0} where
  pub nil : (m : ℕ) → get_or {A = Option X} [] m None ≡ None
  nil zero = refl
  nil (suc m) = refl

  pub nothing_in : (k n : ℕ) → get_or (replicate {A = Option X} k None) n None ≡ None
  nothing_in zero zero = refl
  nothing_in zero (suc n) = refl
  nothing_in (suc k) zero = refl
  nothing_in (suc k) (suc n) = nothing_in k n

  at_more : (xs : List (Option X)) (m k : ℕ) → get_or (xs ++ replicate m None) k None ≡ get_or xs k None
  at_more [] m k = nothing_in m k ∙ sym (nil k)
  at_more (x ∷ xs) m zero = refl
  at_more (x ∷ xs) m (suc k) = at_more xs m k

  pub at_filled : (n : ℕ) (xs : List (Option X)) (k : ℕ) → get_or (filled n xs) k None ≡ get_or xs k None
  at_filled n xs k = at_more xs (n - length xs) k

  pub length_filled : (n : ℕ) (xs : List (Option X)) → n ≤ length (filled n xs)
  length_filled n xs =
      let size : length (filled n xs) ≡ length xs + (n - length xs) = length-append xs (replicate (n - length xs) None) ∙ ap (λ m. length xs + m) (length-replicate {A = Option X} (n - length xs) None) in
      omega arith

  pub set_filled : (n : ℕ) (xs : List (Option X)) (k : ℕ) (o : Option X) → k < length xs → filled n (set xs k o) ≡ set (filled n xs) k o
  set_filled n xs k o below =
      ap (λ m. set xs k o ++ replicate (n - m) None) (length-set xs k o)
      ∙ sym (set-append_left xs (replicate (n - length xs) None) k o below)

  -- a place with nothing is there already
  pub push_filled : (n : ℕ) (xs : List (Option X)) → length xs < n → filled n (xs ++ None ∷ []) ≡ filled n xs
  push_filled n xs room =
      append_assoc xs (None ∷ []) (replicate (n - length (xs ++ None ∷ [])) None)
      ∙ ap (λ m. xs ++ replicate m None) one_less
    where
      one_less : suc (n - length (xs ++ None ∷ [])) ≡ n - length xs
      one_less = let size : length (xs ++ None ∷ []) ≡ length xs + 1 = length-append xs (None ∷ []) in omega arith

  put_here : (xs : List (Option X)) (n : ℕ) (x : X) → get_or (put_at xs n x) n None ≡ Some x
  put_here [] zero x = refl
  put_here [] (suc n) x = put_here [] n x
  put_here (y ∷ ys) zero x = refl
  put_here (y ∷ ys) (suc n) x = put_here ys n x

  put_others : (xs : List (Option X)) (n : ℕ) (x : X) (m : ℕ) → m ≢ n → get_or (put_at xs n x) m None ≡ get_or xs m None
  put_others [] zero x zero ne = absurd (ne refl)
  put_others [] zero x (suc m) ne = nil m
  put_others [] (suc n) x zero ne = refl
  put_others [] (suc n) x (suc m) ne = put_others [] n x m (λ e. ne (ap suc e)) ∙ nil m
  put_others (y ∷ ys) zero x zero ne = absurd (ne refl)
  put_others (y ∷ ys) zero x (suc m) ne = refl
  put_others (y ∷ ys) (suc n) x zero ne = refl
  put_others (y ∷ ys) (suc n) x (suc m) ne = put_others ys n x m (λ e. ne (ap suc e))

  put_more : (xs : List (Option X)) (n : ℕ) (x : X) → length xs ≤ length (put_at xs n x)
  put_more [] n x = omega arith
  put_more (y ∷ ys) zero x = omega arith
  put_more (y ∷ ys) (suc n) x = let h = put_more ys n x in omega (arith, h)

  pub put_is : (xs : List (Option X)) (n : ℕ) (x : X) → IsPut xs (put_at xs n x) n (Some x)
  put_is xs n x = record { here = put_here xs n x; others = put_others xs n x; more = put_more xs n x }

  pub set_is : (xs : List (Option X)) (n : ℕ) (o : Option X) → n < length xs → IsPut xs (set xs n o) n o
  set_is xs n o within = record {
    here = get_or-set_same xs n o None within;
    others = λ m ne. get_or-set_other xs n m o None ne;
    more = let size = length-set xs n o in omega (arith, size);
  }

  -- one past the last
  pub put_last : (xs : List (Option X)) (x : X) → put_at xs (length xs) x ≡ xs ++ Some x ∷ []
  put_last [] x = refl
  put_last (y ∷ ys) x = ap (λ zs. y ∷ zs) (put_last ys x)

  -- at a place that is there
  pub put_within : (xs : List (Option X)) (n : ℕ) (x : X) → n < length xs → put_at xs n x ≡ set xs n (Some x)
  put_within [] n x below = absurd (let no : ⊥ = omega arith in no)
  put_within (y ∷ ys) zero x below = refl
  put_within (y ∷ ys) (suc n) x below = ap (λ zs. y ∷ zs) (put_within ys n x (omega arith))

  -- what stands in a list is within it
  pub within : (xs : List (Option X)) (n : ℕ) (x : X) → get_or xs n None ≡ Some x → n < length xs
  within xs n x is = elim (cases_lt n (length xs)) [
    | inl below ↦ below
    | inr past ↦ absurd (none-some x (sym (get_or_past xs n None past) ∙ is))
  ]

  front_zero : (o : Option X) (xs : List (Option X)) → get_or (in_front o xs) zero None ≡ o
  front_zero None [] = refl
  front_zero (Some x) [] = refl
  front_zero None (y ∷ ys) = refl
  front_zero (Some x) (y ∷ ys) = refl

  front_suc : (o : Option X) (xs : List (Option X)) (n : ℕ) → get_or (in_front o xs) (suc n) None ≡ get_or xs n None
  front_suc None [] n = sym (nil n)
  front_suc (Some x) [] n = refl
  front_suc None (y ∷ ys) n = refl
  front_suc (Some x) (y ∷ ys) n = refl

  pub at_trimmed : (xs : List (Option X)) (n : ℕ) → get_or (trimmed xs) n None ≡ get_or xs n None
  at_trimmed [] n = refl
  at_trimmed (x ∷ xs) zero = front_zero x (trimmed xs)
  at_trimmed (x ∷ xs) (suc n) = front_suc x (trimmed xs) n ∙ at_trimmed xs n

  none_trimmed : (xs : List (Option X)) → ((n : ℕ) → get_or xs n None ≡ None) → trimmed xs ≡ []
  none_trimmed [] h = refl
  none_trimmed (x ∷ xs) h = (λ i. in_front (h zero i) (none_trimmed xs (λ n. h (suc n)) i))

  -- lists with the same at each number are the same up to the last
  pub same_trimmed : (xs ys : List (Option X)) → ((n : ℕ) → get_or xs n None ≡ get_or ys n None) → trimmed xs ≡ trimmed ys
  same_trimmed [] ys h = sym (none_trimmed ys (λ n. sym (h n) ∙ nil n))
  same_trimmed (x ∷ xs) [] h = none_trimmed (x ∷ xs) (λ n. h n ∙ nil n)
  same_trimmed (x ∷ xs) (y ∷ ys) h = (λ i. in_front (h zero i) (same_trimmed xs ys (λ n. h (suc n)) i))

  -- ---- what stands at a number once something was put at one

  itself : (n m : ℕ) (x : X) (o : Option X) → IfSome o (λ s. (o ≡ Some s) ⊎ ((m ≡ n) × (s ≡ x)))
  itself n m x None = tt
  itself n m x (Some s) = inl refl

  further : (n m : ℕ) (x : X) (o p : Option X) → IfSome o (λ s. (p ≡ Some s) ⊎ ((m ≡ n) × (s ≡ x))) → IfSome o (λ s. (p ≡ Some s) ⊎ ((suc m ≡ suc n) × (s ≡ x)))
  further n m x None p h = tt
  further n m x (Some s) p h = elim h [ inl was ↦ inl was | inr here ↦ inr (ap suc here.0, here.1) ]

  pub index_set : (xs : List (Option X)) (n m : ℕ) (x : X) → IfSome (get_or (set xs n (Some x)) m None) (λ s. (get_or xs m None ≡ Some s) ⊎ ((m ≡ n) × (s ≡ x)))
  index_set [] n zero x = tt
  index_set [] n (suc m) x = tt
  index_set (y ∷ ys) zero zero x = inr (refl, refl)
  index_set (y ∷ ys) zero (suc m) x = itself zero (suc m) x (get_or ys m None)
  index_set (y ∷ ys) (suc n) zero x = itself (suc n) zero x y
  index_set (y ∷ ys) (suc n) (suc m) x = further n m x (get_or (set ys n (Some x)) m None) (get_or ys m None) (index_set ys n m x)
