-- For how many octets a place is lent, by number.
use Rattle.std.proofs.Common.{◌≡◌, ◌≢◌, ◌⊎◌, ℕ, zero, suc, ◌<◌, ◌^◌, List, [], ◌∷◌, length, set, get_or, replicate, Option, refl, sym, ap, subst, ◌∙◌, inl, inr, arith}
use Rattle.std.specs.Prelude.{unwrap_or, nat_eq}
use Rattle.std.specs.Map.{lookup}
use Rattle.std.specs.HashMap.{HashMap, UpdatesBy, IsEmpty, hash_map_len}
use Rattle.std.specs.HashMap as hash
use Rattle.std.proofs.lemmas.Bool.{cases_eq, ne_eqb}
use Rattle.std.proofs.lemmas.List.{get_or-set_same, get_or-set_other, length-replicate, length-set, set-get_or}
use Rattle.std.proofs.lemmas.List.FromFn.{length-map-range_with_len, get_or-map-range_with_len, fill_by_all}
use Rattle.iw_lines.specs.Lines.{all_numbers}
use Rattle.iw_lines.specs.Lends.{LendTable, lent_by, none_lent, lent_to, with_lent, without_lent}

below_all : (n : ℕ) → n < 2 ^ 32 → n < all_numbers
unfolding all_numbers
below_all n below = below

-- what a number has
lent_of : (ℕ → Option ℕ) → ℕ → ℕ
lent_of f k = unwrap_or (f k) 0

at_all : (f : ℕ → Option ℕ) (n : ℕ) → n < all_numbers → get_or (lent_by f) n 0 ≡ unwrap_or (f n) 0
at_all f n within = get_or-map-range_with_len (λ k. unwrap_or (f k) 0) 0 all_numbers n n 0 within (omega arith)

pub at_number : (f : ℕ → Option ℕ) (lends : LendTable) (n : ℕ) → lent_by f ≡ lends → n < 2 ^ 32 → lent_to lends n ≡ unwrap_or (f n) 0
at_number f lends n is below = ap (λ ls. get_or ls n 0) (sym is) ∙ at_all f n (below_all n below)

-- one number has something else
set_number : (f g : ℕ → Option ℕ) (lends : LendTable) (n x : ℕ) → lent_by f ≡ lends → n < 2 ^ 32 → unwrap_or (g n) 0 ≡ x → ((m : ℕ) → m ≢ n → g m ≡ f m) → lent_by g ≡ with_lent lends n x
set_number f g lends n x is below here others =
    sym (fill_by_all (λ k. unwrap_or (g k) 0) (set (lent_by f) n x) all_numbers 0 (length-set (lent_by f) n x ∙ size) (λ j below. go j below (cases_eq j n)))
    ∙ ap (λ ls. set ls n x) is
  where
    size : length (lent_by f) ≡ all_numbers
    size = length-map-range_with_len (λ k. unwrap_or (f k) 0) 0 all_numbers

    go : (j : ℕ) → j < all_numbers → (j ≡ n) ⊎ (j ≢ n) → get_or (set (lent_by f) n x) j 0 ≡ unwrap_or (g j) 0
    go j within (inl same) =
        ap (λ i. get_or (set (lent_by f) n x) i 0) same
        ∙ get_or-set_same (lent_by f) n x 0 (subst (λ m. n < m) (sym size) (below_all n below))
        ∙ sym here
        ∙ ap (λ k. unwrap_or (g k) 0) (sym same)
    go j within (inr other) =
        get_or-set_other (lent_by f) n j x 0 other
        ∙ at_all f j within
        ∙ ap (λ o. unwrap_or o 0) (sym (others j other))

nothing_in : (k n : ℕ) → get_or (replicate {A = ℕ} k 0) n 0 ≡ 0
nothing_in zero zero = refl
nothing_in zero (suc n) = refl
nothing_in (suc k) zero = refl
nothing_in (suc k) (suc n) = nothing_in k n

no_entries : {A : Type 0} (xs : List A) → length xs ≡ 0 → xs ≡ []
no_entries [] none = refl
no_entries (x ∷ xs) none = cc

module _ {S : Type 0} where
  -- a number was given something, or nothing
  pub put : (m n : HashMap ℕ ℕ S) (lends : LendTable) (number : ℕ) (place : Option ℕ) → lent_by (hash.get nat_eq m) ≡ lends → number < 2 ^ 32
      → UpdatesBy nat_eq (nat_eq number) m n place → lent_by (hash.get nat_eq n) ≡ with_lent lends number (unwrap_or place 0)
  put m n lends number place is below u =
      set_number (hash.get nat_eq m) (hash.get nat_eq n) lends number (unwrap_or place 0) is below (ap (λ o. unwrap_or o 0) u.1)
      (λ k other. u.2 k (ne_eqb number k (λ e. other (sym e))))

  pub empty_lent : (m : HashMap ℕ ℕ S) → IsEmpty m → lent_by (hash.get nat_eq m) ≡ none_lent
  unfolding none_lent
  empty_lent m empty =
      let none = λ (k : ℕ). ap (λ es. unwrap_or (lookup (nat_eq k) es) 0) empty in
      sym (fill_by_all (λ k. unwrap_or (hash.get nat_eq m k) 0) (replicate all_numbers 0) all_numbers 0 (length-replicate all_numbers 0) (λ k below. nothing_in all_numbers k ∙ sym (none k)))

  -- none is lent, so none is taken back
  pub nothing_lent : (m : HashMap ℕ ℕ S) (lends : LendTable) (number : ℕ) → lent_by (hash.get nat_eq m) ≡ lends → number < 2 ^ 32
      → hash_map_len m ≡ 0 → lends ≡ without_lent lends number
  nothing_lent m lends number is below none =
      let here : lent_to lends number ≡ 0 =
      at_number (hash.get nat_eq m) lends number is below ∙ ap (λ es. unwrap_or (lookup (nat_eq number) es) 0) (no_entries m.entries none) in
      sym (ap (with_lent lends number) (sym here) ∙ set-get_or lends number 0)
