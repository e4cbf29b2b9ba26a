-- Lines by number.
use Rattle.std.proofs.Common.{◌≡◌, ◌≢◌, ◌⊎◌, ℕ, zero, suc, ◌<◌, ◌^◌, [], ◌∷◌, length, set, get_or, replicate, Option, Some, None, refl, sym, ap, subst, ◌∙◌, inl, inr, arith}
use Rattle.std.proofs.lemmas.Bool.{cases_eq}
use Rattle.std.proofs.lemmas.List.{get_or-set_same, get_or-set_other, length-replicate, length-set, set-get_or}
use Rattle.std.proofs.lemmas.List.FromFn.{length-map-range_with_len, get_or-map-range_with_len, fill_by_all}
use Rattle.iw_lines.specs.declared.line.Line.{Line}
use Rattle.std.specs.Prelude.{unwrap_or}
use Rattle.std.specs.Option.{option_map}
use Rattle.iw_lines.specs.Line.{new_line}
use Rattle.iw_lines.specs.Lines.{all_numbers, LineTable, listed, no_lines, place_of, with_place, line_at, with_line}

below_all : (n : ℕ) → n < 2 ^ 32 → n < all_numbers
unfolding all_numbers
below_all n below = below

size : (f : ℕ → Option Line) → length (listed f) ≡ all_numbers
size f = length-map-range_with_len f 0 all_numbers

-- what a number has
pub at_number : (f : ℕ → Option Line) (lines : LineTable) (n : ℕ) → listed f ≡ lines → n < 2 ^ 32 → place_of lines n ≡ f n
at_number f lines n is below =
    let within = below_all n below in
    ap (λ ls. get_or ls n None) (sym is) ∙ get_or-map-range_with_len f 0 all_numbers n n None within (omega arith)

-- one number has something else
pub set_number : (f g : ℕ → Option Line) (lines : LineTable) (n : ℕ) (place : Option Line) → listed f ≡ lines → n < 2 ^ 32 → g n ≡ place → ((m : ℕ) → m ≢ n → g m ≡ f m) → listed g ≡ with_place lines n place
set_number f g lines n place is below here others =
    let within = below_all n below in
    sym (fill_by_all g (set (listed f) n place) all_numbers None (length-set (listed f) n place ∙ size f) (λ j below. go j below (cases_eq j n)))
    ∙ ap (λ ls. set ls n place) is
  where
    go : (j : ℕ) → j < all_numbers → (j ≡ n) ⊎ (j ≢ n) → get_or (set (listed f) n place) j None ≡ g j
    go j within (inl same) =
        ap (λ i. get_or (set (listed f) n place) i None) same
        ∙ get_or-set_same (listed f) n place None (subst (λ m. n < m) (sym (size f)) (below_all n below))
        ∙ sym here
        ∙ ap g (sym same)
    go j within (inr other) =
        get_or-set_other (listed f) n j place None other
        ∙ get_or-map-range_with_len f 0 all_numbers j j None within (omega arith)
        ∙ sym (others j other)

-- nothing is written at a number that has no line
pub nothing_written : (f : ℕ → Option Line) (lines : LineTable) (n : ℕ) (line : Line) → listed f ≡ lines → n < 2 ^ 32 → f n ≡ None → listed f ≡ with_line lines n line
nothing_written f lines n line is below none =
    let none_here : place_of lines n ≡ None = at_number f lines n is below ∙ none in
    is ∙ sym (ap (with_place lines n) (ap (option_map (λ _. line)) none_here ∙ sym none_here) ∙ set-get_or lines n None)

-- the line of a number was changed
pub written : (f g : ℕ → Option Line) (lines : LineTable) (n : ℕ) (old : Line) (change : Line → Line) → listed f ≡ lines → n < 2 ^ 32 → f n ≡ Some old
    → g n ≡ Some (change old) → ((m : ℕ) → m ≢ n → g m ≡ f m) → listed g ≡ with_line lines n (change (line_at lines n))
written f g lines n old change is below was here others =
    let some_here : place_of lines n ≡ Some old = at_number f lines n is below ∙ was in
    set_number f g lines n (Some (change old)) is below here others
    ∙ sym (ap (λ o. with_place lines n (option_map (λ _. change (unwrap_or o new_line)) o)) some_here)

nothing_in : (k n : ℕ) → get_or (replicate {A = Option Line} k None) n None ≡ None
nothing_in zero zero = refl
nothing_in zero (suc n) = refl
nothing_in (suc k) zero = refl
nothing_in (suc k) (suc n) = nothing_in k n

-- no number has a line
pub nothing_listed : (f : ℕ → Option Line) → ((n : ℕ) → f n ≡ None) → listed f ≡ no_lines
unfolding no_lines
nothing_listed f none = sym (fill_by_all f (replicate all_numbers None) all_numbers None (length-replicate all_numbers None) (λ k below. nothing_in all_numbers k ∙ sym (none k)))

-- what a number has is put back in its place
pub put_back : (lines : LineTable) (number : ℕ) (place other : Option Line) → place ≡ place_of lines number → with_place (with_place lines number other) number place ≡ lines
put_back lines number place other same =
    set_twice lines number other place ∙ ap (set lines number) same ∙ set-get_or lines number None
  where
    set_twice : (xs : LineTable) (n : ℕ) (x y : Option Line) → set (set xs n x) n y ≡ set xs n y
    set_twice [] n x y = refl
    set_twice (z ∷ xs) zero x y = refl
    set_twice (z ∷ xs) (suc n) x y = ap (λ ys. z ∷ ys) (set_twice xs n x y)
