-- Text in pieces: what the first separator divides.
use Rattle.std.proofs.Common.{◌≡◌, ℕ, zero, suc, ◌+◌, ◌-◌, ◌<◌, ◌≤◌, inl, inr, Bool, true, false, cond, eqb, List, [], ◌∷◌, length, get_or, take, drop, Option, Some, None, refl, sym, ap, ◌∙◌, add-one, arith}
use Rattle.std.specs.Prelude.{MatchOption}
use Rattle.std.proofs.lemmas.Bool.{cases_lt}
use Rattle.std.proofs.lemmas.List.{length-drop, get_or-drop, take_rest}
use Rattle.std.proofs.Math.Seq.{take-length}
use Rattle.memchr.specs.Find.{IsFirstByte, Nowhere, Passes, is_byte}
use Rattle.iw_schedules.specs.Pieces.{split_at_first, onto_first, pieces, pieces_left}

-- the pieces of a text are what stands before its first separator and the pieces of what stands behind it
abbrev Cut : Type 0
Cut = List ℕ × Option (List ℕ)

abbrev cut : ℕ → ℕ → List ℕ → Bool → Cut
cut separator x xs b = cond b ([], Some xs) (x ∷ (split_at_first separator xs).0, (split_at_first separator xs).1)

-- the pieces of a text are what stands before its first separator and the pieces of what stands behind it
pub pieces-split : (separator : ℕ) (xs : List ℕ) → pieces separator xs ≡ (split_at_first separator xs).0 ∷ pieces_left separator (split_at_first separator xs).1
unfolding pieces
pieces-split separator [] = refl
pieces-split separator (x ∷ xs) =
    elim (eqb x separator) as (λ b. cond b ([] ∷ pieces separator xs) (onto_first x (pieces separator xs)) ≡ (cut separator x xs b).0 ∷ pieces_left separator (cut separator x xs b).1) [
      | true ↦ refl
      | false ↦ ap (onto_first x) (pieces-split separator xs)
    ]

pub split_at_index : (separator : ℕ) (xs : List ℕ) (i : ℕ) → i < length xs → eqb (get_or xs i 0) separator ≡ true → ((k : ℕ) → k < i → eqb (get_or xs k 0) separator ≡ false)
    → split_at_first separator xs ≡ (take i xs, Some (drop (suc i) xs))
split_at_index separator [] i lt here before = absurd (omega arith)
split_at_index separator (x ∷ xs) zero lt here before = rw here refl
split_at_index separator (x ∷ xs) (suc i) lt here before =
    rw (before 0 (omega arith), split_at_index separator xs i (omega arith) here (λ k below. before (suc k) (omega arith))) refl

pub split_at_none : (separator : ℕ) (xs : List ℕ) → ((k : ℕ) → k < length xs → eqb (get_or xs k 0) separator ≡ false) → split_at_first separator xs ≡ (xs, None)
split_at_none separator [] none = refl
split_at_none separator (x ∷ xs) none =
    rw (none 0 (omega arith), split_at_none separator xs (λ k below. none (suc k) (omega arith))) refl

no_byte : (b : Bool) → ¬ (b ≡ true) → b ≡ false
no_byte true never = absurd (never refl)
no_byte false never = refl

-- what the first separator divides
pub split_at_byte : (separator : ℕ) (xs : List ℕ) (at : Option ℕ) → IsFirstByte (is_byte separator) xs at
    → MatchOption at (split_at_first separator xs ≡ (xs, None)) (λ i. split_at_first separator xs ≡ (take i xs, Some (drop (suc i) xs)))
split_at_byte separator xs None nowhere =
    split_at_none separator xs (λ k below. no_byte (eqb (get_or xs k 0) separator) (nowhere k (omega arith) below))
split_at_byte separator xs (Some i) first =
    split_at_index separator xs i first.0.high first.1 (λ k below. no_byte (eqb (get_or xs k 0) separator) (first.0.before k (omega arith) below))

-- what stands at a place of the rest
in_rest : (separator near : ℕ) (xs : List ℕ) (k : ℕ) → near ≤ k → Passes (is_byte separator) xs k → Passes (is_byte separator) (take (length xs - near) (drop near xs)) (k - near)
in_rest separator near xs k le passes =
    let place : near + (k - near) ≡ k = omega arith in
    let same : get_or (drop near xs) (k - near) 0 ≡ get_or xs k 0 = get_or-drop near xs (k - near) 0 ∙ ap (λ i. get_or xs i 0) place in
    ap (λ rest. eqb (get_or rest (k - near) 0) separator) (take_rest xs near) ∙ (ap (λ octet. eqb octet separator) same ∙ passes)

length_rest : (xs : List ℕ) (near : ℕ) → length (take (length xs - near) (drop near xs)) ≡ length xs - near
length_rest xs near = ap (λ rest. length rest) (take_rest xs near) ∙ length-drop near xs

-- no separator stands in the front, and none in the rest
pub no_more : (separator : ℕ) (xs : List ℕ) (near : ℕ) → Nowhere (Passes (is_byte separator) xs) 0 near
    → IsFirstByte (is_byte separator) (take (length xs - near) (drop near xs)) None
    → IsFirstByte (is_byte separator) xs None
no_more separator xs near front rest k low below passes =
    elim (cases_lt k near) [
      | inl before ↦ front k low before passes
      | inr behind ↦ rest (k - near) (omega arith) (omega (arith, length_rest xs near)) (in_rest separator near xs k behind passes)
    ]

-- none stands in the front, and one in the rest
pub first_beyond : (separator : ℕ) (xs : List ℕ) (near beyond : ℕ) → near ≤ length xs → Nowhere (Passes (is_byte separator) xs) 0 near
    → IsFirstByte (is_byte separator) (take (length xs - near) (drop near xs)) (Some beyond)
    → IsFirstByte (is_byte separator) xs (Some (near + beyond))
first_beyond separator xs near beyond fits front rest =
    let len = length_rest xs near in
    let high = rest.0.high in
    let there : get_or (take (length xs - near) (drop near xs)) beyond 0 ≡ get_or xs (near + beyond) 0 =
    ap (λ ys. get_or ys beyond 0) (take_rest xs near) ∙ get_or-drop near xs beyond 0 in (
      record {
        low = omega arith;
        high = omega (arith, high, len);
        before = λ k low below passes.
            elim (cases_lt k near) [
              | inl before ↦ front k low before passes
              | inr behind ↦ rest.0.before (k - near) (omega arith) (omega arith) (in_rest separator near xs k behind passes)
            ];
      },
      ap (λ octet. eqb octet separator) (sym there) ∙ rest.1,
    )

-- all that stands from a place on
pub rest_of : (xs : List ℕ) (i : ℕ) → take (length xs - (i + 1)) (drop (i + 1) xs) ≡ drop (suc i) xs
rest_of xs i = rw (← length-drop (i + 1) xs) (take-length (drop (i + 1) xs)) ∙ ap (λ k. drop k xs) (add-one i)
