-- Pieces, joined and separated again.
use Rattle.std.proofs.Common.{◌≡◌, ℕ, Bool, true, false, cond, not, ◌&&◌, eqb, List, [], ◌∷◌, ◌++◌, refl, sym, ap, ◌∙◌}
use Rattle.std.specs.List.{list_all, join_with_byte}
use Rattle.std.proofs.lemmas.Bool.{eqb-true, eq-eqb}
use Rattle.iw_schedules.specs.Pieces.{pieces, onto_first}
use Rattle.iw_schedules.specs.Laws.{lacks}

-- some piece first
record Some_first (pieces : List (List ℕ)) : Type 0 where
  first : List ℕ
  others : List (List ℕ)
  is : pieces ≡ first ∷ others

onto_some : (x : ℕ) (ps : List (List ℕ)) → Some_first ps → Some_first (onto_first x ps)
onto_some x ps some = record { first = x ∷ some.first; others = some.others; is = ap (onto_first x) some.is }

at_test : (separator x : ℕ) (xs : List ℕ) → Some_first (pieces separator xs) → (b : Bool) → Some_first (cond b ([] ∷ pieces separator xs) (onto_first x (pieces separator xs)))
at_test separator x xs some true = record { first = []; others = pieces separator xs; is = refl }
at_test separator x xs some false = onto_some x (pieces separator xs) some

some_first : (separator : ℕ) (xs : List ℕ) → Some_first (pieces separator xs)
unfolding pieces
some_first separator [] = record { first = []; others = []; is = refl }
some_first separator (x ∷ xs) = at_test separator x xs (some_first separator xs) (eqb x separator)

join-onto_first : (separator x : ℕ) (first : List ℕ) (others : List (List ℕ)) → join_with_byte separator (onto_first x (first ∷ others)) ≡ x ∷ join_with_byte separator (first ∷ others)
join-onto_first separator x first [] = refl
join-onto_first separator x first (second ∷ others) = refl

joined_at : (separator x : ℕ) (xs : List ℕ) (b : Bool) → eqb x separator ≡ b → Some_first (pieces separator xs) → join_with_byte separator (pieces separator xs) ≡ xs
    → join_with_byte separator (cond b ([] ∷ pieces separator xs) (onto_first x (pieces separator xs))) ≡ x ∷ xs
joined_at separator x xs true e some others =
    rw some.is (rw (sym (eqb-true x separator e)) (ap (λ ys. x ∷ ys) (ap (join_with_byte separator) (sym some.is) ∙ others)))
joined_at separator x xs false e some others =
    ap (λ ps. join_with_byte separator (onto_first x ps)) some.is ∙ (join-onto_first separator x some.first some.others ∙ ap (λ ys. x ∷ ys) (ap (join_with_byte separator) (sym some.is) ∙ others))

pub joined : (separator : ℕ) (text : List ℕ) → join_with_byte separator (pieces separator text) ≡ text
unfolding pieces
joined separator [] = refl
joined separator (x ∷ xs) = joined_at separator x xs (eqb x separator) refl (some_first separator xs) (joined separator xs)

and_parts : (a b : Bool) → (a && b) ≡ true → (a ≡ true) × (b ≡ true)
and_parts true b e = (refl, e)
and_parts false b e = absurd cc

free_at : (separator x : ℕ) (xs : List ℕ) (b : Bool) → eqb x separator ≡ b → (ps : List (List ℕ)) → list_all (lacks separator) ps ≡ true → list_all (lacks separator) (cond b ([] ∷ ps) (onto_first x ps)) ≡ true
free_at separator x xs true e ps free = free
free_at separator x xs false e [] free = refl
free_at separator x xs false e (p ∷ ps) free = rw e free

pub free : (separator : ℕ) (text : List ℕ) → list_all (lacks separator) (pieces separator text) ≡ true
unfolding pieces
free separator [] = refl
free separator (x ∷ xs) = free_at separator x xs (eqb x separator) refl (pieces separator xs) (free separator xs)

not_it : (b : Bool) → not b ≡ true → b ≡ false
not_it true e = absurd cc
not_it false e = refl

-- a piece, and what stands behind it
one_more : (separator : ℕ) (piece rest : List ℕ) → lacks separator piece ≡ true → pieces separator (piece ++ separator ∷ rest) ≡ piece ∷ pieces separator rest
unfolding pieces
one_more separator [] rest free = rw (eq-eqb separator separator refl) refl
one_more separator (x ∷ xs) rest free =
    let parts = and_parts (not (eqb x separator)) (lacks separator xs) free in
    rw (not_it (eqb x separator) parts.0, one_more separator xs rest parts.1) refl

last_one : (separator : ℕ) (piece : List ℕ) → lacks separator piece ≡ true → pieces separator piece ≡ piece ∷ []
unfolding pieces
last_one separator [] free = refl
last_one separator (x ∷ xs) free =
    let parts = and_parts (not (eqb x separator)) (lacks separator xs) free in
    rw (not_it (eqb x separator) parts.0, last_one separator xs parts.1) refl

pub only_so : (separator : ℕ) (first : List ℕ) (others : List (List ℕ)) → list_all (lacks separator) (first ∷ others) ≡ true → pieces separator (join_with_byte separator (first ∷ others)) ≡ first ∷ others
only_so separator first [] free = last_one separator first (and_parts (lacks separator first) true free).0
only_so separator first (second ∷ others) free =
    let parts = and_parts (lacks separator first) (list_all (lacks separator) (second ∷ others)) free in
    one_more separator first (join_with_byte separator (second ∷ others)) parts.0 ∙ ap (λ ps. first ∷ ps) (only_so separator second others parts.1)
