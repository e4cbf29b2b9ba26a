-- Which records there are once one was added, and once some were dropped.
use Rattle.std.proofs.Common.{◌≡◌, ℕ, zero, suc, true, false, Bool, List, [], ◌∷◌, ◌++◌, take, drop, cond, refl, sym, ap, ◌∙◌, subst, arith, inl, inr}
use Rattle.std.proofs.lemmas.Bool.{leb-true, le-leb}
use Rattle.std.proofs.lemmas.List.Elements.{Contains-append_cases, Contains-append_left, Contains-append_right}
use Rattle.std.specs.Prelude.{◌⊎◌, nat_lt, nat_le}
use Rattle.std.specs.List.{Contains, count_by, filter}
use Rattle.iw_locate.specs.declared.judged.Record.{Record}
use Rattle.iw_locate.specs.Records.{from_of}
use Rattle.iw_locate.specs.Laws.{AddsOne, KeepsFrom}

split_at : {X : Type 0} (i : ℕ) (xs : List X) → take i xs ++ drop i xs ≡ xs
split_at zero xs = refl
split_at (suc i) [] = refl
split_at (suc i) (x ∷ xs) = ap (λ ys. x ∷ ys) (split_at i xs)

cons_cases : {X : Type 0} (y : X) (xs : List X) (x : X) → Contains (y ∷ xs) x → Contains xs x ⊎ (y ≡ x)
cons_cases y xs x (zero, lt, is) = inr is
cons_cases y xs x (suc k, lt, is) = inl (k, omega arith, is)

cons_more : {X : Type 0} (y : X) (xs : List X) (x : X) → Contains xs x → Contains (y ∷ xs) x
cons_more y xs x (k, lt, is) = (suc k, omega arith, is)

inserted : {X : Type 0} (xs : List X) (i : ℕ) (y x : X) → Contains (take i xs ++ y ∷ drop i xs) x → Contains xs x ⊎ (y ≡ x)
inserted xs i y x h =
    elim (Contains-append_cases (take i xs) (y ∷ drop i xs) x h) [
      | inl front ↦ inl (subst (λ zs. Contains zs x) (split_at i xs) (Contains-append_left (take i xs) (drop i xs) x front))
      | inr back ↦
          elim (cons_cases y (drop i xs) x back) [
            | inl rest ↦ inl (subst (λ zs. Contains zs x) (split_at i xs) (Contains-append_right (take i xs) (drop i xs) x rest))
            | inr same ↦ inr same
          ]
    ]

inserts : {X : Type 0} (xs : List X) (i : ℕ) (y x : X) → Contains xs x ⊎ (y ≡ x) → Contains (take i xs ++ y ∷ drop i xs) x
inserts xs i y x (inr same) = Contains-append_right (take i xs) (y ∷ drop i xs) x (0, omega arith, same)
inserts xs i y x (inl old) =
    elim (Contains-append_cases (take i xs) (drop i xs) x (subst (λ zs. Contains zs x) (sym (split_at i xs)) old)) [
      | inl front ↦ Contains-append_left (take i xs) (y ∷ drop i xs) x front
      | inr back ↦ Contains-append_right (take i xs) (y ∷ drop i xs) x (cons_more y (drop i xs) x back)
    ]

pub adds_one : {T : Type 0} → AddsOne T
adds_one rs r x =
    let i = count_by (λ (y : Record _). nat_lt y.start r.start) rs in
    (inserted rs i r x, inserts rs i r x)

-- ---- a filter keeps what passes
passes : {X : Type 0} (p : X → Bool) (xs : List X) (x : X) → Contains (filter p xs) x → Contains xs x × (p x ≡ true)
passes p [] x (k, lt, is) = absurd (omega arith)
passes p (y ∷ xs) x h = go (passes p xs x) (p y) refl h
  where
    go : (Contains (filter p xs) x → Contains xs x × (p x ≡ true)) → (b : Bool) → p y ≡ b → Contains (cond b (y ∷ filter p xs) (filter p xs)) x → Contains (y ∷ xs) x × (p x ≡ true)
    go more true e h =
        elim (cons_cases y (filter p xs) x h) [
          | inl rest ↦ let w = more rest in (cons_more y xs x w.0, w.1)
          | inr same ↦ ((0, omega arith, same), ap p (sym same) ∙ e)
        ]
    go more false e h = let w = more h in (cons_more y xs x w.0, w.1)

stays : {X : Type 0} (p : X → Bool) (xs : List X) (x : X) → Contains xs x → p x ≡ true → Contains (filter p xs) x
stays p [] x (k, lt, is) e = absurd (omega arith)
stays p (y ∷ xs) x h e = go (λ rest. stays p xs x rest e) (p y) refl
  where
    go : (Contains xs x → Contains (filter p xs) x) → (b : Bool) → p y ≡ b → Contains (cond b (y ∷ filter p xs) (filter p xs)) x
    go more true f = elim (cons_cases y xs x h) [ inl rest ↦ cons_more y (filter p xs) x (more rest) | inr same ↦ (0, omega arith, same) ]
    go more false f = elim (cons_cases y xs x h) [ inl rest ↦ more rest | inr same ↦ absurd (let g = sym f ∙ ap p same ∙ e in cc g) ]

pub keeps_from : {T : Type 0} → KeepsFrom T
keeps_from place rs x = (
  λ h. let w = passes (λ (r : Record _). nat_le place (from_of r)) rs x h in (w.0, leb-true place (from_of x) w.1),
  λ h. stays (λ (r : Record _). nat_le place (from_of r)) rs x h.0 (le-leb place (from_of x) h.1),
)
