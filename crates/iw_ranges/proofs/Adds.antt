-- Which places lie in spans that were added to, and in which order those are.
use Rattle.std.proofs.Common.{◌≡◌, ℕ, ◌<◌, ◌≤◌, Bool, true, false, ◌&&◌, ◌||◌, ltb, leb, List, [], ◌∷◌, min, max, refl, ap, ◌∙◌, arith, inl, inr}
use Rattle.std.proofs.lemmas.Bool.{cases_lt}
use Rattle.std.proofs.lemmas.Bool.Decides.{nat_tests}
use Rattle.std.specs.Prelude.{nat_lt}
use Rattle.iw_ranges.proofs.Reaches.{in_order_tail}
use Rattle.iw_ranges.specs.declared.spans.Span.{Span}
use Rattle.iw_ranges.specs.Spans.{in_span, in_spans, IsApart, IsFromStart, IsInOrder, AreSpans, first_end, add_span, merge_span}

-- ---- which places
one_span : (p from to : ℕ) (s : Span) → from ≤ to → s.from ≤ to → from ≤ s.to → s.from ≤ s.to
    → (leb (min from s.from) p && ltb p (max to s.to)) ≡ ((leb from p && ltb p to) || in_span p s)
one_span p from to s h touches reaches real = grind (arith, nat_tests)

or_swap : (a b c : Bool) → (a || (b || c)) ≡ (b || (a || c))
or_swap true true c = refl
or_swap true false c = refl
or_swap false true c = refl
or_swap false false c = refl

or_group : (a b c : Bool) → (a || b || c) ≡ (a || (b || c))
or_group true b c = refl
or_group false b c = refl

in_merge : (p from to : ℕ) (ss : List Span) (m : ℕ) → from ≤ to → from ≤ m → IsApart m ss
    → in_spans p (merge_span from to ss) ≡ ((leb from p && ltb p to) || in_spans p ss)
unfolding merge_span
in_merge p from to [] m h low apart = refl
in_merge p from to (s ∷ ss) m h low apart =
    elim (cases_lt to s.from) [
      | inl before ↦ let t : nat_lt to s.from ≡ true = grind (arith, nat_tests) in rw t refl
      | inr touches ↦
          let t : nat_lt to s.from ≡ false = grind (arith, nat_tests) in
          rw t (in_merge p (min from s.from) (max to s.to) ss s.to (omega arith) (omega arith) apart.2
          ∙ ap (λ b. b || in_spans p ss) (one_span p from to s h touches (omega arith) (omega arith))
          ∙ or_group (leb from p && ltb p to) (in_span p s) (in_spans p ss))
    ]

merged_before : (p from to : ℕ) (s : Span) (ss : List Span) → to < s.from → in_spans p (merge_span from to (s ∷ ss)) ≡ ((leb from p && ltb p to) || in_spans p (s ∷ ss))
unfolding merge_span
merged_before p from to s ss before = let t : nat_lt to s.from ≡ true = grind (arith, nat_tests) in rw t refl

merged_after : (p from to : ℕ) (s : Span) (ss : List Span) → from ≤ to → s.from ≤ to → from ≤ s.to → IsInOrder (s ∷ ss) → in_spans p (merge_span from to (s ∷ ss)) ≡ ((leb from p && ltb p to) || in_spans p (s ∷ ss))
unfolding merge_span
merged_after p from to s ss h touches reaches order =
    let t : nat_lt to s.from ≡ false = grind (arith, nat_tests) in
    rw t (in_merge p (min from s.from) (max to s.to) ss s.to (omega arith) (omega arith) order.1
    ∙ ap (λ b. b || in_spans p ss) (one_span p from to s h touches reaches order.0)
    ∙ or_group (leb from p && ltb p to) (in_span p s) (in_spans p ss))

-- in the spans with [from, to) added lie its places and theirs
pub in_add : (p from to : ℕ) (ss : List Span) → from ≤ to → IsInOrder ss
    → in_spans p (add_span from to ss) ≡ ((leb from p && ltb p to) || in_spans p ss)
unfolding add_span
in_add p from to [] h order = refl
in_add p from to (s ∷ ss) h order =
    elim (cases_lt s.to from) [
      | inl before ↦
          let t : nat_lt s.to from ≡ true = grind (arith, nat_tests) in
          rw t (ap (λ b. in_span p s || b) (in_add p from to ss h (in_order_tail s ss order)) ∙ or_swap (in_span p s) (leb from p && ltb p to) (in_spans p ss))
      | inr reaches ↦
          let t : nat_lt s.to from ≡ false = grind (arith, nat_tests) in
          rw t (elim (cases_lt to s.from) [
            | inl before ↦ merged_before p from to s ss before
            | inr touches ↦ merged_after p from to s ss h touches reaches order
          ])
    ]

-- ---- in order
pub apart_below : (m n : ℕ) (ss : List Span) → m ≤ n → IsApart n ss → IsApart m ss
apart_below m n [] h apart = tt
apart_below m n (s ∷ ss) h apart = (omega (arith, apart.0), apart.1, apart.2)

merge_apart : (m from to : ℕ) (ss : List Span) → m < from → from < to → IsApart m ss → IsApart m (merge_span from to ss)
unfolding merge_span
merge_apart m from to [] low h apart = (low, h, tt)
merge_apart m from to (s ∷ ss) low h apart =
    elim (cases_lt to s.from) [
      | inl before ↦ let t : nat_lt to s.from ≡ true = grind (arith, nat_tests) in rw t (low, h, (before, apart.1, apart.2))
      | inr touches ↦
          let t : nat_lt to s.from ≡ false = grind (arith, nat_tests) in
          let rest : IsApart m ss = apart_below m s.to ss (omega (arith, apart.0, apart.1)) apart.2 in
          rw t (merge_apart m (min from s.from) (max to s.to) ss (omega (arith, apart.0)) (omega arith) rest)
    ]

pub add_slow : (m from to : ℕ) (ss : List Span) → m < from → from < to → IsApart m ss → IsApart m (add_span from to ss)
unfolding add_span
add_slow m from to [] low h apart = (low, h, tt)
add_slow m from to (s ∷ ss) low h apart =
    elim (cases_lt s.to from) [
      | inl before ↦ let t : nat_lt s.to from ≡ true = grind (arith, nat_tests) in rw t (apart.0, apart.1, add_slow s.to from to ss before h apart.2)
      | inr reaches ↦ let t : nat_lt s.to from ≡ false = grind (arith, nat_tests) in rw t (merge_apart m from to (s ∷ ss) low h apart)
    ]

merge_from_start : (from to m : ℕ) (ss : List Span) → from ≡ 0 → IsApart m ss → IsFromStart (merge_span from to ss)
unfolding merge_span
merge_from_start from to m [] z apart = (z, tt)
merge_from_start from to m (s ∷ ss) z apart =
    elim (cases_lt to s.from) [
      | inl before ↦ let t : nat_lt to s.from ≡ true = grind (arith, nat_tests) in rw t (z, (before, apart.1, apart.2))
      | inr touches ↦ let t : nat_lt to s.from ≡ false = grind (arith, nat_tests) in rw t (merge_from_start (min from s.from) (max to s.to) s.to ss (omega arith) apart.2)
    ]

pub add_from_start : (from to : ℕ) (ss : List Span) → from < to → IsFromStart ss → IsFromStart (add_span from to ss)
unfolding add_span merge_span
add_from_start from to [] h order = elim order [ ]
add_from_start from to (s ∷ ss) h order =
    elim (cases_lt s.to from) [
      | inl before ↦ let t : nat_lt s.to from ≡ true = grind (arith, nat_tests) in rw t (order.0, add_slow s.to from to ss before h order.1)
      | inr reaches ↦
          let t : nat_lt s.to from ≡ false = grind (arith, nat_tests) in
          let u : nat_lt to s.from ≡ false = grind (arith, nat_tests, order.0) in
          rw (t, u) (merge_from_start (min from s.from) (max to s.to) s.to ss (omega (arith, order.0)) order.1)
    ]

-- ---- where the first ends
merge_first : (from to : ℕ) (ss : List Span) → to ≤ first_end (merge_span from to ss)
unfolding merge_span
merge_first from to [] = omega arith
merge_first from to (s ∷ ss) =
    elim (cases_lt to s.from) [
      | inl before ↦ let t : nat_lt to s.from ≡ true = grind (arith, nat_tests) in rw t (omega arith)
      | inr touches ↦ let t : nat_lt to s.from ≡ false = grind (arith, nat_tests) in rw t (omega (arith, merge_first (min from s.from) (max to s.to) ss))
    ]

pub add_first : (from to : ℕ) (ss : List Span) → IsFromStart ss → first_end ss ≤ first_end (add_span from to ss)
unfolding add_span merge_span
add_first from to [] order = elim order [ ]
add_first from to (s ∷ ss) order =
    elim (cases_lt s.to from) [
      | inl before ↦ let t : nat_lt s.to from ≡ true = grind (arith, nat_tests) in rw t (omega arith)
      | inr reaches ↦
          let t : nat_lt s.to from ≡ false = grind (arith, nat_tests) in
          let u : nat_lt to s.from ≡ false = grind (arith, nat_tests, order.0) in
          rw (t, u) (omega (arith, merge_first (min from s.from) (max to s.to) ss))
    ]

pub in_order_spans : (ss : List Span) → AreSpans ss → IsInOrder ss
in_order_spans [] h = tt
in_order_spans (s ∷ ss) h = (omega (arith, h.0), h.1)

merge_apart_spans : (from to m : ℕ) (ss : List Span) → from < to → IsApart m ss → AreSpans (merge_span from to ss)
unfolding merge_span
merge_apart_spans from to m [] some apart = (some, tt)
merge_apart_spans from to m (s ∷ ss) some apart =
    elim (cases_lt to s.from) [
      | inl before ↦ let t : nat_lt to s.from ≡ true = grind (arith, nat_tests) in rw t (some, (before, apart.1, apart.2))
      | inr touches ↦ let t : nat_lt to s.from ≡ false = grind (arith, nat_tests) in rw t (merge_apart_spans (min from s.from) (max to s.to) s.to ss (omega arith) apart.2)
    ]

pub add_spans : (from to : ℕ) (ss : List Span) → from < to → AreSpans ss → AreSpans (add_span from to ss)
unfolding add_span merge_span
add_spans from to [] some order = (some, tt)
add_spans from to (s ∷ ss) some order =
    elim (cases_lt s.to from) [
      | inl before ↦ let t : nat_lt s.to from ≡ true = grind (arith, nat_tests) in rw t (order.0, add_slow s.to from to ss before some order.1)
      | inr reaches ↦
          let t : nat_lt s.to from ≡ false = grind (arith, nat_tests) in
          elim (cases_lt to s.from) [
            | inl before ↦ let u : nat_lt to s.from ≡ true = grind (arith, nat_tests) in rw (t, u) (some, (before, order.0, order.1))
            | inr touches ↦ let u : nat_lt to s.from ≡ false = grind (arith, nat_tests) in rw (t, u) (merge_apart_spans (min from s.from) (max to s.to) s.to ss (omega arith) order.1)
          ]
    ]
