-- Spans and the places that are added to them.
use Rattle.std.proofs.Common.{◌≡◌, ℕ, ◌+◌, ◌-◌, ◌<◌, ◌≤◌, zero, suc, List, [], ◌∷◌, ◌++◌, take, drop, length, get_or, min, max, Bool, true, false, ◌||◌, refl, sym, ap, ◌∙◌, subst, arith, add-one, inl, inr, length-append, length-drop}
use Rattle.std.proofs.lemmas.List.{drop_more, take-append-drop, take-append-le, take-take, take-set, drop-set, drop_at, length-take-le, drop_all}
use Rattle.std.proofs.lemmas.Bool.{cases_lt}
use Rattle.std.proofs.lemmas.Bool.Decides.{nat_tests}
use Rattle.std.proofs.Math.ListN.{set}
use Rattle.std.specs.Bool.{OnTrue}
use Rattle.std.specs.Prelude.{insert, remove, nat_lt, nat_eq, MatchBool, ◌⊎◌}
use Rattle.iw_ranges.specs.declared.spans.Span.{Span}
use Rattle.iw_ranges.specs.Spans.{add_span, merge_span, spans_past, in_span, in_spans, IsApart, IsFirstReaching, IsFromStart, first_end}
use Rattle.iw_ranges.proofs.Reaches.{AllBefore, below_apart}

pub skip_one : (from to : ℕ) (s : Span) (ss : List Span) → s.to < from → add_span from to (s ∷ ss) ≡ s ∷ add_span from to ss
unfolding add_span
skip_one from to s ss h = grind (arith, nat_tests)

pub merge_here : (from to : ℕ) (s : Span) (ss : List Span) → from ≤ s.to → add_span from to (s ∷ ss) ≡ merge_span from to (s ∷ ss)
unfolding add_span
merge_here from to s ss h = grind (arith, nat_tests)

pub add_at_end : (from to : ℕ) → add_span from to [] ≡ merge_span from to []
unfolding add_span merge_span
add_at_end from to = refl

pub merge_one : (from to : ℕ) (s : Span) (ss : List Span) → s.from ≤ to → merge_span from to (s ∷ ss) ≡ merge_span (min from s.from) (max to s.to) ss
unfolding merge_span
merge_one from to s ss h = grind (arith, nat_tests)

pub merge_done : (from to : ℕ) (s : Span) (ss : List Span) → to < s.from → merge_span from to (s ∷ ss) ≡ record { from = from; to = to } ∷ (s ∷ ss)
unfolding merge_span
merge_done from to s ss h = grind (arith, nat_tests)

pub merge_at_end : (from to : ℕ) → merge_span from to [] ≡ record { from = from; to = to } ∷ []
unfolding merge_span
merge_at_end from to = refl

-- the spans before `from` stay
pub add_rest : (ss : List Span) (from to i : ℕ) → AllBefore ss from i → take i ss ++ add_span from to (drop i ss) ≡ add_span from to ss
add_rest ss from to zero before = refl
add_rest [] from to (suc i) before = refl
add_rest (s ∷ ss) from to (suc i) before =
    ap (λ ys. s ∷ ys) (add_rest ss from to i (λ k d lt. before (suc k) d (omega arith))) ∙ sym (skip_one from to s ss (before zero s (omega arith)))

-- the new places touch the span at i
pub add_touched : (ss : List Span) (from to i : ℕ) (d : Span) → AllBefore ss from i → i < length ss → from ≤ (get_or ss i d).to
    → take i ss ++ merge_span from to (drop i ss) ≡ add_span from to ss
add_touched ss from to i d before lt reaches =
    let step : drop i ss ≡ get_or ss i d ∷ drop (i + 1) ss = drop_more ss i d lt in
    ap (λ ys. take i ss ++ ys)
    (ap (merge_span from to) step ∙ sym (merge_here from to (get_or ss i d) (drop (i + 1) ss) reaches) ∙ ap (add_span from to) (sym step))
    ∙ add_rest ss from to i before

-- the places right past the first span make it longer, where they touch no other
add_longer : (s : Span) (ss : List Span) (to : ℕ) → IsFromStart (s ∷ ss) → ((p : ℕ) → s.to ≤ p → p ≤ to → in_spans p (s ∷ ss) ≡ false) → s.to < to
    → record { from = 0; to = to } ∷ ss ≡ add_span s.to to (s ∷ ss)
add_longer s ss to order free further =
    let one : ℕ → ℕ → List Span = λ a b. record { from = a; to = b } ∷ ss in
    let low : 0 ≡ min s.to s.from = omega (arith, order.0) in
    let high : to ≡ max to s.to = omega (arith, further) in
    ap (λ a. one a to) low ∙ ap (one (min s.to s.from)) high ∙ sym (past ss order.1 (λ p low high. free p low high))
    ∙ sym (merge_one s.to to s ss (omega (arith, order.0))) ∙ sym (merge_here s.to to s ss (omega arith))
  where
    past : (ts : List Span) → IsApart s.to ts → ((p : ℕ) → s.to ≤ p → p ≤ to → in_spans p (s ∷ ts) ≡ false)
        → merge_span (min s.to s.from) (max to s.to) ts ≡ record { from = min s.to s.from; to = max to s.to } ∷ ts
    past [] apart none = merge_at_end (min s.to s.from) (max to s.to)
    past (t ∷ ts) apart none =
        let some : t.from < t.to = apart.1 in
        let here : in_spans t.from (s ∷ (t ∷ ts)) ≡ true = grind (arith, nat_tests, some) in
        let beyond : to < t.from = elim (cases_lt to t.from) [ inl beyond ↦ beyond | inr touched ↦ absurd (let no = none t.from (omega (arith, apart.0)) touched in cc) ] in
        merge_done (min s.to s.from) (max to s.to) t ts (omega arith)

pub made_longer : (ss : List Span) (to : ℕ) → IsFromStart ss → ((p : ℕ) → first_end ss ≤ p → p ≤ to → in_spans p ss ≡ false) → first_end ss < to
    → set ss 0 (record { from = 0; to = to }) ≡ add_span (first_end ss) to ss
made_longer [] to order free further = absurd (elim order [ ])
made_longer (s ∷ ss) to order free further = add_longer s ss to order free further

-- what lies past the first span and before the second lies in none
pub between : (ss : List Span) (p : ℕ) (second : Span) → IsFromStart ss → (1 < length ss → p < (get_or ss 1 second).from) → first_end ss ≤ p → in_spans p ss ≡ false
between [] p second order before low = refl
between (s ∷ []) p second order before low = let out : in_span p s ≡ false = grind (arith, nat_tests) in ap (λ b. b || false) out
between (s ∷ (t ∷ ts)) p second order before low =
    let out : in_span p s ≡ false = grind (arith, nat_tests) in
    let high : p < t.from = before (omega arith) in
    let ahead : in_span p t ≡ false = grind (arith, nat_tests) in
    let rest : in_spans p ts ≡ false = below_apart t.to p ts order.1.2 (omega (arith, high, order.1.1)) in
    grind (arith, nat_tests, out, ahead, rest)

pub before_second : (ss : List Span) (to : ℕ) (second : Span) → IsFromStart ss → second ≡ get_or ss 1 second
    → OnTrue (nat_lt to second.from) ((p : ℕ) → first_end ss ≤ p → p ≤ to → in_spans p ss ≡ false)
before_second ss to second order is =
    elim (cases_lt to second.from) [
      | inl before ↦
          let t : nat_lt to second.from ≡ true = grind (arith, nat_tests) in
          subst (λ b. OnTrue b ((p : ℕ) → first_end ss ≤ p → p ≤ to → in_spans p ss ≡ false)) (sym t)
          (λ p low high. between ss p second order (λ more. omega (arith, before, high, ap (λ (s : Span). s.from) is)) low)
      | inr past ↦
          let t : nat_lt to second.from ≡ false = grind (arith, nat_tests) in
          subst (λ b. OnTrue b ((p : ℕ) → first_end ss ≤ p → p ≤ to → in_spans p ss ≡ false)) (sym t) tt
    ]

-- or they touch none
pub add_before : (ss : List Span) (from to i : ℕ) (d : Span) → AllBefore ss from i → i < length ss → from ≤ (get_or ss i d).to → to < (get_or ss i d).from
    → insert ss i (record { from = from; to = to }) ≡ add_span from to ss
add_before ss from to i d before lt reaches apart =
    let step : drop i ss ≡ get_or ss i d ∷ drop (i + 1) ss = drop_more ss i d lt in
    ap (λ ys. take i ss ++ ys)
    (ap (λ ys. record { from = from; to = to } ∷ ys) step ∙ sym (merge_done from to (get_or ss i d) (drop (i + 1) ss) apart) ∙ ap (merge_span from to) (sym step))
    ∙ add_touched ss from to i d before lt reaches

pub add_past : (ss : List Span) (from to i : ℕ) → AllBefore ss from i → length ss ≤ i
    → insert ss i (record { from = from; to = to }) ≡ add_span from to ss
add_past ss from to i before past =
    let none : drop i ss ≡ [] = drop_all i ss past in
    ap (λ ys. take i ss ++ ys)
    (ap (λ ys. record { from = from; to = to } ∷ ys) none ∙ sym (merge_at_end from to) ∙ sym (add_at_end from to) ∙ ap (add_span from to) (sym none))
    ∙ add_rest ss from to i before

-- ---- one span after another is merged into that at `low`
pub merge_first : (from to : ℕ) (ss all : List Span) (low : ℕ) (s : Span) → low < length ss → s ≡ get_or ss low s → s.from ≤ to
    → take low ss ++ merge_span from to (drop low ss) ≡ all → take low ss ++ merge_span (min s.from from) (max s.to to) (drop (low + 1) ss) ≡ all
merge_first from to ss all low s lt is touches h =
    let rest : drop low ss ≡ s ∷ drop (low + 1) ss = drop_more ss low s lt ∙ ap (λ y. y ∷ drop (low + 1) ss) (sym is) in
    let fit : (a b : ℕ) → a ≡ min from s.from → b ≡ max to s.to → merge_span a b (drop (low + 1) ss) ≡ merge_span (min from s.from) (max to s.to) (drop (low + 1) ss) = λ a b e f. ap (λ x. merge_span x b (drop (low + 1) ss)) e ∙ ap (λ y. merge_span (min from s.from) y (drop (low + 1) ss)) f in
    ap (λ ys. take low ss ++ ys)
    (fit (min s.from from) (max s.to to) (omega arith) (omega arith) ∙ sym (merge_one from to s (drop (low + 1) ss) touches) ∙ ap (merge_span from to) (sym rest))
    ∙ h

pub merge_more : (from to : ℕ) (ss all : List Span) (low : ℕ) (s : Span) → low + 1 < length ss → s ≡ get_or ss (low + 1) s → s.from ≤ to
    → take low ss ++ merge_span from to (drop (low + 1) ss) ≡ all
    → take low (remove ss (low + 1)) ++ merge_span (min from s.from) (max to s.to) (drop (low + 1) (remove ss (low + 1))) ≡ all
merge_more from to ss all low s lt is touches h =
    let rest : drop (low + 1) ss ≡ s ∷ drop (low + 1 + 1) ss = drop_more ss (low + 1) s lt ∙ ap (λ y. y ∷ drop (low + 1 + 1) ss) (sym is) in
    let removed : remove ss (low + 1) ≡ take (low + 1) ss ++ drop (low + 1 + 1) ss = ap (λ n. take (low + 1) ss ++ drop n ss) (sym (add-one (low + 1))) in
    let long : length (take (low + 1) ss) ≡ low + 1 = length-take-le (low + 1) ss (omega arith) in
    let front : take low (remove ss (low + 1)) ≡ take low ss = ap (take low) removed ∙ take-append-le low (take (low + 1) ss) (drop (low + 1 + 1) ss) (omega arith) ∙ take-take low (low + 1) ss (omega arith) in
    ap (λ ys. ys ++ merge_span (min from s.from) (max to s.to) (drop (low + 1) (remove ss (low + 1)))) front
    ∙ ap (λ ys. take low ss ++ merge_span (min from s.from) (max to s.to) ys) (ap (drop (low + 1)) removed ∙ drop_at (take (low + 1) ss) (drop (low + 1 + 1) ss) (low + 1) long)
    ∙ ap (λ ys. take low ss ++ ys) (sym (merge_one from to s (drop (low + 1 + 1) ss) touches) ∙ ap (merge_span from to) (sym rest))
    ∙ h

set_low : (ss : List Span) (low : ℕ) (s : Span) → low < length ss → set ss low s ≡ take low ss ++ s ∷ drop (low + 1) ss
set_low ss low s lt = sym (take-append-drop low (set ss low s)) ∙ ap (λ ys. ys ++ drop low (set ss low s)) (take-set ss low s) ∙ ap (λ ys. take low ss ++ ys) (drop-set ss low s lt)

pub merge_past : (from to : ℕ) (ss all : List Span) (low : ℕ) → low < length ss → length ss ≤ low + 1
    → take low ss ++ merge_span from to (drop (low + 1) ss) ≡ all → set ss low (record { from = from; to = to }) ≡ all
merge_past from to ss all low lt past h =
    let none : drop (low + 1) ss ≡ [] = drop_all (low + 1) ss past in
    set_low ss low (record { from = from; to = to }) lt
    ∙ ap (λ ys. take low ss ++ ys) (ap (λ ys. record { from = from; to = to } ∷ ys) none ∙ sym (merge_at_end from to) ∙ ap (merge_span from to) (sym none)) ∙ h

pub merge_before : (from to : ℕ) (ss all : List Span) (low : ℕ) (s : Span) → low + 1 < length ss → s ≡ get_or ss (low + 1) s → to < s.from
    → take low ss ++ merge_span from to (drop (low + 1) ss) ≡ all → set ss low (record { from = from; to = to }) ≡ all
merge_before from to ss all low s lt is before h =
    let rest : drop (low + 1) ss ≡ s ∷ drop (low + 1 + 1) ss = drop_more ss (low + 1) s lt ∙ ap (λ y. y ∷ drop (low + 1 + 1) ss) (sym is) in
    set_low ss low (record { from = from; to = to }) (omega arith)
    ∙ ap (λ ys. take low ss ++ ys) (ap (λ ys. record { from = from; to = to } ∷ ys) rest ∙ sym (merge_done from to s (drop (low + 1 + 1) ss) before) ∙ ap (merge_span from to) (sym rest)) ∙ h

-- ---- how many spans there are then
length_merge : (from to : ℕ) (ss : List Span) → length (merge_span from to ss) ≤ length ss + 1
length_merge from to [] = omega (arith, ap length (merge_at_end from to))
length_merge from to (s ∷ ss) =
    elim (cases_lt to s.from) [
      | inl before ↦ omega (arith, ap length (merge_done from to s ss before))
      | inr touches ↦ omega (arith, ap length (merge_one from to s ss touches), length_merge (min from s.from) (max to s.to) ss)
    ]

pub length_add : (from to : ℕ) (ss : List Span) → length (add_span from to ss) ≤ length ss + 1
length_add from to [] = omega (arith, ap length (add_at_end from to), length_merge from to [])
length_add from to (s ∷ ss) =
    elim (cases_lt s.to from) [
      | inl before ↦ omega (arith, ap length (skip_one from to s ss before), length_add from to ss)
      | inr reaches ↦ omega (arith, ap length (merge_here from to s ss reaches), length_merge from to (s ∷ ss))
    ]

pub length_touched : (ss : List Span) (from to i : ℕ) (d : Span) → AllBefore ss from i → i < length ss → from ≤ (get_or ss i d).to → (get_or ss i d).from ≤ to
    → length (add_span from to ss) ≤ length ss
length_touched ss from to i d before lt reaches touches =
    let step : drop i ss ≡ get_or ss i d ∷ drop (i + 1) ss = drop_more ss i d lt in
    let one : merge_span from to (drop i ss) ≡ merge_span (min from (get_or ss i d).from) (max to (get_or ss i d).to) (drop (i + 1) ss) = ap (merge_span from to) step ∙ merge_one from to (get_or ss i d) (drop (i + 1) ss) touches in
    omega (
      arith,
      ap length (add_touched ss from to i d before lt reaches),
      length-append (take i ss) (merge_span from to (drop i ss)),
      length-take-le i ss (omega arith),
      ap length one,
      length_merge (min from (get_or ss i d).from) (max to (get_or ss i d).to) (drop (i + 1) ss),
      length-drop (i + 1) ss,
    )

pub length_inserted : (ss all : List Span) (i : ℕ) (s : Span) → i ≤ length ss → insert ss i s ≡ all → length all ≡ length ss + 1
length_inserted ss all i s le is = omega (arith, ap length is, length-append (take i ss) (s ∷ drop i ss), length-take-le i ss le, length-drop i ss)

-- ---- spans that are forgotten
pub past_none : (to : ℕ) → spans_past to [] ≡ []
unfolding spans_past
past_none to = refl

pub past_more : (to : ℕ) (s : Span) (ss : List Span) → s.to ≤ to → spans_past to (s ∷ ss) ≡ spans_past to ss
unfolding spans_past
past_more to s ss h = grind (arith, nat_tests)

pub past_done : (to : ℕ) (s : Span) (ss : List Span) → to < s.to → spans_past to (s ∷ ss) ≡ s ∷ ss
unfolding spans_past
past_done to s ss h = grind (arith, nat_tests)

-- ---- whether there is one more
abbrev pub AddsOne : Bool → ℕ → ℕ → List Span → ℕ → Type 0
AddsOne r from to ss n = MatchBool r (length (add_span from to ss) ≡ n + 1) (length (add_span from to ss) ≤ n)

pub apart_past : (ss : List Span) (from to at m n : ℕ) → n ≡ length ss → IsFirstReaching ss from at → at ≡ m → m ≡ n → AddsOne (nat_eq at m) from to ss n
apart_past ss from to at m n e first past same =
    let t : nat_eq at m ≡ true = grind (arith, nat_tests) in
    let one = length_inserted ss (add_span from to ss) at (record { from = from; to = to }) first.within (add_past ss from to at first.before (omega arith)) in
    subst (λ b. AddsOne b from to ss n) (sym t) (omega (arith, one))

pub apart_at : (ss : List Span) (from to at : ℕ) (s : Span) (n : ℕ) → n ≡ length ss → IsFirstReaching ss from at → at < length ss → s ≡ get_or ss at s → AddsOne (nat_lt to s.from) from to ss n
apart_at ss from to at s n e first lt is =
    elim (cases_lt to s.from) [
      | inl apart ↦
          let t : nat_lt to s.from ≡ true = grind (arith, nat_tests) in
          let one = length_inserted ss (add_span from to ss) at (record { from = from; to = to }) first.within (add_before ss from to at s first.before lt (first.reaches s lt) (subst (λ x. to < x.from) is apart)) in
          subst (λ b. AddsOne b from to ss n) (sym t) (omega (arith, one))
      | inr touches ↦
          let t : nat_lt to s.from ≡ false = grind (arith, nat_tests) in
          subst (λ b. AddsOne b from to ss n) (sym t) (omega (arith, length_touched ss from to at s first.before lt (first.reaches s lt) (subst (λ x. x.from ≤ to) is touches)))
    ]

pub forget_one : (to : ℕ) (ss : List Span) (s : Span) → s ≡ get_or ss 0 s → s.to ≤ to → spans_past to ss ≡ spans_past to (drop 1 ss)
forget_one to [] s is h = refl
forget_one to (t ∷ ts) s is h = past_more to t ts (subst (λ (x : Span). x.to ≤ to) is h)

pub forget_done : (to : ℕ) (ss : List Span) (s : Span) → s ≡ get_or ss 0 s → to < s.to → spans_past to ss ≡ ss
forget_done to [] s is h = past_none to
forget_done to (t ∷ ts) s is h = past_done to t ts (subst (λ (x : Span). to < x.to) is h)

pub forget_none : (to : ℕ) (ss : List Span) → length ss ≡ 0 → spans_past to ss ≡ ss
forget_none to [] h = past_none to
forget_none to (t ∷ ts) h = absurd (omega arith)

pub few_more : (from to : ℕ) (ss : List Span) (m : ℕ) → m ≡ length ss → m ≤ 1024 → MatchBool (nat_lt 1024 m) (1025 < length (add_span from to ss)) (length (add_span from to ss) ≤ 1025)
few_more from to ss m e few =
    let t : nat_lt 1024 m ≡ false = grind (arith, nat_tests) in
    subst (λ b. MatchBool b (1025 < length (add_span from to ss)) (length (add_span from to ss) ≤ 1025)) (sym t) (omega (arith, length_add from to ss))

-- ---- the last span is made longer
-- spans in order, of which the first may be empty if it begins at place 0
abbrev Begins : Span → Type 0
Begins s = (s.from ≡ 0) ⊎ (s.from < s.to)

abbrev AreLined : List Span → Type 0
AreLined [] = Unit {0}
AreLined (s ∷ ss) = Begins s × IsApart s.to ss

alone : (s : Span) (p : ℕ) → s.from ≤ p → p < s.to → in_spans p (s ∷ []) ≡ true
alone s p low high = grind (arith, nat_tests, low, high)

one_most : (s : Span) (from : ℕ) → Begins s → ((p : ℕ) → in_spans p (s ∷ []) ≡ true → p < from) → s.to ≤ from
one_most s from begins within = go s.to refl
  where
    go : (e : ℕ) → e ≡ s.to → s.to ≤ from
    go zero h = omega (arith, h)
    go (suc e) h =
        let low : s.from ≤ e = elim begins [ inl zero_is ↦ omega (arith, zero_is) | inr some ↦ omega (arith, some, h) ] in
        omega (arith, h, within e (alone s e low (omega (arith, h))))

one_end : (s : Span) (from : ℕ) → Begins s → ((p : ℕ) → in_spans p (s ∷ []) ≡ true → p < from) → (0 < from → in_spans (from - 1) (s ∷ []) ≡ true) → s.to ≡ from
one_end s from begins within top =
    let most : s.to ≤ from = one_most s from begins within in
    elim (cases_lt 0 from) [
      | inl some ↦
          let t : in_spans (from - 1) (s ∷ []) ≡ true = top some in
          let inside : from - 1 < s.to = grind (arith, nat_tests, t) in
          omega (arith, most, inside, some)
      | inr none ↦ omega (arith, most, none)
    ]

lined_longer : (ss : List Span) (from to i : ℕ) (last : Span) → AreLined ss → i + 1 ≡ length ss → last ≡ get_or ss i last → ((p : ℕ) → in_spans p ss ≡ true → p < from)
    → (0 < from → in_spans (from - 1) ss ≡ true) → from < to → set ss i (record { from = last.from; to = to }) ≡ add_span from to ss
lined_longer [] from to i last order size is within top further = absurd (omega (arith, size))
lined_longer (s ∷ []) from to (suc i) last order size is within top further = absurd (omega (arith, size))
lined_longer (s ∷ (t ∷ ts)) from to zero last order size is within top further = absurd (omega (arith, size))
lined_longer (s ∷ []) from to zero last order size is within top further =
    let ends : s.to ≡ from = one_end s from order.0 within top in
    let low : s.from ≤ from = elim order.0 [ inl zero_is ↦ omega (arith, zero_is) | inr some ↦ omega (arith, some, ends) ] in
    let high : to ≡ max to s.to = omega (arith, further, ends) in
    let least : last.from ≡ min from s.from = omega (arith, low, ap (λ (x : Span). x.from) is) in
    let one : ℕ → ℕ → List Span = λ a b. record { from = a; to = b } ∷ [] in
    ap (λ a. one a to) least ∙ ap (one (min from s.from)) high ∙ sym (merge_at_end (min from s.from) (max to s.to))
    ∙ sym (merge_one from to s [] (omega (arith, low, further))) ∙ sym (merge_here from to s [] (omega (arith, ends)))
lined_longer (s ∷ (t ∷ ts)) from to (suc i) last order size is within top further =
    let some : t.from < t.to = order.1.1 in
    let gap : s.to < t.from = order.1.0 in
    let here : in_spans t.from (s ∷ (t ∷ ts)) ≡ true = grind (arith, nat_tests, some) in
    let past : t.from < from = within t.from here in
    let out : in_span (from - 1) s ≡ false = grind (arith, nat_tests, past, gap) in
    ap (λ ys. s ∷ ys)
    (lined_longer (t ∷ ts) from to i last (inr some, order.1.2) (omega (arith, size)) is (λ p h. within p (ap (λ b. in_span p s || b) h ∙ or_true (in_span p s)))
    (λ more. sym (ap (λ b. b || in_spans (from - 1) (t ∷ ts)) out) ∙ top more) further)
    ∙ sym (skip_one from to s (t ∷ ts) (omega (arith, past, gap)))
  where
    or_true : (z : Bool) → (z || true) ≡ true
    or_true true = refl
    or_true false = refl

pub some_spans : (ss : List Span) → IsFromStart ss → 0 < length ss
some_spans [] order = elim order [ ]
some_spans (s ∷ ss) order = omega arith

pub longer_last : (ss : List Span) (from to i : ℕ) (last : Span) → IsFromStart ss → i + 1 ≡ length ss → last ≡ get_or ss i last → ((p : ℕ) → in_spans p ss ≡ true → p < from)
    → (0 < from → in_spans (from - 1) ss ≡ true) → from < to → set ss i (record { from = last.from; to = to }) ≡ add_span from to ss
longer_last [] from to i last order size is within top further = absurd (omega (arith, size))
longer_last (s ∷ ss) from to i last order size is within top further = lined_longer (s ∷ ss) from to i last (inl order.0, order.1) size is within top further
