-- The spans before the first that reaches a place, and those from it on.
use Rattle.std.proofs.Common.{◌≡◌, ℕ, ◌+◌, ◌-◌, ◌<◌, ◌≤◌, zero, suc, Bool, true, false, ◌||◌, List, [], ◌∷◌, drop, length, get_or, refl, sym, ap, ◌∙◌, subst, arith, inl, inr}
use Rattle.std.proofs.lemmas.List.{drop_more, drop_all, get_or_default}
use Rattle.std.proofs.lemmas.Bool.{cases_lt}
use Rattle.std.proofs.lemmas.Bool.Decides.{nat_tests}
use Rattle.std.specs.Prelude.{nat_lt, nat_le, MatchBool}
use Rattle.std.specs.List.Sorted.{IsNonDecreasingBy, IsPartitionPoint}
use Rattle.iw_ranges.specs.declared.spans.Span.{Span}
use Rattle.iw_ranges.specs.Spans.{in_span, in_spans, first_end, IsApart, IsFromStart, IsInOrder, IsFirstReaching}

pub in_order_tail : (s : Span) (ss : List Span) → IsInOrder (s ∷ ss) → IsInOrder ss
in_order_tail s [] h = tt
in_order_tail s (t ∷ ts) h = (omega (arith, h.1.1), h.1.2)

pub in_order_start : (ss : List Span) → IsFromStart ss → IsInOrder ss
in_order_start [] h = tt
in_order_start (s ∷ ss) h = (omega (arith, h.0), h.1)

pub in_order_drop : (i : ℕ) (ss : List Span) → IsInOrder ss → IsInOrder (drop i ss)
in_order_drop zero ss h = h
in_order_drop (suc i) [] h = tt
in_order_drop (suc i) (s ∷ ss) h = in_order_drop i ss (in_order_tail s ss h)

-- no place up to the end of what stands before lies in the spans
pub below_apart : (m q : ℕ) (ss : List Span) → IsApart m ss → q ≤ m → in_spans q ss ≡ false
below_apart m q [] h le = refl
below_apart m q (s ∷ ss) h le =
    let rest : in_spans q ss ≡ false = below_apart s.to q ss h.2 (omega arith) in
    grind (arith, nat_tests, rest)

-- ---- ends do not fall
ends_above : (m : ℕ) (ss : List Span) (k : ℕ) (d : Span) → IsApart m ss → k < length ss → m < (get_or ss k d).to
ends_above m [] k d apart lt = absurd (omega arith)
ends_above m (s ∷ ss) zero d apart lt = omega (arith, apart.0, apart.1)
ends_above m (s ∷ ss) (suc k) d apart lt = omega (arith, apart.0, apart.1, ends_above s.to ss k d apart.2 (omega arith))

pub ends_rise : (ss : List Span) → IsInOrder ss → IsNonDecreasingBy (λ s. s.to) ss
ends_rise [] order i j d le lt = absurd (omega arith)
ends_rise (s ∷ ss) order zero zero d le lt = omega arith
ends_rise (s ∷ ss) order zero (suc j) d le lt = omega (arith, ends_above s.to ss j d order.1 (omega arith))
ends_rise (s ∷ ss) order (suc i) zero d le lt = absurd (omega arith)
ends_rise (s ∷ ss) order (suc i) (suc j) d le lt = ends_rise ss (in_order_tail s ss order) i j d (omega arith) (omega arith)

-- the spans before another end before it begins
starts_past : (m : ℕ) (ss : List Span) (k : ℕ) (d : Span) → IsApart m ss → k < length ss → m < (get_or ss k d).from
starts_past m [] k d apart lt = absurd (omega arith)
starts_past m (s ∷ ss) zero d apart lt = apart.0
starts_past m (s ∷ ss) (suc k) d apart lt = omega (arith, apart.0, apart.1, starts_past s.to ss k d apart.2 (omega arith))

ends_before : (ss : List Span) → IsInOrder ss → (i j : ℕ) (d : Span) → i < j → j < length ss → (get_or ss i d).to < (get_or ss j d).from
ends_before [] order i j d lt within = absurd (omega arith)
ends_before (s ∷ ss) order i zero d lt within = absurd (omega arith)
ends_before (s ∷ ss) order zero (suc j) d lt within = starts_past s.to ss j d order.1 (omega arith)
ends_before (s ∷ ss) order (suc i) (suc j) d lt within = ends_before ss (in_order_tail s ss order) i j d (omega arith) (omega arith)

-- ---- the spans before `from`
abbrev pub AllBefore : List Span → ℕ → ℕ → Type 0
AllBefore ss from i = (k : ℕ) (d : Span) → k < i → (get_or ss k d).to < from

pub in_rest : (ss : List Span) (from i p : ℕ) → AllBefore ss from i → from ≤ p + 1 → in_spans p (drop i ss) ≡ in_spans p ss
in_rest ss from zero p before low = refl
in_rest [] from (suc i) p before low = refl
in_rest (s ∷ ss) from (suc i) p before low =
    let first : s.to < from = before zero s (omega arith) in
    let out : in_span p s ≡ false = grind (arith, nat_tests) in
    in_rest ss from i p (λ k d lt. before (suc k) d (omega arith)) low ∙ sym (ap (λ b. b || in_spans p ss) out)

pub inside_first : (p : ℕ) (s : Span) (ss : List Span) → s.from ≤ p → p < s.to → in_spans p (s ∷ ss) ≡ true
inside_first p s ss low high = let here : in_span p s ≡ true = grind (arith, nat_tests) in ap (λ b. b || in_spans p ss) here

-- ---- what a search answers
pub first_from_point : (ss : List Span) (from i : ℕ) → i ≤ length ss → IsPartitionPoint (λ s. nat_lt s.to from ≡ true) (λ s. nat_lt s.to from ≡ false) ss i → IsFirstReaching ss from i
first_from_point ss from i within point = record {
  within = within;
  before = λ k d lt. let t = point.0 k d (omega arith) lt in grind (arith, nat_tests, t);
  reaches = λ d lt. let t = point.1 i d (omega arith) lt in grind (arith, nat_tests, t);
}

-- the same for a place that the last span does not begin past
pub first_from_last : (ss : List Span) (from count i : ℕ) (last : Span) → IsInOrder ss → count ≡ length ss → 0 < count → last ≡ get_or ss (count - 1) last → last.from ≤ from
    → (last.to < from → i ≡ count) → (from ≤ last.to → i + 1 ≡ count) → IsFirstReaching ss from i
first_from_last ss from count i last order all some is low past reaches =
    elim (cases_lt last.to from) [
      | inl before ↦ record {
        within = omega (arith, past before, all);
        before = λ k d lt.
            elim (cases_lt k (count - 1)) [
              | inl earlier ↦ omega (arith, others k d earlier, low)
              | inr here ↦ omega (arith, before, the_last k d (omega (arith, here, lt, past before)))
            ];
        reaches = λ d lt. absurd (omega (arith, lt, past before, all));
      }
      | inr at ↦ record {
        within = omega (arith, reaches at, all);
        before = λ k d lt. omega (arith, others k d (omega (arith, lt, reaches at)), low);
        reaches = λ d lt. omega (arith, at, the_last i d (omega (arith, reaches at)));
      }
    ]
  where
    same : (d : Span) → get_or ss (count - 1) d ≡ last
    same d = get_or_default ss (count - 1) d last (omega (arith, some, all)) ∙ sym is

    the_last : (k : ℕ) (d : Span) → k + 1 ≡ count → (get_or ss k d).to ≡ last.to
    the_last k d e = ap (λ j. (get_or ss j d).to) (let f : k ≡ count - 1 = omega (arith, e) in f) ∙ ap (λ (s : Span). s.to) (same d)

    others : (k : ℕ) (d : Span) → k < count - 1 → (get_or ss k d).to < last.from
    others k d lt = omega (arith, ends_before ss order k (count - 1) d lt (omega (arith, some, all)), ap (λ (s : Span). s.from) (same d))

-- ---- whether a range lies in the spans: `at` is the first span that reaches `from`
abbrev pub AllOrSome : Bool → (ℕ → Bool) → ℕ → ℕ → Type 0
AllOrSome r came from to = MatchBool r ((p : ℕ) → from ≤ p → p < to → came p ≡ true) ((p : ℕ) × (from ≤ p) × (p < to) × (came p ≡ false))

-- the answer for a test is the answer for one that agrees with it from `from` on
pub answer_via : (r : Bool) (f g : ℕ → Bool) (from to : ℕ) → ((p : ℕ) → from ≤ p → f p ≡ g p) → AllOrSome r g from to → AllOrSome r f from to
answer_via true f g from to same all = λ p a b. same p a ∙ all p a b
answer_via false f g from to same some = (some.0, some.1, some.2, same some.0 some.1 ∙ some.3)

answer_to : (from to : ℕ) (s : Span) (ss : List Span) → from < to → IsInOrder (s ∷ ss) → s.from ≤ from → from ≤ s.to → AllOrSome (nat_le to s.to) (λ p. in_spans p (s ∷ ss)) from to
answer_to from to s ss some order low inside =
    elim (cases_lt s.to to) [
      | inl more ↦
          let t : nat_le to s.to ≡ false = grind (arith, nat_tests) in
          let out : in_span s.to s ≡ false = grind (arith, nat_tests) in
          subst (λ b. AllOrSome b (λ p. in_spans p (s ∷ ss)) from to) (sym t)
          (s.to, omega arith, more, ap (λ b. b || in_spans s.to ss) out ∙ below_apart s.to s.to ss order.1 (omega arith))
      | inr fits ↦
          let t : nat_le to s.to ≡ true = grind (arith, nat_tests) in
          subst (λ b. AllOrSome b (λ p. in_spans p (s ∷ ss)) from to) (sym t) (λ p a b. inside_first p s ss (omega arith) (omega arith))
    ]

answer_before : (from to : ℕ) (s : Span) (ss : List Span) → from < to → IsInOrder (s ∷ ss) → from < s.from → AllOrSome (nat_le s.from from) (λ p. in_spans p (s ∷ ss)) from to
answer_before from to s ss some order before =
    let t : nat_le s.from from ≡ false = grind (arith, nat_tests) in
    let out : in_span from s ≡ false = grind (arith, nat_tests) in
    subst (λ b. AllOrSome b (λ p. in_spans p (s ∷ ss)) from to) (sym t)
    (from, omega arith, some, ap (λ b. b || in_spans from ss) out ∙ below_apart s.to from ss order.1 (omega (arith, order.0)))

-- the span at `at`, and those behind it
tail_is : (ss : List Span) (at : ℕ) (s : Span) → at < length ss → s ≡ get_or ss at s → drop at ss ≡ s ∷ drop (at + 1) ss
tail_is ss at s lt is = drop_more ss at s lt ∙ ap (λ x. x ∷ drop (at + 1) ss) (sym is)

in_tail : (ss : List Span) (from at : ℕ) (s : Span) → IsFirstReaching ss from at → at < length ss → s ≡ get_or ss at s → (p : ℕ) → from ≤ p → in_spans p ss ≡ in_spans p (s ∷ drop (at + 1) ss)
in_tail ss from at s first lt is p low = sym (in_rest ss from at p first.before (omega arith)) ∙ ap (in_spans p) (tail_is ss at s lt is)

reached : (ss : List Span) (from at : ℕ) (s : Span) → IsFirstReaching ss from at → at < length ss → s ≡ get_or ss at s → from ≤ s.to
reached ss from at s first lt is = subst (λ (x : Span). from ≤ x.to) (sym is) (first.reaches s lt)

pub answer_at_to : (ss : List Span) (at : ℕ) (s : Span) (from to : ℕ) → at < length ss → s ≡ get_or ss at s → from < to → IsInOrder ss → IsFirstReaching ss from at → s.from ≤ from
    → AllOrSome (nat_le to s.to) (λ p. in_spans p ss) from to
answer_at_to ss at s from to lt is some order first low =
    answer_via (nat_le to s.to) (λ p. in_spans p ss) (λ p. in_spans p (s ∷ drop (at + 1) ss)) from to (in_tail ss from at s first lt is)
    (answer_to from to s (drop (at + 1) ss) some (subst IsInOrder (tail_is ss at s lt is) (in_order_drop at ss order)) low (reached ss from at s first lt is))

pub answer_at_from : (ss : List Span) (at : ℕ) (s : Span) (from to : ℕ) → at < length ss → s ≡ get_or ss at s → from < to → IsInOrder ss → IsFirstReaching ss from at → from < s.from
    → AllOrSome (nat_le s.from from) (λ p. in_spans p ss) from to
answer_at_from ss at s from to lt is some order first before =
    answer_via (nat_le s.from from) (λ p. in_spans p ss) (λ p. in_spans p (s ∷ drop (at + 1) ss)) from to (in_tail ss from at s first lt is)
    (answer_before from to s (drop (at + 1) ss) some (subst IsInOrder (tail_is ss at s lt is) (in_order_drop at ss order)) before)

pub none_reaches : (ss : List Span) (at from : ℕ) → IsFirstReaching ss from at → length ss ≤ at → in_spans from ss ≡ false
none_reaches ss at from first past = sym (in_rest ss from at from first.before (omega arith)) ∙ ap (in_spans from) (drop_all at ss past)

-- the same of a range that the last span does not begin past
pub answer_at_last : (ss : List Span) (count : ℕ) (last : Span) (from to : ℕ) → IsInOrder ss → count ≡ length ss → 0 < count → last ≡ get_or ss (count - 1) last → last.from ≤ from → from < to
    → AllOrSome (nat_le to last.to) (λ p. in_spans p ss) from to
answer_at_last ss count last from to order all some is low more =
    elim (cases_lt last.to from) [
      | inl before ↦
          let t : nat_le to last.to ≡ false = grind (arith, nat_tests) in
          let first = first_from_last ss from count count last order all some is low (λ lt. refl) (λ le. absurd (omega (arith, le, before))) in
          subst (λ b. AllOrSome b (λ p. in_spans p ss) from to) (sym t) (from, omega arith, more, none_reaches ss count from first (omega (arith, all)))
      | inr at ↦
          let first = first_from_last ss from count (count - 1) last order all some is low (λ lt. absurd (omega (arith, lt, at))) (λ le. omega (arith, some)) in
          answer_at_to ss (count - 1) last from to (omega (arith, all, some)) is more order first low
    ]

-- ---- the second span
pub second_reaches : (ss : List Span) (from : ℕ) (first second : Span) → 1 < length ss → first ≡ get_or ss 0 first → second ≡ get_or ss 1 second → first.to < from → from ≤ second.to → IsFirstReaching ss from 1
second_reaches [] from first second some is0 is1 past reach = absurd (omega arith)
second_reaches (s ∷ []) from first second some is0 is1 past reach = absurd (omega arith)
second_reaches (s ∷ t ∷ ts) from first second some is0 is1 past reach = record {
  within = omega (arith, some);
  before = λ k d lt. subst (λ j. (get_or (s ∷ t ∷ ts) j d).to < from) (let e : 0 ≡ k = omega (arith, lt) in e) (omega (arith, past, ap (λ (x : Span). x.to) is0));
  reaches = λ d lt. omega (arith, reach, ap (λ (x : Span). x.to) is1);
}

-- a range that ends past the first span, and begins before the second, or in it
pub lacks_before_second : (ss : List Span) (second : Span) (from to : ℕ) → IsFromStart ss → 1 < length ss → second ≡ get_or ss 1 second → first_end ss < to → from < to → from < second.from
    → AllOrSome false (λ p. in_spans p ss) from to
lacks_before_second [] second from to order some is past more before = absurd (omega arith)
lacks_before_second (s ∷ []) second from to order some is past more before = absurd (omega arith)
lacks_before_second (s ∷ t ∷ ts) second from to order some is past more before =
    let start : from < t.from = omega (arith, before, ap (λ (x : Span). x.from) is) in
    elim (cases_lt from s.to) [
      | inl within ↦
          let out : in_span s.to s ≡ false = grind (arith, nat_tests) in
          (s.to, omega (arith, within), past, ap (λ b. b || in_spans s.to (t ∷ ts)) out ∙ below_apart s.to s.to (t ∷ ts) order.1 (omega arith))
      | inr beyond ↦
          let out : in_span from s ≡ false = grind (arith, nat_tests) in
          (from, omega arith, more, ap (λ b. b || in_spans from (t ∷ ts)) out ∙ below_apart from from (t ∷ ts) (start, order.1.1, order.1.2) (omega arith))
    ]

pub answer_at_second : (ss : List Span) (second : Span) (from to : ℕ) → IsFromStart ss → 1 < length ss → second ≡ get_or ss 1 second → from < to → second.from ≤ from → from ≤ second.to
    → AllOrSome (nat_le to second.to) (λ p. in_spans p ss) from to
answer_at_second [] second from to order some is more low reach = absurd (omega arith)
answer_at_second (s ∷ []) second from to order some is more low reach = absurd (omega arith)
answer_at_second (s ∷ t ∷ ts) second from to order some is more low reach =
    answer_at_to (s ∷ t ∷ ts) 1 second from to some is more (in_order_start (s ∷ t ∷ ts) order)
    (second_reaches (s ∷ t ∷ ts) from s second some refl is (omega (arith, order.1.0, low, ap (λ (x : Span). x.from) is)) reach) low
