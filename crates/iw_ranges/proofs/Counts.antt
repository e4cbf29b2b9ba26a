-- How many islands there are, by the spans.
use Rattle.std.proofs.Common.{◌≡◌, ℕ, ◌+◌, ◌-◌, ◌<◌, ◌≤◌, zero, suc, Bool, true, false, not, ◌&&◌, ◌||◌, cond, ltb, leb, List, [], ◌∷◌, length, refl, sym, ap, ◌∙◌, arith, add-one, inl, inr}
use Rattle.std.proofs.lemmas.Bool.{cases_lt}
use Rattle.std.proofs.lemmas.Bool.Decides.{nat_tests}
use Rattle.std.specs.Prelude.{nat_lt}
use Rattle.iw_ranges.specs.declared.spans.Span.{Span}
use Rattle.iw_ranges.specs.Spans.{in_span, in_spans, IsApart, IsFromStart, first_end, add_span}
use Rattle.iw_ranges.specs.Arrived.{Arrived, has_come, in_segment, come_after, starts_in, window, max_islands, island_count, is_dropped, IsWithinLimits}
use Rattle.iw_ranges.specs.Fields.{Fields, arrived_in, IsSound}
use Rattle.iw_ranges.proofs.Reaches.{below_apart, in_order_start, inside_first}
use Rattle.iw_ranges.proofs.Adds.{in_add, add_from_start, add_first}
use Rattle.iw_ranges.proofs.Fills.{not_in}
use Rattle.iw_ranges.proofs.Cells.{first_covers, come_is, cell_is, cell_missing}

pub or_false : (x y : Bool) → y ≡ false → (x || y) ≡ x
or_false true y h = refl
or_false false y h = h

pub or_true : (z : Bool) → (z || true) ≡ true
or_true true = refl
or_true false = refl

or_comm : (x y : Bool) → (x || y) ≡ (y || x)
or_comm true true = refl
or_comm true false = refl
or_comm false true = refl
or_comm false false = refl

-- ---- how many islands
starts_none : (came : ℕ → Bool) (a n : ℕ) → ((p : ℕ) → a ≤ p → p < a + n → (came p && not (came (p - 1))) ≡ false) → starts_in came a n ≡ 0
starts_none came a zero h = refl
starts_none came a (suc n) h =
    let more : starts_in came (a + 1) n ≡ 0 = starts_none came (a + 1) n (λ p low high. h p (omega arith) (omega arith)) in
    omega (arith, more, ap {B = ℕ} (λ b. cond b 1 0) (h a (omega arith) (omega arith)))

starts_split : (came : ℕ → Bool) (a n m k b : ℕ) → k ≡ n + m → b ≡ a + n → starts_in came a k ≡ starts_in came a n + starts_in came b m
starts_split came a zero m k b e f =
    let here : starts_in came a k ≡ starts_in came b m = ap (starts_in came a) (omega arith) ∙ ap (λ x. starts_in came x m) (omega arith) in
    omega (arith, here)
starts_split came a (suc n) m zero b e f = absurd (omega arith)
starts_split came a (suc n) m (suc k) b e f =
    let more : starts_in came (a + 1) k ≡ starts_in came (a + 1) n + starts_in came b m = starts_split came (a + 1) n m k b (omega arith) (omega arith) in
    omega (arith, more)

starts_ext : (f g : ℕ → Bool) (a n : ℕ) → ((p : ℕ) → a ≤ p + 1 → f p ≡ g p) → starts_in f a n ≡ starts_in g a n
starts_ext f g a zero h = refl
starts_ext f g a (suc n) h =
    let more : starts_in f (a + 1) n ≡ starts_in g (a + 1) n = starts_ext f g (a + 1) n (λ p low. h p (omega arith)) in
    let here : (f a && not (f (a - 1))) ≡ (g a && not (g (a - 1))) = ap (λ b. b && not (f (a - 1))) (h a (omega arith)) ∙ ap (λ b. g a && not b) (h (a - 1) (omega arith)) in
    omega (arith, more, ap {B = ℕ} (λ b. cond b 1 0) here)

and_not : (x y : Bool) → (x ≡ true → y ≡ true) → (x && not y) ≡ false
and_not true y h = ap not (h refl)
and_not false y h = refl

before_apart : (p : ℕ) (s : Span) (ss : List Span) → p < s.from → s.from < s.to → IsApart s.to ss → in_spans p (s ∷ ss) ≡ false
before_apart p s ss low real apart =
    let rest : in_spans p ss ≡ false = below_apart s.to p ss apart (omega arith) in
    grind (arith, nat_tests, rest)

past_first : (p : ℕ) (s : Span) (ss : List Span) → s.to ≤ p → in_spans p ss ≡ in_spans p (s ∷ ss)
past_first p s ss high = let out : in_span p s ≡ false = grind (arith, nat_tests) in sym (ap (λ b. b || in_spans p ss) out)

-- within a span and one place behind it nothing starts
none_within : (s : Span) (ss : List Span) (a n : ℕ) → s.from < a → a + n ≤ s.to + 1 → starts_in (λ p. in_spans p (s ∷ ss)) a n ≡ 0
none_within s ss a n low high = starts_none (λ p. in_spans p (s ∷ ss)) a n (λ p h k. and_not (in_spans p (s ∷ ss)) (in_spans (p - 1) (s ∷ ss)) (λ t. inside_first (p - 1) s ss (omega arith) (omega arith)))

-- spans behind place m, each of which ends before place m + n: as many starts as spans
count_apart : (m n : ℕ) (ss : List Span) → IsApart m ss → ((p : ℕ) → in_spans p ss ≡ true → p < m + n) → starts_in (λ p. in_spans p ss) (m + 1) n ≡ length ss
count_apart m n [] apart within = starts_none (λ p. in_spans p []) (m + 1) n (λ p h k. refl)
count_apart m n (s ∷ ss) apart within =
    let came = λ (p : ℕ). in_spans p (s ∷ ss) in
    let low : m < s.from = apart.0 in
    let real : s.from < s.to = apart.1 in
    let last : s.to - 1 < m + n = within (s.to - 1) (inside_first (s.to - 1) s ss (omega arith) (omega arith)) in
    let first : starts_in came (m + 1) (s.from - m - 1) ≡ 0 =
    starts_none came (m + 1) (s.from - m - 1) (λ p h k. ap (λ b. b && not (came (p - 1))) (before_apart p s ss (omega arith) real apart.2)) in
    let here : (came s.from && not (came (s.from - 1))) ≡ true =
    ap (λ b. b && not (came (s.from - 1))) (inside_first s.from s ss (omega arith) real) ∙ ap not (before_apart (s.from - 1) s ss (omega arith) real apart.2) in
    let rest : starts_in came (s.from + 1) (s.to - s.from) ≡ 0 = none_within s ss (s.from + 1) (s.to - s.from) (omega arith) (omega arith) in
    let more : starts_in came (s.to + 1) (m + n - s.to) ≡ length ss =
    sym (starts_ext (λ p. in_spans p ss) came (s.to + 1) (m + n - s.to) (λ p h. past_first p s ss (omega arith)))
    ∙ count_apart s.to (m + n - s.to) ss apart.2 (λ p t. omega (arith, within p (sym (past_first p s ss (later p t)) ∙ t))) in
    let cut = starts_split came (m + 1) (s.from - m - 1) (m + n - s.from + 1) n s.from (omega arith) (omega arith) in
    let one : starts_in came s.from (suc (m + n - s.from)) ≡ 1 + starts_in came (s.from + 1) (m + n - s.from) = ap {B = ℕ} (λ b. cond b 1 0 + starts_in came (s.from + 1) (m + n - s.from)) here in
    let same : starts_in came s.from (m + n - s.from + 1) ≡ starts_in came s.from (suc (m + n - s.from)) = ap (starts_in came s.from) (add-one (m + n - s.from)) in
    let cut2 = starts_split came (s.from + 1) (s.to - s.from) (m + n - s.to) (m + n - s.from) (s.to + 1) (omega arith) (omega arith) in
    omega (arith, cut, first, same, one, cut2, rest, more)
  where
    later : (p : ℕ) → in_spans p ss ≡ true → s.to ≤ p
    later p t = elim (cases_lt p s.to) [ inl low ↦ absurd (let out = below_apart s.to p ss apart.2 (omega arith) in cc) | inr high ↦ high ]

-- behind what came without a gap stand as many islands as there are other spans
count_runs : (floor n : ℕ) (ss : List Span) → IsFromStart ss → floor ≤ first_end ss → ((p : ℕ) → in_spans p ss ≡ true → p < floor + n) → starts_in (λ p. in_spans p ss) (floor + 1) n + 1 ≡ length ss
count_runs floor n [] order reached within = elim order [ ]
count_runs floor n (s ∷ ss) order reached within =
    let came = λ (p : ℕ). in_spans p (s ∷ ss) in
    let z : s.from ≡ 0 = order.0 in
    let last : s.to ≤ floor + n = bound s.to refl in
    let rest : starts_in came (floor + 1) (s.to - floor) ≡ 0 = none_within s ss (floor + 1) (s.to - floor) (omega (arith, z)) (omega (arith, reached)) in
    let more : starts_in came (s.to + 1) (floor + n - s.to) ≡ length ss =
    sym (starts_ext (λ p. in_spans p ss) came (s.to + 1) (floor + n - s.to) (λ p h. past_first p s ss (omega arith)))
    ∙ count_apart s.to (floor + n - s.to) ss order.1 (λ p t. let high : s.to ≤ p = later p t in omega (arith, within p (sym (past_first p s ss high) ∙ t), high)) in
    let cut = starts_split came (floor + 1) (s.to - floor) (floor + n - s.to) n (s.to + 1) (omega (arith, reached, last)) (omega (arith, reached)) in
    omega (arith, cut, rest, more)
  where
    later : (p : ℕ) → in_spans p ss ≡ true → s.to ≤ p
    later p t = elim (cases_lt p s.to) [ inl low ↦ absurd (let out = below_apart s.to p ss order.1 (omega arith) in cc) | inr high ↦ high ]

    bound : (to : ℕ) → to ≡ s.to → to ≤ floor + n
    bound zero e = omega arith
    bound (suc to) e = omega (arith, within to (inside_first to s ss (omega (arith, order.0)) (omega arith)))

pub islands_are : (came : ℕ → Bool) (floor : ℕ) (ss : List Span) → IsFromStart ss → floor ≤ first_end ss → ((p : ℕ) → in_spans p ss ≡ true → p < floor + window) → ((p : ℕ) → came p ≡ in_spans p ss)
    → island_count came floor + 1 ≡ length ss
unfolding island_count
islands_are came floor ss order reached within same =
    ap (λ n. n + 1) (starts_ext came (λ p. in_spans p ss) (floor + 1) window (λ p h. same p)) ∙ count_runs floor window ss order reached within

-- ---- when octets are dropped
pub dropped_none : (a : Arrived) (place n : ℕ) → n ≡ 0 → is_dropped a place n ≡ false
unfolding is_dropped
dropped_none a place n e = let t : nat_lt 0 n ≡ false = grind (arith, nat_tests) in ap (λ b. b && (nat_lt (a.floor + window) (place + n) || nat_lt max_islands (island_count (come_after a place n) a.floor))) t

pub dropped_far : (a : Arrived) (place n : ℕ) → 0 < n → a.floor + window < place + n → is_dropped a place n ≡ true
unfolding is_dropped
dropped_far a place n some far =
    let t : nat_lt 0 n ≡ true = grind (arith, nat_tests) in
    let u : nat_lt (a.floor + window) (place + n) ≡ true = grind (arith, nat_tests) in
    ap (λ b. b && (nat_lt (a.floor + window) (place + n) || nat_lt max_islands (island_count (come_after a place n) a.floor))) t
    ∙ ap (λ b. b || nat_lt max_islands (island_count (come_after a place n) a.floor)) u

pub dropped_many : (a : Arrived) (place n : ℕ) → 0 < n → max_islands < island_count (come_after a place n) a.floor → is_dropped a place n ≡ true
unfolding is_dropped
dropped_many a place n some many =
    let t : nat_lt 0 n ≡ true = grind (arith, nat_tests) in
    let u : nat_lt max_islands (island_count (come_after a place n) a.floor) ≡ true = grind (arith, nat_tests) in
    ap (λ b. b && (nat_lt (a.floor + window) (place + n) || nat_lt max_islands (island_count (come_after a place n) a.floor))) t
    ∙ ap (λ b. nat_lt (a.floor + window) (place + n) || b) u ∙ or_true (nat_lt (a.floor + window) (place + n))

pub keeps_few : (a : Arrived) (place n : ℕ) → place + n ≤ a.floor + window → island_count (come_after a place n) a.floor ≤ max_islands → is_dropped a place n ≡ false
unfolding is_dropped
keeps_few a place n near few =
    let t : nat_lt (a.floor + window) (place + n) ≡ false = grind (arith, nat_tests) in
    let u : nat_lt max_islands (island_count (come_after a place n) a.floor) ≡ false = grind (arith, nat_tests) in
    ap (λ b. nat_lt 0 n && (b || nat_lt max_islands (island_count (come_after a place n) a.floor))) t ∙ ap (λ b. nat_lt 0 n && b) u ∙ and_false (nat_lt 0 n)
  where
    and_false : (b : Bool) → (b && false) ≡ false
    and_false true = refl
    and_false false = refl

-- ---- the places that came once a segment came too
-- of one whose places all came before
abbrev pub AllCame : Fields → ℕ → ℕ → Type 0
AllCame f from to = (p : ℕ) → from ≤ p → p < to → in_spans p f.spans ≡ true

-- it adds nothing
after_came : (f : Fields) → IsSound f → (place n p : ℕ) → AllCame f place (place + n) → come_after (arrived_in f) place n p ≡ in_spans p f.spans
after_came f ok place n p all = go (in_segment place n p) refl
  where
    go : (v : Bool) → in_segment place n p ≡ v → come_after (arrived_in f) place n p ≡ in_spans p f.spans
    go true h =
        let low : place ≤ p = grind (arith, nat_tests) in
        let high : p < place + n = grind (arith, nat_tests) in
        ap (λ b. b || in_segment place n p) (come_is f ok p ∙ all p low high) ∙ sym (all p low high)
    go false h = or_false (has_come (arrived_in f) p) (in_segment place n p) h ∙ come_is f ok p

-- all came where they did from the first place on that is missing
pub all_low : (f : Fields) → IsSound f → (from to : ℕ) → to ≤ first_end f.spans → AllCame f from to
all_low f ok from to low p a b = first_covers f.spans p ok.order (omega arith)

pub all_from : (f : Fields) → IsSound f → (place from to : ℕ) → from ≡ place + (first_end f.spans - place) → AllCame f from to → AllCame f place to
all_from f ok place from to e all p low high =
    elim (cases_lt p (first_end f.spans)) [
      | inl before ↦ first_covers f.spans p ok.order before
      | inr beyond ↦ all p (omega arith) high
    ]

-- one that ends behind the first missing place adds its places from there on
after_is : (f : Fields) → IsSound f → (place n from p : ℕ) → from ≡ place + (first_end f.spans - place) → first_end f.spans < place + n
    → come_after (arrived_in f) place n p ≡ in_spans p (add_span from (place + n) f.spans)
after_is f ok place n from p e high =
    let added : in_spans p (add_span from (place + n) f.spans) ≡ ((leb from p && ltb p (place + n)) || in_spans p f.spans) = in_add p from (place + n) f.spans (omega arith) (in_order_start f.spans ok.order) in
    elim (cases_lt p (first_end f.spans)) [
      | inl before ↦
          let came : in_spans p f.spans ≡ true = first_covers f.spans p ok.order before in
          ap (λ b. b || in_segment place n p) (come_is f ok p ∙ came)
          ∙ sym (added ∙ ap (λ b. (leb from p && ltb p (place + n)) || b) came ∙ or_true (leb from p && ltb p (place + n)))
      | inr past ↦
          let same : in_segment place n p ≡ (leb from p && ltb p (place + n)) = grind (arith, nat_tests) in
          ap (λ b. b || in_segment place n p) (come_is f ok p) ∙ ap (λ b. in_spans p f.spans || b) same
          ∙ or_comm (in_spans p f.spans) (leb from p && ltb p (place + n)) ∙ sym added
    ]

near_spans : (f : Fields) → IsSound f → (p : ℕ) → in_spans p f.spans ≡ true → p < f.floor + window
near_spans f ok p t = omega (arith, ok.within p t, ok.windowed)

pub islands_put : (f : Fields) → IsSound f → (place n from : ℕ) → from ≡ place + (first_end f.spans - place) → first_end f.spans < place + n → place + n ≤ f.floor + window → 0 < n
    → island_count (come_after (arrived_in f) place n) f.floor + 1 ≡ length (add_span from (place + n) f.spans)
islands_put f ok place n from e high near some =
    islands_are (come_after (arrived_in f) place n) f.floor (add_span from (place + n) f.spans)
    (add_from_start from (place + n) f.spans (omega arith) ok.order)
    (omega (arith, ok.reached, add_first from (place + n) f.spans ok.order))
    (λ p t. inside p (in_spans p f.spans) refl (sym (in_add p from (place + n) f.spans (omega arith) (in_order_start f.spans ok.order)) ∙ t))
    (λ p. after_is f ok place n from p e high)
  where
    inside : (p : ℕ) (v : Bool) → in_spans p f.spans ≡ v → ((leb from p && ltb p (place + n)) || in_spans p f.spans) ≡ true → p < f.floor + window
    inside p true h t = near_spans f ok p h
    inside p false h t =
        let u : (leb from p && ltb p (place + n)) ≡ true = sym (or_false (leb from p && ltb p (place + n)) (in_spans p f.spans) h) ∙ t in
        grind (arith, nat_tests)

-- ---- whether a segment is dropped, by the spans
pub dropped_came : (f : Fields) → IsSound f → (place n : ℕ) → place + n ≤ f.floor + window → AllCame f place (place + n) → is_dropped (arrived_in f) place n ≡ false
dropped_came f ok place n near all =
    keeps_few (arrived_in f) place n near
    (omega (arith, ok.few, islands_are (come_after (arrived_in f) place n) f.floor f.spans ok.order ok.reached (near_spans f ok) (λ p. after_came f ok place n p all)))

pub dropped_put : (f : Fields) → IsSound f → (place n from : ℕ) → from ≡ place + (first_end f.spans - place) → first_end f.spans < place + n → place + n ≤ f.floor + window → 0 < n
    → 1025 < length (add_span from (place + n) f.spans) → is_dropped (arrived_in f) place n ≡ true
dropped_put f ok place n from e high near some many =
    let more : max_islands < island_count (come_after (arrived_in f) place n) f.floor = omega (arith, islands_put f ok place n from e high near some) in
    dropped_many (arrived_in f) place n some more

pub kept_put : (f : Fields) → IsSound f → (place n from : ℕ) → from ≡ place + (first_end f.spans - place) → first_end f.spans < place + n → place + n ≤ f.floor + window → 0 < n
    → length (add_span from (place + n) f.spans) ≤ 1025 → is_dropped (arrived_in f) place n ≡ false
kept_put f ok place n from e high near some few =
    let fits : island_count (come_after (arrived_in f) place n) f.floor ≤ max_islands = omega (arith, islands_put f ok place n from e high near some) in
    keeps_few (arrived_in f) place n near fits

-- ---- at any time
pub within_limits : (f : Fields) → IsSound f → IsWithinLimits (arrived_in f)
within_limits f ok = record {
  octets = λ p far. cell_is f ok p (omega arith) ∙ cell_missing f p (not_in p f.end f.spans (in_spans p f.spans) ok.within (omega (arith, ok.windowed)) refl);
  islands = omega (arith, ok.few, islands_are (has_come (arrived_in f)) f.floor f.spans ok.order ok.reached (near_spans f ok) (come_is f ok));
  floor = ok.low;
}
