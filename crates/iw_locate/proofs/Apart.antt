-- Records in order: what a search by place finds.
use Rattle.std.proofs.Common.{◌≡◌, ℕ, ◌+◌, ◌-◌, ◌<◌, ◌≤◌, zero, suc, Bool, true, false, cond, List, [], ◌∷◌, length, drop, get_or, refl, sym, ap, ◌∙◌, subst, arith, inl, inr}
use Rattle.std.proofs.lemmas.List.{get_or_default}
use Rattle.std.proofs.lemmas.List.Edits.{length-insert, get_or-insert_below, get_or-insert_at, get_or-insert_above}
use Rattle.std.proofs.lemmas.List.Elements.{Contains-get_or}
use Rattle.std.proofs.lemmas.List.Sums.{sum_by-cons}
use Rattle.std.proofs.lemmas.Bool.{cases_lt, cases_eq}
use Rattle.std.proofs.lemmas.Bool.Decides.{nat_tests}
use Rattle.std.specs.Prelude.{nat_lt, nat_le}
use Rattle.std.specs.List.{Contains, count_by, insert}
use Rattle.std.specs.List.Sorted.{IsNonDecreasingBy, IsPartitionPoint}
use Rattle.iw_fpdu.specs.Places.{IsStart, span_start}
use Rattle.iw_fpdu.proofs.Octets.{span_low}
use Rattle.iw_locate.specs.declared.judged.Record.{Record}
use Rattle.iw_locate.specs.Records.{from_of, OverlapsOne, IsClear, IsPlaced, AreApart, IsFirstPast, IsPlaceFor, OverlapsPlaced, IsClearOfPlaced, kept_from}

module _ {T : Type 0} (rs : List (Record T)) (apart : AreApart rs) where
  -- ends do not fall
  pub ends_rise : IsNonDecreasingBy (λ (r : Record T). r.end) rs
  ends_rise i j d le lt =
      elim (cases_eq i j) [
        | inl same ↦ omega (arith, ap (λ k. (get_or rs k d).end) same)
        | inr other ↦ omega (arith, apart.order i j d (omega arith) lt, span_low true (get_or rs j d).start, apart.some j d lt)
      ]

  -- nor do starts
  pub starts_rise : IsNonDecreasingBy (λ (r : Record T). r.start) rs
  starts_rise i j d le lt =
      elim (cases_eq i j) [
        | inl same ↦ omega (arith, ap (λ k. (get_or rs k d).start) same)
        | inr other ↦ omega (arith, apart.order i j d (omega arith) lt, span_low true (get_or rs j d).start, apart.some i d (omega arith))
      ]

  pub past_from_point : (place i : ℕ) → i ≤ length rs → IsPartitionPoint (λ (r : Record T). nat_le r.end place ≡ true) (λ (r : Record T). nat_le r.end place ≡ false) rs i → IsFirstPast rs place i
  past_from_point place i within point = record {
    within = within;
    before = λ k d lt. let t = point.0 k d (omega arith) lt in grind (arith, nat_tests, t);
    past = λ k d low lt. let t = point.1 k d low lt in grind (arith, nat_tests, t);
  }

  -- a record that ends past the place is that at i or stands past it
  pub at_or_after : (place i : ℕ) → IsFirstPast rs place i → (k : ℕ) (d : Record T) → k < length rs → place < (get_or rs k d).end → i ≤ k
  at_or_after place i first k d lt past =
      elim (cases_lt k i) [
        | inl before ↦ absurd (omega (arith, first.before k d before))
        | inr after ↦ after
      ]

  -- records that stand past another begin past its end
  pub later_from : (i k : ℕ) (d : Record T) → i ≤ k → k < length rs → from_of (get_or rs i d) ≤ from_of (get_or rs k d)
  later_from i k d le lt =
      elim (cases_eq i k) [
        | inl same ↦ omega (arith, ap (λ j. from_of (get_or rs j d)) same)
        | inr other ↦ omega (arith, apart.order i k d (omega arith) lt, apart.some i d (omega arith), span_low true (get_or rs i d).start)
      ]

  -- no record begins at `start`, where the first that ends past it doesn't
  pub none_at : (start i : ℕ) → IsFirstPast rs start i → (found : Record T) → found ≡ get_or rs i found → (found.start ≡ start → ⊥) → i < length rs → (r : Record T) → Contains rs r → r.start ≡ start → ⊥
  none_at start i first found here other inside r (k, lt, is) e =
      let same : (get_or rs k r).start ≡ start = ap (λ (x : Record T). x.start) is ∙ e in
      let le = at_or_after start i first k r lt (omega (arith, apart.some k r lt)) in
      elim (cases_eq i k) [
        | inl equal ↦ other (ap (λ (x : Record T). x.start) (here ∙ get_or_default rs i found r inside) ∙ ap (λ j. (get_or rs j r).start) equal ∙ same)
        | inr later ↦ omega (arith, apart.order i k r (omega arith) lt, first.past i r (omega arith) (omega arith), span_low true (get_or rs k r).start)
      ]

  -- the search for one that overlaps: the first that ends past the span's beginning, or none
  pub clear_from : (start end i : ℕ) → IsFirstPast rs (span_start true start) i → (found : Record T) → found ≡ get_or rs i found → i < length rs → end ≤ from_of found → IsClear rs start end
  clear_from start end i first found here inside past r (k, lt, is) (low, high) =
      let f = ap (λ (x : Record T). from_of x) is in
      let e = ap (λ (x : Record T). x.end) is in
      let le = at_or_after (span_start true start) i first k r lt (omega (arith, e)) in
      omega (arith, f, past, ap (λ (x : Record T). from_of x) (here ∙ get_or_default rs i found r inside), later_from i k r le lt)

  pub overlap_at : (start end i : ℕ) (r : Record T) → IsFirstPast rs (span_start true start) i → i < length rs → r ≡ get_or rs i r → from_of r < end → OverlapsOne rs start end
  overlap_at start end i r first lt is low =
      let e = ap (λ (x : Record T). x.end) is in
      (r, (i, lt, sym is), (low, omega (arith, e, first.past i r (omega arith) lt)))

  -- where the first that ends past a place begins at it or past it, none lies over it
  pub none_over : (place i : ℕ) (found : Record T) → IsFirstPast rs place i → i < length rs → found ≡ get_or rs i found → place ≤ from_of found → (r : Record T) → Contains rs r → from_of r < place → r.end ≤ place
  none_over place i found first inside here low r (k, lt, is) before =
      elim (cases_lt place r.end) [
        | inl over ↦
            let le = at_or_after place i first k r lt (omega (arith, over, ap (λ (x : Record T). x.end) is)) in
            absurd (omega (arith, later_from i k r le lt, ap (λ (x : Record T). from_of x) is, ap (λ (x : Record T). from_of x) (here ∙ get_or_default rs i found r inside), low, before))
        | inr under ↦ under
      ]

  -- where the first ends at a place or past it, none but the first may lie over it
  pub none_but_first : (place : ℕ) (first : Record T) → 0 < length rs → first ≡ get_or rs 0 first → place ≤ first.end → (from_of first < place → first.end ≤ place) → (r : Record T) → Contains rs r → from_of r < place → r.end ≤ place
  none_but_first place first some here high outside r (k, lt, is) before =
      let at = here ∙ get_or_default rs 0 first r some in
      elim (cases_eq k 0) [
        | inl zeroth ↦
            let same : first ≡ r = at ∙ ap (λ j. get_or rs j r) (sym zeroth) ∙ is in
            omega (arith, outside (omega (arith, before, ap (λ (x : Record T). from_of x) same)), ap (λ (x : Record T). x.end) same)
        | inr later ↦ absurd (omega (arith, apart.order 0 k r (omega arith) lt, ap (λ (x : Record T). x.end) at, ap (λ (x : Record T). from_of x) is, high, before))
      ]

  -- where the last ends at a place or before it, so do all
  pub all_before : (place count : ℕ) → count ≡ length rs → (last : Record T) → 0 < count → last ≡ get_or rs (count - 1) last → last.end ≤ place → IsFirstPast rs place count
  all_before place count is last some here low = record {
    within = omega (arith, is);
    before = λ k d lt. omega (arith, ends_rise k (count - 1) d (omega (arith, lt)) (omega (arith, is, some)), ap (λ (x : Record T). x.end) (here ∙ get_or_default rs (count - 1) last d (omega (arith, is, some))), low);
    past = λ k d le lt. absurd (omega (arith, le, lt, is));
  }

  -- nor before it, where the first ends past a place
  pub all_past : (place : ℕ) → (first : Record T) → 0 < length rs → first ≡ get_or rs 0 first → place < first.end → IsFirstPast rs place 0
  all_past place first some here high = record {
    within = omega arith;
    before = λ k d lt. absurd (omega (arith, lt));
    past = λ k d le lt. omega (arith, ends_rise 0 k d (omega arith) lt, ap (λ (x : Record T). x.end) (here ∙ get_or_default rs 0 first d some), high);
  }

  -- nor does one end before a place, where the first doesn't
  pub none_ends_before : (place : ℕ) (first : Record T) → first ≡ get_or rs 0 first → place ≤ first.end → (r : Record T) → Contains rs r → place ≤ r.end
  none_ends_before place first here high r (k, lt, is) =
      omega (arith, ends_rise 0 k r (omega arith) lt, ap (λ (x : Record T). x.end) (here ∙ get_or_default rs 0 first r (omega arith)), ap (λ (x : Record T). x.end) is, high)

  -- nor does one overlap a frame that ends before the first
  pub none_overlaps_before : (start end : ℕ) (first : Record T) → first ≡ get_or rs 0 first → end ≤ from_of first → IsClearOfPlaced rs start end
  none_overlaps_before start end first here high r (k, lt, is) placed (low, over) =
      omega (arith, later_from 0 k r (omega arith) lt, ap (λ (x : Record T). from_of x) (here ∙ get_or_default rs 0 first r (omega arith)), ap (λ (x : Record T). from_of x) is, high, low)

  -- nor any but the first, where that ends at it or before it, and the second past it
  pub others_past : (place : ℕ) → (first second : Record T) → 1 < length rs → first ≡ get_or rs 0 first → first.end ≤ place → second ≡ get_or rs 1 second → place < second.end → IsFirstPast rs place 1
  others_past place first second some at low here high = record {
    within = omega arith;
    before = λ k d lt. omega (arith, ap (λ j. (get_or rs j d).end) (let e : k ≡ 0 = omega arith in e), ap (λ (x : Record T). x.end) (at ∙ get_or_default rs 0 first d (omega arith)), low);
    past = λ k d le lt. omega (arith, ends_rise 1 k d le lt, ap (λ (x : Record T). x.end) (here ∙ get_or_default rs 1 second d some), high);
  }

  -- all begin before a place, where the last does
  pub last_point : (start count : ℕ) → count ≡ length rs → (last : Record T) → 0 < count → last ≡ get_or rs (count - 1) last → last.start < start
      → IsPartitionPoint (λ (r : Record T). nat_lt r.start start ≡ true) (λ (r : Record T). nat_lt r.start start ≡ false) rs count
  last_point start count is last some here low = (
    λ k d lt fits.
        let t : (get_or rs k d).start < start =
        omega (arith, starts_rise k (count - 1) d (omega (arith, lt)) (omega (arith, is, some)), ap (λ (x : Record T). x.start) (here ∙ get_or_default rs (count - 1) last d (omega (arith, is, some))), low) in
        grind (arith, nat_tests),
    λ k d le lt. absurd (omega (arith, le, lt, is)),
  )

  -- and none, where the first doesn't
  pub first_point : (start : ℕ) → (first : Record T) → 0 < length rs → first ≡ get_or rs 0 first → start ≤ first.start
      → IsPartitionPoint (λ (r : Record T). nat_lt r.start start ≡ true) (λ (r : Record T). nat_lt r.start start ≡ false) rs 0
  first_point start first some here high = (
    λ k d lt fits. absurd (omega (arith, lt)),
    λ k d le lt.
        let t : start ≤ (get_or rs k d).start = omega (arith, starts_rise 0 k d (omega arith) lt, ap (λ (x : Record T). x.start) (here ∙ get_or_default rs 0 first d some), high) in
        grind (arith, nat_tests),
  )

  -- where none ends past a place, none lies over it
  pub none_past_all : (place i : ℕ) → IsFirstPast rs place i → length rs ≤ i → (r : Record T) → Contains rs r → r.end ≤ place
  none_past_all place i first past r (k, lt, is) = omega (arith, first.before k r (omega (arith, lt, past)), ap (λ (x : Record T). x.end) is)

-- how many pass a test that is passed before i and failed from i on
count_first : {X : Type 0} (p : X → Bool) (x : X) (xs : List X) → count_by p (x ∷ xs) ≡ cond (p x) 1 0 + count_by p xs
count_first p x xs = sum_by-cons (λ y. cond (p y) 1 0) x xs

none_pass : {X : Type 0} (p : X → Bool) (xs : List X) → ((k : ℕ) (d : X) → k < length xs → p (get_or xs k d) ≡ false) → count_by p xs ≡ 0
none_pass p [] h = refl
none_pass p (x ∷ xs) h =
    let first : p x ≡ false = h 0 x (omega arith) in
    let rest : count_by p xs ≡ 0 = none_pass p xs (λ k d lt. h (suc k) d (omega arith)) in
    omega (arith, rest, count_first p x xs, ap {B = ℕ} (λ b. cond b 1 0) first)

pub counted : {X : Type 0} (p : X → Bool) (xs : List X) (i : ℕ) → i ≤ length xs → IsPartitionPoint (λ x. p x ≡ true) (λ x. p x ≡ false) xs i → i ≡ count_by p xs
counted p xs zero le point = sym (none_pass p xs (λ k d lt. point.1 k d (omega arith) lt))
counted p [] (suc i) le point = absurd (omega arith)
counted p (x ∷ xs) (suc i) le point =
    let first : p x ≡ true = point.0 0 x (omega arith) (omega arith) in
    let rest = counted p xs i (omega arith) ((λ k d low lt. point.0 (suc k) d (omega arith) (omega arith)), (λ k d low lt. point.1 (suc k) d (omega arith) (omega arith))) in
    omega (arith, rest, count_first p x xs, ap {B = ℕ} (λ b. cond b 1 0) first)

-- ---- one record more
module _ {T : Type 0} (rs : List (Record T)) (r : Record T) (i : ℕ) (place : IsPlaceFor rs r.start i) where
  at_before : (k : ℕ) (d : Record T) → k < i → get_or (insert rs i r) k d ≡ get_or rs k d
  at_before k d lt = get_or-insert_below rs i r d k lt place.within

  at_past : (k : ℕ) (d : Record T) → i < k → get_or (insert rs i r) k d ≡ get_or rs (k - 1) d
  at_past k d lt =
      let e : k ≡ k - 1 + 1 = omega arith in
      ap (λ j. get_or (insert rs i r) j d) e ∙ get_or-insert_above rs i r d (k - 1) (omega arith) place.within

  each_inserted : (P : Record T → Type 0) → ((k : ℕ) (d : Record T) → k < length rs → P (get_or rs k d)) → P r → (k : ℕ) (d : Record T) → k < length (insert rs i r) → P (get_or (insert rs i r) k d)
  each_inserted P old new k d lt =
      let long = length-insert rs i r place.within in
      elim (cases_lt k i) [
        | inl before ↦ subst P (sym (at_before k d before)) (old k d (omega (arith, place.within)))
        | inr from ↦
            elim (cases_eq k i) [
              | inl here ↦ subst P (sym (ap (λ j. get_or (insert rs i r) j d) here ∙ get_or-insert_at rs i r d place.within)) new
              | inr other ↦ subst P (sym (at_past k d (omega arith))) (old (k - 1) d (omega (arith, long)))
            ]
      ]

  -- the records before it end before its span, and those past it begin past its end
  ends_before : AreApart rs → r.start < r.end → IsClear rs r.start r.end → (k : ℕ) (d : Record T) → k < i → (get_or rs k d).end ≤ from_of r
  ends_before apart some clear k d lt =
      let x = get_or rs k d in
      elim (cases_lt (from_of r) x.end) [
        | inl over ↦ absurd (clear x (Contains-get_or rs k d (omega (arith, place.within))) (omega (arith, span_low true x.start, place.before k d lt), over))
        | inr apart ↦ apart
      ]

  begins_past : AreApart rs → r.start < r.end → IsClear rs r.start r.end → (k : ℕ) (d : Record T) → i ≤ k → k < length rs → r.end ≤ from_of (get_or rs k d)
  begins_past apart some clear k d le lt =
      let x = get_or rs k d in
      elim (cases_lt (from_of x) r.end) [
        | inl over ↦ absurd (clear x (Contains-get_or rs k d lt) (over, omega (arith, span_low true r.start, place.past k d le lt, apart.some k d lt)))
        | inr apart ↦ apart
      ]

  subst2 : {x y a b : Record T} → x ≡ a → y ≡ b → a.end ≤ from_of b → x.end ≤ from_of y
  subst2 e f h = omega (arith, ap (λ (z : Record T). z.end) e, ap (λ (z : Record T). from_of z) f)

  pub inserted_apart : AreApart rs → IsStart true r.start → r.start < r.end → IsClear rs r.start r.end → AreApart (insert rs i r)
  inserted_apart apart start some clear = record {
    start = each_inserted (λ x. IsStart true x.start) apart.start start;
    some = each_inserted (λ x. x.start < x.end) apart.some some;
    order = λ j k d lt inside.
        let long = length-insert rs i r place.within in
        elim (cases_lt k i) [
          | inl before ↦ subst2 (at_before j d (omega arith)) (at_before k d before) (apart.order j k d lt (omega (arith, place.within)))
          | inr from ↦
              elim (cases_eq k i) [
                | inl here ↦ subst2 (at_before j d (omega arith)) (ap (λ m. get_or (insert rs i r) m d) here ∙ get_or-insert_at rs i r d place.within) (ends_before apart some clear j d (omega arith))
                | inr past ↦
                    elim (cases_lt j i) [
                      | inl first ↦ subst2 (at_before j d first) (at_past k d (omega arith)) (apart.order j (k - 1) d (omega arith) (omega (arith, long)))
                      | inr after ↦
                          elim (cases_eq j i) [
                            | inl here ↦ subst2 (ap (λ m. get_or (insert rs i r) m d) here ∙ get_or-insert_at rs i r d place.within) (at_past k d (omega arith)) (begins_past apart some clear (k - 1) d (omega arith) (omega (arith, long)))
                            | inr later ↦ subst2 (at_past j d (omega arith)) (at_past k d (omega arith)) (apart.order (j - 1) (k - 1) d (omega arith) (omega (arith, long)))
                          ]
                    ]
              ]
        ];
  }

pub place_from_point : {T : Type 0} (rs : List (Record T)) (start i : ℕ) → i ≤ length rs
    → IsPartitionPoint (λ (r : Record T). nat_lt r.start start ≡ true) (λ (r : Record T). nat_lt r.start start ≡ false) rs i → IsPlaceFor rs start i
place_from_point rs start i within point = record {
  within = within;
  before = λ k d lt. let t = point.0 k d (omega arith) lt in grind (arith, nat_tests, t);
  past = λ k d low lt. let t = point.1 k d low lt in grind (arith, nat_tests, t);
}

-- ---- records that go at the front
apart_tail : {T : Type 0} (r : Record T) (rs : List (Record T)) → AreApart (r ∷ rs) → AreApart rs
apart_tail r rs h = record {
  start = λ i d lt. h.start (suc i) d (omega arith);
  some = λ i d lt. h.some (suc i) d (omega arith);
  order = λ i j d lt inside. h.order (suc i) (suc j) d (omega arith) (omega arith);
}

pub apart_drop : {T : Type 0} (rs : List (Record T)) → AreApart rs → AreApart (drop 1 rs)
apart_drop [] h = h
apart_drop (r ∷ rs) h = apart_tail r rs h

pub forget_one : {T : Type 0} (place : ℕ) (rs : List (Record T)) (r : Record T) → r ≡ get_or rs 0 r → from_of r < place → kept_from place (drop 1 rs) ≡ kept_from place rs
forget_one place [] r is low = refl
forget_one place (x ∷ rs) r is low =
    let below : nat_le place (from_of x) ≡ false = let e = ap (λ (y : Record _). from_of y) is in grind (arith, nat_tests, e) in
    sym (ap (λ b. cond b (x ∷ kept_from place rs) (kept_from place rs)) below)

-- where the first stays all stay
all_kept : {T : Type 0} (place : ℕ) (rs : List (Record T)) → ((k : ℕ) (d : Record T) → k < length rs → place ≤ from_of (get_or rs k d)) → kept_from place rs ≡ rs
all_kept place [] h = refl
all_kept place (x ∷ rs) h =
    let first : place ≤ from_of x = h 0 x (omega arith) in
    let over : nat_le place (from_of x) ≡ true = grind (arith, nat_tests) in
    ap (λ b. cond b (x ∷ kept_from place rs) (kept_from place rs)) over ∙ ap (λ ys. x ∷ ys) (all_kept place rs (λ k d lt. h (suc k) d (omega arith)))

pub forget_done : {T : Type 0} (place : ℕ) (rs : List (Record T)) (r : Record T) → AreApart rs → r ≡ get_or rs 0 r → place ≤ from_of r → 0 < length rs → kept_from place rs ≡ rs
forget_done place rs r apart is low some =
    all_kept place rs (λ k d lt. omega (arith, ap (λ (y : Record _). from_of y) (is ∙ get_or_default rs 0 r d some), later_from rs apart 0 k d (omega arith) lt))

pub forget_none : {T : Type 0} (place : ℕ) (rs : List (Record T)) → length rs ≡ 0 → kept_from place rs ≡ rs
forget_none place [] h = refl
forget_none place (r ∷ rs) h = absurd (omega arith)

-- ---- a placed frame that overlaps
pub placed_at : {T : Type 0} (rs : List (Record T)) (start end first at : ℕ) (r : Record T) → IsFirstPast rs (span_start true start) first → first ≤ at → at < length rs → r ≡ get_or rs at r
    → from_of r < end → IsPlaced r.state → OverlapsPlaced rs start end
placed_at rs start end first at r is le lt here low placed =
    (r, (at, lt, sym here), placed, (low, omega (arith, ap (λ (x : Record _). x.end) here, is.past at r le lt)))

pub none_placed : {T : Type 0} (rs : List (Record T)) → AreApart rs → (start end first at : ℕ) → IsFirstPast rs (span_start true start) first
    → ((k : ℕ) (d : Record T) → first ≤ k → k < at → IsPlaced (get_or rs k d).state → ⊥)
    → ((d : Record T) → at < length rs → end ≤ from_of (get_or rs at d)) → IsClearOfPlaced rs start end
none_placed rs apart start end first at is none past r (k, lt, here) placed (low, high) =
    let le = at_or_after rs apart (span_start true start) first is k r lt (omega (arith, ap (λ (x : Record _). x.end) here)) in
    elim (cases_lt k at) [
      | inl before ↦ none k r le before (subst (λ (x : Record _). IsPlaced x.state) (sym here) placed)
      | inr after ↦ omega (arith, ap (λ (x : Record _). from_of x) here, later_from rs apart at k r after lt, past r (omega arith))
    ]
