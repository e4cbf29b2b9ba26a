-- Octets written between spans.
use Rattle.std.proofs.Common.{◌≡◌, ℕ, ◌+◌, ◌-◌, ◌<◌, ◌≤◌, Bool, true, false, not, ◌&&◌, cond, ltb, leb, List, ◌∷◌, ◌++◌, take, drop, length, get_or, min, max, refl, sym, ap, ◌∙◌, subst, arith, ⊎_elim, inl, inr}
use Rattle.std.proofs.lemmas.List.{get_or-drop, length-drop, length-take-le, get_or-take, drop_more, drop_all, take_at, get_or_past}
use Rattle.std.proofs.lemmas.Bool.{cases_lt}
use Rattle.std.proofs.lemmas.Bool.Decides.{nat_tests}
use Rattle.iw_ranges.specs.declared.spans.Span.{Span}
use Rattle.iw_ranges.specs.Spans.{in_spans, IsInOrder, octet_after}
use Rattle.iw_ranges.proofs.Reaches.{below_apart, in_order_tail, AllBefore, in_rest}

pub in_octets : (base : ℕ) (ss : List Span) (from : ℕ) (octets buffer : List ℕ) (i : ℕ) → from ≤ base + i → base + i < from + length octets → in_spans (base + i) ss ≡ false
    → octet_after base ss from octets buffer i ≡ get_or octets (base + i - from) 0
unfolding octet_after
in_octets base ss from octets buffer i low high out = grind (arith, nat_tests, out)

pub before_octets : (base : ℕ) (ss : List Span) (from : ℕ) (octets buffer : List ℕ) (i : ℕ) → base + i < from → octet_after base ss from octets buffer i ≡ get_or buffer i 0
unfolding octet_after
before_octets base ss from octets buffer i low = grind (arith, nat_tests)

pub past_octets : (base : ℕ) (ss : List Span) (from : ℕ) (octets buffer : List ℕ) (i : ℕ) → from + length octets ≤ base + i → octet_after base ss from octets buffer i ≡ get_or buffer i 0
unfolding octet_after
past_octets base ss from octets buffer i high = grind (arith, nat_tests)

pub in_the_spans : (base : ℕ) (ss : List Span) (from : ℕ) (octets buffer : List ℕ) (i : ℕ) → in_spans (base + i) ss ≡ true → octet_after base ss from octets buffer i ≡ get_or buffer i 0
unfolding octet_after
in_the_spans base ss from octets buffer i held = grind (arith, nat_tests, held)

-- what a write of the octets before a span leaves at index i
abbrev pub after_gap : ℕ → ℕ → ℕ → List ℕ → List ℕ → ℕ → ℕ
after_gap base next gap rest buffer i =
    cond (leb (next - base) i && ltb i (next - base + length (take gap rest))) (get_or (take gap rest) (i - (next - base)) 0) (get_or buffer i 0)

-- the rest of the octets, with the rest of the spans, leaves what all would
pub fill_step : (base : ℕ) (s : Span) (ss : List Span) (next : ℕ) (rest buffer written : List ℕ) (gap skip i : ℕ) → IsInOrder (s ∷ ss) → base ≤ next
    → gap ≡ min (length rest) (s.from - next) → skip ≡ min (length rest) (s.to - next)
    → get_or written i 0 ≡ after_gap base next gap rest buffer i
    → octet_after base ss (next + skip) (drop skip rest) written i ≡ octet_after base (s ∷ ss) next rest buffer i
fill_step base s ss next rest buffer written gap skip i order low g k w =
    let len : length (drop skip rest) ≡ length rest - skip = length-drop skip rest in
    let cut : length (take gap rest) ≡ gap = length-take-le gap rest (omega arith) in
    ⊎_elim
    (λ (h : base + i < next).
    let kept : get_or written i 0 ≡ get_or buffer i 0 = w ∙ grind (arith, nat_tests) in
    before_octets base ss (next + skip) (drop skip rest) written i (omega arith) ∙ kept ∙ sym (before_octets base (s ∷ ss) next rest buffer i h))
    (λ (h : next ≤ base + i). ⊎_elim
    (λ (b : base + i < next + length rest). ⊎_elim
    (λ (p : base + i < s.from).
    let out : in_spans (base + i) ss ≡ false = below_apart s.to (base + i) ss order.1 (omega arith) in
    let none : in_spans (base + i) (s ∷ ss) ≡ false = grind (arith, nat_tests, out) in
    let put : get_or written i 0 ≡ get_or (take gap rest) (i - (next - base)) 0 = w ∙ grind (arith, nat_tests) in
    let front : get_or (take gap rest) (i - (next - base)) 0 ≡ get_or rest (i - (next - base)) 0 = get_or-take gap rest (i - (next - base)) 0 (omega arith) in
    before_octets base ss (next + skip) (drop skip rest) written i (omega arith) ∙ put ∙ front ∙ ap (λ n. get_or rest n 0) (omega arith)
    ∙ sym (in_octets base (s ∷ ss) next rest buffer i h b none))
    (λ (p : s.from ≤ base + i). ⊎_elim
    (λ (r : base + i < s.to).
    let held : in_spans (base + i) (s ∷ ss) ≡ true = grind (arith, nat_tests) in
    let kept : get_or written i 0 ≡ get_or buffer i 0 = w ∙ grind (arith, nat_tests) in
    before_octets base ss (next + skip) (drop skip rest) written i (omega arith) ∙ kept ∙ sym (in_the_spans base (s ∷ ss) next rest buffer i held))
    (λ (r : s.to ≤ base + i).
    let kept : get_or written i 0 ≡ get_or buffer i 0 = w ∙ grind (arith, nat_tests) in
    elim (in_spans (base + i) ss) as (λ v. in_spans (base + i) ss ≡ v → octet_after base ss (next + skip) (drop skip rest) written i ≡ octet_after base (s ∷ ss) next rest buffer i) [
      | true ↦ λ held.
          let also : in_spans (base + i) (s ∷ ss) ≡ true = grind (arith, nat_tests, held) in
          in_the_spans base ss (next + skip) (drop skip rest) written i held ∙ kept ∙ sym (in_the_spans base (s ∷ ss) next rest buffer i also)
      | false ↦ λ out.
          let none : in_spans (base + i) (s ∷ ss) ≡ false = grind (arith, nat_tests, out) in
          in_octets base ss (next + skip) (drop skip rest) written i (omega arith) (omega arith) out
          ∙ get_or-drop skip rest (base + i - (next + skip)) 0 ∙ ap (λ n. get_or rest n 0) (omega arith)
          ∙ sym (in_octets base (s ∷ ss) next rest buffer i h b none)
    ] refl)
    (cases_lt (base + i) s.to))
    (cases_lt (base + i) s.from))
    (λ (b : next + length rest ≤ base + i).
    let kept : get_or written i 0 ≡ get_or buffer i 0 = w ∙ grind (arith, nat_tests) in
    past_octets base ss (next + skip) (drop skip rest) written i (omega arith) ∙ kept ∙ sym (past_octets base (s ∷ ss) next rest buffer i b))
    (cases_lt (base + i) (next + length rest)))
    (cases_lt (base + i) next)

pub fill_more : (base : ℕ) (spans : List Span) (k : ℕ) (d : Span) (next : ℕ) (rest buffer written : List ℕ) (gap skip i : ℕ) → k < length spans → d ≡ get_or spans k d → IsInOrder (drop k spans) → base ≤ next
    → gap ≡ min (length rest) (d.from - next) → skip ≡ min (length rest) (d.to - next)
    → get_or written i 0 ≡ after_gap base next gap rest buffer i
    → octet_after base (drop (k + 1) spans) (next + skip) (drop skip rest) written i ≡ octet_after base (drop k spans) next rest buffer i
fill_more base spans k d next rest buffer written gap skip i lt is order low g s w =
    let step : drop k spans ≡ d ∷ drop (k + 1) spans = drop_more spans k d lt ∙ ap (λ x. x ∷ drop (k + 1) spans) (sym is) in
    fill_step base d (drop (k + 1) spans) next rest buffer written gap skip i (subst IsInOrder step order) low g s w
    ∙ ap (λ ss. octet_after base ss next rest buffer i) (sym step)

pub in_order_more : (spans : List Span) (k : ℕ) (d : Span) → k < length spans → IsInOrder (drop k spans) → IsInOrder (drop (k + 1) spans)
in_order_more spans k d lt order =
    in_order_tail (get_or spans k d) (drop (k + 1) spans) (subst IsInOrder (drop_more spans k d lt) order)

-- with no span left all the rest is written
pub fill_end : (base : ℕ) (spans : List Span) (k next : ℕ) (rest buffer : List ℕ) (i : ℕ) → length spans ≤ k → base ≤ next
    → octet_after base (drop k spans) next rest buffer i ≡ cond (leb (next - base) i && ltb i (next - base + length rest)) (get_or rest (i - (next - base)) 0) (get_or buffer i 0)
unfolding octet_after
fill_end base spans k next rest buffer i past low =
    ap (λ ss. octet_after base ss next rest buffer i) (drop_all k spans past)
    ∙ elim (cases_lt (base + i) next) [
      | inl h ↦ grind (arith, nat_tests)
      | inr h ↦ let same : i - (next - base) ≡ base + i - next = omega arith in grind (arith, nat_tests, same)
    ]

-- with no octet left none is written
pub fill_empty : (base : ℕ) (spans : List Span) (k next : ℕ) (rest buffer : List ℕ) (i : ℕ) → length rest ≡ 0 → base ≤ next
    → octet_after base (drop k spans) next rest buffer i ≡ cond (leb (next - base) i && ltb i (next - base + length rest)) (get_or rest (i - (next - base)) 0) (get_or buffer i 0)
fill_empty base spans k next rest buffer i none low =
    elim (cases_lt (base + i) next) [
      | inl h ↦ before_octets base (drop k spans) next rest buffer i h ∙ grind (arith, nat_tests)
      | inr h ↦ past_octets base (drop k spans) next rest buffer i (omega arith) ∙ grind (arith, nat_tests)
    ]

-- the spans before `from` hold none of the octets
pub fill_start : (base : ℕ) (spans : List Span) (low from : ℕ) (octets buffer : List ℕ) (i : ℕ) → AllBefore spans from low
    → octet_after base (drop low spans) from octets buffer i ≡ octet_after base spans from octets buffer i
unfolding octet_after
fill_start base spans low from octets buffer i before =
    elim (cases_lt (base + i) from) [
      | inl h ↦ grind (arith, nat_tests)
      | inr h ↦
          ap (λ v. cond (leb from (base + i) && (ltb (base + i) (from + length octets) && not v)) (get_or octets (base + i - from) 0) (get_or buffer i 0))
          (in_rest spans from low (base + i) before (omega arith))
    ]

pub not_in : (p n : ℕ) (spans : List Span) (v : Bool) → ((q : ℕ) → in_spans q spans ≡ true → q < n) → n ≤ p → in_spans p spans ≡ v → in_spans p spans ≡ false
not_in p n spans true within past h = absurd (omega (arith, within p h))
not_in p n spans false within past h = h

-- the octets that fall into the buffer are filled in, once the others were put behind it
pub fill_split : (base : ℕ) (ss : List Span) (from : ℕ) (octets front back old grown : List ℕ) (inside i : ℕ)
    → ((p : ℕ) → in_spans p ss ≡ true → p < base + length old) → base ≤ from → inside ≤ length octets → (0 < length back → length old ≤ from - base + inside)
    → front ≡ take inside octets → back ≡ drop inside octets
    → get_or grown i 0 ≡ cond (leb (from - base + inside) i && ltb i (from - base + inside + length back)) (get_or back (i - (from - base + inside)) 0) (get_or old i 0)
    → octet_after base ss from front grown i ≡ octet_after base ss from octets old i
fill_split base ss from octets front back old grown inside i within low some beyond ef eb is =
    ⊎_elim
    (λ (h : base + i < from).
    let kept : get_or grown i 0 ≡ get_or old i 0 = is ∙ grind (arith, nat_tests) in
    before_octets base ss from front grown i h ∙ kept ∙ sym (before_octets base ss from octets old i h))
    (λ (h : from ≤ base + i). ⊎_elim
    (λ (b : base + i < from + length octets). ⊎_elim
    (λ (k : base + i < from + inside).
    let kept : get_or grown i 0 ≡ get_or old i 0 = is ∙ grind (arith, nat_tests) in
    elim (in_spans (base + i) ss) as (λ v. in_spans (base + i) ss ≡ v → octet_after base ss from front grown i ≡ octet_after base ss from octets old i) [
      | true ↦ λ held. in_the_spans base ss from front grown i held ∙ kept ∙ sym (in_the_spans base ss from octets old i held)
      | false ↦ λ out.
          in_octets base ss from front grown i h (omega (arith, front_len)) out
          ∙ ap (λ xs. get_or xs (base + i - from) 0) ef ∙ get_or-take inside octets (base + i - from) 0 (omega arith)
          ∙ sym (in_octets base ss from octets old i h b out)
    ] refl)
    (λ (k : from + inside ≤ base + i).
    let long : length old ≤ from - base + inside = beyond (omega (arith, back_len)) in
    let out : in_spans (base + i) ss ≡ false = not_in (base + i) (base + length old) ss (in_spans (base + i) ss) within (omega arith) refl in
    let put : get_or grown i 0 ≡ get_or back (i - (from - base + inside)) 0 = is ∙ grind (arith, nat_tests, back_len) in
    past_octets base ss from front grown i (omega (arith, front_len)) ∙ put
    ∙ ap (λ xs. get_or xs (i - (from - base + inside)) 0) eb ∙ get_or-drop inside octets (i - (from - base + inside)) 0 ∙ ap (λ n. get_or octets n 0) (omega arith)
    ∙ sym (in_octets base ss from octets old i h b out))
    (cases_lt (base + i) (from + inside)))
    (λ (b : from + length octets ≤ base + i).
    let kept : get_or grown i 0 ≡ get_or old i 0 = is ∙ grind (arith, nat_tests, back_len) in
    past_octets base ss from front grown i (omega (arith, front_len)) ∙ kept ∙ sym (past_octets base ss from octets old i b))
    (cases_lt (base + i) (from + length octets)))
    (cases_lt (base + i) from)
  where
    front_len : length front ≡ inside
    front_len = ap length ef ∙ length-take-le inside octets some

    back_len : length back ≡ length octets - inside
    back_len = ap length eb ∙ length-drop inside octets

-- how long the buffer is then
pub put_len : (base from n inside back old grown : ℕ) → 0 < n → base ≤ from → inside ≡ min n (old - (from - base)) → back + inside ≡ n
    → grown ≡ cond (ltb 0 back) (from - base + inside + back) old → grown ≡ max old (from + n - base)
put_len base from n inside back old grown some low i b g =
    elim (cases_lt 0 back) [
      | inl more ↦ let e : grown ≡ from - base + inside + back = g ∙ grind (arith, nat_tests) in omega arith
      | inr none ↦ let e : grown ≡ old = g ∙ grind (arith, nat_tests) in omega arith
    ]

-- what a buffer holds once a part of it was filled
pub put_octets : (base : ℕ) (ss : List Span) (from : ℕ) (front grown filled : List ℕ) (n i : ℕ) → length grown ≡ n → length filled ≡ n → from + length front ≤ base + n
    → ((k : ℕ) → k < n → get_or filled k 0 ≡ octet_after base ss from front grown k)
    → get_or (take n (filled ++ drop (length filled) grown)) i 0 ≡ octet_after base ss from front grown i
put_octets base ss from front grown filled n i lg lf room wrote =
    ap (λ ys. get_or ys i 0) (take_at filled (drop (length filled) grown) n lf) ∙ elim (cases_lt i n) [
      | inl inside ↦ wrote i inside
      | inr past ↦
          get_or_past filled i 0 (omega arith) ∙ sym (get_or_past grown i 0 (omega arith)) ∙ sym (past_octets base ss from front grown i (omega arith))
    ]

-- octets that are laid where no span is
pub laid_free : (base : ℕ) (ss : List Span) (from : ℕ) (octets buffer laid : List ℕ) (i : ℕ) → ((p : ℕ) → from ≤ p → p ≤ from + length octets → in_spans p ss ≡ false) → base ≤ from
    → get_or laid i 0 ≡ cond (leb (from - base) i && ltb i (from - base + length octets)) (get_or octets (i - (from - base)) 0) (get_or buffer i 0)
    → get_or laid i 0 ≡ octet_after base ss from octets buffer i
laid_free base ss from octets buffer laid i free low is =
    elim (cases_lt (base + i) from) [
      | inl before ↦ is ∙ off (let o : (leb (from - base) i && ltb i (from - base + length octets)) ≡ false = grind (arith, nat_tests) in o) ∙ sym (before_octets base ss from octets buffer i before)
      | inr past ↦ elim (cases_lt (base + i) (from + length octets)) [
        | inl put ↦
            let on : (leb (from - base) i && ltb i (from - base + length octets)) ≡ true = grind (arith, nat_tests) in
            is ∙ ap (λ b. cond b (get_or octets (i - (from - base)) 0) (get_or buffer i 0)) on ∙ ap (λ n. get_or octets n 0) (omega arith)
            ∙ sym (in_octets base ss from octets buffer i past put (free (base + i) past (omega arith)))
        | inr none ↦ is ∙ off (let o : (leb (from - base) i && ltb i (from - base + length octets)) ≡ false = grind (arith, nat_tests) in o) ∙ sym (past_octets base ss from octets buffer i none)
      ]
    ]
  where
    off : (leb (from - base) i && ltb i (from - base + length octets)) ≡ false
        → cond (leb (from - base) i && ltb i (from - base + length octets)) (get_or octets (i - (from - base)) 0) (get_or buffer i 0) ≡ get_or buffer i 0
    off o = ap (λ b. cond b (get_or octets (i - (from - base)) 0) (get_or buffer i 0)) o
