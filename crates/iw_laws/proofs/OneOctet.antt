-- One octet of a region, once octets are put there or elsewhere.
use Rattle.std.proofs.Common.{◌≡◌, ◌≢◌, ◌⊎◌, inl, inr, ℕ, zero, suc, ◌+◌, ◌-◌, ◌%◌, ◌^◌, ◌<◌, ◌≤◌, [], ◌∷◌, ◌++◌, length, take, drop, Some, Bool, true, false, cond, refl, sym, ap, ◌∙◌, subst, arith, eqb, ◌&&◌}
use Rattle.std.specs.Prelude.{nat_eq, nat_le, nat_lt}
use Rattle.std.specs.Option.{option_map, option_map_or}
use Rattle.std.proofs.lemmas.Bool.{true≢false, false≢true}
use Rattle.std.proofs.lemmas.Bool.Decides.{nat_tests, eqb_tells}
use Rattle.std.proofs.lemmas.List.{length-take}
use Rattle.iw_octets.specs.declared.stag.Stag.{Stag}
use Rattle.iw_octets.specs.Stag.{number_of}
use Rattle.iw_memory.specs.Region.{Region, Spans, overlay, region_with, octets_from}
use Rattle.iw_memory.specs.Table.{Table, region_at, octets_at, put}
use Rattle.iw_memory.proofs.ListLemmas.{overlay-fits}
use Rattle.iw_memory.proofs.Callers.{region_at-put_same, region_at-put_other}
use Rattle.iw_queues.specs.Joined.{Cell, one_if, count_from, count_in}
use Rattle.iw_laws.specs.Words.{Octets}
use Rattle.iw_laws.specs.Holds.{Place, cell_of, lies_over}

-- ---- lists

-- the element of this index alone
abbrev pub one_at : ℕ → Octets → Octets
one_at j xs = take 1 (drop j xs)

one-left : (j : ℕ) (xs ys : Octets) → j < length xs → one_at j (xs ++ ys) ≡ one_at j xs
one-left j [] ys h = absurd (omega (arith, h))
one-left zero (x ∷ xs) ys h = refl
one-left (suc j) (x ∷ xs) ys h = one-left j xs ys (omega (arith, h))

one-right : (j : ℕ) (xs ys : Octets) → one_at (length xs + j) (xs ++ ys) ≡ one_at j ys
one-right j [] ys = let same : length {A = ℕ} [] + j ≡ j = omega arith in ap (λ (m : ℕ). one_at m ys) same
one-right j (x ∷ xs) ys = let same : length (x ∷ xs) + j ≡ suc (length xs + j) = omega arith in ap (λ (m : ℕ). one_at m (x ∷ (xs ++ ys))) same ∙ one-right j xs ys

one-take : (j n : ℕ) (xs : Octets) → j < n → one_at j (take n xs) ≡ one_at j xs
one-take j zero xs h = absurd (omega (arith, h))
one-take j (suc n) [] h = refl
one-take zero (suc n) (x ∷ xs) h = refl
one-take (suc j) (suc n) (x ∷ xs) h = one-take j n xs (omega (arith, h))

one-none : (j : ℕ) → one_at j [] ≡ []
one-none zero = refl
one-none (suc j) = refl

one-drop : (j n : ℕ) (xs : Octets) → one_at j (drop n xs) ≡ one_at (n + j) xs
one-drop j zero xs = let same : 0 + j ≡ j = omega arith in ap (λ (m : ℕ). one_at m xs) (sym same)
one-drop j (suc n) [] = one-none j ∙ sym (one-none (suc n + j))
one-drop j (suc n) (x ∷ xs) = let same : suc n + j ≡ suc (n + j) = omega arith in one-drop j n xs ∙ ap (λ (m : ℕ). one_at m (x ∷ xs)) (sym same)

-- within what is written over
over-within : (xs : Octets) (at : ℕ) (new : Octets) (j : ℕ) → at + length new ≤ length xs → at ≤ j → j < at + length new → one_at j (overlay xs at new) ≡ one_at (j - at) new
over-within xs at new j fits low high =
    let rest : Octets = drop (length new) (drop at xs) in
    let size : length (take at xs) ≡ at = grind (arith, length-take) in
    let place : j ≡ length (take at xs) + (j - at) = omega (arith, size, low) in
    ap (one_at j) (overlay-fits xs at new fits) ∙ ap (λ (m : ℕ). one_at m (take at xs ++ (new ++ rest))) place ∙ one-right (j - at) (take at xs) (new ++ rest) ∙ one-left (j - at) new rest (omega (arith, low, high))

-- and elsewhere
over-apart : (xs : Octets) (at : ℕ) (new : Octets) (j : ℕ) → at + length new ≤ length xs → (j < at) ⊎ (at + length new ≤ j) → one_at j (overlay xs at new) ≡ one_at j xs
over-apart xs at new j fits (inl before) =
    let rest : Octets = drop (length new) (drop at xs) in
    let size : length (take at xs) ≡ at = grind (arith, length-take) in
    ap (one_at j) (overlay-fits xs at new fits) ∙ one-left j (take at xs) (new ++ rest) (omega (arith, size, before)) ∙ one-take j at xs before
over-apart xs at new j fits (inr past) =
    let rest : Octets = drop (length new) (drop at xs) in
    let size : length (take at xs) ≡ at = grind (arith, length-take) in
    let i : ℕ = j - at - length new in
    let place : j ≡ length (take at xs) + (length new + i) = omega (arith, size, past) in
    let back : at + (length new + i) ≡ j = omega (arith, past) in
    ap (one_at j) (overlay-fits xs at new fits) ∙ ap (λ (m : ℕ). one_at m (take at xs ++ (new ++ rest))) place ∙ one-right (length new + i) (take at xs) (new ++ rest) ∙ one-right i new rest
    ∙ one-drop i (length new) (drop at xs) ∙ one-drop (length new + i) at xs ∙ ap (λ (m : ℕ). one_at m xs) back

one-some : (j : ℕ) (xs : Octets) → j < length xs → (octet : ℕ) × (one_at j xs ≡ octet ∷ [])
one-some j [] h = absurd (omega (arith, h))
one-some zero (x ∷ xs) h = (x, refl)
one-some (suc j) (x ∷ xs) h = one-some j xs (omega (arith, h))

-- ---- regions

-- this stands at the place: its region is there, and begins before it
pub record Stands (table : Table) (p : Place) (octets : Octets) : Type 0 where
  pub region : Region
  pub is : region_at table p.stag ≡ Some region
  pub low : region.base ≤ p.to
  pub stand : octets_from region p.to 1 ≡ octets

pub standing : {table : Table} {p : Place} {octets : Octets} → Stands table p octets → octets_at table p.stag p.to 1 ≡ octets
standing {p = p} s = ap (λ o. option_map_or (λ r. octets_from r p.to 1) o []) s.is ∙ s.stand

-- octets lie within the region, if there is one
abbrev pub FitsRegion : Table → Stag → ℕ → Octets → Type 0
FitsRegion table stag to octets = (r : Region) → region_at table stag ≡ Some r → Spans r to (length octets)

pub same_stag : (a b : Stag) → (a ≡ b) ⊎ (a ≢ b)
same_stag a b = elim (eqb_tells a.domain b.domain) [
  | inr off ↦ inr (λ e. off.1 (ap (λ (s : Stag). s.domain) e))
  | inl domain ↦ elim (eqb_tells a.slot b.slot) [
    | inr off ↦ inr (λ e. off.1 (ap (λ (s : Stag). s.slot) e))
    | inl slot ↦ elim (eqb_tells a.key b.key) [
      | inr off ↦ inr (λ e. off.1 (ap (λ (s : Stag). s.key) e))
      | inl key ↦ inl (λ t. record { domain = domain.1 t; slot = slot.1 t; key = key.1 t })
    ]
  ]
]

-- the octet is put there
pub put_there : (table : Table) (p : Place) (to : ℕ) (octets : Octets) (r : Region) → region_at table p.stag ≡ Some r → Spans r to (length octets) → to ≤ p.to → p.to < to + length octets → Stands (put table p.stag to octets) p (one_at (p.to - to) octets)
put_there table p to octets r is spans low high =
    let back : p.to - r.base - (to - r.base) ≡ p.to - to = omega (arith, spans.from_base, low) in
    record {
      region = region_with r to octets;
      is = region_at-put_same table p.stag to octets ∙ ap (option_map (λ r. region_with r to octets)) is;
      low = omega (arith, spans.from_base, low);
      stand = over-within r.octets (to - r.base) octets (p.to - r.base) (omega (arith, spans.from_base, spans.to_end)) (omega (arith, spans.from_base, low)) (omega (arith, spans.from_base, low, high))
          ∙ ap (λ (m : ℕ). one_at m octets) back;
    }

-- octets are put elsewhere
pub put_apart : (table : Table) (p : Place) (o : Octets) (stag : Stag) (to : ℕ) (octets : Octets) → FitsRegion table stag to octets → lies_over p stag to octets ≡ false → Stands table p o → Stands (put table stag to octets) p o
put_apart table p o stag to octets fits apart s = elim (same_stag p.stag stag) [
  | inr off ↦ record { region = s.region; is = region_at-put_other table stag p.stag to octets off ∙ s.is; low = s.low; stand = s.stand }
  | inl same ↦
      let here : nat_eq (number_of stag) (number_of p.stag) ≡ true = (let e : number_of stag ≡ number_of p.stag = ap number_of (sym same) in grind (arith, nat_tests)) in
      let out : (p.to < to) ⊎ (to + length octets ≤ p.to) = outside (nat_le to p.to) refl (nat_lt p.to (to + length octets)) refl (ap (λ b. b && (nat_le to p.to && nat_lt p.to (to + length octets))) (sym here) ∙ apart) in
      subst (λ t. Stands (put table t to octets) p o) same (beside (fits s.region (ap (region_at table) (sym same) ∙ s.is)) out)
]
  where
    outside : (a : Bool) → nat_le to p.to ≡ a → (b : Bool) → nat_lt p.to (to + length octets) ≡ b → (true && (a && b)) ≡ false → (p.to < to) ⊎ (to + length octets ≤ p.to)
    outside false e b f h = inl (grind (arith, nat_tests))
    outside true e false f h = inr (grind (arith, nat_tests))
    outside true e true f h = absurd (true≢false h)

    beside : Spans s.region to (length octets) → (p.to < to) ⊎ (to + length octets ≤ p.to) → Stands (put table p.stag to octets) p o
    beside h out = record {
      region = region_with s.region to octets;
      is = region_at-put_same table p.stag to octets ∙ ap (option_map (λ r. region_with r to octets)) s.is;
      low = s.low;
      stand = over-apart s.region.octets (to - s.region.base) octets (p.to - s.region.base) (omega (arith, h.from_base, h.to_end)) (sides out) ∙ s.stand;
    }
      where
        sides : (p.to < to) ⊎ (to + length octets ≤ p.to) → (p.to - s.region.base < to - s.region.base) ⊎ (to - s.region.base + length octets ≤ p.to - s.region.base)
        sides (inl before) = inl (omega (arith, before, s.low))
        sides (inr past) = inr (omega (arith, past, h.from_base))

-- ---- cells

-- an octet that is counted lies among those
counted_from : (c : Cell) (to : ℕ) (xs : Octets) → to + length xs ≤ 2 ^ 64 → 0 < count_from c to xs → (to ≤ c.to) × (c.to < to + length xs)
counted_from c to [] fits some = absurd (omega (arith, some))
counted_from c to (x ∷ xs) fits some = elim (eqb_tells (to % 2 ^ 64) c.to) [
  | inl here ↦ (omega (arith, here.1, fits), omega (arith, here.1, fits))
  | inr off ↦
      let none : one_if (eqb (to % 2 ^ 64) c.to && eqb x c.octet) ≡ 0 = ap (λ b. one_if (b && eqb x c.octet)) off.0 in
      let r = counted_from c (to + 1) xs (omega (arith, fits)) (omega (arith, some, none)) in
      (omega (arith, r.0), omega (arith, r.1))
]

pub counted_in : (p : Place) (octet : ℕ) (stag : Stag) (to : ℕ) (xs : Octets) → to + length xs ≤ 2 ^ 64 → 0 < count_in (cell_of p octet) stag to xs → lies_over p stag to xs ≡ true
counted_in p octet stag to xs fits some = go (eqb (number_of stag) (number_of p.stag)) refl some
  where
    go : (b : Bool) → eqb (number_of stag) (number_of p.stag) ≡ b → 0 < cond b (count_from (cell_of p octet) to xs) 0 → lies_over p stag to xs ≡ true
    go false e h = absurd (omega (arith, h))
    go true e h =
        let r = counted_from (cell_of p octet) to xs fits h in
        let low : nat_le to p.to ≡ true = (let l : to ≤ p.to = r.0 in grind (arith, nat_tests)) in
        let high : nat_lt p.to (to + length xs) ≡ true = (let l : p.to < to + length xs = r.1 in grind (arith, nat_tests)) in
        λ i. e i && (low i && high i)

-- and one that stands among them is counted
stands_from : (to j : ℕ) (octet : ℕ) (c : Cell) (xs : Octets) → to + length xs ≤ 2 ^ 64 → c.to ≡ to + j → c.octet ≡ octet → one_at j xs ≡ octet ∷ [] → 0 < count_from c to xs
stands_from to zero octet c [] fits at is one = absurd (omega (arith, ap length one))
stands_from to (suc j) octet c [] fits at is one = absurd (omega (arith, ap length one))
stands_from to zero octet c (x ∷ xs) fits at is one =
    let same : x ≡ octet = cc one in
    let here : eqb (to % 2 ^ 64) c.to ≡ true = (let e : to % 2 ^ 64 ≡ c.to = omega (arith, fits, at) in grind (arith, nat_tests)) in
    let mine : eqb x c.octet ≡ true = (let e : x ≡ c.octet = same ∙ sym is in grind (arith, nat_tests)) in
    let once : one_if (eqb (to % 2 ^ 64) c.to && eqb x c.octet) ≡ 1 = λ i. one_if (here i && mine i) in
    omega (arith, once)
stands_from to (suc j) octet c (x ∷ xs) fits at is one =
    let rest : 0 < count_from c (to + 1) xs = stands_from (to + 1) j octet c xs (omega (arith, fits)) (omega (arith, at)) is one in
    omega (arith, rest)

pub stands_in : (p : Place) (octet : ℕ) (to : ℕ) (xs : Octets) → to + length xs ≤ 2 ^ 64 → to ≤ p.to → one_at (p.to - to) xs ≡ octet ∷ [] → 0 < count_in (cell_of p octet) p.stag to xs
stands_in p octet to xs fits low one =
    let here : eqb (number_of p.stag) (number_of p.stag) ≡ true = grind (arith, nat_tests) in
    let some : 0 < count_from (cell_of p octet) to xs = stands_from to (p.to - to) octet (cell_of p octet) xs fits (omega (arith, low)) refl one in
    let all : count_in (cell_of p octet) p.stag to xs ≡ count_from (cell_of p octet) to xs = ap (λ b. cond b (count_from (cell_of p octet) to xs) 0) here in
    omega (arith, some, all)

pub some_octet : (p : Place) (to : ℕ) (xs : Octets) → to ≤ p.to → p.to < to + length xs → (octet : ℕ) × (one_at (p.to - to) xs ≡ octet ∷ [])
some_octet p to xs low high = one-some (p.to - to) xs (omega (arith, low, high))

-- the parts of the test
pub over_parts : (p : Place) (stag : Stag) (to : ℕ) (xs : Octets) → lies_over p stag to xs ≡ true → (to ≤ p.to) × (p.to < to + length xs)
over_parts p stag to xs h = go (nat_eq (number_of stag) (number_of p.stag)) (nat_le to p.to) refl (nat_lt p.to (to + length xs)) refl h
  where
    go : (a b : Bool) → nat_le to p.to ≡ b → (c : Bool) → nat_lt p.to (to + length xs) ≡ c → (a && (b && c)) ≡ true → (to ≤ p.to) × (p.to < to + length xs)
    go false b e c f h = absurd (false≢true h)
    go true false e c f h = absurd (false≢true h)
    go true true e false f h = absurd (false≢true h)
    go true true e true f h = (grind (arith, nat_tests), grind (arith, nat_tests))
