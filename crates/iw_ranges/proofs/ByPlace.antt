-- What the calls leave, said of each place.
use Rattle.std.proofs.Common.{◌≡◌, ℕ, ◌+◌, ◌-◌, ◌<◌, ◌≤◌, Bool, true, false, not, ◌&&◌, ◌||◌, cond, List, map, length, get_or, max, refl, sym, ap, ◌∙◌, arith, inl, inr}
use Rattle.std.proofs.lemmas.List.{get_or_past, get_or-drop}
use Rattle.std.proofs.lemmas.List.FromFn.{get_or-map-range_with_len, length-map-range_with_len}
use Rattle.std.proofs.lemmas.Bool.{cases_lt}
use Rattle.std.proofs.lemmas.Bool.Decides.{nat_tests}
use Rattle.std.specs.List.{range_with_len}
use Rattle.std.specs.Prelude.{nat_lt, nat_le}
use Rattle.iw_ranges.specs.declared.Delivery.{Delivery}
use Rattle.iw_ranges.specs.declared.Delivery.TheVariants.{Kept, Dropped}
use Rattle.iw_ranges.specs.Arrived.{Cell, Missing, Here, Gone, Arrived, nothing, cell_at, is_missing, in_segment, first_copy, given_up, is_dropped, delivery, delivered, taken_in, advanced, released, drawn, end_of}
use Rattle.iw_ranges.specs.Laws.{KeepsFirstCopies, AddsPlaces, GivesUpPlaces, StaysCome, GivesUpBefore}
use Rattle.iw_ranges.proofs.Keeps.{taken_none, taken_some, not_copied}

-- ---- a stream that is drawn shows what it is drawn from
pub below : (a : Arrived) (p : ℕ) → p < a.floor → cell_at a p ≡ Gone
below a p h = let t : nat_lt p a.floor ≡ true = grind (arith, nat_tests) in ap (λ b. cond b Gone (get_or a.cells (p - a.floor) Missing)) t

pub beyond : (a : Arrived) (p : ℕ) → a.floor ≤ p → cell_at a p ≡ get_or a.cells (p - a.floor) Missing
beyond a p h = let t : nat_lt p a.floor ≡ false = grind (arith, nat_tests) in ap (λ b. cond b Gone (get_or a.cells (p - a.floor) Missing)) t

pub past : (a : Arrived) (p : ℕ) → end_of a ≤ p → cell_at a p ≡ Missing
past a p h = beyond a p (omega arith) ∙ get_or_past a.cells (p - a.floor) Missing (omega arith)

-- where the cells are those of f, those before the in-order point are Gone and those from `end` on Missing
cell_at-drawn : (floor end : ℕ) (f : ℕ → Cell) (p : ℕ) → (p < floor → Gone ≡ f p) → (floor ≤ p → end ≤ p → Missing ≡ f p) → cell_at (drawn floor end f) p ≡ f p
cell_at-drawn floor end f p low high =
    elim (cases_lt p floor) [
      | inl before ↦ below (drawn floor end f) p before ∙ low before
      | inr from ↦ beyond (drawn floor end f) p from ∙ elim (cases_lt p end) [
        | inl inside ↦ get_or-map-range_with_len f floor (end - floor) (p - floor) p Missing (omega arith) (omega arith)
        | inr out ↦ get_or_past (map f (range_with_len floor (end - floor))) (p - floor) Missing (omega (arith, length-map-range_with_len f floor (end - floor))) ∙ high from out
      ]
    ]

-- ---- segments
pub cell_at-taken_in : (a : Arrived) (place : ℕ) (octets : List ℕ) (p : ℕ) → cell_at (taken_in a place octets) p ≡ first_copy place octets p (cell_at a p)
cell_at-taken_in a place octets p =
    elim (cases_lt 0 (length octets)) [
      | inl some ↦
          ap (λ x. cell_at x p) (taken_some a place octets some)
          ∙ cell_at-drawn a.floor (max (end_of a) (place + length octets)) (λ q. first_copy place octets q (cell_at a q)) p
          (λ low. sym (ap (first_copy place octets p) (below a p low)))
          (λ from out. sym (ap (first_copy place octets p) (past a p (omega arith)) ∙ not_copied place p octets Missing (let none : in_segment place (length octets) p ≡ false = grind (arith, nat_tests) in none)))
      | inr none ↦
          ap (λ x. cell_at x p) (taken_none a place octets (omega arith))
          ∙ sym (not_copied place p octets (cell_at a p) (let out : in_segment place (length octets) p ≡ false = grind (arith, nat_tests) in out))
    ]

pub not_dropped : (a : Arrived) (place n : ℕ) → delivery a place n ≡ Kept → is_dropped a place n ≡ false
not_dropped a place n kept = go (is_dropped a place n) refl
  where
    go : (v : Bool) → is_dropped a place n ≡ v → is_dropped a place n ≡ false
    go true h = absurd (let e : delivery a place n ≡ Dropped = ap (λ b. cond b Dropped Kept) h in cc)
    go false h = h

-- a segment that is kept is taken in
pub delivered-kept : (a : Arrived) (place : ℕ) (octets : List ℕ) → delivery a place (length octets) ≡ Kept → delivered a place octets ≡ taken_in a place octets
delivered-kept a place octets kept = ap (λ b. cond b a (taken_in a place octets)) (not_dropped a place (length octets) kept)

pub keeps_first_copies : KeepsFirstCopies
keeps_first_copies a place octets p kept = ap (λ x. cell_at x p) (delivered-kept a place octets kept) ∙ cell_at-taken_in a place octets p

pub come-first_copy : (place : ℕ) (octets : List ℕ) (p : ℕ) (c : Cell) (v : Bool) → in_segment place (length octets) p ≡ v → not (is_missing (first_copy place octets p c)) ≡ (not (is_missing c) || v)
come-first_copy place octets p Missing true h = ap (λ b. not (is_missing (cond b (Here (get_or octets (p - place) 0)) Missing))) h
come-first_copy place octets p Missing false h = ap (λ b. not (is_missing (cond b (Here (get_or octets (p - place) 0)) Missing))) h
come-first_copy place octets p (Here x) v h = refl
come-first_copy place octets p Gone v h = refl

pub adds_places : AddsPlaces
adds_places a place octets p kept =
    ap (λ c. not (is_missing c)) (keeps_first_copies a place octets p kept) ∙ come-first_copy place octets p (cell_at a p) (in_segment place (length octets) p) refl

-- a segment that is kept gives no octet up
pub first_copy-gone : (place : ℕ) (octets : List ℕ) (p : ℕ) (c : Cell) (v : Bool) → in_segment place (length octets) p ≡ v → first_copy place octets p c ≡ Gone → c ≡ Gone
first_copy-gone place octets p Missing true h e = absurd (let t : first_copy place octets p Missing ≡ Here (get_or octets (p - place) 0) = ap (λ b. cond b (Here (get_or octets (p - place) 0)) Missing) h in cc)
first_copy-gone place octets p Missing false h e = absurd (let t : first_copy place octets p Missing ≡ Missing = ap (λ b. cond b (Here (get_or octets (p - place) 0)) Missing) h in cc)
first_copy-gone place octets p (Here x) v h e = e
first_copy-gone place octets p Gone v h e = e

pub cell_at-nothing : (p : ℕ) → cell_at nothing p ≡ Missing
cell_at-nothing p = past nothing p (omega arith)

-- the same of what `add` says
pub kept_gone : (old new : Arrived) (place : ℕ) (octets : List ℕ) (answer : Delivery) (p : ℕ) → answer ≡ Kept → answer ≡ delivery old place (length octets) → new ≡ delivered old place octets
    → cell_at new p ≡ Gone → cell_at old p ≡ Gone
kept_gone old new place octets answer p kept is after gone =
    first_copy-gone place octets p (cell_at old p) (in_segment place (length octets) p) refl (sym (ap (λ a. cell_at a p) after ∙ keeps_first_copies old place octets p (sym is ∙ kept)) ∙ gone)

-- ---- releases
pub gives_up_places : GivesUpPlaces
unfolding released
gives_up_places a from to p =
    cell_at-drawn a.floor (end_of a) (λ q. given_up from to q (cell_at a q)) p
    (λ low. sym (ap (given_up from to p) (below a p low)))
    (λ low out. sym (ap (given_up from to p) (past a p out)))

come-given_up : (from to p : ℕ) (c : Cell) (v : Bool) → (nat_le from p && nat_lt p to) ≡ v → not (is_missing (given_up from to p c)) ≡ not (is_missing c)
come-given_up from to p Missing v h = refl
come-given_up from to p (Here x) true h = ap (λ b. not (is_missing (cond b Gone (Here x)))) h
come-given_up from to p (Here x) false h = ap (λ b. not (is_missing (cond b Gone (Here x)))) h
come-given_up from to p Gone v h = refl

pub stays_come : StaysCome
stays_come a from to p = ap (λ c. not (is_missing c)) (gives_up_places a from to p) ∙ come-given_up from to p (cell_at a p) (nat_le from p && nat_lt p to) refl

-- ---- the in-order point
pub gives_up_before : GivesUpBefore
unfolding advanced
gives_up_before a to p =
    elim (cases_lt p (max a.floor to)) [
      | inl before ↦ below (advanced a to) p before ∙ elim (cases_lt p to) [
        | inl low ↦ let t : nat_lt p to ≡ true = grind (arith, nat_tests) in sym (ap (λ b. cond b Gone (cell_at a p)) t)
        | inr high ↦ let t : nat_lt p to ≡ false = grind (arith, nat_tests) in sym (ap (λ b. cond b Gone (cell_at a p)) t ∙ below a p (omega arith))
      ]
      | inr from ↦
          let t : nat_lt p to ≡ false = grind (arith, nat_tests) in
          beyond (advanced a to) p from ∙ get_or-drop (to - a.floor) a.cells (p - max a.floor to) Missing ∙ ap (λ k. get_or a.cells k Missing) (omega arith)
          ∙ sym (ap (λ b. cond b Gone (cell_at a p)) t ∙ beyond a p (omega arith))
    ]
