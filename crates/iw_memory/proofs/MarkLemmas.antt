-- The marks of free slots, and the lowest of them.
use Rattle.std.proofs.Common.{◌≡◌, ℕ, ◌+◌, ◌-◌, ◌*◌, ◌/◌, ◌%◌, ◌^◌, ◌<◌, ◌≤◌, ◌==◌, min, bit_and, not, Bool, true, false, cond, List, length, get_or, drop, replicate, position, Some, None, inl, inr, refl, sym, ap, ◌∙◌, arith, length-drop}
use Rattle.std.proofs.lemmas.List.{get_or_past, get_or-replicate, get_or-drop}
use Rattle.std.proofs.lemmas.List.Sums.{position_or_len_is, fails_before_first}
use Rattle.std.proofs.lemmas.Bool.{cases_lt, eqb-true, lt-ltb, le-ltb}
use Rattle.std.proofs.lemmas.Option.{none-some}
use Rattle.std.proofs.lemmas.Nat.Bits.{bit_at-zero, bit_at_ones, bit_at-lt, bit_at_and, ones_shl, bit_at_mask_below, bit_at_mask_inside}
use Rattle.std.specs.Int.{bit_at}
use Rattle.std.specs.List.{position_or_len}
use Rattle.iw_memory.specs.declared.slots.Slot.{Slot}
use Rattle.iw_memory.specs.Inside.{free, is_free, first_free}
use Rattle.iw_memory.specs.Marked.{mark, bit, AreMarked}

pub mark-full : (i : ℕ) → i < 1024 → mark (replicate 16 18446744073709551615) i ≡ 1
mark-full i small =
    ap (λ w. bit_at w (i % 64)) (get_or-replicate 16 (i / 64) 18446744073709551615 0 (omega arith))
    ∙ bit_at_ones 64 (i % 64) (omega arith)

-- whether a word has a free slot
abbrev has_free : ℕ → Bool
has_free word = not (word == 0)

no_word : (b : Bool) → not b ≡ false → b ≡ true
no_word true e = refl
no_word false e = cc

zero_word : (w : ℕ) → has_free w ≡ false → w ≡ 0
zero_word w e = eqb-true w 0 (no_word (w == 0) e)

pub some_word : (w : ℕ) → has_free w ≡ true → 0 < w
some_word w e = elim (cases_lt 0 w) [
  | inl some ↦ some
  | inr none ↦ absurd (let zero : w ≡ 0 = omega arith in let is : has_free w ≡ false = ap has_free zero in let never : true ≡ false = sym e ∙ is in cc)
]

-- where no word has a free slot
pub none_marked : (words : List ℕ) → position has_free words ≡ None → (k : ℕ) → get_or words k 0 ≡ 0
none_marked words none k = elim (cases_lt (position_or_len has_free words) (length words)) [
  | inl found ↦ absurd (none-some (position_or_len has_free words) (sym none ∙ ap (λ b. cond b (Some (position_or_len has_free words)) None) (lt-ltb _ _ found)))
  | inr past ↦ elim (cases_lt k (length words)) [
    | inl within ↦ zero_word (get_or words k 0) (fails_before_first has_free words k 0 (omega arith))
    | inr beyond ↦ get_or_past words k 0 beyond
  ]
]

pub zero_words : (words : List ℕ) (at : ℕ) → ((k : ℕ) → k < at → has_free (get_or words k 0) ≡ false) → (k : ℕ) → k < at → get_or words k 0 ≡ 0
zero_words words at fails k l = zero_word (get_or words k 0) (fails k l)

-- the slots below the lowest bit of the first word that has one
pub taken_before : (words : List ℕ) (at low : ℕ) → ((k : ℕ) → k < at → get_or words k 0 ≡ 0) → low < 64 → ((i : ℕ) → i < low → bit_at (get_or words at 0) i ≡ 0) → (i : ℕ) → i < at * 64 + low → mark words i ≡ 0
taken_before words at low zeros small lowest i l = elim (cases_lt (i / 64) at) [
  | inl before ↦ ap (λ w. bit_at w (i % 64)) (zeros (i / 64) before) ∙ bit_at-zero (i % 64)
  | inr from ↦
      let here : i / 64 ≡ at = omega arith in
      ap (λ k. bit_at (get_or words k 0) (i % 64)) here ∙ lowest (i % 64) (omega (arith, here))
]

not_free : (b : Bool) → bit b ≡ 0 → b ≡ false
not_free true e = absurd (omega arith)
not_free false e = refl

is_one : (b : Bool) → bit b ≡ 1 → b ≡ true
is_one true e = refl
is_one false e = absurd (omega arith)

-- the lowest slot that is marked is the lowest free one
pub lowest-free : {slots : List Slot} {words : List ℕ} → AreMarked slots words → (at : ℕ) → at ≤ 1024 → ((i : ℕ) → i < at → mark words i ≡ 0) → (at < 1024 → mark words at ≡ 1) → at ≡ position_or_len is_free slots
lowest-free {slots} {words} marked at most taken free_at =
    let below = λ (k : ℕ) (l : k < at). let e : is_free (get_or slots k free) ≡ false = not_free _ (sym (marked.marks k (omega arith)) ∙ taken k l) in e in
    let few = marked.few in
    let within : at ≤ length slots = elim (cases_lt (length slots) at) [
      | inl past ↦ absurd (let never : true ≡ false = sym (ap is_free (get_or_past slots (length slots) free (omega arith))) ∙ below (length slots) past in cc)
      | inr l ↦ l
    ] in
    sym (position_or_len_is is_free slots at free within below (λ l. is_one _ (sym (marked.marks at (omega arith)) ∙ free_at (omega arith))))

-- what a mask of the high bits leaves of a word
pub masked_before : (word place i : ℕ) → i < place → place < 64 → bit_at (bit_and word (18446744073709551615 * 2 ^ place % 2 ^ 64)) i ≡ 0
masked_before word place i before small =
    ap (λ mask. bit_at (bit_and word mask) i) (ones_shl 64 place (omega arith))
    ∙ bit_at_and word (2 ^ 64 - 2 ^ place) i
    ∙ ap (min (bit_at word i)) (bit_at_mask_below place 64 i before)
    ∙ none
  where
    none : min (bit_at word i) 0 ≡ 0
    none = omega arith

pub masked_from : (word place i : ℕ) → place ≤ i → i < 64 → bit_at (bit_and word (18446744073709551615 * 2 ^ place % 2 ^ 64)) i ≡ bit_at word i
masked_from word place i from small =
    ap (λ mask. bit_at (bit_and word mask) i) (ones_shl 64 place (omega arith))
    ∙ bit_at_and word (2 ^ 64 - 2 ^ place) i
    ∙ ap (min (bit_at word i)) (bit_at_mask_inside place 64 i from small)
    ∙ least (bit_at word i) (bit_at-lt word i)
  where
    least : (b : ℕ) → b < 2 → min b 1 ≡ b
    least b bit = omega arith

-- the first slot that is marked from a place on is the first free one there
pub first-free : {slots : List Slot} {words : List ℕ} → AreMarked slots words → (place at : ℕ) → place < 1024 → place ≤ at → at ≤ 1024 → ((i : ℕ) → place ≤ i → i < at → mark words i ≡ 0) → (at < 1024 → mark words at ≡ 1) →
    at ≡ place + position_or_len is_free (drop place slots)
first-free {slots} {words} marked place at small from most taken free_at =
    let rest = drop place slots in
    let n : ℕ = at - place in
    let below = λ (k : ℕ) (l : k < n). let e : is_free (get_or rest k free) ≡ false = ap is_free (get_or-drop place slots k free) ∙ not_free _ (sym (marked.marks (place + k) (omega arith)) ∙ taken (place + k) (omega arith) (omega arith)) in e in
    let few = marked.few in
    let within : n ≤ length rest = elim (cases_lt (length rest) n) [
      | inl past ↦ absurd (let never : true ≡ false = sym (ap is_free (get_or_past rest (length rest) free (omega arith))) ∙ below (length rest) past in cc)
      | inr l ↦ l
    ] in
    let first : position_or_len is_free rest ≡ n = position_or_len_is is_free rest n free within below (λ l. ap is_free (get_or-drop place slots n free) ∙ is_one _ (sym (marked.marks (place + n) (omega (arith, length-drop place slots))) ∙ (let e : mark words (place + n) ≡ 1 = (let same : place + n ≡ at = omega arith in rw same (free_at (omega (arith, length-drop place slots)))) in e))) in
    omega (arith, first)

pub first-there : (slots : List Slot) (place at : ℕ) → at ≡ place + position_or_len is_free (drop place slots) → at < 1024 → at ≡ first_free slots place
first-there slots place at is small =
    let there : place + position_or_len is_free (drop place slots) < 1024 = omega (arith, is) in
    is ∙ sym (ap (λ b. cond b (place + position_or_len is_free (drop place slots)) (position_or_len is_free slots)) (lt-ltb _ _ there))

pub first-nowhere : (slots : List Slot) (place at low : ℕ) → at ≡ place + position_or_len is_free (drop place slots) → 1024 ≤ at → low ≡ position_or_len is_free slots → low ≡ first_free slots place
first-nowhere slots place at low is past lowest =
    let none : 1024 ≤ place + position_or_len is_free (drop place slots) = omega (arith, is) in
    lowest ∙ sym (ap (λ b. cond b (place + position_or_len is_free (drop place slots)) (position_or_len is_free slots)) (le-ltb _ _ none))
