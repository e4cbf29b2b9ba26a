-- The slots of a domain, in the vectors.
use Rattle.std.proofs.Common.{◌≡◌, ℕ, suc, ◌+◌, ◌-◌, ◌<◌, ◌≤◌, true, false, cond, not, Bool, List, [], ◌∷◌, ◌++◌, map, replicate, length, get_or, Option, Some, None, is_some, IsTrue, refl, sym, ap, ◌∙◌, arith, inl, inr, length-append}
use Rattle.iw_memory.proofs.ListLemmas.{get_or-padded}
use Rattle.std.proofs.lemmas.List.{get_or_past, append-nil, append_assoc, length-replicate}
use Rattle.std.proofs.lemmas.Bool.{cases_lt}
use Rattle.std.specs.List.{position_or_len}
use Rattle.std.specs.Option.{unwrap_or}
use Rattle.iw_memory.specs.declared.slots.Slot.{Slot}
use Rattle.iw_memory.specs.Inside.{Slots, slots_in, free, with_room_at}

pub domain_of_slot : (domains : Slots) (d i : ℕ) → i < length (slots_in domains d) → d < length domains
domain_of_slot domains d i l = elim (cases_lt d (length domains)) [
  | inl within ↦ within
  | inr past ↦ let none : length (slots_in domains d) ≡ 0 = ap (λ (o : Option (List Slot)). length (unwrap_or o [])) (get_or_past domains d None past) in absurd (omega arith)
]

pub not_none : (o : Option (List Slot)) → o ≡ None → IsTrue (is_some o) → ⊥
not_none None e t = cc
not_none (Some v) e t = cc

pub domain_added : (domains : Slots) (d : ℕ) → IsTrue (is_some (get_or domains d None)) → d < length domains
domain_added domains d added = elim (cases_lt d (length domains)) [
  | inl within ↦ within
  | inr past ↦ absurd (not_none _ (get_or_past domains d None past) added)
]

pub first_within : {X : Type 0} (p : X → Bool) (xs : List X) → position_or_len p xs ≤ length xs
first_within p [] = omega arith
first_within p (x ∷ xs) = elim (not (p x)) as (λ b. cond b (1 + position_or_len p xs) 0 ≤ length (x ∷ xs)) [ true ↦ omega (arith, first_within p xs) | false ↦ omega arith ]

-- a map that the test sees through
pub position_or_len-map : {A B : Type 0} (f : A → B) (p : A → Bool) (q : B → Bool) (xs : List A) (d : A) → ((j : ℕ) → j < length xs → q (f (get_or xs j d)) ≡ p (get_or xs j d)) → position_or_len q (map f xs) ≡ position_or_len p xs
position_or_len-map f p q [] d h = refl
position_or_len-map f p q (x ∷ xs) d h =
    ap (λ b. cond (not b) (1 + position_or_len q (map f xs)) 0) (h 0 (omega arith))
    ∙ ap (λ n. cond (not (p x)) (1 + n) 0) (position_or_len-map f p q xs d (λ j l. h (suc j) (omega arith)))

-- the slots with room for a slot that is there, and for the one past the last
pub with_room-there : (slots : List Slot) (i : ℕ) → i < length slots → slots ≡ with_room_at slots i
with_room-there slots i l =
    let none : i + 1 - length slots ≡ 0 = omega arith in
    sym (ap (λ n. slots ++ replicate n free) none ∙ append-nil slots)

pub with_room-next : (slots : List Slot) → slots ++ free ∷ [] ≡ with_room_at slots (length slots)
with_room-next slots = let one : 1 ≡ length slots + 1 - length slots = omega arith in ap (λ n. slots ++ replicate n free) one

pub link_with_room : (slots : List Slot) (i m : ℕ) → get_or (with_room_at slots i) m free ≡ get_or slots m free
link_with_room slots i m = get_or-padded slots (i + 1 - length slots) m free

pub within_room : (slots : List Slot) (i : ℕ) → i < length (with_room_at slots i)
within_room slots i = omega (arith, length-append slots (replicate (i + 1 - length slots) free), length-replicate (i + 1 - length slots) free)

pub small_room : (slots : List Slot) (i : ℕ) → i < 1024 → length slots ≤ 1024 → length (with_room_at slots i) ≤ 1024
small_room slots i bound few = omega (arith, length-append slots (replicate (i + 1 - length slots) free), length-replicate (i + 1 - length slots) free)

-- one more slot is appended, and one fewer is left to append
pub filled_more : (slots : List Slot) (there len : ℕ) → there < len → (slots ++ free ∷ []) ++ replicate (len - (there + 1)) free ≡ slots ++ replicate (len - there) free
filled_more slots there len more =
    let one : suc (len - (there + 1)) ≡ len - there = omega arith in
    append_assoc slots (free ∷ []) (replicate (len - (there + 1)) free) ∙ ap (λ k. slots ++ replicate k free) one
