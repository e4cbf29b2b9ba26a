-- The places of domains, and all domains beyond them.
use Rattle.std.proofs.Common.{◌≡◌, ℕ, suc, ◌-◌, ◌<◌, ◌≤◌, List, [], ◌∷◌, ◌++◌, replicate, length, get_or, set, Option, Some, None, true, is_some, IsTrue, inl, inr, refl, sym, ap, ◌∙◌, arith, length-append}
use Rattle.std.proofs.lemmas.List.{append_assoc, set-append_left, set-get_or, get_or_past, get_or_default, length-set}
use Rattle.std.proofs.lemmas.Bool.{cases_lt}
use Rattle.std.specs.Option.{unwrap_or}
use Rattle.iw_memory.specs.declared.slots.Slot.{Slot}
use Rattle.iw_memory.specs.Inside.{Slots, slots_in, no_places, all_places}
use Rattle.iw_memory.proofs.ListLemmas.{get_or-padded}
use Rattle.iw_memory.proofs.SlotLemmas.{not_none}

pub all_places-none : all_places [] ≡ no_places
unfolding no_places
all_places-none = refl

some_slots : (o : Option (List Slot)) → is_some o ≡ true → Some (unwrap_or o []) ≡ o
some_slots None e = cc
some_slots (Some slots) e = refl

-- the slots of a domain that was added are set to what they are
pub set-slots_same : (domains : Slots) (d : ℕ) → IsTrue (is_some (get_or domains d None)) → set domains d (Some (slots_in domains d)) ≡ domains
set-slots_same domains d added = ap (set domains d) (some_slots (get_or domains d None) added) ∙ set-get_or domains d None

pub get_or-all_places : (places : Slots) (d : ℕ) → get_or (all_places places) d None ≡ get_or places d None
get_or-all_places places d = get_or-padded places (256 - length places) d None

-- one more place of a domain that was not added
all_places-push : (places : Slots) → length places < 256 → all_places (places ++ None ∷ []) ≡ all_places places
all_places-push places small =
    let n = length places in
    let left : 256 - length (places ++ None ∷ []) ≡ 256 - suc n = omega (arith, length-append places (None ∷ [])) in
    let one : suc (256 - suc n) ≡ 256 - n = omega arith in
    ap (λ k. (places ++ None ∷ []) ++ replicate k None) left
    ∙ append_assoc places (None ∷ []) (replicate (256 - suc n) None)
    ∙ ap (λ k. places ++ replicate k None) one

pub all_places-pushed : (old new : Slots) → new ≡ old ++ None ∷ [] → length old < 256 → (length new ≤ 256) × (all_places new ≡ all_places old)
all_places-pushed old new is small = (omega (arith, ap length is, length-append old (None ∷ [])), ap all_places is ∙ all_places-push old small)

-- a place is set
pub places-set : (places : Slots) (d : ℕ) (v items : List Slot) → d < length places → v ≡ items → all_places (set places d (Some v)) ≡ set (all_places places) d (Some items)
places-set places d v items within is =
    ap (λ k. set places d (Some v) ++ replicate (256 - k) None) (length-set places d (Some v))
    ∙ sym (set-append_left places (replicate (256 - length places) None) d (Some v) within)
    ∙ ap (λ xs. set (all_places places) d (Some xs)) is

-- a domain that was added has a place
pub place_within : (places : Slots) (d : ℕ) → IsTrue (is_some (get_or (all_places places) d None)) → d < length places
place_within places d added = elim (cases_lt d (length places)) [
  | inl within ↦ within
  | inr past ↦ absurd (not_none (get_or (all_places places) d None) (get_or-all_places places d ∙ get_or_past places d None past) added)
]

pub place_of_slot : (places : Slots) (d i : ℕ) → i < length (slots_in (all_places places) d) → d < length places
place_of_slot places d i within = elim (cases_lt d (length places)) [
  | inl there ↦ there
  | inr past ↦
      let none : length (slots_in (all_places places) d) ≡ 0 = ap (λ (o : Option (List Slot)). length (unwrap_or o [])) (get_or-all_places places d ∙ get_or_past places d None past) in
      absurd (omega arith)
]

-- what is read at a domain's place are its slots
pub slots_known : (places : Slots) (d : ℕ) (o : Option (List Slot)) (v : List Slot) → d < length places → o ≡ get_or places d o → o ≡ Some v → v ≡ slots_in (all_places places) d
slots_known places d o v within read is =
    ap (λ o. unwrap_or o []) (sym is ∙ read ∙ get_or_default places d o None within) ∙ ap (λ (o : Option (List Slot)). unwrap_or o []) (sym (get_or-all_places places d))
