-- A region is registered under an STag that is drawn, where another region gets other octets before, or after it.
use Rattle.std.proofs.Common.{◌≡◌, ◌≢◌, ℕ, ◌+◌, ◌-◌, ◌%◌, ◌<◌, nat_lt, is_none, if◌then◌else◌, false, List, ◌++◌, length, drop, replicate, get_or, set, Some, sym, ap, ◌∙◌, arith, inl, inr, get_or-set_other}
use Rattle.std.proofs.lemmas.Bool.{cases_lt, true≢false}
use Rattle.std.proofs.lemmas.List.{length-set, set_comm, set_past, set-append_left, drop-set-lt, drop-set-add, get_or-drop}
use Rattle.std.proofs.lemmas.List.Folds.{position_or_len-set}
use Rattle.std.proofs.lemmas.Option.{none-some}
use Rattle.iw_octets.specs.declared.stag.Stag.{Stag}
use Rattle.iw_memory.specs.Part.{Part, SlotState, unused, own_slots, own_slot, free_slot, free_from, drawn_key, up_to, own_drawn_stag, own_registered_at}
use Rattle.iw_memory.specs.Region.{Region}
use Rattle.iw_memory.specs.Table.{Table, part_of, region_at, drawn_stag, registered_drawn}
use Rattle.iw_memory.proofs.LawLemmas.{free_from-none, drawn-changes}

-- ---- slots

-- a slot that is set, and is free as it was, leaves the free slots from a place on
pub free_behind : (slots : List SlotState) (place i : ℕ) (x : SlotState) → is_none x.region ≡ is_none (get_or slots i unused).region → free_slot (drop place (set slots i x)) ≡ free_slot (drop place slots)
free_behind slots place i x same = elim (cases_lt i place) [
  | inl before ↦ ap free_slot (drop-set-lt place slots i x before)
  | inr behind ↦
      let k = i - place in
      let there : place + k ≡ i = omega (arith, behind) in
      ap (λ j. free_slot (drop place (set slots j x))) (sym there)
      ∙ ap free_slot (drop-set-add place slots k x)
      ∙ position_or_len-set (λ (s : SlotState). is_none s.region) (drop place slots) k x unused
      (same ∙ ap (λ (s : SlotState). is_none s.region) (ap (λ j. get_or slots j unused) (sym there) ∙ sym (get_or-drop place slots k unused)))
]

same_free : (slots : List SlotState) (place i : ℕ) (x : SlotState) → is_none x.region ≡ is_none (get_or slots i unused).region → free_from (set slots i x) place ≡ free_from slots place
same_free slots place i x same =
    let behind = free_behind slots place i x same in
    let lowest : free_slot (set slots i x) ≡ free_slot slots = position_or_len-set (λ (s : SlotState). is_none s.region) slots i x unused same in
    λ t. if nat_lt (place + behind t) 1024 then place + behind t else lowest t

-- a slot that holds a region gets another before an STag is drawn, or after the new region stands
pub drawn_slot : (part : Part) (pd drawn i : ℕ) (x : SlotState) (region : Region) → i < length (own_slots part) → is_none (get_or (own_slots part) i unused).region ≡ false → is_none x.region ≡ false
    → own_registered_at (own_slot part i x) (own_drawn_stag (own_slot part i x) pd drawn) region ≡ own_slot (own_registered_at part (own_drawn_stag part pd drawn) region) i x
drawn_slot part pd drawn i x region within held full =
    ap (λ j. Some (set (up_to changed j) j (there changed j))) (same_free slots (drawn % 1024) i x (full ∙ sym held))
    ∙ (λ t. Some (set (room t) free (record { key = drawn_key (other t) drawn; region = Some region })))
    ∙ ap Some (set_comm (up_to slots free) i free x (there slots free) apart)
  where
    slots : List SlotState
    slots = own_slots part

    changed : List SlotState
    changed = set slots i x

    free : ℕ
    free = free_from slots (drawn % 1024)

    there : List SlotState → ℕ → SlotState
    there ss j = record { key = drawn_key (get_or ss j unused) drawn; region = Some region }

    -- the slot that is drawn is free
    apart : i ≢ free
    apart same = true≢false (sym (ap is_none (free_from-none slots (drawn % 1024))) ∙ ap (λ j. is_none (get_or slots j unused).region) (sym same) ∙ held)

    other : get_or changed free unused ≡ get_or slots free unused
    other = get_or-set_other slots i free x unused (λ same. apart (sym same))

    room : up_to changed free ≡ set (up_to slots free) i x
    room = (λ t. changed ++ replicate (free + 1 - length-set slots i x t) unused) ∙ sym (set-append_left slots (replicate (free + 1 - length slots) unused) i x within)

-- ---- tables

-- a new region takes no STag that names one
pub drawn_keeps : (table : Table) (pd drawn : ℕ) (region : Region) (stag : Stag) (r : Region) → region_at table stag ≡ Some r → region_at (registered_drawn table pd drawn region) stag ≡ region_at table stag
drawn_keeps table pd drawn region stag r found = elim (cases_lt pd (length table)) [
  | inr past ↦ ap (λ t. region_at t stag) (set_past table pd (own_registered_at (part_of table pd) (drawn_stag table pd drawn) region) past)
  | inl within ↦
      (let new = drawn-changes table pd drawn region within in
      new.named.others stag (λ same. none-some r (sym new.was_free ∙ ap (region_at table) (sym same) ∙ found)))
]
