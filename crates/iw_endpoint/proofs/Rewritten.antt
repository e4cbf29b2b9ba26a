-- A region gets other octets before a step, or after it: what the step reads is the same, and so is the table that it leaves.
use Rattle.std.proofs.Common.{◌≡◌, ◌≢◌, ℕ, zero, suc, ◌+◌, ◌-◌, ◌/◌, ◌%◌, ◌<◌, ◌==◌, Bool, true, false, cond, not, List, [], ◌∷◌, ◌++◌, length, drop, get_or, set, Option, Some, None, refl, sym, ap, subst, ◌∙◌, arith, inl, inr, get_or-set_same, get_or-set_other}
use Rattle.std.specs.Prelude.{◌^◌, ◌&&◌, is_some, is_none, nat_le, nat_lt, if◌then◌else◌}
use Rattle.std.specs.Option.{option_map, option_map_or}
use Rattle.std.proofs.lemmas.Bool.{cases_lt, eqb-true}
use Rattle.std.proofs.lemmas.Bool.Decides.{eqb_tells}
use Rattle.std.proofs.lemmas.List.{length-set, set-set, set_comm, set_past, map-set, set-append_left, get_or_past, take_all}
use Rattle.std.proofs.lemmas.List.Folds.{position_or_len-set}
use Rattle.std.proofs.lemmas.Option.{none-some, same_Some}
use Rattle.iw_octets.specs.declared.stag.Stag.{Stag}
use Rattle.iw_memory.specs.declared.peer.Peer.{Peer}
use Rattle.iw_memory.specs.declared.refusal.InvalidateDeny.{InvalidateDeny}
use Rattle.iw_memory.specs.declared.refusal.InvalidateDeny.TheVariants.{NotAssociated as NotOwn, Invalid as NotValid, NotAllowed}
use Rattle.iw_memory.specs.declared.refusal.RegisterRefusal.TheVariants.{NoDomain, DomainFull, TooLong, BaseWrap}
use Rattle.iw_memory.specs.declared.refusal.StoreRefusal.{StoreRefusal}
use Rattle.iw_memory.specs.declared.refusal.StoreRefusal.TheVariants.{NoRegion, Outside}
use Rattle.iw_memory.specs.declared.region.Facts.{Facts}
use Rattle.iw_memory.specs.Part.{Part, SlotState, unused, own_slots, under_key, own_region, own_slot, own_changed, free_slot, free_from, with_room, retired_slot, own_retired, own_registered, own_registered_at, own_added, own_register_refusal_within, own_next_stag, own_drawn_stag, region_invalidate_denial}
use Rattle.iw_memory.specs.Region.{Region, facts_of, is_in_scope, is_bound_to, made_invalid, retired_region, region_with, overlay}
use Rattle.iw_memory.specs.Table.{Table, part_of, with_part, slots_of, with_slot, region_at, with_region, put, invalidated, deregistered, retired, registered, registered_drawn, added, invalidate_denial_for, store_refusal, register_refusal_within, next_stag, drawn_stag, is_added}
use Rattle.iw_memory.proofs.ListLemmas.{length-overlay, overlay-read}
use Rattle.iw_memory.proofs.Callers.{own_region-region_at, part_of-with_part_same, part_of-with_part_other, denial-same_facts}
use Rattle.iw_memory.proofs.TableLemmas.{with_region-found, with_region-none, deregistered-found, deregistered-none}
use Rattle.iw_memory.proofs.LawLemmas.{stag_cases, with_region-changes, deregistered-changes, registered-changes}
use Rattle.iw_memory.proofs.ScopeLemmas.{retires}
use Rattle.iw_endpoint.proofs.Drawn.{free_behind, drawn_slot, drawn_keeps}
use Rattle.iw_endpoint.proofs.Tables.{DeniesAlike}

-- ---- steps of two domains, or two of one

abbrev step_at : Table → ℕ → (Part → Part) → Table
step_at table d own = with_part table d (own (part_of table d))

step_twice : (table : Table) (d : ℕ) (first second : Part → Part) → step_at (step_at table d first) d second ≡ with_part table d (second (first (part_of table d)))
step_twice table d first second = elim (cases_lt d (length table)) [
  | inl within ↦
      set-set table d (first (part_of table d)) (second (part_of (step_at table d first) d))
      ∙ ap (λ part. set table d (second part)) (get_or-set_same table d (first (part_of table d)) None within)
  | inr past ↦
      set-set table d (first (part_of table d)) (second (part_of (step_at table d first) d))
      ∙ set_past table d (second (part_of (step_at table d first) d)) past
      ∙ sym (set_past table d (second (first (part_of table d))) past)
]

-- of one domain, the second as it is behind the first, and the first as it is behind the second
own_steps : (table : Table) (d : ℕ) (first later second : Part → Part) → second (first (part_of table d)) ≡ later (second (part_of table d)) → step_at (step_at table d first) d second ≡ step_at (step_at table d second) d later
own_steps table d first later second same = step_twice table d first second ∙ ap (with_part table d) same ∙ sym (step_twice table d second later)

apart_steps : (table : Table) (d e : ℕ) (first second : Part → Part) → d ≢ e → step_at (step_at table e first) d second ≡ step_at (step_at table d second) e first
apart_steps table d e first second off =
    ap (λ part. set (step_at table e first) d (second part)) (get_or-set_other table e d (first (part_of table e)) None off)
    ∙ set_comm table e d (first (part_of table e)) (second (part_of table d)) (λ same. off (sym same))
    ∙ ap (λ part. set (step_at table d second) e (first part)) (sym (get_or-set_other table d e (second (part_of table d)) None (λ same. off (sym same))))

steps_pass : (table : Table) (d e : ℕ) (first second : Part → Part) → (d ≡ e → second (first (part_of table d)) ≡ first (second (part_of table d))) → step_at (step_at table e first) d second ≡ step_at (step_at table d second) e first
steps_pass table d e first second same = elim (eqb_tells d e) [
  | inr off ↦ apart_steps table d e first second off.1
  | inl here ↦ subst (λ (x : ℕ). step_at (step_at table x first) d second ≡ step_at (step_at table d second) x first) here.1 (own_steps table d first first second (same here.1))
]

-- ---- slots

under_key_is : (s : SlotState) (key : ℕ) (r : Region) → under_key s key ≡ Some r → (s.region ≡ Some r) × (s.key ≡ key)
under_key_is s key r is = go (s.key == key) refl is
  where
    go : (b : Bool) → (s.key == key) ≡ b → cond b s.region None ≡ Some r → (s.region ≡ Some r) × (s.key ≡ key)
    go true e here = (here, eqb-true s.key key e)
    go false e here = absurd (none-some r here)

-- two STags that name regions of one domain have slots of their own
slots_apart : (table : Table) (a b : Stag) (r q : Region) → a ≢ b → region_at table a ≡ Some r → region_at table b ≡ Some q → a.domain ≡ b.domain → a.slot ≢ b.slot
slots_apart table a b r q ne at_a at_b domain slot =
    let of_a = under_key_is (get_or (slots_of table a.domain) a.slot unused) a.key r at_a in
    let of_b = under_key_is (get_or (slots_of table b.domain) b.slot unused) b.key q at_b in
    let same : (get_or (slots_of table a.domain) a.slot unused).key ≡ (get_or (slots_of table b.domain) b.slot unused).key = λ i. (get_or (slots_of table (domain i)) (slot i) unused).key in
    let key : a.key ≡ b.key = sym of_a.1 ∙ same ∙ of_b.1 in
    ne (λ i. record { domain = domain i; slot = slot i; key = key i })

slots_pass : (table : Table) (d e i j : ℕ) (x y : SlotState) → (d ≡ e → j ≢ i) → with_slot (with_slot table e j x) d i y ≡ with_slot (with_slot table d i y) e j x
slots_pass table d e i j x y off =
    steps_pass table d e (λ part. own_slot part j x) (λ part. own_slot part i y) (λ same. ap Some (set_comm (own_slots (part_of table d)) j i x y (off same)))

slot_twice : (table : Table) (d i : ℕ) (x y : SlotState) → with_slot (with_slot table d i x) d i y ≡ with_slot table d i y
slot_twice table d i x y =
    step_twice table d (λ part. own_slot part i x) (λ part. own_slot part i y) ∙ ap (λ ss. with_part table d (Some ss)) (set-set (own_slots (part_of table d)) i x y)

held_within : (slots : List SlotState) (i : ℕ) (r : Region) → (get_or slots i unused).region ≡ Some r → i < length slots
held_within slots i r held = elim (cases_lt i (length slots)) [
  | inl within ↦ within
  | inr past ↦ absurd (none-some r (sym (ap (λ (s : SlotState). s.region) (get_or_past slots i unused past)) ∙ held))
]

-- a slot that holds a region is not the lowest free one
not_free : (slots : List SlotState) (i : ℕ) → i < length slots → is_none (get_or slots i unused).region ≡ false → i ≢ free_slot slots
not_free [] i within held same = absurd (omega arith)
not_free (s ∷ ss) zero within held same =
    let no : 0 ≡ 1 + free_slot ss = same ∙ ap (λ b. cond (not b) (1 + free_slot ss) 0) held in absurd (omega (arith, no))
not_free (s ∷ ss) (suc i) within held same = go (is_none s.region) (λ e. not_free ss i (omega (arith, within)) held e) same
  where
    go : (b : Bool) → (i ≡ free_slot ss → ⊥) → suc i ≡ cond (not b) (1 + free_slot ss) 0 → ⊥
    go true ne e = absurd (omega (arith, e))
    go false ne e = ne (omega (arith, e))

room_set : (b : Bool) (slots : List SlotState) (i : ℕ) (x : SlotState) → i < length slots → cond b (set slots i x) (set slots i x ++ unused ∷ []) ≡ set (cond b slots (slots ++ unused ∷ [])) i x
room_set true slots i x within = refl
room_set false slots i x within = sym (set-append_left slots (unused ∷ []) i x within)

-- a slot that holds a region gets another before a registration, or after it
registered_slot : (part : Part) (i : ℕ) (r : Region) (x : SlotState) (region : Region) → (get_or (own_slots part) i unused).region ≡ Some r → is_none x.region ≡ false → own_registered (own_slot part i x) region ≡ own_slot (own_registered part region) i x
registered_slot part i r x region held full =
    ap (λ j. Some (set (with_room changed) j (there changed j))) same_free
    ∙ (λ t. Some (set (room t) free (record { key = key t; region = Some region })))
    ∙ ap Some (set_comm (with_room slots) i free x (there slots free) (not_free slots i within (ap is_none held)))
  where
    slots : List SlotState
    slots = own_slots part

    changed : List SlotState
    changed = set slots i x

    free : ℕ
    free = free_slot slots

    there : List SlotState → ℕ → SlotState
    there ss j = record { key = (get_or ss j unused).key; region = Some region }

    within : i < length slots
    within = held_within slots i r held

    same_free : free_slot changed ≡ free
    same_free = position_or_len-set (λ (s : SlotState). is_none s.region) slots i x unused (full ∙ sym (ap is_none held))

    key : (get_or changed free unused).key ≡ (get_or slots free unused).key
    key = ap (λ (s : SlotState). s.key) (get_or-set_other slots i free x unused (λ same. not_free slots i within (ap is_none held) (sym same)))

    room : with_room changed ≡ set (with_room slots) i x
    room = (λ t. cond (nat_lt (same_free t) (length-set slots i x t)) changed (changed ++ unused ∷ [])) ∙ room_set (nat_lt free (length slots)) slots i x within

retired_slots : (part : Part) (stream : Option ℕ) (i : ℕ) (x : SlotState) → own_retired (own_slot part i x) stream ≡ own_slot (own_retired part stream) i (retired_slot stream x)
retired_slots None stream i x = refl
retired_slots (Some slots) stream i x = ap Some (map-set (retired_slot stream) slots i x)

-- ---- a region gets other octets

abbrev pub with_octets : List ℕ → Region → Region
with_octets octets r = record r { octets = overlay r.octets 0 octets }

retired_octets : (stream : Option ℕ) (octets : List ℕ) (r : Region) → retired_region stream (with_octets octets r) ≡ with_octets octets (retired_region stream r)
retired_octets stream octets r = go (is_bound_to r.bound stream)
  where
    go : (b : Bool) → cond b (made_invalid (with_octets octets r)) (with_octets octets r) ≡ with_octets octets (cond b (made_invalid r) r)
    go true = refl
    go false = refl

-- octets that are as many as the region's are what it then has
overlay_whole : (octets new : List ℕ) → length new ≡ length octets → overlay octets 0 new ≡ new
overlay_whole octets new same =
    sym (take_all (length new) (overlay octets 0 new) (omega (arith, same, length-overlay octets 0 new)))
    ∙ overlay-read octets 0 new (omega (arith, same))

-- a new region takes no STag that names one
pub registered_keeps : (table : Table) (pd : ℕ) (region : Region) (stag : Stag) (r : Region) → region_at table stag ≡ Some r → region_at (registered table pd region) stag ≡ region_at table stag
registered_keeps table pd region stag r found = elim (cases_lt pd (length table)) [
  | inr past ↦ ap (λ t. region_at t stag) (set_past table pd _ past)
  | inl within ↦
      (let new = registered-changes table pd region within in
      new.named.others stag (λ same. none-some r (sym new.was_free ∙ ap (region_at table) (sym same) ∙ found)))
]

-- ---- rooms

-- the slots are free as they were, and have the keys that they had
pub record HasSameRoom (p q : Part) : Type 0 where
  pub there : is_some p ≡ is_some q
  pub free : free_slot (own_slots p) ≡ free_slot (own_slots q)
  pub behind : (place : ℕ) → free_slot (drop place (own_slots p)) ≡ free_slot (drop place (own_slots q))
  pub key : (k : ℕ) → (get_or (own_slots p) k unused).key ≡ (get_or (own_slots q) k unused).key

key_set : (xs : List SlotState) (i k : ℕ) (y : SlotState) → y.key ≡ (get_or xs i unused).key → (get_or (set xs i y) k unused).key ≡ (get_or xs k unused).key
key_set [] i k y e = refl
key_set (x ∷ xs) zero zero y e = e
key_set (x ∷ xs) zero (suc k) y e = refl
key_set (x ∷ xs) (suc i) zero y e = refl
key_set (x ∷ xs) (suc i) (suc k) y e = key_set xs i k y e

no_slot : (k : ℕ) → get_or [] k unused ≡ unused
no_slot zero = refl
no_slot (suc k) = refl

changed_room : (part : Part) (stag : Stag) (change : Region → Region) → HasSameRoom (own_changed part stag change) part
changed_room part stag change = go (own_region part stag) refl
  where
    changed : (slots : List SlotState) (r : Region) → own_region (Some slots) stag ≡ Some r → HasSameRoom (Some (set slots stag.slot (record { key = stag.key; region = Some (change r) }))) (Some slots)
    changed slots r is =
        let here = under_key_is (get_or slots stag.slot unused) stag.key r is in record {
          there = refl;
          free = position_or_len-set (λ (s : SlotState). is_none s.region) slots stag.slot (record { key = stag.key; region = Some (change r) }) unused (sym (ap is_none here.0));
          behind = λ place. free_behind slots place stag.slot (record { key = stag.key; region = Some (change r) }) (sym (ap is_none here.0));
          key = λ k. key_set slots stag.slot k (record { key = stag.key; region = Some (change r) }) (sym here.1);
        }

    found : (p : Part) (r : Region) → own_region p stag ≡ Some r → HasSameRoom (Some (set (own_slots p) stag.slot (record { key = stag.key; region = Some (change r) }))) p
    found None r is = absurd (none-some r (ap (λ (s : SlotState). s.region) (sym (no_slot stag.slot)) ∙ (under_key_is (get_or [] stag.slot unused) stag.key r is).0))
    found (Some slots) r is = changed slots r is

    go : (o : Option Region) → own_region part stag ≡ o → HasSameRoom (option_map_or (λ r. Some (set (own_slots part) stag.slot (record { key = stag.key; region = Some (change r) }))) o part) part
    go None is = record { there = refl; free = refl; behind = λ place. refl; key = λ k. refl }
    go (Some r) is = found part r is

same_room : (table : Table) (stag : Stag) (change : Region → Region) (d : ℕ) → HasSameRoom (part_of (with_region table stag change) d) (part_of table d)
same_room table stag change d = elim (eqb_tells d stag.domain) [
  | inr off ↦ subst (λ p. HasSameRoom p (part_of table d)) (sym (part_of-with_part_other table stag.domain d (own_changed (part_of table stag.domain) stag change) off.1)) (record { there = refl; free = refl; behind = λ place. refl; key = λ k. refl })
  | inl here ↦ subst (λ x. HasSameRoom (part_of (with_region table stag change) x) (part_of table x)) (sym here.1) (elim (cases_lt stag.domain (length table)) [
    | inl within ↦ subst (λ p. HasSameRoom p (part_of table stag.domain)) (sym (part_of-with_part_same table stag.domain (own_changed (part_of table stag.domain) stag change) within)) (changed_room (part_of table stag.domain) stag change)
    | inr past ↦ subst (λ (u : Table). HasSameRoom (part_of u stag.domain) (part_of table stag.domain)) (sym (set_past table stag.domain (own_changed (part_of table stag.domain) stag change) past)) (record { there = refl; free = refl; behind = λ place. refl; key = λ k. refl })
  ])
]

room_refusal : (most : ℕ) (p q : Part) (base len : ℕ) → HasSameRoom p q → own_register_refusal_within most p base len ≡ own_register_refusal_within most q base len
room_refusal most p q base len h =
    λ i. if not (h.there i) then Some NoDomain else (if nat_le 1024 (h.free i) then Some DomainFull else (if nat_lt most len then Some TooLong else (if nat_lt (2 ^ 64) (base + len) then Some BaseWrap else None)))

room_stag : (p q : Part) (pd : ℕ) → HasSameRoom p q → own_next_stag p pd ≡ own_next_stag q pd
room_stag p q pd h =
    λ i. record { domain = pd; slot = h.free i; key = (ap (λ k. (get_or (own_slots p) k unused).key) h.free ∙ h.key (free_slot (own_slots q))) i }

room_from : (p q : Part) (place : ℕ) → HasSameRoom p q → free_from (own_slots p) place ≡ free_from (own_slots q) place
room_from p q place h = λ i. if nat_lt (place + h.behind place i) 1024 then place + h.behind place i else h.free i

room_drawn : (p q : Part) (pd drawn : ℕ) → HasSameRoom p q → own_drawn_stag p pd drawn ≡ own_drawn_stag q pd drawn
room_drawn p q pd drawn h =
    let slot = room_from p q (drawn % 1024) h in
    let key = ap (λ k. (get_or (own_slots p) k unused).key) slot ∙ h.key (free_from (own_slots q) (drawn % 1024)) in
    λ i. record { domain = pd; slot = slot i; key = (key i + drawn / 1024 % 255) % 256 }

-- ---- facts

abbrev pub found_invalidate : Option Region → Option ℕ → Option InvalidateDeny
found_invalidate found stream = option_map_or (λ r. region_invalidate_denial r stream) found (Some NotValid)

abbrev facts_invalidate : Facts → Option ℕ → Option InvalidateDeny
facts_invalidate f stream = if not (is_in_scope f.bound stream) then Some NotOwn else (if not f.valid then Some NotValid else (if not f.rights.invalidate then Some NotAllowed else None))

-- what may be invalidated, and stored, is told by the facts of the region
invalidate-same_facts : (old new : Option Region) (stream : Option ℕ) → option_map facts_of new ≡ option_map facts_of old → found_invalidate new stream ≡ found_invalidate old stream
invalidate-same_facts None None stream same = refl
invalidate-same_facts None (Some b) stream same = absurd (none-some (facts_of b) (sym same))
invalidate-same_facts (Some a) None stream same = absurd (none-some (facts_of a) same)
invalidate-same_facts (Some a) (Some b) stream same = ap (λ f. facts_invalidate f stream) (same_Some _ _ same)

abbrev found_store : Option Region → ℕ → ℕ → Option StoreRefusal
found_store found to n = option_map_or (λ r. if nat_le r.base to && nat_le (to + n) (r.base + length r.octets) then None else Some Outside) found (Some NoRegion)

abbrev facts_store : Facts → ℕ → ℕ → Option StoreRefusal
facts_store f to n = if nat_le f.base to && nat_le (to + n) (f.base + f.len) then None else Some Outside

store-same_facts : (old new : Option Region) (to n : ℕ) → option_map facts_of new ≡ option_map facts_of old → found_store new to n ≡ found_store old to n
store-same_facts None None to n same = refl
store-same_facts None (Some b) to n same = absurd (none-some (facts_of b) (sym same))
store-same_facts (Some a) None to n same = absurd (none-some (facts_of a) same)
store-same_facts (Some a) (Some b) to n same = ap (λ f. facts_store f to n) (same_Some _ _ same)

-- ---- steps on tables

module _ (table : Table) (stag : Stag) (r : Region) (found : region_at table stag ≡ Some r) (octets : List ℕ) where
  abbrev over : Table → Table
  over t = with_region t stag (with_octets octets)

  abbrev slot_with : Region → SlotState
  slot_with q = record { key = stag.key; region = Some (with_octets octets q) }

  here : ((get_or (slots_of table stag.domain) stag.slot unused).region ≡ Some r) × ((get_or (slots_of table stag.domain) stag.slot unused).key ≡ stag.key)
  here = under_key_is (get_or (slots_of table stag.domain) stag.slot unused) stag.key r found

  -- the slot is what changes, before the step and after it
  by_slot : (step : Table → Table) (left : Region) → region_at (step table) stag ≡ Some left
      → step (with_slot table stag.domain stag.slot (slot_with r)) ≡ with_slot (step table) stag.domain stag.slot (slot_with left) → step (over table) ≡ over (step table)
  by_slot step left is same =
      ap step (with_region-found table stag (with_octets octets) r found) ∙ same ∙ sym (with_region-found (step table) stag (with_octets octets) left is)

  -- a step on what another STag names, which sets that one's slot
  by_other : (step : Table → Table) (other : Stag) (after : Region → SlotState) → other ≢ stag
      → ((t : Table) → region_at t other ≡ None → step t ≡ t)
      → ((t : Table) (q : Region) → region_at t other ≡ Some q → step t ≡ with_slot t other.domain other.slot (after q))
      → region_at (step table) stag ≡ region_at table stag → step (over table) ≡ over (step table)
  by_other step other after ne none some kept = go (region_at table other) refl
    where
      stays : region_at (over table) other ≡ region_at table other
      stays = (with_region-changes table stag (with_octets octets)).others other ne

      go : (o : Option Region) → region_at table other ≡ o → step (over table) ≡ over (step table)
      go None is = none (over table) (stays ∙ is) ∙ ap over (sym (none table is))
      go (Some q) is =
          let x = slot_with r in
          some (over table) q (stays ∙ is)
          ∙ ap (λ t. with_slot t other.domain other.slot (after q)) (with_region-found table stag (with_octets octets) r found)
          ∙ slots_pass table other.domain stag.domain other.slot stag.slot x (after q) (λ same slot. slots_apart table other stag q r ne is found same (sym slot))
          ∙ ap (λ t. with_slot t stag.domain stag.slot x) (sym (some table q is))
          ∙ sym (with_region-found (step table) stag (with_octets octets) r (kept ∙ found))

  changed_passes : (other : Stag) (change : Region → Region) → other ≢ stag → with_region (over table) other change ≡ over (with_region table other change)
  changed_passes other change ne =
      by_other (λ t. with_region t other change) other (λ q. record { key = other.key; region = Some (change q) }) ne
      (λ t none. with_region-none t other change none) (λ t q is. with_region-found t other change q is) ((with_region-changes table other change).others stag (λ same. ne (sym same)))

  pub put_passes : (other : Stag) (to : ℕ) (new : List ℕ) → other ≢ stag → put (over table) other to new ≡ over (put table other to new)
  put_passes other to new ne = changed_passes other (λ q. region_with q to new) ne

  pub rewritten_passes : (other : Stag) (new : List ℕ) → other ≢ stag → with_region (over table) other (with_octets new) ≡ over (with_region table other (with_octets new))
  rewritten_passes other new ne = changed_passes other (with_octets new) ne

  pub invalidated_passes : (other : Stag) → other ≢ stag → invalidated (over table) other ≡ over (invalidated table other)
  invalidated_passes other ne = changed_passes other made_invalid ne

  pub deregistered_passes : (other : Stag) → other ≢ stag → deregistered (over table) other ≡ over (deregistered table other)
  deregistered_passes other ne =
      by_other (λ t. deregistered t other) other (λ q. record { key = (other.key + 1) % 256; region = None }) ne
      (λ t none. deregistered-none t other none) (λ t q is. deregistered-found t other q is) ((deregistered-changes table other).others stag (λ same. ne (sym same)))

  pub registered_passes : (pd : ℕ) (region : Region) → registered (over table) pd region ≡ over (registered table pd region)
  registered_passes pd region =
      by_slot (λ t. registered t pd region) r (registered_keeps table pd region stag r found ∙ found)
      (steps_pass table pd stag.domain (λ part. own_slot part stag.slot (slot_with r)) (λ part. own_registered part region)
      (λ same. registered_slot (part_of table pd) stag.slot r (slot_with r) region (ap (λ d. (get_or (slots_of table d) stag.slot unused).region) same ∙ here.0) refl))

  pub drawn_passes : (pd drawn : ℕ) (region : Region) → registered_drawn (over table) pd drawn region ≡ over (registered_drawn table pd drawn region)
  drawn_passes pd drawn region =
      by_slot (λ t. registered_drawn t pd drawn region) r (drawn_keeps table pd drawn region stag r found ∙ found)
      (steps_pass table pd stag.domain (λ part. own_slot part stag.slot (slot_with r)) (λ part. own_registered_at part (own_drawn_stag part pd drawn) region)
      (λ same.
      let held : (get_or (slots_of table pd) stag.slot unused).region ≡ Some r = ap (λ d. (get_or (slots_of table d) stag.slot unused).region) same ∙ here.0 in
      drawn_slot (part_of table pd) pd drawn stag.slot (slot_with r) region (held_within (slots_of table pd) stag.slot r held) (ap is_none held) refl))

  pub added_passes : (pd : ℕ) → pd ≢ stag.domain → added (over table) pd ≡ over (added table pd)
  added_passes pd off =
      by_slot (λ t. added t pd) r (ap (λ part. own_region part stag) (get_or-set_other table pd stag.domain own_added None (λ same. off (sym same))) ∙ found)
      (apart_steps table pd stag.domain (λ part. own_slot part stag.slot (slot_with r)) (λ part. own_added) off)

  pub retired_passes : (peer : Peer) → retired (over table) peer ≡ over (retired table peer)
  retired_passes peer = elim (eqb_tells peer.domain stag.domain) [
    | inr off ↦
        by_slot (λ t. retired t peer) r (ap (λ part. own_region part stag) ((retires table peer).others stag.domain (λ same. off.1 (sym same))) ∙ found)
        (apart_steps table peer.domain stag.domain (λ part. own_slot part stag.slot (slot_with r)) (λ part. own_retired part peer.stream) off.1)
    | inl own ↦
        by_slot (λ t. retired t peer) (retired_region peer.stream r) ((retires table peer).own stag (sym own.1) ∙ ap (option_map (retired_region peer.stream)) found)
        (subst (λ (d : ℕ). retired (with_slot table d stag.slot (slot_with r)) peer ≡ with_slot (retired table peer) d stag.slot (slot_with (retired_region peer.stream r))) own.1
        (own_steps table peer.domain (λ part. own_slot part stag.slot (slot_with r)) (λ part. own_slot part stag.slot (slot_with (retired_region peer.stream r))) (λ part. own_retired part peer.stream)
        (retired_slots (part_of table peer.domain) peer.stream stag.slot (slot_with r)
        ∙ ap (λ q. own_slot (own_retired (part_of table peer.domain) peer.stream) stag.slot (record { key = stag.key; region = Some q })) (retired_octets peer.stream octets r))))
  ]

  -- ---- steps on the region itself

  twice_changed : (first second : Region → Region) → with_region (with_region table stag first) stag second ≡ with_slot table stag.domain stag.slot (record { key = stag.key; region = Some (second (first r)) })
  twice_changed first second =
      let y : SlotState = record { key = stag.key; region = Some (second (first r)) } in
      with_region-found (with_region table stag first) stag second (first r) ((with_region-changes table stag first).changed ∙ ap (option_map first) found)
      ∙ ap (λ t. with_slot t stag.domain stag.slot y) (with_region-found table stag first r found)
      ∙ slot_twice table stag.domain stag.slot (record { key = stag.key; region = Some (first r) }) y

  changed_over : (change : Region → Region) (later : List ℕ) → change (with_octets octets r) ≡ with_octets later (change r) → with_region (over table) stag change ≡ with_region (with_region table stag change) stag (with_octets later)
  changed_over change later same =
      twice_changed (with_octets octets) change
      ∙ ap (λ q. with_slot table stag.domain stag.slot (record { key = stag.key; region = Some q })) same
      ∙ sym (twice_changed change (with_octets later))

  -- what it gets then covers it
  covered : (new : List ℕ) → length new ≡ length r.octets → (written : List ℕ) → length written ≡ length r.octets → record r { octets = new } ≡ with_octets new (record r { octets = written })
  covered new size written wide = ap (λ xs. record r { octets = xs }) (sym (overlay_whole written new (size ∙ sym wide)))

  pub put_over : (to : ℕ) (new : List ℕ) → put (over table) stag to new ≡ with_region (put table stag to new) stag (with_octets (overlay (overlay r.octets 0 octets) (to - r.base) new))
  put_over to new =
      let later = overlay (overlay r.octets 0 octets) (to - r.base) new in
      changed_over (λ q. region_with q to new) later
      (covered later (length-overlay (overlay r.octets 0 octets) (to - r.base) new ∙ length-overlay r.octets 0 octets) (overlay r.octets (to - r.base) new) (length-overlay r.octets (to - r.base) new))

  pub rewritten_over : (new : List ℕ) → with_region (over table) stag (with_octets new) ≡ with_region (with_region table stag (with_octets new)) stag (with_octets (overlay (overlay r.octets 0 octets) 0 new))
  rewritten_over new =
      let later = overlay (overlay r.octets 0 octets) 0 new in
      changed_over (with_octets new) later (covered later (length-overlay (overlay r.octets 0 octets) 0 new ∙ length-overlay r.octets 0 octets) (overlay r.octets 0 new) (length-overlay r.octets 0 new))

  pub invalidated_over : invalidated (over table) stag ≡ over (invalidated table stag)
  invalidated_over = changed_over made_invalid octets refl

  pub deregistered_over : deregistered (over table) stag ≡ deregistered table stag
  deregistered_over =
      let y : SlotState = record { key = (stag.key + 1) % 256; region = None } in
      deregistered-found (over table) stag (with_octets octets r) ((with_region-changes table stag (with_octets octets)).changed ∙ ap (option_map (with_octets octets)) found)
      ∙ ap (λ t. with_slot t stag.domain stag.slot y) (with_region-found table stag (with_octets octets) r found)
      ∙ slot_twice table stag.domain stag.slot (slot_with r) y
      ∙ sym (deregistered-found table stag r found)

  -- ---- what the calls read

  pub over_facts : (other : Stag) → option_map facts_of (region_at (over table) other) ≡ option_map facts_of (region_at table other)
  over_facts other = elim (stag_cases other stag) [
    | inr ne ↦ ap (option_map facts_of) ((with_region-changes table stag (with_octets octets)).others other ne)
    | inl same ↦
        ap (λ x. option_map facts_of (region_at (over table) x)) same
        ∙ ap (option_map facts_of) ((with_region-changes table stag (with_octets octets)).changed ∙ ap (option_map (with_octets octets)) found)
        ∙ ap (λ n. Some (record { base = r.base; len = n; rights = r.rights; bound = r.bound; valid = r.valid })) (length-overlay r.octets 0 octets)
        ∙ sym (ap (option_map facts_of) (ap (region_at table) same ∙ found))
  ]

  invalidate_alike : (peer : Peer) (other : Stag) → invalidate_denial_for (over table) peer other ≡ invalidate_denial_for table peer other
  invalidate_alike peer other = go (other.domain == peer.domain) refl
    where
      go : (b : Bool) → (other.domain == peer.domain) ≡ b
          → cond (not b) (Some NotOwn) (found_invalidate (own_region (part_of (over table) peer.domain) other) peer.stream) ≡ cond (not b) (Some NotOwn) (found_invalidate (own_region (part_of table peer.domain) other) peer.stream)
      go false e = refl
      go true e =
          ap (λ o. found_invalidate o peer.stream) (own_region-region_at (over table) peer.domain other e)
          ∙ invalidate-same_facts (region_at table other) (region_at (over table) other) peer.stream (over_facts other)
          ∙ sym (ap (λ o. found_invalidate o peer.stream) (own_region-region_at table peer.domain other e))

  pub over_denies : (peer : Peer) → DeniesAlike table (over table) peer
  over_denies peer = record { denied = λ other to n right. denial-same_facts table (over table) over_facts peer other to n right; invalidate_denied = invalidate_alike peer }

  pub over_store : (other : Stag) (to n : ℕ) → store_refusal (over table) other to n ≡ store_refusal table other to n
  over_store other to n = store-same_facts (region_at table other) (region_at (over table) other) to n (over_facts other)

  over_room : (pd : ℕ) → HasSameRoom (part_of (over table) pd) (part_of table pd)
  over_room pd = same_room table stag (with_octets octets) pd

  pub over_added : (pd : ℕ) → is_added (over table) pd ≡ is_added table pd
  over_added pd = let room = over_room pd in room.there

  pub over_stag : (pd : ℕ) → next_stag (over table) pd ≡ next_stag table pd
  over_stag pd = room_stag (part_of (over table) pd) (part_of table pd) pd (over_room pd)

  pub over_drawn : (pd drawn : ℕ) → drawn_stag (over table) pd drawn ≡ drawn_stag table pd drawn
  over_drawn pd drawn = room_drawn (part_of (over table) pd) (part_of table pd) pd drawn (over_room pd)

  pub over_register : (most pd base len : ℕ) → register_refusal_within most (over table) pd base len ≡ register_refusal_within most table pd base len
  over_register most pd base len = room_refusal most (part_of (over table) pd) (part_of table pd) base len (over_room pd)
