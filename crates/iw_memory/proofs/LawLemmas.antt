-- A change of one slot leaves all else as it is.
use Rattle.std.proofs.Common.{◌≡◌, ◌≢◌, ℕ, suc, ◌+◌, ◌-◌, ◌*◌, ◌/◌, ◌%◌, ◌⊎◌, ◌<◌, ◌==◌, if◌then◌else◌, IsSome, drop, replicate, add-zero, not, is_none, nat_lt, Bool, true, false, cond, List, [], ◌∷◌, ◌++◌, length, get_or, set, Option, Some, None, refl, sym, ap, subst, ◌∙◌, arith, inl, inr, get_or-set_same, get_or-set_other, length-append}
use Rattle.std.proofs.lemmas.List.{get_or_past, append-nil, length-replicate, get_or-drop}
use Rattle.std.proofs.lemmas.List.Sums.{position_or_len_is}
use Rattle.std.proofs.lemmas.Option.{none-some}
use Rattle.std.proofs.lemmas.Bool.{cases_lt, eq-eqb, eqb-true, lt-ltb, le-ltb}
use Rattle.std.proofs.lemmas.Bool.Decides.{eqb_tells}
use Rattle.std.specs.Option.{option_map}
use Rattle.iw_octets.specs.declared.stag.Stag.{Stag}
use Rattle.iw_memory.specs.declared.refusal.RegisterRefusal.TheVariants.{NoDomain}
use Rattle.iw_memory.specs.Region.{Region, facts_of, region_with}
use Rattle.iw_memory.specs.Part.{SlotState, unused, under_key, own_slots, free_slot, free_from, drawn_key, up_to, with_room}
use Rattle.iw_memory.specs.Inside.{IsVacant}
use Rattle.iw_memory.specs.Table.{Table, is_added, register_refusal_within, part_of, with_part, slots_of, region_at, with_slot, with_region, put, deregistered, registered, registered_at, next_stag, drawn_stag}
use Rattle.iw_memory.specs.Laws.{ChangesOneStag, PutsAt, RegistersAt, DrawsAt, WasLast, DrawsAnother, IsOpen, IsDrawn}
use Rattle.iw_memory.proofs.ListLemmas.{get_or-push_default, get_or-padded, length-overlay}
use Rattle.iw_memory.proofs.SlotLemmas.{first_within}
use Rattle.iw_memory.proofs.TableLemmas.{register_refusal-absent, cond_region, slots_are, nothing_under, with_region-found, with_region-none, deregistered-found, deregistered-none}

added_within : (table : Table) (d : ℕ) (ss : List SlotState) → part_of table d ≡ Some ss → d < length table
added_within table d ss e = elim (cases_lt d (length table)) [
  | inl within ↦ within
  | inr past ↦ absurd (none-some ss (sym (get_or_past table d None past) ∙ e))
]

-- the domain of an STag that names a region was added
pub named_within : (table : Table) (stag : Stag) (r : Region) → region_at table stag ≡ Some r → stag.domain < length table
named_within table stag r found =
    added_within table stag.domain (slots_of table stag.domain) (slots_are (part_of table stag.domain) stag.slot stag.key r found)

slot_within : (slots : List SlotState) (i key : ℕ) (r : Region) → under_key (get_or slots i unused) key ≡ Some r → i < length slots
slot_within slots i key r e = elim (cases_lt i (length slots)) [
  | inl within ↦ within
  | inr past ↦ absurd (nothing_under (0 == key) r (sym (ap (λ s. under_key s key) (get_or_past slots i unused past)) ∙ e))
]

off_key : (a b : ℕ) → b ≢ a → (a == b) ≡ false
off_key a b ne = elim (eqb_tells a b) [ inl same ↦ absurd (ne (sym same.1)) | inr other ↦ other.0 ]

-- a slot has nothing under another key
other_key : (s : SlotState) (key other : ℕ) → s.key ≡ key → other ≢ key → under_key s other ≡ None
other_key s key other is ne = ap (λ b. cond b s.region None) (off_key s.key other (λ e. ne (e ∙ is)))

no_region : (s : SlotState) (key : ℕ) → s.region ≡ None → under_key s key ≡ None
no_region s key none =
    ap (λ r. cond {A = Option Region} (s.key == key) r None) none ∙ elim (s.key == key) as (λ b. cond {A = Option Region} b None None ≡ None) [ true ↦ refl | false ↦ refl ]

-- one slot of a domain is set, and the slots beside it read as they did
slot_changes : (table : Table) (stag : Stag) (slots : List SlotState) (s : SlotState) → stag.domain < length table → stag.slot < length slots →
    ((m : ℕ) → get_or slots m unused ≡ get_or (slots_of table stag.domain) m unused) →
    ((key : ℕ) → key ≢ stag.key → under_key s key ≡ under_key (get_or (slots_of table stag.domain) stag.slot unused) key) →
    ChangesOneStag table (with_part table stag.domain (Some (set slots stag.slot s))) stag (under_key s stag.key)
slot_changes table stag slots s there within reads keys =
    let d = stag.domain in let i = stag.slot in
    let new = with_part table d (Some (set slots i s)) in
    let own : slots_of new d ≡ set slots i s = ap own_slots (get_or-set_same table d (Some (set slots i s)) None there) in
    let domains = λ (e : ℕ) (ne : e ≢ d). let same : part_of new e ≡ part_of table e = get_or-set_other table d e (Some (set slots i s)) None ne in same in
    record {
      changed = ap (λ ss. under_key (get_or ss i unused) stag.key) own ∙ ap (λ t. under_key t stag.key) (get_or-set_same slots i s unused within);
      others = λ other ne. elim (eqb_tells other.domain d) [
        | inr elsewhere ↦ ap (λ p. under_key (get_or (own_slots p) other.slot unused) other.key) (domains other.domain elsewhere.1)
        | inl domain ↦
            ap (λ e. under_key (get_or (slots_of new e) other.slot unused) other.key) domain.1
            ∙ ap (λ ss. under_key (get_or ss other.slot unused) other.key) own
            ∙ elim (eqb_tells other.slot i) as (λ _. under_key (get_or (set slots i s) other.slot unused) other.key ≡ under_key (get_or (slots_of table d) other.slot unused) other.key) [
              | inr off ↦ ap (λ t. under_key t other.key) (get_or-set_other slots i other.slot s unused off.1 ∙ reads other.slot)
              | inl slot ↦
                  ap (λ j. under_key (get_or (set slots i s) j unused) other.key) slot.1
                  ∙ ap (λ t. under_key t other.key) (get_or-set_same slots i s unused within)
                  ∙ keys other.key (λ e. ne (λ t. record { domain = domain.1 t; slot = slot.1 t; key = e t }))
                  ∙ ap (λ j. under_key (get_or (slots_of table d) j unused) other.key) (sym slot.1)
            ]
            ∙ ap (λ e. under_key (get_or (slots_of table e) other.slot unused) other.key) (sym domain.1)
      ];
      domains = domains;
    }

-- what the STag names is found, and its slot is set to one that has nothing under other keys
found_changes : (table : Table) (stag : Stag) (r : Region) (s : SlotState) (region : Option Region) → region_at table stag ≡ Some r → under_key s stag.key ≡ region → ((key : ℕ) → key ≢ stag.key → under_key s key ≡ None) →
    ChangesOneStag table (with_slot table stag.domain stag.slot s) stag region
found_changes table stag r s region found is others =
    let slots = slots_of table stag.domain in
    let old = get_or slots stag.slot unused in
    let named = cond_region (old.key == stag.key) old.region r found in
    subst (λ o. ChangesOneStag table (with_slot table stag.domain stag.slot s) stag o) is
    (slot_changes table stag slots s (named_within table stag r found) (slot_within slots stag.slot stag.key r found) (λ m. refl)
    (λ key ne. others key ne ∙ sym (other_key old stag.key key (eqb-true old.key stag.key named.0) ne)))

stays : (table : Table) (stag : Stag) (region : Option Region) → region_at table stag ≡ region → ChangesOneStag table table stag region
stays table stag region is = record { changed = is; others = λ other ne. refl; domains = λ d ne. refl }

pub with_region-changes : (table : Table) (stag : Stag) (change : Region → Region) → ChangesOneStag table (with_region table stag change) stag (option_map change (region_at table stag))
with_region-changes table stag change = go (region_at table stag) refl
  where
    go : (o : Option Region) → region_at table stag ≡ o → ChangesOneStag table (with_region table stag change) stag (option_map change o)
    go None e = subst (λ t. ChangesOneStag table t stag None) (sym (with_region-none table stag change e)) (stays table stag None e)
    go (Some r) e =
        let s : SlotState = record { key = stag.key; region = Some (change r) } in
        subst (λ t. ChangesOneStag table t stag (Some (change r))) (sym (with_region-found table stag change r e))
        (found_changes table stag r s (Some (change r)) e (ap (λ b. cond b (Some (change r)) None) (eq-eqb stag.key stag.key refl)) (λ key ne. other_key s stag.key key refl ne))

pub deregistered-changes : (table : Table) (stag : Stag) → ChangesOneStag table (deregistered table stag) stag None
deregistered-changes table stag = go (region_at table stag) refl
  where
    go : (o : Option Region) → region_at table stag ≡ o → ChangesOneStag table (deregistered table stag) stag None
    go None e = subst (λ t. ChangesOneStag table t stag None) (sym (deregistered-none table stag e)) (stays table stag None e)
    go (Some r) e =
        let s : SlotState = record { key = (stag.key + 1) % 256; region = None } in
        subst (λ t. ChangesOneStag table t stag None) (sym (deregistered-found table stag r e))
        (found_changes table stag r s None e (no_region s stag.key refl) (λ key ne. no_region s key refl))

free_in : (s : SlotState) (ss : List SlotState) (o : Option Region) → s.region ≡ o → (get_or ss (free_slot ss) unused).region ≡ None → (get_or (s ∷ ss) (free_slot (s ∷ ss)) unused).region ≡ None
free_in s ss None e rest = ap (λ (b : Bool). (get_or (s ∷ ss) (cond (not b) (1 + free_slot ss) 0) unused).region) (ap is_none e) ∙ e
free_in s ss (Some r) e rest =
    ap (λ (b : Bool). (get_or (s ∷ ss) (cond (not b) (1 + free_slot ss) 0) unused).region) (ap is_none e)
    ∙ ap (λ n. (get_or (s ∷ ss) n unused).region) (let e : 1 + free_slot ss ≡ suc (free_slot ss) = omega arith in e)
    ∙ rest

-- the lowest free slot has no region
free_none : (slots : List SlotState) → (get_or slots (free_slot slots) unused).region ≡ None
free_none [] = refl
free_none (s ∷ ss) = free_in s ss s.region refl (free_none ss)

room_within : (slots : List SlotState) → free_slot slots < length (with_room slots)
room_within slots = elim (cases_lt (free_slot slots) (length slots)) [
  | inl there ↦ subst (λ (ss : List SlotState). free_slot slots < length ss) (sym (ap (λ b. cond b slots (slots ++ unused ∷ [])) (lt-ltb _ _ there))) there
  | inr past ↦ subst (λ (ss : List SlotState). free_slot slots < length ss) (sym (ap (λ b. cond b slots (slots ++ unused ∷ [])) (le-ltb _ _ past))) (omega (arith, first_within (λ (s : SlotState). is_none s.region) slots, length-append slots (unused ∷ [])))
]

room_reads : (slots : List SlotState) (m : ℕ) → get_or (with_room slots) m unused ≡ get_or slots m unused
room_reads slots m = elim (nat_lt (free_slot slots) (length slots)) as (λ b. get_or (cond b slots (slots ++ unused ∷ [])) m unused ≡ get_or slots m unused) [ true ↦ refl | false ↦ get_or-push_default slots unused m ]

pub registered-changes : (table : Table) (pd : ℕ) (region : Region) → pd < length table → RegistersAt table pd region
registered-changes table pd region there =
    let slots = slots_of table pd in let stag = next_stag table pd in
    let s : SlotState = record { key = stag.key; region = Some region } in
    let was = no_region (get_or slots stag.slot unused) in record {
      was_free = was stag.key (free_none slots);
      named =
          subst (λ o. ChangesOneStag table (registered table pd region) stag o) (ap (λ b. cond b (Some region) None) (eq-eqb stag.key stag.key refl))
          (slot_changes table stag (with_room slots) s there (room_within slots) (room_reads slots)
          (λ key ne. other_key s stag.key key refl ne ∙ sym (was key (free_none slots))));
    }

-- ---- STags that are drawn

drawn_none : (slots : List SlotState) (place : ℕ) → (get_or slots (place + free_slot (drop place slots)) unused).region ≡ None
drawn_none slots place =
    ap (λ (s : SlotState). s.region) (sym (get_or-drop place slots (free_slot (drop place slots)) unused)) ∙ free_none (drop place slots)

-- the slot that is found from a place on has no region
pub free_from-none : (slots : List SlotState) (place : ℕ) → (get_or slots (free_from slots place) unused).region ≡ None
free_from-none slots place = elim (nat_lt (place + free_slot (drop place slots)) 1024) as (λ b. (get_or slots (cond b (place + free_slot (drop place slots)) (free_slot slots)) unused).region ≡ None) [
  | true ↦ drawn_none slots place
  | false ↦ free_none slots
]

pub free_from-within : (slots : List SlotState) (place : ℕ) → free_slot slots < 1024 → free_from slots place < 1024
free_from-within slots place some = elim (cases_lt (place + free_slot (drop place slots)) 1024) [
  | inl there ↦ rw (lt-ltb _ _ there) there
  | inr past ↦ rw (le-ltb _ _ past) some
]

up_to-within : (slots : List SlotState) (i : ℕ) → i < length (up_to slots i)
up_to-within slots i = omega (arith, length-append slots (replicate (i + 1 - length slots) unused), length-replicate (i + 1 - length slots) unused)

-- a registration in a slot that has no region
registered_at-changes : (table : Table) (stag : Stag) (region : Region) → stag.domain < length table → (get_or (slots_of table stag.domain) stag.slot unused).region ≡ None →
    ChangesOneStag table (registered_at table stag region) stag (Some region)
registered_at-changes table stag region there none =
    let slots = slots_of table stag.domain in
    let s : SlotState = record { key = stag.key; region = Some region } in
    subst (λ o. ChangesOneStag table (registered_at table stag region) stag o) (ap (λ b. cond b (Some region) None) (eq-eqb stag.key stag.key refl))
    (slot_changes table stag (up_to slots stag.slot) s there (up_to-within slots stag.slot) (λ m. get_or-padded slots (stag.slot + 1 - length slots) m unused)
    (λ key ne. other_key s stag.key key refl ne ∙ sym (no_region (get_or slots stag.slot unused) key none)))

pub drawn-changes : (table : Table) (pd drawn : ℕ) (region : Region) → pd < length table → DrawsAt table pd drawn region
drawn-changes table pd drawn region there =
    let stag = drawn_stag table pd drawn in
    let none = free_from-none (slots_of table pd) (drawn % 1024) in record {
      was_free = no_region (get_or (slots_of table pd) stag.slot unused) stag.key none;
      named = registered_at-changes table stag region there none;
    }

next_room : (slots : List SlotState) → with_room slots ≡ up_to slots (free_slot slots)
next_room slots = elim (cases_lt (free_slot slots) (length slots)) [
  | inl there ↦
      let none : 0 ≡ free_slot slots + 1 - length slots = omega arith in
      ap (λ b. cond b slots (slots ++ unused ∷ [])) (lt-ltb _ _ there) ∙ sym (append-nil slots) ∙ ap (λ n. slots ++ replicate n unused) none
  | inr past ↦
      let one : 1 ≡ free_slot slots + 1 - length slots = omega (arith, first_within (λ (s : SlotState). is_none s.region) slots) in
      ap (λ b. cond b slots (slots ++ unused ∷ [])) (le-ltb _ _ past) ∙ ap (λ n. slots ++ replicate n unused) one
]

pub registered-at_next : (table : Table) (pd : ℕ) (region : Region) → registered table pd region ≡ registered_at table (next_stag table pd) region
registered-at_next table pd region =
    let i = free_slot (slots_of table pd) in
    ap (λ slots. with_part table pd (Some (set slots i (record { key = (get_or (slots_of table pd) i unused).key; region = Some region })))) (next_room (slots_of table pd))

-- a domain in which nothing is refused was added
added_if_none : (most : ℕ) (table : Table) (pd base len : ℕ) → None ≡ register_refusal_within most table pd base len → is_added table pd ≡ true
added_if_none most table pd base len none = go (is_added table pd) refl
  where
    go : (b : Bool) → is_added table pd ≡ b → b ≡ true
    go true e = refl
    go false e = absurd (none-some NoDomain (none ∙ register_refusal-absent most table pd base len e))

-- the slots of the STags that are given out have no region
pub next-vacant : (most : ℕ) (table : Table) (pd base len : ℕ) (stag : Stag) → None ≡ register_refusal_within most table pd base len → free_slot (slots_of table pd) < 1024 → stag ≡ next_stag table pd → IsVacant table stag
next-vacant most table pd base len stag none some is =
    subst (λ (s : Stag). IsVacant table s) (sym is) (record { added = added_if_none most table pd base len none; small = some; none = free_none (slots_of table pd) })

pub drawn-vacant : (most : ℕ) (table : Table) (pd base len drawn : ℕ) (stag : Stag) → None ≡ register_refusal_within most table pd base len → free_slot (slots_of table pd) < 1024 → stag ≡ drawn_stag table pd drawn → IsVacant table stag
drawn-vacant most table pd base len drawn stag none some is =
    subst (λ (s : Stag). IsVacant table s) (sym is) (record {
      added = added_if_none most table pd base len none;
      small = free_from-within (slots_of table pd) (drawn % 1024) some;
      none = free_from-none (slots_of table pd) (drawn % 1024);
    })

-- the slot is as it was left
slot_left : (table : Table) (stag : Stag) (s : SlotState) → stag.domain < length table → stag.slot < length (slots_of table stag.domain) → get_or (slots_of (with_slot table stag.domain stag.slot s) stag.domain) stag.slot unused ≡ s
slot_left table stag s there within =
    ap (λ p. get_or (own_slots p) stag.slot unused) (get_or-set_same table stag.domain (Some (set (slots_of table stag.domain) stag.slot s)) None there)
    ∙ get_or-set_same (slots_of table stag.domain) stag.slot s unused within

deregistered-last : (table : Table) (stag : Stag) (r : Region) → stag.key < 256 → region_at table stag ≡ Some r → WasLast (deregistered table stag) stag
deregistered-last table stag r small found =
    let s : SlotState = record { key = (stag.key + 1) % 256; region = None } in record {
      key = small;
      next =
          ap (λ t. (get_or (slots_of t stag.domain) stag.slot unused).key) (deregistered-found table stag r found)
          ∙ ap (λ (s : SlotState). s.key) (slot_left table stag s (named_within table stag r found) (slot_within (slots_of table stag.domain) stag.slot stag.key r found));
    }

taken_out : (table : Table) (stag : Stag) → stag.key < 256 → (o : Option Region) → region_at table stag ≡ o → IsSome o → WasLast (deregistered table stag) stag
taken_out table stag small None found some = cc
taken_out table stag small (Some r) found some = deregistered-last table stag r small found

-- the key before the next one is not among the 255 that are drawn
not_the_last : (key next turn : ℕ) → key < 256 → next ≡ (key + 1) % 256 → turn < 255 → (next + turn) % 256 ≡ key → ⊥
not_the_last key next turn small is few same = omega arith

pub last-not_drawn : (table : Table) (stag : Stag) → DrawsAnother table stag
last-not_drawn table stag = record {
  taken_out = λ small some. taken_out table stag small (region_at table stag) refl some;
  not_drawn = λ last pd drawn same.
      let domain : pd ≡ stag.domain = ap (λ (s : Stag). s.domain) same in
      let slot : free_from (slots_of table pd) (drawn % 1024) ≡ stag.slot = ap (λ (s : Stag). s.slot) same in
      let next : (get_or (slots_of table pd) (free_from (slots_of table pd) (drawn % 1024)) unused).key ≡ (stag.key + 1) % 256 =
      ap (λ i. (get_or (slots_of table pd) i unused).key) slot ∙ ap (λ d. (get_or (slots_of table d) stag.slot unused).key) domain ∙ last.next in
      not_the_last stag.key (get_or (slots_of table pd) (free_from (slots_of table pd) (drawn % 1024)) unused).key (drawn / 1024 % 255) last.key next (omega arith) (ap (λ (s : Stag). s.key) same);
}

-- a free slot is the first from its own place on
free_here : (slots : List SlotState) (i : ℕ) → (get_or slots i unused).region ≡ None → free_slot (drop i slots) ≡ 0
free_here slots i none =
    position_or_len_is (λ (s : SlotState). is_none s.region) (drop i slots) 0 unused (omega arith) (λ k before. absurd (omega arith))
    (λ some. ap (λ (s : SlotState). is_none s.region) (get_or-drop i slots 0 unused) ∙ ap is_none (let same : (get_or slots (i + 0) unused).region ≡ None = rw add-zero none in same))

free_from-here : (slots : List SlotState) (i : ℕ) → i < 1024 → (get_or slots i unused).region ≡ None → free_from slots i ≡ i
free_from-here slots i small none =
    let here : i + free_slot (drop i slots) ≡ i = omega (arith, free_here slots i none) in
    (λ t. if nat_lt (here t) 1024 then here t else free_slot slots) ∙ ap (λ b. cond b i (free_slot slots)) (lt-ltb i 1024 small)

-- the number that draws a slot that is free, and this turn of its keys
drawn_by : (slot turn : ℕ) → slot < 1024 → turn < 255 → ((slot + 1024 * turn) % 1024 ≡ slot) × ((slot + 1024 * turn) / 1024 % 255 ≡ turn)
drawn_by slot turn small few =
    let place : (slot + 1024 * turn) / 1024 ≡ turn = omega arith in (omega arith, ap (λ n. n % 255) place ∙ (let same : turn % 255 ≡ turn = omega arith in same))

turn_of : (key next : ℕ) → key < 256 → next < 256 → next ≢ (key + 1) % 256 → ((key + 256 - next) % 256 < 255) × ((next + (key + 256 - next) % 256) % 256 ≡ key)
turn_of key next small fits ne = (
  elim (cases_lt ((key + 256 - next) % 256) 255) [
    | inl few ↦ few
    | inr most ↦ absurd (ne (omega arith))
  ],
  omega arith,
)

pub each-drawn : (table : Table) (stag : Stag) → IsOpen table stag → IsDrawn table stag
each-drawn table stag is =
    let slots = slots_of table stag.domain in
    let next = (get_or slots stag.slot unused).key in
    let turn = (stag.key + 256 - next) % 256 in
    let turned = turn_of stag.key next is.key is.next is.not_last in
    let by = drawn_by stag.slot turn is.slot turned.0 in
    let slot : free_from slots ((stag.slot + 1024 * turn) % 1024) ≡ stag.slot = ap (free_from slots) by.0 ∙ free_from-here slots stag.slot is.slot is.none in
    let key : drawn_key (get_or slots (free_from slots ((stag.slot + 1024 * turn) % 1024)) unused) (stag.slot + 1024 * turn) ≡ stag.key =
    ap (λ i. drawn_key (get_or slots i unused) (stag.slot + 1024 * turn)) slot ∙ ap (λ n. (next + n) % 256) by.1 ∙ turned.1 in
    record {
      drawn = stag.slot + 1024 * turn;
      fits = omega (arith, is.slot, turned.0);
      is = λ t. record { domain = stag.domain; slot = slot t; key = key t };
    }

-- ---- what is put keeps each region's facts

-- two STags are the same, or not
pub stag_cases : (a b : Stag) → (a ≡ b) ⊎ (a ≢ b)
stag_cases a b = elim (eqb_tells a.domain b.domain) [
  | inr off ↦ inr (λ e. off.1 (ap (λ (s : Stag). s.domain) e))
  | inl domain ↦ elim (eqb_tells a.slot b.slot) [
    | inr off ↦ inr (λ e. off.1 (ap (λ (s : Stag). s.slot) e))
    | inl slot ↦ elim (eqb_tells a.key b.key) [
      | inr off ↦ inr (λ e. off.1 (ap (λ (s : Stag). s.key) e))
      | inl key ↦ inl (λ t. record { domain = domain.1 t; slot = slot.1 t; key = key.1 t })
    ]
  ]
]

facts_with : (r : Option Region) (to : ℕ) (octets : List ℕ) → option_map facts_of (option_map (λ x. region_with x to octets) r) ≡ option_map facts_of r
facts_with None to octets = refl
facts_with (Some r) to octets = ap (λ n. Some (record { base = r.base; len = n; rights = r.rights; bound = r.bound; valid = r.valid })) (length-overlay r.octets (to - r.base) octets)

pub put-changes : (table : Table) (stag : Stag) (to : ℕ) (octets : List ℕ) → PutsAt table stag to octets
put-changes table stag to octets =
    let one = with_region-changes table stag (λ r. region_with r to octets) in record {
      changed = one;
      facts = λ other. elim (stag_cases other stag) [
        | inr off ↦ ap (option_map facts_of) (one.others other off)
        | inl same ↦
            ap (λ (s : Stag). option_map facts_of (region_at (put table stag to octets) s)) same
            ∙ ap (option_map facts_of) one.changed
            ∙ facts_with (region_at table stag) to octets
            ∙ ap (λ (s : Stag). option_map facts_of (region_at table s)) (sym same)
      ];
    }
