-- What the fields of a memory mean as a table, and how that changes with them.
use Rattle.std.proofs.Common.{drop, IsTrue, subst, IsSome, IsSomeAnd, IfSome, ◌≤◌, ◌≡◌, ◌≢◌, ℕ, zero, suc, ◌+◌, ◌/◌, ◌%◌, ◌-◌, ◌<◌, ◌^◌, ◌==◌, nat_lt, nat_le, not, if◌then◌else◌, Bool, true, false, cond, List, [], ◌++◌, map, length, get_or, set, replicate, take, Option, Some, None, is_some, is_none, ◌||◌, refl, sym, ap, ◌∙◌, arith, inl, inr, get_or-set_other, get_or-set_same}
use Rattle.std.proofs.Math.ListN.{get_or-map}
use Rattle.std.proofs.lemmas.List.{set-get_or, get_or_past, take-append-drop, length-set, map-set, length-map, map-append, drop-map, get_or-drop}
use Rattle.std.proofs.Math.Seq.{take-length}
use Rattle.std.proofs.lemmas.Option.{none-some, same_Some}
use Rattle.std.proofs.lemmas.Bool.{cases_lt, eqb-true}
use Rattle.std.proofs.lemmas.Bool.Decides.{eqb_tells}
use Rattle.std.specs.List.{position_or_len}
use Rattle.std.specs.Option.{option_copied, option_map, option_map_or, unwrap_or}
use Rattle.std.specs.Borrow.{Bor}
use Rattle.slab.specs.Slab.{Slab, ContainsKey, get, with_value, Updates}
use Rattle.iw_octets.specs.declared.stag.Stag.{Stag}
use Rattle.iw_memory.specs.declared.slots.Slot.{Slot}
use Rattle.iw_memory.specs.declared.refusal.DomainRefusal.TheVariants.{BadDomain, DomainTaken}
use Rattle.iw_memory.specs.declared.refusal.RegisterRefusal.{RegisterRefusal}
use Rattle.iw_memory.specs.declared.refusal.RegisterRefusal.TheVariants.{NoDomain, DomainFull, TooLong, BaseWrap}
use Rattle.iw_memory.specs.Region.{Region, Spans, IsWithinLimits, overlay, region_with, octets_from, made_invalid}
use Rattle.iw_memory.specs.Held.{Held}
use Rattle.iw_memory.specs.Part.{SlotState, unused, under_key, own_slot, free_slot, free_from, up_to}
use Rattle.iw_memory.specs.Table.{Table, empty, part_of, with_part, slots_of, region_at, with_slot, with_region, put, domain_refusal, register_refusal_within, is_added, added, next_stag, drawn_stag, registered_at, deregistered, invalidated, octets_at}
use Rattle.iw_memory.specs.Laws.{HoldsLimits, IsWithin}
use Rattle.iw_memory.specs.Inside.{Slots, no_places, table_of, states_of, state_of, region_in, slots_in, link_at, link_of, free, IsHeldFor, IsSound, AreShared, Keeps, SetsSlots, is_free, first_free, with_room_at}
use Rattle.iw_memory.proofs.ListLemmas.{map-replicate, map-same, map-set_others, set-set}
use Rattle.iw_memory.proofs.SlotLemmas.{domain_of_slot, domain_added, not_none, position_or_len-map}

pub table_of-empty : (regions : Slab Held) → table_of no_places regions ≡ empty
unfolding empty no_places
table_of-empty regions = map-replicate (states_of regions) 256 None

none_in : (n d : ℕ) → slots_in (replicate n None) d ≡ []
none_in zero d = refl
none_in (suc n) zero = refl
none_in (suc n) (suc d) = none_in n d

pub Keeps-empty : (domains : Slots) (regions : Slab Held) (limited : Bool) (nothing : List ℕ) → domains ≡ no_places → AreShared regions → nothing ≡ [] → Keeps domains regions limited nothing
unfolding no_places
Keeps-empty domains regions limited nothing none shared empty = record {
  shared = λ _. shared;
  sound = record {
    all_numbers = ap length none;
    no_zero = ap (λ ds. get_or ds 0 None) none;
    linked = λ d i k link. absurd (none-some k (sym (ap (λ (ss : List Slot). (get_or ss i free).at) (ap (λ ds. slots_in ds d) none ∙ none_in 256 d)) ∙ link));
    few = λ d. subst (λ (ss : List Slot). length ss ≤ 1024) (sym (ap (λ ds. slots_in ds d) none ∙ none_in 256 d)) (omega arith);
  };
  no_octets = ap length empty;
}

unwrap-states : (regions : Slab Held) (o : Option (List Slot)) → unwrap_or (states_of regions o) [] ≡ map (state_of regions) (unwrap_or o [])
unwrap-states regions None = refl
unwrap-states regions (Some v) = refl

pub slots_of-table_of : (domains : Slots) (regions : Slab Held) (d : ℕ) → slots_of (table_of domains regions) d ≡ map (state_of regions) (slots_in domains d)
slots_of-table_of domains regions d =
    ap (λ o. unwrap_or o []) (get_or-map (states_of regions) domains d None) ∙ unwrap-states regions (get_or domains d None)

under_key-state : (regions : Slab Held) (s : Slot) (key : ℕ) → under_key (state_of regions s) key ≡ region_in regions (cond (s.key == key) s.at None)
under_key-state regions s key = elim (s.key == key) as (λ b. cond b (region_in regions s.at) None ≡ region_in regions (cond b s.at None)) [ true ↦ refl | false ↦ refl ]

pub region_at-table_of : (domains : Slots) (regions : Slab Held) (stag : Stag) → region_at (table_of domains regions) stag ≡ region_in regions (link_of domains stag)
region_at-table_of domains regions stag =
    ap (λ ss. under_key (get_or ss stag.slot unused) stag.key) (slots_of-table_of domains regions stag.domain)
    ∙ ap (λ s. under_key s stag.key) (get_or-map (state_of regions) (slots_in domains stag.domain) stag.slot free)
    ∙ under_key-state regions (get_or (slots_in domains stag.domain) stag.slot free) stag.key

-- the slab has the same under each key that a slot other than slot i of domain d has
abbrev pub SameElsewhere : Slots → Slab Held → Slab Held → ℕ → ℕ → Type 0
SameElsewhere domains old new d i =
    (j m k : ℕ) → ((j ≡ d) → (m ≡ i) → ⊥) → link_at domains j m ≡ Some k → get new k ≡ get old k

same_region : (old new : Slab Held) (at : Option ℕ) → ((k : ℕ) → at ≡ Some k → get new k ≡ get old k) → region_in new at ≡ region_in old at
same_region old new None h = refl
same_region old new (Some k) h = ap (option_map (λ x. x.region)) (h k refl)

same_state : (old new : Slab Held) (s : Slot) → ((k : ℕ) → s.at ≡ Some k → get new k ≡ get old k) → state_of new s ≡ state_of old s
same_state old new s h = ap (λ r. record { key = s.key; region = r }) (same_region old new s.at h)

pub same_states : (old new : Slab Held) (o : Option (List Slot)) → ((m k : ℕ) → (get_or (unwrap_or o []) m free).at ≡ Some k → get new k ≡ get old k) → states_of new o ≡ states_of old o
same_states old new None h = refl
same_states old new (Some v) h = ap Some (map-same (state_of old) (state_of new) v free (λ m l. same_state old new (get_or v m free) (h m)))

-- one slot is changed, and what the slab has for the others stays
pub table_of-changed : (domains : Slots) (old new : Slab Held) (d i : ℕ) (v : List Slot) (s : Slot) → v ≡ set (slots_in domains d) i s → SameElsewhere domains old new d i → table_of (set domains d (Some v)) new ≡ with_slot (table_of domains old) d i (state_of new s)
table_of-changed domains old new d i v s items same =
    map-set_others (states_of old) (states_of new) domains d (Some v) None (λ j l ne. same_states old new (get_or domains j None) (λ m k e. same j m k (λ p q. ne p) e))
    ∙ ap (λ ss. set (table_of domains old) d (Some ss))
    (ap (map (state_of new)) items
    ∙ map-set_others (state_of old) (state_of new) (slots_in domains d) i s free (λ m l ne. same_state old new (get_or (slots_in domains d) m free) (λ k e. same d m k (λ p q. ne q) e))
    ∙ ap (λ ss. set ss i (state_of new s)) (sym (slots_of-table_of domains old d)))

-- ---- a stored region is changed in place

held_bound : (regions : Slab Held) (k : ℕ) (h : Held) → get regions k ≡ Some h → k < length regions.slots
held_bound regions k h e = elim (cases_lt k (length regions.slots)) [
  | inl within ↦ within
  | inr past ↦ absurd (none-some h (sym (get_or_past regions.slots k None past) ∙ e))
]

pub get-with_value_same : (regions : Slab Held) (k : ℕ) (h new : Held) → get regions k ≡ Some h → get (with_value regions k new) k ≡ Some new
get-with_value_same regions k h new e = get_or-set_same regions.slots k (Some new) None (held_bound regions k h e)

pub get-with_value_other : (regions : Slab Held) (k j : ℕ) (new : Held) → j ≢ k → get (with_value regions k new) j ≡ get regions j
get-with_value_other regions k j new ne = get_or-set_other regions.slots k j (Some new) None ne

-- a stored region belongs to one slot
pub link_unique : {domains : Slots} {regions : Slab Held} → IsSound domains regions → (d i j m k : ℕ) → link_at domains d i ≡ Some k → link_at domains j m ≡ Some k → (j ≡ d) × (m ≡ i)
link_unique sound d i j m k a b =
    let x = sound.linked d i k a in let y = sound.linked j m k b in
    let e : record { domain = j; slot = m; region = y.region } ≡ record { domain = d; slot = i; region = x.region } = same_Some _ _ (sym y.held ∙ x.held) in
    (ap (λ (h : Held). h.domain) e, ap (λ (h : Held). h.slot) e)

cond_at : (b : Bool) (o : Option ℕ) (k : ℕ) → cond b o None ≡ Some k → (b ≡ true) × (o ≡ Some k)
cond_at true o k e = (refl, e)
cond_at false o k e = absurd (none-some k e)

-- what an STag that names a region says of its slot
pub link_of_slot : (domains : Slots) (stag : Stag) (k : ℕ) → link_of domains stag ≡ Some k → ((get_or (slots_in domains stag.domain) stag.slot free).key == stag.key ≡ true) × (link_at domains stag.domain stag.slot ≡ Some k)
link_of_slot domains stag k e = cond_at _ _ k e

same_outside : {domains : Slots} {regions : Slab Held} → IsSound domains regions → (d i k : ℕ) (new : Held) → link_at domains d i ≡ Some k → SameElsewhere domains regions (with_value regions k new) d i
same_outside {domains} {regions} sound d i k new at j m l elsewhere e =
    get-with_value_other regions k l new (λ (same : l ≡ k). let two = link_unique sound d i j m k at (e ∙ ap Some same) in elsewhere two.0 two.1)

-- the region that an STag names is changed, and its slot stays
pub table_of-with_value : {domains : Slots} {regions : Slab Held} → IsSound domains regions → (stag : Stag) (k : ℕ) (h new : Held) → link_of domains stag ≡ Some k → get regions k ≡ Some h →
    table_of domains (with_value regions k new) ≡ with_slot (table_of domains regions) stag.domain stag.slot (record { key = stag.key; region = Some new.region })
table_of-with_value {domains} {regions} sound stag k h new link held =
    let slot = link_of_slot domains stag k link in
    let s = get_or (slots_in domains stag.domain) stag.slot free in
    elim (get_or domains stag.domain None) as (λ o. get_or domains stag.domain None ≡ o → table_of domains (with_value regions k new) ≡ with_slot (table_of domains regions) stag.domain stag.slot (record { key = stag.key; region = Some new.region })) [
      | None ↦ λ e. absurd (none-some k (sym (ap (λ (o : Option (List Slot)). (get_or (unwrap_or o []) stag.slot free).at) e) ∙ slot.1))
      | Some v ↦ λ e.
          let items : v ≡ slots_in domains stag.domain = ap (λ (o : Option (List Slot)). unwrap_or o []) (sym e) in
          let whole : set domains stag.domain (Some v) ≡ domains = ap (set domains stag.domain) (sym e) ∙ set-get_or domains stag.domain None in
          let same : state_of (with_value regions k new) s ≡ record { key = stag.key; region = Some new.region } =
          λ i. record { key = eqb-true s.key stag.key slot.0 i; region = (ap (region_in (with_value regions k new)) slot.1 ∙ ap (option_map (λ h. h.region)) (get-with_value_same regions k h new held)) i } in
          ap (λ ds. table_of ds (with_value regions k new)) (sym whole)
          ∙ table_of-changed domains regions (with_value regions k new) stag.domain stag.slot v s (items ∙ sym (set-get_or (slots_in domains stag.domain) stag.slot free)) (same_outside sound stag.domain stag.slot k new slot.1)
          ∙ ap (with_slot (table_of domains regions) stag.domain stag.slot) same
    ] refl

-- what an STag names is what is stored for it
pub region_at-held : (domains : Slots) (regions : Slab Held) (stag : Stag) (k : ℕ) (h : Held) → link_of domains stag ≡ Some k → get regions k ≡ Some h → region_at (table_of domains regions) stag ≡ Some h.region
region_at-held domains regions stag k h link held =
    region_at-table_of domains regions stag ∙ ap (region_in regions) link ∙ ap (option_map (λ x. x.region)) held

-- the region that is found is changed
pub with_region-found : (table : Table) (stag : Stag) (change : Region → Region) (r : Region) → region_at table stag ≡ Some r →
    with_region table stag change ≡ with_slot table stag.domain stag.slot (record { key = stag.key; region = Some (change r) })
with_region-found table stag change r found =
    let part = part_of table stag.domain in
    ap (λ o. with_part table stag.domain (option_map_or (λ r. own_slot part stag.slot (record { key = stag.key; region = Some (change r) })) o part)) found

pub table_of-change : {domains : Slots} {regions : Slab Held} → IsSound domains regions → (stag : Stag) (k : ℕ) (h new : Held) (change : Region → Region) → link_of domains stag ≡ Some k → get regions k ≡ Some h → new.region ≡ change h.region →
    table_of domains (with_value regions k new) ≡ with_region (table_of domains regions) stag change
table_of-change {domains} {regions} sound stag k h new change link held is =
    table_of-with_value sound stag k h new link held
    ∙ ap (λ r. with_slot (table_of domains regions) stag.domain stag.slot (record { key = stag.key; region = Some r })) is
    ∙ sym (with_region-found (table_of domains regions) stag change h.region (region_at-held domains regions stag k h link held))

kept_limits : {a b m n : ℕ} → IsWithinLimits a m → b ≡ a → n ≡ m → IsWithinLimits b n
kept_limits {a} {b} {m} {n} limits base len = subst (λ x. IsWithinLimits x n) (sym base) (subst (λ x. IsWithinLimits a x) (sym len) limits)

-- a stored region that still belongs to its slot, and has as many octets from the same base on
pub IsSound-with_value : {domains : Slots} {regions : Slab Held} → IsSound domains regions → (k : ℕ) (h new : Held) → get regions k ≡ Some h → new.domain ≡ h.domain → new.slot ≡ h.slot →
    new.region.base ≡ h.region.base → length new.region.octets ≡ length h.region.octets → IsSound domains (with_value regions k new)
IsSound-with_value {domains} {regions} sound k h new held domain slot base len = record {
  all_numbers = sound.all_numbers;
  no_zero = sound.no_zero;
  linked = λ d i j link.
      let old = sound.linked d i j link in
      elim (eqb_tells j k) [
        | inl same ↦
            let e : h ≡ record { domain = d; slot = i; region = old.region } = same_Some _ _ (sym held ∙ ap (get regions) (sym same.1) ∙ old.held) in
            record {
              region = new.region;
              held = ap (get (with_value regions k new)) same.1 ∙ get-with_value_same regions k h new held ∙ ap Some (λ t. record { domain = (domain ∙ ap (λ (x : Held). x.domain) e) t; slot = (slot ∙ ap (λ (x : Held). x.slot) e) t; region = new.region });
              limits = kept_limits old.limits (base ∙ ap (λ (x : Held). x.region.base) e) (len ∙ ap (λ (x : Held). length x.region.octets) e);
            }
        | inr other ↦ record { region = old.region; held = get-with_value_other regions k j new other.1 ∙ old.held; limits = old.limits }
      ];
  few = sound.few;
}

-- ---- a part of no octets

overlay-nothing : (xs : List ℕ) (at : ℕ) → overlay xs at [] ≡ xs
overlay-nothing xs at = ap (take (length xs)) (take-append-drop at xs) ∙ take-length xs

pub nothing_under : (b : Bool) (r : Region) → cond b None None ≡ Some r → ⊥
nothing_under true r e = none-some r e
nothing_under false r e = none-some r e

-- a domain that has a region was added
pub slots_are : (o : Option (List SlotState)) (i key : ℕ) (r : Region) → under_key (get_or (unwrap_or o []) i unused) key ≡ Some r → o ≡ Some (unwrap_or o [])
slots_are None i key r e = absurd (nothing_under (0 == key) r e)
slots_are (Some ss) i key r e = refl

pub cond_region : (b : Bool) (o : Option Region) (r : Region) → cond b o None ≡ Some r → (b ≡ true) × (o ≡ Some r)
cond_region true o r e = (refl, e)
cond_region false o r e = absurd (none-some r e)

-- a region written back as it is
pub with_slot-same : (table : Table) (stag : Stag) (r : Region) → region_at table stag ≡ Some r → with_slot table stag.domain stag.slot (record { key = stag.key; region = Some r }) ≡ table
with_slot-same table stag r found =
    let s = get_or (slots_of table stag.domain) stag.slot unused in
    let named = cond_region (s.key == stag.key) s.region r found in
    let same : record { key = stag.key; region = Some r } ≡ s = λ i. record { key = sym (eqb-true s.key stag.key named.0) i; region = sym named.1 i } in
    ap (λ t. set table stag.domain (Some (set (slots_of table stag.domain) stag.slot t))) same
    ∙ ap (λ ss. set table stag.domain (Some ss)) (set-get_or (slots_of table stag.domain) stag.slot unused)
    ∙ ap (set table stag.domain) (sym (slots_are (get_or table stag.domain None) stag.slot stag.key r found))
    ∙ set-get_or table stag.domain None

-- a domain's part put back as it is
pub with_part-same : (table : Table) (domain : ℕ) → with_part table domain (part_of table domain) ≡ table
with_part-same table domain = set-get_or table domain None

-- where the STag names none, the table stays
pub with_region-none : (table : Table) (stag : Stag) (change : Region → Region) → region_at table stag ≡ None → with_region table stag change ≡ table
with_region-none table stag change none =
    let part = part_of table stag.domain in
    ap (λ o. with_part table stag.domain (option_map_or (λ r. own_slot part stag.slot (record { key = stag.key; region = Some (change r) })) o part)) none
    ∙ with_part-same table stag.domain

pub deregistered-none : (table : Table) (stag : Stag) → region_at table stag ≡ None → deregistered table stag ≡ table
deregistered-none table stag none =
    let part = part_of table stag.domain in
    ap (λ o. with_part table stag.domain (option_map_or (λ r. own_slot part stag.slot (record { key = (stag.key + 1) % 256; region = None })) o part)) none
    ∙ with_part-same table stag.domain

pub deregistered-found : (table : Table) (stag : Stag) (r : Region) → region_at table stag ≡ Some r → deregistered table stag ≡ with_slot table stag.domain stag.slot (record { key = (stag.key + 1) % 256; region = None })
deregistered-found table stag r found =
    let part = part_of table stag.domain in
    ap (λ o. with_part table stag.domain (option_map_or (λ r. own_slot part stag.slot (record { key = (stag.key + 1) % 256; region = None })) o part)) found

with_region-same : (table : Table) (stag : Stag) (change : Region → Region) (o : Option Region) → region_at table stag ≡ o → ((r : Region) → change r ≡ r) → with_region table stag change ≡ table
with_region-same table stag change None found same = with_region-none table stag change found
with_region-same table stag change (Some r) found same =
    with_region-found table stag change r found
    ∙ ap (λ x. with_slot table stag.domain stag.slot (record { key = stag.key; region = Some x })) (same r) ∙ with_slot-same table stag r found

-- with no octets it is the table itself, whatever the STag
pub put-nothing : (table : Table) (stag : Stag) (to : ℕ) → put table stag to [] ≡ table
put-nothing table stag to =
    with_region-same table stag (λ r. region_with r to []) (region_at table stag) refl
    (λ r. ap (λ xs. record r { octets = xs }) (overlay-nothing r.octets (to - r.base)))

-- ---- slots and the slab change together

pub held_at : {domains : Slots} {regions : Slab Held} → IsSound domains regions → (stag : Stag) (k : ℕ) → link_of domains stag ≡ Some k → IsHeldFor regions k stag.domain stag.slot
held_at {domains} {regions} sound stag k link = sound.linked stag.domain stag.slot k (link_of_slot domains stag k link).1

-- the slab has the same values
pub IsSound-same_get : {domains : Slots} {old new : Slab Held} → IsSound domains old → ((k : ℕ) → get new k ≡ get old k) → IsSound domains new
IsSound-same_get sound same = record {
  all_numbers = sound.all_numbers;
  no_zero = sound.no_zero;
  linked = λ d i k link. let old = sound.linked d i k link in record { region = old.region; held = same k ∙ old.held; limits = old.limits };
  few = sound.few;
}

pub table_of-same_get : (domains : Slots) (old new : Slab Held) → ((k : ℕ) → get new k ≡ get old k) → table_of domains new ≡ table_of domains old
table_of-same_get domains old new same =
    map-same (states_of old) (states_of new) domains None (λ j l. same_states old new (get_or domains j None) (λ m k e. same k))

slots_in-set_same : (domains : Slots) (d : ℕ) (v : List Slot) → d < length domains → slots_in (set domains d (Some v)) d ≡ v
slots_in-set_same domains d v within = ap (λ (o : Option (List Slot)). unwrap_or o []) (get_or-set_same domains d (Some v) None within)

slots_in-set_other : (domains : Slots) (d j : ℕ) (v : List Slot) → j ≢ d → slots_in (set domains d (Some v)) j ≡ slots_in domains j
slots_in-set_other domains d j v ne = ap (λ (o : Option (List Slot)). unwrap_or o []) (get_or-set_other domains d j (Some v) None ne)

-- the slots of each domain after a change of one domain's
pub slots_in-sets : {old new : Slots} {d : ℕ} {items : List Slot} → SetsSlots old new d items → d < length old → slots_in new d ≡ items
slots_in-sets {old} {new} {d} {items} sets within = ap (λ ds. slots_in ds d) sets.after ∙ slots_in-set_same old d items within

pub slots_in-sets_other : {old new : Slots} {d : ℕ} {items : List Slot} → SetsSlots old new d items → (j : ℕ) → j ≢ d → slots_in new j ≡ slots_in old j
slots_in-sets_other {old} {new} {d} {items} sets j ne = ap (λ ds. slots_in ds j) sets.after ∙ slots_in-set_other old d j items ne

few_sets : {old new : Slots} {d : ℕ} {items : List Slot} → ((j : ℕ) → length (slots_in old j) ≤ 1024) → d < length old → SetsSlots old new d items → length items ≤ 1024 → (j : ℕ) → length (slots_in new j) ≤ 1024
few_sets {old} {new} {d} {items} few within sets small j = elim (eqb_tells j d) [
  | inl here ↦ subst (λ (ss : List Slot). length ss ≤ 1024) (sym (ap (slots_in new) here.1 ∙ slots_in-sets sets within)) small
  | inr other ↦ subst (λ (ss : List Slot). length ss ≤ 1024) (sym (slots_in-sets_other sets j other.1)) (few j)
]

length-sets : {old new : Slots} {d : ℕ} {items : List Slot} → SetsSlots old new d items → length new ≡ length old
length-sets {old} {new} {d} {items} sets = ap length sets.after ∙ length-set old d (Some items)

no_zero-sets : {old new : Slots} {d : ℕ} {items : List Slot} → get_or old 0 None ≡ None → SetsSlots old new d items → 0 ≢ d → get_or new 0 None ≡ None
no_zero-sets {old} {new} {d} {items} none sets ne = ap (λ ds. get_or ds 0 None) sets.after ∙ get_or-set_other old d 0 (Some items) None ne ∙ none

no_slots : {n i : ℕ} → n ≡ 0 → i < n → ⊥
no_slots none within = omega (arith, none, within)

-- a slot is set: its region is in the slab, and the regions of the others stay
pub IsSound-set_slot : {old new : Slots} {regions after : Slab Held} → IsSound old regions → (d i : ℕ) (s : Slot) → SetsSlots old new d (set (slots_in old d) i s) → i < length (slots_in old d) → SameElsewhere old regions after d i → ((k : ℕ) → s.at ≡ Some k → IsHeldFor after k d i) → IsSound new after
IsSound-set_slot {old} {new} {regions} {after} sound d i s sets within same held =
    let moved = λ (j m k : ℕ) (ne : (j ≡ d) → (m ≡ i) → ⊥) (link : link_at old j m ≡ Some k). let r = sound.linked j m k link in let p : IsHeldFor after k j m = record { region = r.region; held = same j m k ne link ∙ r.held; limits = r.limits } in p in
    record {
      all_numbers = length-sets sets ∙ sound.all_numbers;
      no_zero = no_zero-sets sound.no_zero sets (λ e. no_slots (ap (λ d. length (slots_in old d)) (sym e) ∙ ap (λ (o : Option (List Slot)). length (unwrap_or o [])) sound.no_zero) within);
      linked = λ j m k link. elim (eqb_tells j d) [
        | inr other ↦ moved j m k (λ e _. other.1 e) (ap (λ (ss : List Slot). (get_or ss m free).at) (sym (slots_in-sets_other sets j other.1)) ∙ link)
        | inl here ↦
            let now : (get_or (set (slots_in old d) i s) m free).at ≡ Some k =
            ap (λ (ss : List Slot). (get_or ss m free).at) (sym (slots_in-sets sets (domain_of_slot old d i within))) ∙ ap (λ j. link_at new j m) (sym here.1) ∙ link in
            elim (eqb_tells m i) [
              | inl at ↦
                  let is : s.at ≡ Some k = ap (λ (t : Slot). t.at) (sym (get_or-set_same (slots_in old d) i s free within)) ∙ ap (λ m. (get_or (set (slots_in old d) i s) m free).at) (sym at.1) ∙ now in
                  let h = held k is in
                  record { region = h.region; held = h.held ∙ ap Some (λ t. record { domain = sym here.1 t; slot = sym at.1 t; region = h.region }); limits = h.limits }
              | inr off ↦ moved j m k (λ _ e. off.1 e) (ap (λ j. link_at old j m) here.1 ∙ ap (λ (t : Slot). t.at) (sym (get_or-set_other (slots_in old d) i m s free off.1)) ∙ now)
            ]
      ];
      few = few_sets sound.few (domain_of_slot old d i within) sets (subst (λ (n : ℕ). n ≤ 1024) (sym (length-set (slots_in old d) i s)) (sound.few d));
    }

-- a slot is set, as the table tells it
pub table_of-set_slot : (old new : Slots) (regions after : Slab Held) (d i : ℕ) (s : Slot) → SetsSlots old new d (set (slots_in old d) i s) → SameElsewhere old regions after d i → table_of new after ≡ with_slot (table_of old regions) d i (state_of after s)
table_of-set_slot old new regions after d i s sets same =
    ap (λ ds. table_of ds after) sets.after ∙ table_of-changed old regions after d i (set (slots_in old d) i s) s refl same

-- the slab without the region that the STag names has the others
pub same_after_removal : {domains : Slots} {regions after : Slab Held} → IsSound domains regions → (stag : Stag) (k : ℕ) → link_of domains stag ≡ Some k → Updates regions after k None → SameElsewhere domains regions after stag.domain stag.slot
same_after_removal {domains} sound stag k link updates j m l elsewhere e =
    updates.others l (λ (same : l ≡ k). let two = link_unique sound stag.domain stag.slot j m k (link_of_slot domains stag k link).1 (e ∙ ap Some same) in elsewhere two.0 two.1)

-- a slot that an STag names is there
pub slot_within : (domains : Slots) (stag : Stag) (k : ℕ) → link_of domains stag ≡ Some k → stag.slot < length (slots_in domains stag.domain)
slot_within domains stag k link = elim (cases_lt stag.slot (length (slots_in domains stag.domain))) [
  | inl within ↦ within
  | inr past ↦ absurd (none-some k (sym (ap (λ (s : Slot). s.at) (get_or_past (slots_in domains stag.domain) stag.slot free past)) ∙ (link_of_slot domains stag k link).1))
]

-- where the code found no region, the table has none
pub region_at-none : {table : Table} {found : Option ℕ} (domains : Slots) (regions : Slab Held) (stag : Stag) → found ≡ link_of domains stag → found ≡ None → table_of domains regions ≡ table → region_at table stag ≡ None
region_at-none domains regions stag link is view =
    ap (λ t. region_at t stag) (sym view) ∙ region_at-table_of domains regions stag ∙ ap (region_in regions) (sym link ∙ is)

some_place : (regions : Slab Held) (at : Option ℕ) → IsSome (region_in regions at) → IsSome at
some_place regions None some = some
some_place regions (Some k) some = refl

-- where the table has a region, the code finds it
pub found_where : {table : Table} {found : Option ℕ} (domains : Slots) (regions : Slab Held) (stag : Stag) → found ≡ link_of domains stag → table_of domains regions ≡ table → IsSome (region_at table stag) → IsSome found
found_where domains regions stag link view some =
    let there : IsSome (region_in regions (link_of domains stag)) = subst IsSome (ap (λ t. region_at t stag) (sym view) ∙ region_at-table_of domains regions stag) some in
    subst IsSome (sym link) (some_place regions (link_of domains stag) there)

-- a part of a region lies in one
pub some_within : (table : Table) (stag : Stag) (to n : ℕ) → IsWithin table stag to n → IsSome (region_at table stag)
some_within table stag to n within = go (region_at table stag) within
  where
    go : (o : Option Region) → IsSomeAnd o (λ r. Spans r to n) → IsSome o
    go None h = absurd h
    go (Some r) h = refl

region_copied : (o : Option (Bor Held)) → option_map (λ s. s.now.region) o ≡ option_map (λ h. h.region) (option_copied o)
region_copied None = refl
region_copied (Some s) = refl

-- what the code looked up is the region that the STag names
pub region_seen : {table : Table} (domains : Slots) (regions : Slab Held) (stag : Stag) (k : ℕ) (o : Option (Bor Held)) → link_of domains stag ≡ Some k → option_copied o ≡ get regions k → table_of domains regions ≡ table → option_map (λ s. s.now.region) o ≡ region_at table stag
region_seen domains regions stag k o link seen view =
    region_copied o ∙ ap (option_map (λ h. h.region)) seen ∙ ap (region_in regions) (sym link) ∙ sym (region_at-table_of domains regions stag) ∙ ap (λ t. region_at t stag) view

-- the slab has a region where the code found one
pub stored_at : {domains : Slots} {regions : Slab Held} → IsSound domains regions → (stag : Stag) (k : ℕ) → link_of domains stag ≡ Some k → ContainsKey regions k
stored_at sound stag k link = ap is_some (held_at sound stag k link).held

pub octets-held : {table : Table} (domains : Slots) (regions : Slab Held) (stag : Stag) (k : ℕ) (h : Held) → link_of domains stag ≡ Some k → get regions k ≡ Some h → table_of domains regions ≡ table
    → Some h.region.octets ≡ option_map (λ r. r.octets) (region_at table stag)
octets-held {table} domains regions stag k h link held view =
    sym (ap (option_map (λ (r : Region). r.octets)) (region_at-held domains regions stag k h link held)) ∙ ap (λ t. option_map (λ (r : Region). r.octets) (region_at t stag)) view

pub part-held : {table : Table} (domains : Slots) (regions : Slab Held) (stag : Stag) (to n k : ℕ) (h : Held) → link_of domains stag ≡ Some k → get regions k ≡ Some h → table_of domains regions ≡ table
    → octets_from h.region to n ≡ octets_at table stag to n
part-held {table} domains regions stag to n k h link held view =
    sym (ap (λ o. option_map_or (λ r. octets_from r to n) o []) (region_at-held domains regions stag k h link held)) ∙ ap (λ t. octets_at t stag to n) view

-- the region that the STag names is taken out, and its slot is free under the next key
pub table_of-taken : {old new : Slots} {regions after : Slab Held} {table : Table} → IsSound old regions → (stag : Stag) (k : ℕ) (h : Held) → link_of old stag ≡ Some k → get regions k ≡ Some h → Updates regions after k None
    → SetsSlots old new stag.domain (set (slots_in old stag.domain) stag.slot (record { key = (stag.key + 1) % 256; at = None })) → table_of old regions ≡ table → table_of new after ≡ deregistered table stag
table_of-taken {old} {new} {regions} {after} {table} sound stag k h link held updates sets view =
    table_of-set_slot old new regions after stag.domain stag.slot (record { key = (stag.key + 1) % 256; at = None }) sets (same_after_removal sound stag k link updates)
    ∙ sym (deregistered-found (table_of old regions) stag h.region (region_at-held old regions stag k h link held))
    ∙ ap (λ t. deregistered t stag) view

pub IsSound-taken : {old new : Slots} {regions after : Slab Held} → IsSound old regions → (stag : Stag) (k key : ℕ) → link_of old stag ≡ Some k → Updates regions after k None
    → SetsSlots old new stag.domain (set (slots_in old stag.domain) stag.slot (record { key = key; at = None })) → IsSound new after
IsSound-taken {old} sound stag k key link updates sets =
    IsSound-set_slot sound stag.domain stag.slot (record { key = key; at = None }) sets (slot_within old stag k link) (same_after_removal sound stag k link updates) (λ k e. absurd (none-some k e))

-- the region that the STag names is changed, where its view was this
pub changed-held : {domains : Slots} {regions : Slab Held} {table : Table} → IsSound domains regions → (stag : Stag) (k : ℕ) (h new : Held) (change : Region → Region) → link_of domains stag ≡ Some k → get regions k ≡ Some h
    → new.region ≡ change h.region → table_of domains regions ≡ table → table_of domains (with_value regions k new) ≡ with_region table stag change
changed-held sound stag k h new change link held is view = table_of-change sound stag k h new change link held is ∙ ap (λ t. with_region t stag change) view

-- the region that the STag names is invalidated
pub table_of-invalid : {domains : Slots} {regions : Slab Held} {table : Table} → IsSound domains regions → (stag : Stag) (k : ℕ) (h seen : Held) → link_of domains stag ≡ Some k → get regions k ≡ Some h → seen ≡ h → table_of domains regions ≡ table
    → table_of domains (with_value regions k (record seen { region = made_invalid seen.region })) ≡ invalidated table stag
table_of-invalid sound stag k h seen link held same view = changed-held sound stag k h (record seen { region = made_invalid seen.region }) made_invalid link held (ap (λ (x : Held). made_invalid x.region) same) view

pub IsSound-validity : {domains : Slots} {regions : Slab Held} → IsSound domains regions → (k : ℕ) (h seen : Held) (valid : Bool) → get regions k ≡ Some h → seen ≡ h
    → IsSound domains (with_value regions k (record seen { region = record seen.region { valid = valid } }))
IsSound-validity sound k h seen valid held same =
    IsSound-with_value sound k h (record seen { region = record seen.region { valid = valid } }) held (ap (λ (x : Held). x.domain) same) (ap (λ (x : Held). x.slot) same) (ap (λ (x : Held). x.region.base) same) (ap (λ (x : Held). length x.region.octets) same)

-- ---- a domain is added, and a region

-- a free slot of the code is one of the table
free-state : {domains : Slots} {regions : Slab Held} → IsSound domains regions → (d i : ℕ) → is_none (state_of regions (get_or (slots_in domains d) i free)).region ≡ is_free (get_or (slots_in domains d) i free)
free-state {domains} {regions} sound d i = go (link_at domains d i) refl
  where
    go : (o : Option ℕ) → link_at domains d i ≡ o → is_none (region_in regions o) ≡ is_none o
    go None e = refl
    go (Some k) e = ap (λ (h : Option Held). is_none (option_map (λ x. x.region) h)) (sound.linked d i k e).held

pub free_slot-table_of : {domains : Slots} {regions : Slab Held} → IsSound domains regions → (d : ℕ) → free_slot (slots_of (table_of domains regions) d) ≡ position_or_len is_free (slots_in domains d)
free_slot-table_of {domains} {regions} sound d =
    ap free_slot (slots_of-table_of domains regions d)
    ∙ position_or_len-map (state_of regions) is_free (λ s. is_none s.region) (slots_in domains d) free (λ j l. free-state sound d j)

is_some-states : (regions : Slab Held) (o : Option (List Slot)) → is_some (states_of regions o) ≡ is_some o
is_some-states regions None = refl
is_some-states regions (Some v) = refl

pub is_added-table_of : (domains : Slots) (regions : Slab Held) (d : ℕ) → is_added (table_of domains regions) d ≡ is_some (get_or domains d None)
is_added-table_of domains regions d = ap is_some (get_or-map (states_of regions) domains d None) ∙ is_some-states regions (get_or domains d None)

-- a domain gets an empty list of slots
pub table_of-added : (old new : Slots) (regions : Slab Held) (d : ℕ) → SetsSlots old new d [] → table_of new regions ≡ added (table_of old regions) d
table_of-added old new regions d sets = ap (λ ds. table_of ds regions) sets.after ∙ map-set (states_of regions) old d (Some [])

pub IsSound-added : {old new : Slots} {regions : Slab Held} → IsSound old regions → (d : ℕ) → d ≢ 0 → d < length old → SetsSlots old new d [] → IsSound new regions
IsSound-added {old} {new} {regions} sound d ne within sets = record {
  all_numbers = length-sets sets ∙ sound.all_numbers;
  no_zero = no_zero-sets sound.no_zero sets (λ e. ne (sym e));
  linked = λ j m k link. elim (eqb_tells j d) [
    | inr other ↦ sound.linked j m k (ap (λ (ss : List Slot). (get_or ss m free).at) (sym (slots_in-sets_other sets j other.1)) ∙ link)
    | inl here ↦ absurd (none-some k (sym (ap (λ j. link_at new j m) here.1 ∙ ap (λ (ss : List Slot). (get_or ss m free).at) (slots_in-sets sets within)) ∙ link))
  ];
  few = few_sets sound.few within sets (omega arith);
}

-- why a domain is not added, by what the code read of it
pub domain_refusal-read : (domains : Slots) (regions : Slab Held) (table : Table) (d : ℕ) (b : Bool) → d ≢ 0 → b ≡ is_some (get_or domains d None) → table_of domains regions ≡ table
    → domain_refusal table d ≡ (if b then Some DomainTaken else None)
domain_refusal-read domains regions table d b ne is view =
    let added : b ≡ is_added table d = is ∙ sym (is_added-table_of domains regions d) ∙ ap (λ t. is_added t d) view in
    let some : (d == 0) ≡ false = elim (eqb_tells d 0) [ inl same ↦ absurd (ne same.1) | inr other ↦ other.0 ] in
    (λ i. if (some i) then Some BadDomain else (if (sym added i) then Some DomainTaken else None))

-- what the code finds of a domain's lowest free slot
free_known : (o : Option (List Slot)) (slot : ℕ) → option_map (position_or_len is_free) o ≡ Some slot → (is_some o ≡ true) × (position_or_len is_free (unwrap_or o []) ≡ slot)
free_known None slot e = absurd (none-some slot e)
free_known (Some v) slot e = (refl, same_Some _ _ e)

pub place_known : {domains : Slots} {regions : Slab Held} → IsSound domains regions → (d slot : ℕ) → option_map (position_or_len is_free) (get_or domains d None) ≡ Some slot →
    (is_added (table_of domains regions) d ≡ true) × (free_slot (slots_of (table_of domains regions) d) ≡ slot)
place_known {domains} {regions} sound d slot e =
    let known = free_known (get_or domains d None) slot e in
    (is_added-table_of domains regions d ∙ known.0, free_slot-table_of sound d ∙ known.1)

-- the refusals behind the first
abbrev pub refusal_at : ℕ → ℕ → ℕ → ℕ → Option RegisterRefusal
refusal_at most slot base len =
    if nat_le 1024 slot then Some DomainFull else
    (if nat_lt most len then Some TooLong else
    (if nat_lt (2 ^ 64) (base + len) then Some BaseWrap else None))

pub register_refusal-known : (most : ℕ) (table : Table) (d base len slot : ℕ) → is_added table d ≡ true → free_slot (slots_of table d) ≡ slot
    → register_refusal_within most table d base len ≡ refusal_at most slot base len
register_refusal-known most table d base len slot there first =
    ap (λ b. if not b then Some NoDomain else refusal_at most (free_slot (slots_of table d)) base len) there ∙ ap (λ i. refusal_at most i base len) first

pub register_refusal-absent : (most : ℕ) (table : Table) (d base len : ℕ) → is_added table d ≡ false → register_refusal_within most table d base len ≡ Some NoDomain
register_refusal-absent most table d base len absent = ap (λ b. if not b then Some NoDomain else refusal_at most (free_slot (slots_of table d)) base len) absent

-- the links stay
pub IsSound-same_links : {old new : Slots} {regions : Slab Held} → IsSound old regions → (d : ℕ) (items : List Slot) → IsTrue (is_some (get_or old d None)) → SetsSlots old new d items → length items ≤ 1024 → ((m : ℕ) → get_or items m free ≡ get_or (slots_in old d) m free) → IsSound new regions
IsSound-same_links {old} {new} {regions} sound d items there sets small same = let within = domain_added old d there in record {
  all_numbers = length-sets sets ∙ sound.all_numbers;
  no_zero = no_zero-sets sound.no_zero sets (λ e. not_none (get_or old d None) (ap (λ d. get_or old d None) (sym e) ∙ sound.no_zero) there);
  linked = λ j m k link. elim (eqb_tells j d) [
    | inr other ↦ sound.linked j m k (ap (λ (ss : List Slot). (get_or ss m free).at) (sym (slots_in-sets_other sets j other.1)) ∙ link)
    | inl here ↦
        let now : link_at old d m ≡ Some k = ap (λ (t : Slot). t.at) (sym (same m)) ∙ ap (λ (ss : List Slot). (get_or ss m free).at) (sym (slots_in-sets sets within)) ∙ ap (λ j. link_at new j m) (sym here.1) ∙ link in
        sound.linked j m k (ap (λ j. link_at old j m) here.1 ∙ now)
  ];
  few = few_sets sound.few within sets small;
}

pub table_of-sets : (old new : Slots) (regions : Slab Held) (d : ℕ) (items : List Slot) → SetsSlots old new d items → table_of new regions ≡ set (table_of old regions) d (Some (map (state_of regions) items))
table_of-sets old new regions d items sets =
    ap (λ ds. table_of ds regions) sets.after ∙ map-set (states_of regions) old d (Some items)

-- room among the slots is room among the table's
states-with_room : (regions : Slab Held) (slots : List Slot) (i : ℕ) → map (state_of regions) (with_room_at slots i) ≡ up_to (map (state_of regions) slots) i
states-with_room regions slots i =
    map-append (state_of regions) slots (replicate (i + 1 - length slots) free)
    ∙ ap (λ more. map (state_of regions) slots ++ more) (map-replicate (state_of regions) (i + 1 - length slots) free)
    ∙ ap (λ n. map (state_of regions) slots ++ replicate (i + 1 - n) unused) (sym (length-map slots (state_of regions)))

-- a region is stored where no slot links to, and a slot gets it
pub table_of-registered : (old mid new : Slots) (before after : Slab Held) (stag : Stag) (k : ℕ) (h : Held) → stag.domain < length old →
    SetsSlots old mid stag.domain (with_room_at (slots_in old stag.domain) stag.slot) → SetsSlots mid new stag.domain (set (slots_in mid stag.domain) stag.slot (record { key = stag.key; at = Some k })) →
    SameElsewhere mid before after stag.domain stag.slot → get after k ≡ Some h →
    table_of new after ≡ registered_at (table_of old before) stag h.region
table_of-registered old mid new before after stag k h within room sets same held =
    let table = table_of old before in let d = stag.domain in let i = stag.slot in
    let middle : table_of mid before ≡ set table d (Some (map (state_of before) (with_room_at (slots_in old d) i))) = table_of-sets old mid before d (with_room_at (slots_in old d) i) room in
    let slots : slots_of (table_of mid before) d ≡ up_to (slots_of table d) i =
    slots_of-table_of mid before d ∙ ap (map (state_of before)) (slots_in-sets room within)
    ∙ states-with_room before (slots_in old d) i
    ∙ ap (λ ss. up_to ss i) (sym (slots_of-table_of old before d)) in
    let stored : state_of after (record { key = stag.key; at = Some k }) ≡ record { key = stag.key; region = Some h.region } =
    λ t. record { key = stag.key; region = ap (option_map (λ x. x.region)) held t } in
    table_of-set_slot mid new before after d i (record { key = stag.key; at = Some k }) sets same
    ∙ ap (with_slot (table_of mid before) d i) stored
    ∙ ap (λ ss. set (table_of mid before) d (Some (set ss i (record { key = stag.key; region = Some h.region })))) slots
    ∙ ap (λ t. set t d (Some (set (up_to (slots_of table d) i) i (record { key = stag.key; region = Some h.region })))) middle
    ∙ set-set table d _ _

-- the key that a slot has, and the free slots, as the table tells them
pub key-table_of : (domains : Slots) (regions : Slab Held) (d i : ℕ) → (get_or (slots_of (table_of domains regions) d) i unused).key ≡ (get_or (slots_in domains d) i free).key
key-table_of domains regions d i =
    ap (λ (ss : List SlotState). (get_or ss i unused).key) (slots_of-table_of domains regions d)
    ∙ ap (λ (s : SlotState). s.key) (get_or-map (state_of regions) (slots_in domains d) i free)

pub free_from-table_of : {domains : Slots} {regions : Slab Held} → IsSound domains regions → (d place : ℕ) → free_from (slots_of (table_of domains regions) d) place ≡ first_free (slots_in domains d) place
free_from-table_of {domains} {regions} sound d place =
    let slots = slots_in domains d in
    let rest : free_slot (drop place (slots_of (table_of domains regions) d)) ≡ position_or_len is_free (drop place slots) =
    ap (λ ss. free_slot (drop place ss)) (slots_of-table_of domains regions d)
    ∙ ap free_slot (drop-map (state_of regions) place slots)
    ∙ position_or_len-map (state_of regions) is_free (λ s. is_none s.region) (drop place slots) free (λ j l.
    ap (λ (s : Slot). is_none (region_in regions s.at)) (get_or-drop place slots j free)
    ∙ free-state sound d (place + j)
    ∙ ap is_free (sym (get_or-drop place slots j free))) in
    (λ t. if nat_lt (place + rest t) 1024 then place + rest t else free_slot-table_of sound d t)

-- the STag that the code gives next
pub next-read : (domains : Slots) (regions : Slab Held) (table : Table) → table_of domains regions ≡ table → (pd slot key : ℕ) →
    slot ≡ free_slot (slots_of table pd) → key ≡ (get_or (slots_in domains pd) slot free).key → record { domain = pd; slot = slot; key = key } ≡ next_stag table pd
next-read domains regions table view pd slot key first is =
    let named : key ≡ (get_or (slots_of table pd) (free_slot (slots_of table pd)) unused).key =
    is ∙ sym (key-table_of domains regions pd slot) ∙ ap (λ t. (get_or (slots_of t pd) slot unused).key) view ∙ ap (λ i. (get_or (slots_of table pd) i unused).key) first in
    (λ t. record { domain = pd; slot = first t; key = named t })

-- the STag that the code draws
pub drawn-read : {domains : Slots} {regions : Slab Held} → IsSound domains regions → (table : Table) → table_of domains regions ≡ table → (pd drawn slot key : ℕ) →
    slot ≡ first_free (slots_in domains pd) (drawn % 1024) → key ≡ (get_or (slots_in domains pd) slot free).key → record { domain = pd; slot = slot; key = (key + drawn / 1024 % 255) % 256 } ≡ drawn_stag table pd drawn
drawn-read {domains} {regions} sound table view pd drawn slot key found is =
    let place = drawn % 1024 in
    let there : slot ≡ free_from (slots_of table pd) place = found ∙ sym (free_from-table_of sound pd place) ∙ ap (λ t. free_from (slots_of t pd) place) view in
    let named : key ≡ (get_or (slots_of table pd) (free_from (slots_of table pd) place) unused).key =
    is ∙ sym (key-table_of domains regions pd slot) ∙ ap (λ t. (get_or (slots_of t pd) slot unused).key) view ∙ ap (λ i. (get_or (slots_of table pd) i unused).key) there in
    (λ t. record { domain = pd; slot = there t; key = (named t + drawn / 1024 % 255) % 256 })

-- a domain that the table has was added
pub added_known : (domains : Slots) (regions : Slab Held) (table : Table) (d : ℕ) → table_of domains regions ≡ table → is_added table d ≡ true → is_some (get_or domains d None) ≡ true
added_known domains regions table d view added = sym (is_added-table_of domains regions d) ∙ ap (λ t. is_added t d) view ∙ added

-- no slot links to a vacant key
pub same_after_insert : {domains : Slots} {regions after : Slab Held} → IsSound domains regions → (k d i : ℕ) (h : Held) → get regions k ≡ None → Updates regions after k (Some h) → SameElsewhere domains regions after d i
same_after_insert {domains} {regions} sound k d i h vacant updates j m l elsewhere link =
    updates.others l (λ (same : l ≡ k). let r = sound.linked j m l link in none-some _ (sym vacant ∙ ap (get regions) (sym same) ∙ r.held))

-- ---- limits

limits_in : {domains : Slots} {regions : Slab Held} → IsSound domains regions → (d i : ℕ) (o : Option ℕ) → link_at domains d i ≡ o → IfSome (region_in regions o) (λ r. IsWithinLimits r.base (length r.octets))
limits_in sound d i None e = tt
limits_in {domains} {regions} sound d i (Some k) e =
    let h = sound.linked d i k e in
    subst (λ (o : Option Held). IfSome (option_map (λ x. x.region) o) (λ r. IsWithinLimits r.base (length r.octets))) (sym h.held) h.limits

limits_under : {domains : Slots} {regions : Slab Held} → IsSound domains regions → (d i : ℕ) (b : Bool) → IfSome (region_in regions (cond b (link_at domains d i) None)) (λ r. IsWithinLimits r.base (length r.octets))
limits_under sound d i true = limits_in sound d i _ refl
limits_under sound d i false = tt

pub HoldsLimits-table_of : {domains : Slots} {regions : Slab Held} → IsSound domains regions → HoldsLimits (table_of domains regions)
HoldsLimits-table_of {domains} {regions} sound = record {
  domains = length-map domains (states_of regions) ∙ sound.all_numbers;
  no_zero = get_or-map (states_of regions) domains 0 None ∙ ap (states_of regions) sound.no_zero;
  slots = λ d. subst (λ (n : ℕ). n ≤ 1024) (sym (ap length (slots_of-table_of domains regions d) ∙ length-map (slots_in domains d) (state_of regions))) (sound.few d);
  regions = λ stag. subst (λ (o : Option Region). IfSome o (λ r. IsWithinLimits r.base (length r.octets))) (sym (region_at-table_of domains regions stag))
      (limits_under sound stag.domain stag.slot ((get_or (slots_in domains stag.domain) stag.slot free).key == stag.key));
}

pub limits_seen : (o : Option (Bor Held)) (h : Held) → option_copied o ≡ Some h → IsWithinLimits h.region.base (length h.region.octets) → IfSome o (λ s. IsWithinLimits s.now.region.base (length s.now.region.octets))
limits_seen None h is limits = tt
limits_seen (Some s) h is limits = subst (λ (x : Held). IsWithinLimits x.region.base (length x.region.octets)) (sym (same_Some _ _ is)) limits

-- ---- regions that are limited to no stream

pub AreShared-same_get : {old new : Slab Held} → AreShared old → ((k : ℕ) → get new k ≡ get old k) → AreShared new
AreShared-same_get shared same = record { unbound = λ k h e. shared.unbound k h (sym (same k) ∙ e) }

pub AreShared-removed : {old new : Slab Held} {k : ℕ} → AreShared old → Updates old new k None → AreShared new
AreShared-removed {old} {new} {k} shared updates = record {
  unbound = λ j h e. elim (eqb_tells j k) [
    | inl same ↦ absurd (none-some h (sym updates.changed ∙ ap (get new) (sym same.1) ∙ e))
    | inr other ↦ shared.unbound j h (sym (updates.others j other.1) ∙ e)
  ];
}

pub AreShared-stored : {old new : Slab Held} {k : ℕ} {stored : Held} → AreShared old → Updates old new k (Some stored) → stored.region.bound ≡ None → AreShared new
AreShared-stored {old} {new} {k} {stored} shared updates unbound = record {
  unbound = λ j h e. elim (eqb_tells j k) [
    | inl same ↦ ap (λ (x : Held). x.region.bound) (sym (same_Some _ _ (sym updates.changed ∙ ap (get new) (sym same.1) ∙ e))) ∙ unbound
    | inr other ↦ shared.unbound j h (sym (updates.others j other.1) ∙ e)
  ];
}

pub AreShared-with_value : {regions : Slab Held} → AreShared regions → (k : ℕ) (h new : Held) → get regions k ≡ Some h → new.region.bound ≡ h.region.bound → AreShared (with_value regions k new)
AreShared-with_value {regions} shared k h new held bound = record {
  unbound = λ j x e. elim (eqb_tells j k) [
    | inl same ↦
        ap (λ (x : Held). x.region.bound) (sym (same_Some _ _ (sym (get-with_value_same regions k h new held) ∙ ap (get (with_value regions k new)) (sym same.1) ∙ e)))
        ∙ bound ∙ shared.unbound k h held
    | inr other ↦ shared.unbound j x (sym (get-with_value_other regions k j new other.1) ∙ e)
  ];
}

either : (a b : Bool) → (a || b) ≡ false → (a ≡ false) × (b ≡ false)
either false false e = (refl, refl)
either false true e = cc
either true b e = cc

unlimited : (bound : Option ℕ) → is_some bound ≡ false → bound ≡ None
unlimited None e = refl
unlimited (Some stream) e = cc

-- one more region, and whether any is limited now
pub AreShared-limited : {old middle new : Slab Held} {k : ℕ} {stored : Held} {limited now : Bool} → (limited ≡ false → AreShared old) → ((j : ℕ) → get middle j ≡ get old j) → Updates middle new k (Some stored) → now ≡ (limited || is_some stored.region.bound) → now ≡ false → AreShared new
AreShared-limited {old} {middle} {new} {k} {stored} {limited} shared same updates is none =
    let both = either limited (is_some stored.region.bound) (sym is ∙ none) in
    AreShared-stored (AreShared-same_get (shared both.0) same) updates (unlimited stored.region.bound both.1)

pub AreShared-empty : (regions : Slab Held) → regions.slots ≡ [] → AreShared regions
AreShared-empty regions none = record { unbound = λ k h e. absurd (none-some h (sym (ap (λ (slots : List (Option Held)). get_or slots k None) none) ∙ e)) }
