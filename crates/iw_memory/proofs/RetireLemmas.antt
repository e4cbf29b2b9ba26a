-- The stored regions that are limited to a stream are put out of use.
use Rattle.std.proofs.Common.{◌≡◌, ◌≢◌, ℕ, zero, suc, ◌==◌, Bool, true, false, cond, List, [], ◌∷◌, map, length, get_or, set, Option, Some, None, refl, sym, ap, ◌∙◌, inl, inr}
use Rattle.std.proofs.Math.ListN.{get_or-map}
use Rattle.std.proofs.lemmas.List.{set-get_or}
use Rattle.std.proofs.lemmas.Simd.{map-map}
use Rattle.std.proofs.lemmas.Bool.{eq-eqb}
use Rattle.std.proofs.lemmas.Bool.Decides.{eqb_tells}
use Rattle.std.proofs.lemmas.Option.{none-some}
use Rattle.std.specs.Option.{option_map, option_map_or, unwrap_or}
use Rattle.slab.specs.Slab.{Slab, get, with_value}
use Rattle.iw_memory.specs.declared.slots.Slot.{Slot}
use Rattle.iw_memory.specs.Region.{Region, is_bound_to, retired_region, made_invalid, IsWithinLimits}
use Rattle.iw_memory.specs.Held.{Held}
use Rattle.iw_memory.specs.Part.{retired_slot, own_retired}
use Rattle.iw_memory.specs.declared.peer.Peer.{Peer}
use Rattle.iw_memory.specs.Table.{Table, part_of, with_part, retired}
use Rattle.iw_memory.specs.Retiring.{retired_held, retired_at, retired_all}
use Rattle.iw_memory.specs.Inside.{Slots, table_of, states_of, state_of, region_in, free, IsHeldFor, IsSound, AreShared}
use Rattle.iw_memory.proofs.ListLemmas.{map-same, map-set_others}
use Rattle.iw_memory.proofs.TableLemmas.{get-with_value_same, get-with_value_other, link_unique, same_states, with_part-same}

-- ---- what is stored under each key

abbrev is_link : Option ℕ → ℕ → Bool
is_link None k = false
is_link (Some j) k = j == k

-- a slot of the list links to the key
abbrev linked : List Slot → ℕ → Bool
linked [] k = false
linked (s ∷ slots) k = cond (is_link s.at k) true (linked slots k)

abbrev retired_if : Bool → Option ℕ → Option Held → Option Held
retired_if b stream o = cond b (option_map (retired_held stream) o) o

get-retired_at : (stream : Option ℕ) (regions : Slab Held) (j k : ℕ) → get (retired_at stream regions j) k ≡ retired_if (j == k) stream (get regions k)
get-retired_at stream regions j k = go (get regions j) refl
  where
    go : (o : Option Held) → get regions j ≡ o → get (option_map_or (λ h. with_value regions j (retired_held stream h)) o regions) k ≡ retired_if (j == k) stream (get regions k)
    go None e = elim (eqb_tells j k) [
      | inl same ↦
          let none : get regions k ≡ None = ap (get regions) (sym same.1) ∙ e in
          none ∙ sym (ap (option_map (retired_held stream)) none) ∙ sym (ap (λ b. retired_if b stream (get regions k)) same.0)
      | inr other ↦ sym (ap (λ b. retired_if b stream (get regions k)) other.0)
    ]
    go (Some h) e = elim (eqb_tells j k) [
      | inl same ↦
          ap (get (with_value regions j (retired_held stream h))) (sym same.1)
          ∙ get-with_value_same regions j h (retired_held stream h) e
          ∙ sym (ap (option_map (retired_held stream)) (ap (get regions) (sym same.1) ∙ e))
          ∙ sym (ap (λ b. retired_if b stream (get regions k)) same.0)
      | inr other ↦ get-with_value_other regions j k (retired_held stream h) (λ e. other.1 (sym e)) ∙ sym (ap (λ b. retired_if b stream (get regions k)) other.0)
    ]

region_twice : (stream : Option ℕ) (r : Region) → retired_region stream (retired_region stream r) ≡ retired_region stream r
region_twice stream r = go (is_bound_to r.bound stream) refl
  where
    go : (b : Bool) → is_bound_to r.bound stream ≡ b → retired_region stream (cond b (made_invalid r) r) ≡ cond b (made_invalid r) r
    go true e = ap (λ b. cond b (made_invalid r) (made_invalid r)) e
    go false e = ap (λ b. cond b (made_invalid r) r) e

retired_twice : (stream : Option ℕ) (o : Option Held) → option_map (retired_held stream) (option_map (retired_held stream) o) ≡ option_map (retired_held stream) o
retired_twice stream None = refl
retired_twice stream (Some h) = ap (λ r. Some (record h { region = r })) (region_twice stream h.region)

-- what is stored is put out of use exactly where a slot links to it
get-retired_all : (stream : Option ℕ) (slots : List Slot) (regions : Slab Held) (k : ℕ) → get (retired_all stream slots regions) k ≡ retired_if (linked slots k) stream (get regions k)
get-retired_all stream [] regions k = refl
get-retired_all stream (s ∷ slots) regions k =
    get-retired_all stream slots (option_map_or (retired_at stream regions) s.at regions) k
    ∙ ap (retired_if (linked slots k) stream) (first s.at)
    ∙ twice (is_link s.at k) (linked slots k) (get regions k)
  where
    first : (at : Option ℕ) → get (option_map_or (retired_at stream regions) at regions) k ≡ retired_if (is_link at k) stream (get regions k)
    first None = refl
    first (Some j) = get-retired_at stream regions j k

    twice : (a b : Bool) (o : Option Held) → retired_if b stream (retired_if a stream o) ≡ retired_if (cond a true b) stream o
    twice true true o = retired_twice stream o
    twice true false o = refl
    twice false b o = refl

linked_at : (slots : List Slot) (i k : ℕ) → (get_or slots i free).at ≡ Some k → linked slots k ≡ true
linked_at [] i k at = absurd (none-some k at)
linked_at (s ∷ slots) zero k at = ap (λ (o : Option ℕ). cond (is_link o k) true (linked slots k)) at ∙ ap (λ b. cond b true (linked slots k)) (eq-eqb k k refl)
linked_at (s ∷ slots) (suc i) k at = ap (cond (is_link s.at k) true) (linked_at slots i k at) ∙ elim (is_link s.at k) as (λ b. cond b true true ≡ true) [ true ↦ refl | false ↦ refl ]

not_linked : (slots : List Slot) (k : ℕ) → ((i : ℕ) → (get_or slots i free).at ≢ Some k) → linked slots k ≡ false
not_linked [] k none = refl
not_linked (s ∷ slots) k none = ap (λ b. cond b true (linked slots k)) (first s.at refl) ∙ not_linked slots k (λ i. none (suc i))
  where
    first : (at : Option ℕ) → s.at ≡ at → is_link at k ≡ false
    first None e = refl
    first (Some j) e = elim (eqb_tells j k) [ inl same ↦ absurd (none 0 (e ∙ ap Some same.1)) | inr other ↦ other.0 ]

-- ---- what the memory keeps

retired-limits : (stream : Option ℕ) (r : Region) → IsWithinLimits r.base (length r.octets) → IsWithinLimits (retired_region stream r).base (length (retired_region stream r).octets)
retired-limits stream r limits = elim (is_bound_to r.bound stream) as (λ b. IsWithinLimits (cond b (made_invalid r) r).base (length (cond b (made_invalid r) r).octets)) [ true ↦ limits | false ↦ limits ]

held-retired : (stream : Option ℕ) (old new : Slab Held) (k d i : ℕ) (b : Bool) → IsHeldFor old k d i → get new k ≡ retired_if b stream (get old k) → IsHeldFor new k d i
held-retired stream old new k d i true h is = record { region = retired_region stream h.region; held = is ∙ ap (option_map (retired_held stream)) h.held; limits = retired-limits stream h.region h.limits }
held-retired stream old new k d i false h is = record { region = h.region; held = is ∙ h.held; limits = h.limits }

pub IsSound-retired : {domains : Slots} {regions : Slab Held} → IsSound domains regions → (stream : Option ℕ) (slots : List Slot) → IsSound domains (retired_all stream slots regions)
IsSound-retired {domains} {regions} sound stream slots = record {
  all_numbers = sound.all_numbers;
  no_zero = sound.no_zero;
  linked = λ d i k link. held-retired stream regions (retired_all stream slots regions) k d i (linked slots k) (sound.linked d i k link) (get-retired_all stream slots regions k);
  few = sound.few;
}

-- ---- what the table tells

regions_of : (stream : Option ℕ) (o : Option Held) → option_map (λ h. h.region) (option_map (retired_held stream) o) ≡ option_map (retired_region stream) (option_map (λ h. h.region) o)
regions_of stream None = refl
regions_of stream (Some h) = refl

state-retired : (stream : Option ℕ) (slots : List Slot) (regions : Slab Held) (i : ℕ) → state_of (retired_all stream slots regions) (get_or slots i free) ≡ retired_slot stream (state_of regions (get_or slots i free))
state-retired stream slots regions i = ap (λ r. record { key = (get_or slots i free).key; region = r }) (go (get_or slots i free).at refl)
  where
    go : (at : Option ℕ) → (get_or slots i free).at ≡ at → region_in (retired_all stream slots regions) at ≡ option_map (retired_region stream) (region_in regions at)
    go None e = refl
    go (Some k) e =
        ap (option_map (λ (h : Held). h.region)) (get-retired_all stream slots regions k ∙ ap (λ b. retired_if b stream (get regions k)) (linked_at slots i k e))
        ∙ regions_of stream (get regions k)

states-retired : (stream : Option ℕ) (slots : List Slot) (regions : Slab Held) → map (state_of (retired_all stream slots regions)) slots ≡ map (retired_slot stream) (map (state_of regions) slots)
states-retired stream slots regions =
    map-same (λ s. retired_slot stream (state_of regions s)) (state_of (retired_all stream slots regions)) slots free (λ i l. state-retired stream slots regions i)
    ∙ sym (map-map (retired_slot stream) (state_of regions) slots)

-- the slots of another domain link to nothing that is put out of use
other-states : {domains : Slots} {regions : Slab Held} → IsSound domains regions → (d j : ℕ) (slots : List Slot) (stream : Option ℕ) → get_or domains d None ≡ Some slots → j ≢ d → states_of (retired_all stream slots regions) (get_or domains j None) ≡ states_of regions (get_or domains j None)
other-states {domains} {regions} sound d j slots stream is ne =
    same_states regions (retired_all stream slots regions) (get_or domains j None) (λ m k at.
    get-retired_all stream slots regions k
    ∙ ap (λ b. retired_if b stream (get regions k)) (not_linked slots k (λ i own.
    ne (link_unique sound d i j m k (ap (λ (o : Option (List Slot)). (get_or (unwrap_or o []) i free).at) is ∙ own) at).0)))

pub table_of-retired : {domains : Slots} {regions : Slab Held} → IsSound domains regions → (d : ℕ) (slots : List Slot) (stream : Option ℕ) → get_or domains d None ≡ Some slots → table_of domains (retired_all stream slots regions) ≡ retired (table_of domains regions) (record { domain = d; stream = stream })
table_of-retired {domains} {regions} sound d slots stream is =
    let whole : set domains d (Some slots) ≡ domains = ap (set domains d) (sym is) ∙ set-get_or domains d None in
    ap (λ ds. table_of ds (retired_all stream slots regions)) (sym whole)
    ∙ map-set_others (states_of regions) (states_of (retired_all stream slots regions)) domains d (Some slots) None (λ j l ne. other-states sound d j slots stream is ne)
    ∙ ap (λ ss. set (table_of domains regions) d (Some ss)) (states-retired stream slots regions)
    ∙ ap (λ part. set (table_of domains regions) d (own_retired part stream)) (sym (get_or-map (states_of regions) domains d None ∙ ap (states_of regions) is))

-- ---- where no region is limited to a stream

retired-unbound : (stream : Option ℕ) (r : Region) → r.bound ≡ None → retired_region stream r ≡ r
retired-unbound stream r none = ap (λ b. cond (is_bound_to b stream) (made_invalid r) r) none

shared-region : {regions : Slab Held} → AreShared regions → (stream at : Option ℕ) → option_map (retired_region stream) (region_in regions at) ≡ region_in regions at
shared-region shared stream None = refl
shared-region {regions} shared stream (Some k) = go (get regions k) refl
  where
    go : (o : Option Held) → get regions k ≡ o → option_map (retired_region stream) (option_map (λ h. h.region) o) ≡ option_map (λ h. h.region) o
    go None e = refl
    go (Some h) e = ap Some (retired-unbound stream h.region (shared.unbound k h e))

shared-slots : {regions : Slab Held} → AreShared regions → (stream : Option ℕ) (slots : List Slot) → map (retired_slot stream) (map (state_of regions) slots) ≡ map (state_of regions) slots
shared-slots shared stream [] = refl
shared-slots {regions} shared stream (s ∷ slots) =
    λ i. record { key = s.key; region = shared-region shared stream s.at i } ∷ shared-slots shared stream slots i

shared-part : {regions : Slab Held} → AreShared regions → (stream : Option ℕ) (o : Option (List Slot)) → own_retired (states_of regions o) stream ≡ states_of regions o
shared-part shared stream None = refl
shared-part shared stream (Some slots) = ap Some (shared-slots shared stream slots)

-- where no region is limited to a stream, none is put out of use
pub retired-shared : (domains : Slots) {regions : Slab Held} {table : Table} → AreShared regions → (peer : Peer) → table_of domains regions ≡ table → table ≡ retired table peer
retired-shared domains {regions} {table} shared peer view =
    let part : part_of (table_of domains regions) peer.domain ≡ states_of regions (get_or domains peer.domain None) = get_or-map (states_of regions) domains peer.domain None in
    let same : own_retired (part_of (table_of domains regions) peer.domain) peer.stream ≡ part_of (table_of domains regions) peer.domain =
    ap (λ p. own_retired p peer.stream) part ∙ shared-part shared peer.stream (get_or domains peer.domain None) ∙ sym part in
    sym view ∙ sym (ap (with_part (table_of domains regions) peer.domain) same ∙ with_part-same (table_of domains regions) peer.domain) ∙ ap (λ t. retired t peer) view
