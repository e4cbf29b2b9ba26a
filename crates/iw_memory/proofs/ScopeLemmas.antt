-- What is out of a peer's scope, and what is put out of use.
use Rattle.std.proofs.Common.{◌≡◌, ℕ, ◌==◌, not, IsTrue, IsSomeAnd, Bool, true, false, cond, map, length, get_or, set, Option, Some, None, refl, sym, ap, subst, ◌∙◌, inl, inr, get_or-set_same, get_or-set_other}
use Rattle.std.proofs.Math.ListN.{get_or-map}
use Rattle.std.proofs.lemmas.List.{get_or_past, length-set}
use Rattle.std.proofs.lemmas.Bool.{cases_lt}
use Rattle.std.proofs.lemmas.Option.{none-some}
use Rattle.std.specs.Option.{option_map, option_map_or}
use Rattle.iw_octets.specs.declared.stag.Stag.{Stag}
use Rattle.iw_memory.specs.declared.peer.Peer.{Peer}
use Rattle.iw_memory.specs.declared.rights.Right.{Right}
use Rattle.iw_memory.specs.declared.refusal.InvalidateDeny.{InvalidateDeny}
use Rattle.iw_memory.specs.declared.refusal.InvalidateDeny.TheVariants.{NotAssociated as NotOwn, Invalid as NotValid, NotAllowed}
use Rattle.iw_memory.specs.Region.{Region, is_bound_to, made_invalid, retired_region}
use Rattle.iw_memory.specs.Part.{Part, SlotState, unused, own_slots, under_key, own_region, region_invalidate_denial, retired_slot, own_retired}
use Rattle.iw_memory.specs.Table.{Table, part_of, region_at, invalidate_denial_for, put, retired}
use Rattle.iw_memory.specs.Laws.{Serves, IsOutOfScope, IsKept, Retires}
use Rattle.iw_memory.proofs.TableLemmas.{put-nothing}
use Rattle.iw_memory.proofs.LawLemmas.{stag_cases, put-changes, with_region-changes}
use Rattle.iw_memory.proofs.Callers.{allows, own_region-region_at, no_octets}

-- ---- out of scope

-- a peer is not served from a region that is out of its scope
not_served : (table : Table) (peer : Peer) (stag : Stag) (to n : ℕ) (right : Right) → IsOutOfScope table peer stag → IsSomeAnd (region_at table stag) (λ r. Serves r peer.stream to n right) → ⊥
not_served table peer stag to n right out served = refuted (subst (λ o. IsSomeAnd o (λ r. Serves r peer.stream to n right)) out.found served)
  where
    refuted : Serves out.region peer.stream to n right → ⊥
    refuted serves = let both : true ≡ false = sym serves.in_scope ∙ out.apart in cc

abbrev found_denial : Option Region → Option ℕ → Option InvalidateDeny
found_denial found stream = option_map_or (λ r. region_invalidate_denial r stream) found (Some NotValid)

not_invalidated : (table : Table) (peer : Peer) (stag : Stag) → IsOutOfScope table peer stag → invalidate_denial_for table peer stag ≡ Some NotOwn
not_invalidated table peer stag out = go (stag.domain == peer.domain) refl
  where
    go : (b : Bool) → (stag.domain == peer.domain) ≡ b → cond (not b) (Some NotOwn) (found_denial (own_region (part_of table peer.domain) stag) peer.stream) ≡ Some NotOwn
    go false e = refl
    go true e =
        ap (λ o. found_denial o peer.stream) (own_region-region_at table peer.domain stag e ∙ out.found)
        ∙ ap (λ b. cond (not b) (Some NotOwn) (cond (not out.region.valid) (Some NotValid) (cond (not out.region.rights.invalidate) (Some NotAllowed) None))) out.apart

pub out-kept : (table : Table) (peer : Peer) (hidden : Stag) → IsOutOfScope table peer hidden → IsKept table peer hidden
out-kept table peer hidden out = record {
  placed = λ stag to octets right none. elim (stag_cases hidden stag) [
    | inr ne ↦ (put-changes table stag to octets).changed.others hidden ne
    | inl same ↦ elim (allows table peer stag to (length octets) right none) [
      | inl nothing ↦ ap (λ t. region_at t hidden) (ap (put table stag to) (no_octets octets nothing) ∙ put-nothing table stag to)
      | inr allowed ↦ absurd (not_served table peer hidden to (length octets) right out (subst (λ s. IsSomeAnd (region_at table s) (λ r. Serves r peer.stream to (length octets) right)) (sym same) allowed.1))
    ]
  ];
  invalidated = λ stag none. elim (stag_cases hidden stag) [
    | inr ne ↦ (with_region-changes table stag made_invalid).others hidden ne
    | inl same ↦ absurd (none-some NotOwn (sym none ∙ ap (invalidate_denial_for table peer) (sym same) ∙ not_invalidated table peer hidden out))
  ];
}

-- ---- put out of use

part_of-retired : (table : Table) (peer : Peer) → part_of (retired table peer) peer.domain ≡ own_retired (part_of table peer.domain) peer.stream
part_of-retired table peer = elim (cases_lt peer.domain (length table)) [
  | inl within ↦ get_or-set_same table peer.domain (own_retired (part_of table peer.domain) peer.stream) None within
  | inr past ↦
      let none = get_or_past table peer.domain None past in
      get_or_past (set table peer.domain (own_retired (part_of table peer.domain) peer.stream)) peer.domain None (rw (length-set table peer.domain (own_retired (part_of table peer.domain) peer.stream)) past)
      ∙ sym (ap (λ part. own_retired part peer.stream) none)
]

own_slots-retired : (part : Part) (stream : Option ℕ) → own_slots (own_retired part stream) ≡ map (retired_slot stream) (own_slots part)
own_slots-retired None stream = refl
own_slots-retired (Some slots) stream = refl

under_key-retired : (s : SlotState) (stream : Option ℕ) (key : ℕ) → under_key (retired_slot stream s) key ≡ option_map (retired_region stream) (under_key s key)
under_key-retired s stream key = elim (s.key == key) as (λ b. cond b (option_map (retired_region stream) s.region) None ≡ option_map (retired_region stream) (cond b s.region None)) [ true ↦ refl | false ↦ refl ]

own_region-retired : (part : Part) (stream : Option ℕ) (stag : Stag) → own_region (own_retired part stream) stag ≡ option_map (retired_region stream) (own_region part stag)
own_region-retired part stream stag =
    ap (λ slots. under_key (get_or slots stag.slot unused) stag.key) (own_slots-retired part stream)
    ∙ ap (λ s. under_key s stag.key) (get_or-map (retired_slot stream) (own_slots part) stag.slot unused)
    ∙ under_key-retired (get_or (own_slots part) stag.slot unused) stream stag.key

region_at-retired : (table : Table) (peer : Peer) (stag : Stag) → stag.domain ≡ peer.domain → region_at (retired table peer) stag ≡ option_map (retired_region peer.stream) (region_at table stag)
region_at-retired table peer stag here =
    ap (λ d. own_region (part_of (retired table peer) d) stag) here
    ∙ ap (λ part. own_region part stag) (part_of-retired table peer)
    ∙ own_region-retired (part_of table peer.domain) peer.stream stag
    ∙ ap (λ d. option_map (retired_region peer.stream) (own_region (part_of table d) stag)) (sym here)

-- what is out of use serves no peer
serves_none : (o : Option Region) (stream other : Option ℕ) (to n : ℕ) (right : Right) → IsSomeAnd o (λ r. IsTrue (is_bound_to r.bound stream)) → IsSomeAnd (option_map (retired_region stream) o) (λ r. Serves r other to n right) → ⊥
serves_none None stream other to n right bound served = absurd bound
serves_none (Some r) stream other to n right bound served =
    refuted (subst (λ b. Serves (cond b (made_invalid r) r) other to n right) bound served)
  where
    refuted : Serves (made_invalid r) other to n right → ⊥
    refuted serves = let both : false ≡ true = serves.valid in cc

pub retires : (table : Table) (peer : Peer) → Retires table peer
retires table peer = record {
  own = region_at-retired table peer;
  others = λ d ne. get_or-set_other table peer.domain d (own_retired (part_of table peer.domain) peer.stream) None ne;
  ended = λ stag here bound other to n right none. elim (allows (retired table peer) other stag to n right none) [
    | inl nothing ↦ nothing
    | inr allowed ↦ absurd (serves_none (region_at table stag) peer.stream other.stream to n right bound (subst (λ o. IsSomeAnd o (λ r. Serves r other.stream to n right)) (region_at-retired table peer stag here) allowed.1))
  ];
}
