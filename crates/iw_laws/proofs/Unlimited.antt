-- No region of a table is limited to a stream, where none was registered so; to close a stream then leaves the table.
use Rattle.std.proofs.Common.{◌≡◌, ◌⊎◌, inl, inr, ℕ, zero, suc, List, [], ◌∷◌, ◌++◌, length, map, Option, Some, None, Ok, Err, Bool, true, false, cond, eqb, refl, sym, ap, ◌∙◌, subst}
use Rattle.std.specs.Prelude.{slice_set, slice_index_or, nat_lt, replicate, fold, ◌+◌, ◌%◌}
use Rattle.std.specs.Option.{option_map, option_map_or}
use Rattle.std.proofs.lemmas.List.{set-get_or}
use Rattle.iw_octets.specs.declared.stag.Stag.{Stag}
use Rattle.iw_memory.specs.declared.peer.Peer.{Peer}
use Rattle.iw_memory.specs.Region.{Region, new_region, is_bound_to, made_invalid, retired_region, region_with}
use Rattle.iw_memory.specs.Part.{Part, SlotState, own_slots, own_region, own_changed, own_deregistered, own_retired, retired_slot, under_key, unused, with_room, free_slot}
use Rattle.iw_memory.specs.Table.{Table, empty, part_of, with_part, put, invalidated, retired, slots_of}
use Rattle.iw_events.specs.declared.act.Act.{Act}
use Rattle.iw_events.specs.declared.act.Act.TheVariants.{Domain, Register, Deregister, Invalidate, Store, Open, Share, Pool, Unpool, OpenShared, Stream}
use Rattle.iw_laws.specs.Words.{Octets, OnSome, Deed, deed, Placing, Sent, table_by, table_by_deed, table_after}

-- a place that is set has what was set, or what it had
set_either : {A : Type 0} (xs : List A) (i j : ℕ) (x d : A) → (slice_index_or (slice_set xs i x) j d ≡ x) ⊎ (slice_index_or (slice_set xs i x) j d ≡ slice_index_or xs j d)
set_either [] i j x d = inr refl
set_either (y ∷ ys) zero zero x d = inl refl
set_either (y ∷ ys) zero (suc j) x d = inr refl
set_either (y ∷ ys) (suc i) zero x d = inr refl
set_either (y ∷ ys) (suc i) (suc j) x d = set_either ys i j x d

-- ---- what is not limited

abbrev pub IsFree : Region → Type 0
IsFree r = r.bound ≡ None

abbrev pub FreeSlots : List SlotState → Type 0
FreeSlots slots = (i : ℕ) → OnSome IsFree (slice_index_or slots i unused).region

abbrev pub Unlimited : Table → Type 0
Unlimited table = (d : ℕ) → FreeSlots (slots_of table d)

-- one slot has another region, or none
slot_set : (slots : List SlotState) (i : ℕ) (s : SlotState) → FreeSlots slots → OnSome IsFree s.region → FreeSlots (slice_set slots i s)
slot_set slots i s free one j = elim (set_either slots i j s unused) [
  | inl here ↦ subst (λ (z : SlotState). OnSome IsFree z.region) (sym here) one
  | inr same ↦ subst (λ (z : SlotState). OnSome IsFree z.region) (sym same) (free j)
]

slot_more : (slots : List SlotState) → FreeSlots slots → FreeSlots (slots ++ unused ∷ [])
slot_more [] free zero = tt
slot_more [] free (suc j) = tt
slot_more (s ∷ slots) free zero = free zero
slot_more (s ∷ slots) free (suc j) = slot_more slots (λ i. free (suc i)) j

roomy : (slots : List SlotState) → FreeSlots slots → FreeSlots (with_room slots)
roomy slots free = go (nat_lt (free_slot slots) (length slots))
  where
    go : (b : Bool) → FreeSlots (cond b slots (slots ++ unused ∷ []))
    go true = free
    go false = slot_more slots free

-- one domain has another part
part_set : (table : Table) (d : ℕ) (part : Part) → Unlimited table → FreeSlots (own_slots part) → Unlimited (with_part table d part)
part_set table d part free one e = elim (set_either table d e part None) [
  | inl here ↦ subst (λ (z : Part). FreeSlots (own_slots z)) (sym here) one
  | inr same ↦ subst (λ (z : Part). FreeSlots (own_slots z)) (sym same) (free e)
]

region_free : (s : SlotState) (key : ℕ) → OnSome IsFree s.region → OnSome IsFree (under_key s key)
region_free s key free = go (eqb s.key key)
  where
    go : (b : Bool) → OnSome IsFree (cond b s.region None)
    go true = free
    go false = tt

pub found_free : (part : Part) (stag : Stag) → FreeSlots (own_slots part) → OnSome IsFree (own_region part stag)
found_free part stag free = region_free (slice_index_or (own_slots part) stag.slot unused) stag.key (free stag.slot)

changed_free : (part : Part) (stag : Stag) (change : Region → Region) → ((r : Region) → IsFree r → IsFree (change r)) → FreeSlots (own_slots part) → FreeSlots (own_slots (own_changed part stag change))
changed_free part stag change keeps free = go (own_region part stag) (found_free part stag free)
  where
    go : (o : Option Region) → OnSome IsFree o → FreeSlots (own_slots (option_map_or (λ r. Some (slice_set (own_slots part) stag.slot (record { key = stag.key; region = Some (change r) }))) o part))
    go None h = free
    go (Some r) h = slot_set (own_slots part) stag.slot (record { key = stag.key; region = Some (change r) }) free (keeps r h)

removed_free : (part : Part) (stag : Stag) → FreeSlots (own_slots part) → FreeSlots (own_slots (own_deregistered part stag))
removed_free part stag free = go (own_region part stag)
  where
    go : (o : Option Region) → FreeSlots (own_slots (option_map_or (λ r. Some (slice_set (own_slots part) stag.slot (record { key = (stag.key + 1) % 256; region = None }))) o part))
    go None = free
    go (Some r) = slot_set (own_slots part) stag.slot (record { key = (stag.key + 1) % 256; region = None }) free tt

put_free : (table : Table) (stag : Stag) (to : ℕ) (octets : Octets) → Unlimited table → Unlimited (put table stag to octets)
put_free table stag to octets free = part_set table stag.domain _ free (changed_free (part_of table stag.domain) stag (λ r. region_with r to octets) (λ r h. h) (free stag.domain))

invalid_free : (table : Table) (stag : Stag) → Unlimited table → Unlimited (invalidated table stag)
invalid_free table stag free = part_set table stag.domain _ free (changed_free (part_of table stag.domain) stag made_invalid (λ r h. h) (free stag.domain))

deed_free : (table : Table) (d : Deed) → Unlimited table → Unlimited (table_by_deed table d)
deed_free table d free = placed d.placing
  where
    taken : (o : Option Stag) → Unlimited (option_map_or (invalidated table) o table)
    taken None = free
    taken (Some stag) = invalid_free table stag free

    received : (o : Option Sent) → Unlimited (option_map_or (λ message. option_map_or (invalidated table) message.invalidate table) o table)
    received None = free
    received (Some message) = taken message.invalidate

    placed : (o : Option Placing) → Unlimited (option_map_or (λ p. put table p.stag p.to p.octets) o (option_map_or (λ message. option_map_or (invalidated table) message.invalidate table) d.received table))
    placed None = received d.received
    placed (Some p) = put_free table p.stag p.to p.octets free

act_free : (table : Table) (act : Act Octets) → Unlimited table → Unlimited (table_by table act)
act_free table (Domain pd None) free = part_set table pd _ free (λ i. tt)
act_free table (Domain pd (Some refusal)) free = free
act_free table (Register pd base rights octets (Ok stag)) free =
    part_set table stag.domain _ free
    (slot_set (with_room (slots_of table stag.domain)) stag.slot (record { key = stag.key; region = Some (new_region base octets rights) }) (roomy (slots_of table stag.domain) (free stag.domain)) refl)
act_free table (Register pd base rights octets (Err refusal)) free = free
act_free table (Deregister stag (Ok octets)) free = part_set table stag.domain _ free (removed_free (part_of table stag.domain) stag (free stag.domain))
act_free table (Deregister stag (Err refusal)) free = free
act_free table (Invalidate stag None) free = invalid_free table stag free
act_free table (Invalidate stag (Some refusal)) free = free
act_free table (Store stag to octets None) free = put_free table stag to octets free
act_free table (Store stag to octets (Some refusal)) free = free
act_free table (Open number pd role options private refused) free = free
act_free table (Share pd refused) free = free
act_free table (Pool pd len refused) free = free
act_free table (Unpool pd answer) free = free
act_free table (OpenShared number pd role options private refused) free = free
act_free table (Stream number act) free = deed_free table (deed act) free

none_free : (k d : ℕ) → FreeSlots (own_slots (slice_index_or (replicate {A = Part} k None) d None))
none_free zero d i = tt
none_free (suc k) zero i = tt
none_free (suc k) (suc d) i = none_free k d i

empty_free : Unlimited empty
unfolding empty
empty_free d = none_free 256 d

acts_free : (table : Table) (done : List (Act Octets)) → Unlimited table → Unlimited (fold table_by table done)
acts_free table [] free = free
acts_free table (act ∷ done) free = acts_free (table_by table act) done (act_free table act free)

-- what was done registers nothing for one stream
pub all_free : (done : List (Act Octets)) → Unlimited (table_after done)
unfolding table_after
all_free done = acts_free empty done empty_free

-- ---- a stream is closed

slots_retired : (slots : List SlotState) (stream : Option ℕ) → FreeSlots slots → map (retired_slot stream) slots ≡ slots
slots_retired [] stream free = refl
slots_retired (s ∷ slots) stream free = λ i. record s { region = one s.region (free zero) i } ∷ slots_retired slots stream (λ j. free (suc j)) i
  where
    none : (bound : Option ℕ) (r : Region) → bound ≡ None → cond (is_bound_to bound stream) (made_invalid r) r ≡ r
    none bound r e = ap (λ b. cond (is_bound_to b stream) (made_invalid r) r) e

    one : (o : Option Region) → OnSome IsFree o → option_map (retired_region stream) o ≡ o
    one None h = refl
    one (Some r) h = ap Some (none r.bound r h)

pub retired_free : (table : Table) (peer : Peer) → Unlimited table → retired table peer ≡ table
retired_free table peer free = ap (λ part. with_part table peer.domain part) (part (part_of table peer.domain) (free peer.domain)) ∙ set-get_or table peer.domain None
  where
    part : (p : Part) → FreeSlots (own_slots p) → own_retired p peer.stream ≡ p
    part None h = refl
    part (Some slots) h = ap Some (slots_retired slots peer.stream h)
