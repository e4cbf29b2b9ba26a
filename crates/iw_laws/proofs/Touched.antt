-- What touched a place last, and what stands there since.
use Rattle.std.proofs.Common.{◌≡◌, ◌≢◌, ◌⊎◌, inl, inr, ℕ, zero, suc, ◌+◌, ◌-◌, ◌^◌, ◌<◌, ◌≤◌, List, [], ◌∷◌, ◌++◌, length, Option, Some, None, Ok, Err, Bool, true, false, cond, refl, sym, ap, ◌∙◌, subst, arith, append_assoc, eqb, ◌&&◌}
use Rattle.std.specs.Prelude.{nat_eq, nat_le, nat_lt, is_some, IsSomeAnd, slice_index_or, slice_set, fold}
use Rattle.std.specs.Option.{option_map, option_map_or}
use Rattle.std.proofs.lemmas.Bool.{true≢false}
use Rattle.std.proofs.lemmas.Bool.Decides.{nat_tests, eqb_tells}
use Rattle.std.proofs.lemmas.List.{append-nil, get_or-set_other}
use Rattle.std.proofs.lemmas.List.Concat.{flat_map-append}
use Rattle.std.proofs.lemmas.List.Sums.{fold-append}
use Rattle.std.proofs.lemmas.Option.{none-some, same_Some}
use Rattle.iw_octets.specs.declared.stag.Stag.{Stag}
use Rattle.iw_octets.specs.Stag.{number_of}
use Rattle.iw_memory.specs.declared.peer.Peer.{Peer}
use Rattle.iw_memory.specs.declared.rights.Right.{Right}
use Rattle.iw_memory.specs.declared.rights.Right.TheVariants as rights
use Rattle.iw_memory.specs.declared.refusal.StoreRefusal.TheVariants.{NoRegion, Outside}
use Rattle.iw_memory.specs.Region.{Region, Spans, new_region, made_invalid}
use Rattle.iw_memory.specs.Part.{Part, SlotState, own_region, own_slots, under_key, unused, with_room, free_slot}
use Rattle.iw_memory.specs.Table.{Table, part_of, slots_of, with_part, region_at, put, invalidated, store_refusal}
use Rattle.iw_memory.specs.Laws.{AllowsFor, Serves}
use Rattle.iw_memory.proofs.ListLemmas.{get_or-push_default}
use Rattle.iw_memory.proofs.LawLemmas.{with_region-changes, deregistered-changes}
use Rattle.iw_memory.proofs.Callers.{part_of-with_part_same, part_of-with_part_other, no_octets}
use Rattle.iw_memory.proofs.TableLemmas.{put-nothing}
use Rattle.iw_queues.specs.declared.request.Request.{Request}
use Rattle.iw_queues.specs.Joined.{Cell, count_in, count_writes}
use Rattle.iw_events.specs.declared.call.End.{End}
use Rattle.iw_events.specs.declared.call.End.TheVariants.{A, B}
use Rattle.iw_events.specs.declared.act.Act.{Act}
use Rattle.iw_events.specs.declared.act.Act.TheVariants.{Domain, Register, Deregister, Invalidate, Store, Open, Share, Pool, Unpool, OpenShared, Stream}
use Rattle.iw_events.specs.declared.act.StreamAct.{StreamAct}
use Rattle.iw_events.specs.declared.act.StreamAct.TheVariants.{Work}
use Rattle.iw_events.specs.declared.act.Seen.TheVariants as seen
use Rattle.iw_events.specs.declared.act.Entry.{Entry}
use Rattle.iw_laws.specs.Words.{Octets, Placing, Sent, acts, acts_if, deed, of_stream, stream_acts, stream_acts_by, placings, placed_by, listed, as_write, written, written_by, sunk, sunk_by, table_after, table_by, peer_at, OnSome, OnStream}
use Rattle.iw_laws.specs.Safe.{Within, WithinStream}
use Rattle.iw_laws.specs.Plain.{PlainAnswered, ShowsRegions}
use Rattle.iw_laws.specs.Holds.{Place, cell_of, Holds, IsPlacedSince, lies_over, touches, touched_after, last_touch, IsUntouched}
use Rattle.iw_laws.proofs.Tales.{fold-push, table-push, stream_acts-push, acts-push}
use Rattle.iw_laws.proofs.Joins.{written-push, sunk-push}
use Rattle.iw_laws.proofs.Ends.{there}
use Rattle.iw_laws.proofs.OneOctet.{one_at, same_stag, Stands, standing, FitsRegion, put_there, put_apart, counted_in, stands_in, some_octet, over_parts}

-- ---- acts that may be done

-- octets lie within a region that is there, or there are none
abbrev pub IsPlaceable : Table → Placing → Type 0
IsPlaceable table q = (length q.octets ≡ 0) ⊎ ((r : Region) × (region_at table q.stag ≡ Some r) × Spans r q.to (length q.octets) × (q.to + length q.octets ≤ 2 ^ 64))

-- what an act puts in a region lies within it
abbrev pub FitsAct : Table → Act Octets → Type 0
FitsAct table (Stream n act) = OnSome (IsPlaceable table) (deed act).placing
FitsAct table (Store stag to octets None) = FitsRegion table stag to octets
FitsAct table (Store stag to octets (Some refusal)) = Unit {0}
FitsAct table (Domain pd refused) = Unit {0}
FitsAct table (Register pd base rights octets answer) = Unit {0}
FitsAct table (Deregister stag answer) = Unit {0}
FitsAct table (Invalidate stag refused) = Unit {0}
FitsAct table (Open number pd role options private refused) = Unit {0}
FitsAct table (Share pd refused) = Unit {0}
FitsAct table (Pool pd len refused) = Unit {0}
FitsAct table (Unpool pd answer) = Unit {0}
FitsAct table (OpenShared number pd role options private refused) = Unit {0}

pub placeable : (table : Table) (peer : Peer) (q : Placing) → AllowsFor table peer q.stag q.to (length q.octets) q.right → IsPlaceable table q
placeable table peer q (inl none) = inl none
placeable table peer q (inr allowed) = go (region_at table q.stag) refl allowed.1
  where
    go : (o : Option Region) → region_at table q.stag ≡ o → IsSomeAnd o (λ r. Serves r peer.stream q.to (length q.octets) q.right) → IsPlaceable table q
    go None e h = absurd h
    go (Some r) e h = inr (r, e, record { from_base = h.from_base; to_end = h.to_end }, h.no_wrap)

pub storable : (table : Table) (stag : Stag) (to : ℕ) (octets : Octets) → None ≡ store_refusal table stag to (length octets) → FitsRegion table stag to octets
storable table stag to octets none r is =
    go (nat_le r.base to) refl (nat_le (to + length octets) (r.base + length r.octets)) refl
    (none ∙ ap (λ (o : Option Region). option_map_or (λ r. cond (nat_le r.base to && nat_le (to + length octets) (r.base + length r.octets)) None (Some Outside)) o (Some NoRegion)) is)
  where
    go : (a : Bool) → nat_le r.base to ≡ a → (b : Bool) → nat_le (to + length octets) (r.base + length r.octets) ≡ b → None ≡ cond (a && b) None (Some Outside) → Spans r to (length octets)
    go false e b f h = absurd (none-some _ h)
    go true e false f h = absurd (none-some _ h)
    go true e true f h = record { from_base = grind (arith, nat_tests); to_end = grind (arith, nat_tests) }

-- ---- what does not touch the place leaves what stands there

-- the part of the place's domain has its region
in_table : (table : Table) (p : Place) (o : Octets) → Stands table p o → p.stag.domain < length table
in_table table p o s = there table p.stag.domain (go (part_of table p.stag.domain) s.is)
  where
    none_there : (b : Bool) → ◌≡◌ {A = Option Region} (cond b None None) None
    none_there true = refl
    none_there false = refl

    go : (part : Part) → own_region part p.stag ≡ Some s.region → is_some part ≡ true
    go None e = absurd (none-some _ (sym (none_there (nat_eq 0 p.stag.key)) ∙ e))
    go (Some slots) e = refl

other_part : (table : Table) (p : Place) (o : Octets) (domain : ℕ) (part : Part) → nat_eq domain p.stag.domain ≡ false → Stands table p o → Stands (with_part table domain part) p o
other_part table p o domain part off s =
    let apart : p.stag.domain ≢ domain = λ e. (let d : p.stag.domain ≡ domain = e in let never : ⊥ = grind (arith, nat_tests) in never) in
    record { region = s.region; is = ap (λ z. own_region z p.stag) (part_of-with_part_other table domain p.stag.domain part apart) ∙ s.is; low = s.low; stand = s.stand }

roomy : (slots : List SlotState) (i : ℕ) → slice_index_or (with_room slots) i unused ≡ slice_index_or slots i unused
roomy slots i = go (nat_lt (free_slot slots) (length slots))
  where
    go : (b : Bool) → slice_index_or (cond b slots (slots ++ unused ∷ [])) i unused ≡ slice_index_or slots i unused
    go true = refl
    go false = get_or-push_default slots unused i

pub other_slot : (table : Table) (p : Place) (o : Octets) (stag : Stag) (new : SlotState) → (nat_eq stag.domain p.stag.domain && nat_eq stag.slot p.stag.slot) ≡ false → Stands table p o
    → Stands (with_part table stag.domain (Some (slice_set (with_room (slots_of table stag.domain)) stag.slot new))) p o
other_slot table p o stag new off s = elim (eqb_tells stag.domain p.stag.domain) [
  | inr apart ↦ other_part table p o stag.domain (Some (slice_set (with_room (slots_of table stag.domain)) stag.slot new)) apart.0 s
  | inl same ↦
      let slot : nat_eq stag.slot p.stag.slot ≡ false = ap (λ b. b && nat_eq stag.slot p.stag.slot) (sym same.0) ∙ off in
      let apart : p.stag.slot ≢ stag.slot = λ e. (let d : p.stag.slot ≡ stag.slot = e in let never : ⊥ = grind (arith, nat_tests) in never) in
      let d : ℕ = stag.domain in
      let slots : List SlotState = slots_of table d in
      let inside : d < length table = omega (arith, in_table table p o s, same.1) in
      let part : part_of (with_part table d (Some (slice_set (with_room slots) stag.slot new))) p.stag.domain ≡ Some (slice_set (with_room slots) stag.slot new) =
      ap (part_of (with_part table d (Some (slice_set (with_room slots) stag.slot new)))) (sym same.1) ∙ part_of-with_part_same table d (Some (slice_set (with_room slots) stag.slot new)) inside in
      let here : slice_index_or (slice_set (with_room slots) stag.slot new) p.stag.slot unused ≡ slice_index_or (own_slots (part_of table p.stag.domain)) p.stag.slot unused =
      get_or-set_other (with_room slots) stag.slot p.stag.slot new unused apart ∙ roomy slots p.stag.slot ∙ ap (λ z. slice_index_or (slots_of table z) p.stag.slot unused) same.1 in
      record { region = s.region; is = ap (λ z. own_region z p.stag) part ∙ ap (λ z. under_key z p.stag.key) here ∙ s.is; low = s.low; stand = s.stand }
]

invalid_stays : (table : Table) (p : Place) (o : Octets) (stag : Stag) → Stands table p o → Stands (invalidated table stag) p o
invalid_stays table p o stag s = elim (same_stag p.stag stag) [
  | inr off ↦ record { region = s.region; is = (with_region-changes table stag made_invalid).others p.stag off ∙ s.is; low = s.low; stand = s.stand }
  | inl same ↦
      record {
        region = made_invalid s.region;
        is = ap (region_at (invalidated table stag)) same ∙ (with_region-changes table stag made_invalid).changed ∙ ap (λ z. option_map made_invalid (region_at table z)) (sym same) ∙ ap (option_map made_invalid) s.is;
        low = s.low;
        stand = s.stand;
      }
]

other_number : (a b : Stag) → nat_eq (number_of b) (number_of a) ≡ false → a ≢ b
other_number a b off e = (let same : number_of a ≡ number_of b = ap number_of e in let never : ⊥ = grind (arith, nat_tests) in never)

pub stays : (table : Table) (p : Place) (o : Octets) (act : Act Octets) → FitsAct table act → touches p act ≡ false → Stands table p o → Stands (table_by table act) p o
stays table p o (Domain pd None) fits h s = other_part table p o pd (Some []) h s
stays table p o (Domain pd (Some refusal)) fits h s = s
stays table p o (Register pd base rights octets (Ok stag)) fits h s = other_slot table p o stag (record { key = stag.key; region = Some (new_region base octets rights) }) h s
stays table p o (Register pd base rights octets (Err refusal)) fits h s = s
stays table p o (Deregister stag (Ok octets)) fits h s =
    record { region = s.region; is = (deregistered-changes table stag).others p.stag (other_number p.stag stag h) ∙ s.is; low = s.low; stand = s.stand }
stays table p o (Deregister stag (Err refusal)) fits h s = s
stays table p o (Invalidate stag None) fits h s = invalid_stays table p o stag s
stays table p o (Invalidate stag (Some refusal)) fits h s = s
stays table p o (Store stag to octets None) fits h s = put_apart table p o stag to octets fits h s
stays table p o (Store stag to octets (Some refusal)) fits h s = s
stays table p o (Open number pd role options private refused) fits h s = s
stays table p o (Share pd refused) fits h s = s
stays table p o (Pool pd len refused) fits h s = s
stays table p o (Unpool pd answer) fits h s = s
stays table p o (OpenShared number pd role options private refused) fits h s = s
stays table p o (Stream n act) fits h s = go (deed act).placing (deed act).received fits h
  where
    placed : (q : Placing) → IsPlaceable table q → lies_over p q.stag q.to q.octets ≡ false → Stands (put table q.stag q.to q.octets) p o
    placed q (inl none) h = subst (λ t. Stands t p o) (sym (ap (put table q.stag q.to) (no_octets q.octets none) ∙ put-nothing table q.stag q.to)) s
    placed q (inr found) h = put_apart table p o q.stag q.to q.octets (λ r is. subst (λ z. Spans z q.to (length q.octets)) (same_Some _ _ (sym found.1 ∙ is)) found.2) h s

    go : (placing : Option Placing) (received : Option Sent) → OnSome (IsPlaceable table) placing → option_map_or (λ q. lies_over p q.stag q.to q.octets) placing false ≡ false
        → Stands (option_map_or (λ q. put table q.stag q.to q.octets) placing (option_map_or (λ message. option_map_or (invalidated table) message.invalidate table) received table)) p o
    go (Some q) received fits h = placed q fits h
    go None None fits h = s
    go None (Some message) fits h = by message.invalidate
      where
        by : (o' : Option Stag) → Stands (option_map_or (invalidated table) o' table) p o
        by None = s
        by (Some stag) = invalid_stays table p o stag s

-- ---- how often an octet was placed there

-- the placements by one right, as Writes
abbrev pub of_right : Right → List Placing → List (Request Octets)
of_right rights.Write ps = written ps
of_right rights.Sink ps = sunk ps
of_right rights.Read ps = []

abbrev pub count_by : Right → Cell → Placing → ℕ
count_by rights.Write c q = count_writes c (written_by q.right (as_write q))
count_by rights.Sink c q = count_writes c (sunk_by q.right (as_write q))
count_by rights.Read c q = 0

one_more : (right : Right) (c : Cell) (ps : List Placing) (q : Placing) → count_writes c (of_right right (ps ++ q ∷ [])) ≡ count_writes c (of_right right ps) + count_by right c q
one_more rights.Write c ps q = written-push c ps q
one_more rights.Sink c ps q = sunk-push c ps q
one_more rights.Read c ps q = omega arith

-- by an act of the stream
abbrev pub count_act : ℕ → Right → Cell → Act Octets → ℕ
count_act n right c act = option_map_or (λ x. cond (nat_eq x.0 n) (option_map_or (count_by right c) (deed x.1).placing 0) 0) (of_stream act) 0

placings-append : (xs ys : List (StreamAct Octets)) → placings (xs ++ ys) ≡ placings xs ++ placings ys
unfolding placings
placings-append xs ys = flat_map-append placed_by xs ys

placings-one : (act : StreamAct Octets) → placings (act ∷ []) ≡ listed (deed act).placing
unfolding placings
placings-one act = append-nil (listed (deed act).placing)

placings-none : placings [] ≡ []
unfolding placings
placings-none = refl

pub counts-push : (n : ℕ) (right : Right) (c : Cell) (done : List (Act Octets)) (act : Act Octets)
    → count_writes c (of_right right (placings (stream_acts n (done ++ act ∷ [])))) ≡ count_writes c (of_right right (placings (stream_acts n done))) + count_act n right c act
counts-push n right c done act =
    ap (λ z. count_writes c (of_right right (placings z))) (stream_acts-push n done act) ∙ ap (λ z. count_writes c (of_right right z)) (placings-append (stream_acts n done) (stream_acts_by n act)) ∙ go (of_stream act)
  where
    ps : List Placing
    ps = placings (stream_acts n done)

    none : count_writes c (of_right right (ps ++ [])) ≡ count_writes c (of_right right ps) + 0
    none = ap (λ z. count_writes c (of_right right z)) (append-nil ps) ∙ omega arith

    listing : (o : Option Placing) → count_writes c (of_right right (ps ++ listed o)) ≡ count_writes c (of_right right ps) + option_map_or (count_by right c) o 0
    listing None = none
    listing (Some q) = one_more right c ps q

    by : (m : ℕ) (a : StreamAct Octets) (b : Bool) → count_writes c (of_right right (ps ++ placings (cond b (a ∷ []) []))) ≡ count_writes c (of_right right ps) + cond b (option_map_or (count_by right c) (deed a).placing 0) 0
    by m a true = ap (λ z. count_writes c (of_right right (ps ++ z))) (placings-one a) ∙ listing (deed a).placing
    by m a false = ap (λ z. count_writes c (of_right right (ps ++ z))) placings-none ∙ none

    go : (o : Option (ℕ × StreamAct Octets)) → count_writes c (of_right right (ps ++ placings (option_map_or (λ x. cond (nat_eq x.0 n) (x.1 ∷ []) []) o []))) ≡ count_writes c (of_right right ps) + option_map_or (λ x. cond (nat_eq x.0 n) (option_map_or (count_by right c) (deed x.1).placing 0) 0) o 0
    go None = ap (λ z. count_writes c (of_right right (ps ++ z))) placings-none ∙ none
    go (Some x) = by x.0 x.1 (nat_eq x.0 n)

zero_or : (n : ℕ) → (n ≡ 0) ⊎ (0 < n)
zero_or zero = inl refl
zero_or (suc n) = inr (omega arith)

-- octets that do not lie over the place have none there
none_in : (table : Table) (p : Place) (octet : ℕ) (q : Placing) → IsPlaceable table q → lies_over p q.stag q.to q.octets ≡ false → count_in (cell_of p octet) q.stag q.to q.octets ≡ 0
none_in table p octet q (inl none) h = ap (count_in (cell_of p octet) q.stag q.to) (no_octets q.octets none) ∙ go (eqb (number_of q.stag) (number_of p.stag))
  where
    go : (b : Bool) → ◌≡◌ {A = ℕ} (cond b 0 0) 0
    go true = refl
    go false = refl
none_in table p octet q (inr found) h = elim (zero_or (count_in (cell_of p octet) q.stag q.to q.octets)) [
  | inl none ↦ none
  | inr some ↦ absurd (true≢false (sym (counted_in p octet q.stag q.to q.octets found.3 some) ∙ h))
]

none_by : (table : Table) (p : Place) (octet : ℕ) (right : Right) (q : Placing) → IsPlaceable table q → lies_over p q.stag q.to q.octets ≡ false → count_by right (cell_of p octet) q ≡ 0
none_by table p octet rights.Read q fits h = refl
none_by table p octet rights.Write q fits h = go q.right
  where
    go : (r : Right) → count_writes (cell_of p octet) (written_by r (as_write q)) ≡ 0
    go rights.Write = omega (arith, none_in table p octet q fits h)
    go rights.Read = refl
    go rights.Sink = refl
none_by table p octet rights.Sink q fits h = go q.right
  where
    go : (r : Right) → count_writes (cell_of p octet) (sunk_by r (as_write q)) ≡ 0
    go rights.Sink = omega (arith, none_in table p octet q fits h)
    go rights.Read = refl
    go rights.Write = refl

pub none_act : (table : Table) (p : Place) (octet n : ℕ) (right : Right) (act : Act Octets) → FitsAct table act → touches p act ≡ false → count_act n right (cell_of p octet) act ≡ 0
none_act table p octet n right (Domain pd refused) fits h = refl
none_act table p octet n right (Register pd base rights octets answer) fits h = refl
none_act table p octet n right (Deregister stag answer) fits h = refl
none_act table p octet n right (Invalidate stag refused) fits h = refl
none_act table p octet n right (Store stag to octets refused) fits h = refl
none_act table p octet n right (Open number pd role options private refused) fits h = refl
none_act table p octet n right (Share pd refused) fits h = refl
none_act table p octet n right (Pool pd len refused) fits h = refl
none_act table p octet n right (Unpool pd answer) fits h = refl
none_act table p octet n right (OpenShared number pd role options private refused) fits h = refl
none_act table p octet n right (Stream m act) fits h = by (nat_eq m n) (go (deed act).placing fits h)
  where
    go : (o : Option Placing) → OnSome (IsPlaceable table) o → option_map_or (λ q. lies_over p q.stag q.to q.octets) o false ≡ false → option_map_or (count_by right (cell_of p octet)) o 0 ≡ 0
    go None fits h = refl
    go (Some q) fits h = none_by table p octet right q fits h

    by : {x : ℕ} (b : Bool) → x ≡ 0 → cond b x 0 ≡ 0
    by true e = e
    by false e = refl

-- ---- what was seen of the place

-- octets that were put over the place stand there
pub record IsPut (table : Table) (p : Place) (to : ℕ) (octets : Octets) : Type 0 where
  pub low : to ≤ p.to
  pub high : p.to < to + length octets
  pub stand : Stands table p (one_at (p.to - to) octets)

-- what touched it last, if an octet was counted there since a moment; and what stands there, if that was one of these placements (`IsOurs`): its
-- octet is counted
pub record IsSeenSince (X : Type 0) (IsOurs : X → ℕ → Octets → Type 0) (p : Place) (table : Table) (last : Option X) (base now : ℕ → ℕ) : Type 0 where
  pub touched : (octet : ℕ) → base octet < now octet → (act : X) × (last ≡ Some act)
  pub stands : (act : X) → last ≡ Some act → (to : ℕ) (octets : Octets) → IsOurs act to octets → IsPut table p to octets × ((octet : ℕ) → one_at (p.to - to) octets ≡ octet ∷ [] → base octet < now octet)
  pub grown : (octet : ℕ) → base octet ≤ now octet

-- what one act does there
pub record IsStep (X : Type 0) (IsOurs : X → ℕ → Octets → Type 0) (p : Place) (table table' : Table) (touches_it : Bool) (act : X) (now now' : ℕ → ℕ) : Type 0 where
  pub left : touches_it ≡ false → ((o : Octets) → Stands table p o → Stands table' p o) × ((octet : ℕ) → now' octet ≡ now octet)
  pub put : touches_it ≡ true → (to : ℕ) (octets : Octets) → IsOurs act to octets → IsPut table' p to octets × ((octet : ℕ) → one_at (p.to - to) octets ≡ octet ∷ [] → now octet < now' octet)
  pub more : (octet : ℕ) → now octet ≤ now' octet

module _ (X : Type 0) (IsOurs : X → ℕ → Octets → Type 0) (p : Place) (base : ℕ → ℕ) where
  pub seen_first : (table : Table) → IsSeenSince X IsOurs p table None base base
  seen_first table = record {
    touched = λ octet some. absurd (omega (arith, some));
    stands = λ act is to octets ours. absurd (none-some _ is);
    grown = λ octet. omega arith;
  }

  pub seen_step : (table table' : Table) (last : Option X) (touches_it : Bool) (act : X) (now now' : ℕ → ℕ) → IsStep X IsOurs p table table' touches_it act now now' → IsSeenSince X IsOurs p table last base now
      → IsSeenSince X IsOurs p table' (cond touches_it (Some act) last) base now'
  seen_step table table' last false act now now' step k =
      let left = step.left refl in
      record {
        touched = λ octet some. k.touched octet (omega (arith, some, left.1 octet));
        stands = λ act' is to octets ours.
            let r = k.stands act' is to octets ours in
            (record { low = r.0.low; high = r.0.high; stand = left.0 (one_at (p.to - to) octets) r.0.stand }, λ octet one. (let less = r.1 octet one in omega (arith, less, left.1 octet)));
        grown = λ octet. (let less = k.grown octet in omega (arith, less, left.1 octet));
      }
  seen_step table table' last true act now now' step k = record {
    touched = λ octet some. (act, refl);
    stands = λ act' is to octets ours.
        let r = step.put refl to octets (subst (λ z. IsOurs z to octets) (sym (same_Some act act' is)) ours) in
        (r.0, λ octet one. (let less = r.1 octet one in let grown = k.grown octet in omega (arith, less, grown)));
    grown = λ octet. (let less = k.grown octet in let more = step.more octet in omega (arith, less, more));
  }

  -- an octet that was placed since stands there, where no other was
  pub stands_there : (table : Table) (last : Option X) (now : ℕ → ℕ) → IsSeenSince X IsOurs p table last base now → (octet : ℕ) → base octet < now octet
      → ((other : ℕ) → base other < now other → other ≡ octet) → ((act : X) → last ≡ Some act → (to : ℕ) × (octets : Octets) × IsOurs act to octets) → Holds table p octet
  stands_there table last now k octet some agree untouched =
      let t = k.touched octet some in
      let w = untouched t.0 t.1 in
      let r = k.stands t.0 t.1 w.0 w.1 w.2 in
      let o = some_octet p w.0 w.1 r.0.low r.0.high in
      let same : o.0 ≡ octet = agree o.0 (r.1 o.0 o.1) in
      standing r.0.stand ∙ o.1 ∙ ap (λ z. z ∷ []) same

-- how often an octet was placed there for a stream
abbrev pub placed_at : Place → ℕ → Right → List (Act Octets) → ℕ → ℕ
placed_at p n right done octet = count_writes (cell_of p octet) (of_right right (placings (stream_acts n done)))

-- it was placed there since, and no other
pub record IsOnlyOne (base now : ℕ → ℕ) (octet : ℕ) : Type 0 where
  pub some : base octet < now octet
  pub alone : (other : ℕ) → base other < now other → other ≡ octet

-- where each cell was placed so often at least and at most
pub only_one : (p : Place) (octet : ℕ) (base now : ℕ → ℕ) (least_then most_then least most : Cell → ℕ) → ((v : ℕ) → (least_then (cell_of p v) ≤ base v) × (base v ≤ most_then (cell_of p v))) → ((v : ℕ) → (least (cell_of p v) ≤ now v) × (now v ≤ most (cell_of p v)))
    → IsPlacedSince p octet least_then most_then least most → IsOnlyOne base now octet
only_one p octet base now least_then most_then least most before later w = record {
  some = let a = (before octet).1 in let b = (later octet).0 in let c = w.new in omega (arith, a, b, c);
  alone = λ v more. w.alone v (let a = (before v).0 in let b = (later v).1 in omega (arith, more, a, b));
}

-- the placement of a stream
pub placed_there : (table : Table) (p : Place) (m : ℕ) (by : Right) (to : ℕ) (octets : Octets) → FitsAct table (Stream m (Work (seen.Placed by p.stag to octets))) → touches p (Stream m (Work (seen.Placed by p.stag to octets))) ≡ true
    → IsPut (table_by table (Stream m (Work (seen.Placed by p.stag to octets)))) p to octets
placed_there table p m by to octets (inl none) h = let w = over_parts p p.stag to octets h in absurd (omega (arith, w.0, w.1, none))
placed_there table p m by to octets (inr found) h =
    let w = over_parts p p.stag to octets h in
    record { low = w.0; high = w.1; stand = put_there table p to octets found.0 found.1 found.2 w.0 w.1 }

pub placed_counted : (table : Table) (p : Place) (n : ℕ) (right : Right) (to : ℕ) (octets : Octets) (octet : ℕ) → (right ≡ rights.Read → ⊥) → FitsAct table (Stream n (Work (seen.Placed right p.stag to octets))) → touches p (Stream n (Work (seen.Placed right p.stag to octets))) ≡ true
    → one_at (p.to - to) octets ≡ octet ∷ [] → 0 < count_act n right (cell_of p octet) (Stream n (Work (seen.Placed right p.stag to octets)))
placed_counted table p n right to octets octet unread (inl none) h one = let w = over_parts p p.stag to octets h in absurd (omega (arith, w.0, w.1, none))
placed_counted table p n right to octets octet unread (inr found) h one =
    let w = over_parts p p.stag to octets h in
    let some : 0 < count_in (cell_of p octet) p.stag to octets = stands_in p octet to octets found.3 w.0 one in
    let mine : nat_eq n n ≡ true = grind (arith, nat_tests) in
    let all = ap (λ b. cond b (count_by right (cell_of p octet) (record { right = right; stag = p.stag; to = to; octets = octets })) 0) mine in
    omega (arith, all, go right unread some)
  where
    go : (right : Right) → (right ≡ rights.Read → ⊥) → 0 < count_in (cell_of p octet) p.stag to octets → 0 < count_by right (cell_of p octet) (record { right = right; stag = p.stag; to = to; octets = octets })
    go rights.Write unread some = omega (arith, some)
    go rights.Sink unread some = omega (arith, some)
    go rights.Read unread some = absurd (unread refl)

-- ---- in words of schedules

abbrev IsPlacing : ℕ → Right → Stag → Act Octets → ℕ → Octets → Type 0
IsPlacing n right stag act to octets = act ≡ Stream n (Work (seen.Placed right stag to octets))

touch-push : (p : Place) (done : List (Act Octets)) (act : Act Octets) → last_touch p (done ++ act ∷ []) ≡ touched_after p (last_touch p done) act
unfolding last_touch
touch-push p done act = fold-push (touched_after p) None done act

-- what touched it last of what was done since did so of all
touched_later : (p : Place) (ys : List (Act Octets)) (l : Option (Act Octets)) (act : Act Octets) → fold (touched_after p) None ys ≡ Some act → fold (touched_after p) l ys ≡ Some act
touched_later p [] l act h = absurd (none-some _ h)
touched_later p (y ∷ ys) l act h = go (touches p y) refl h (touched_later p ys l act)
  where
    go : (b : Bool) → touches p y ≡ b → fold (touched_after p) (cond b (Some y) None) ys ≡ Some act → (fold (touched_after p) None ys ≡ Some act → fold (touched_after p) l ys ≡ Some act) → fold (touched_after p) (touched_after p l y) ys ≡ Some act
    go true e h' later = ap (λ b. fold (touched_after p) (cond b (Some y) l) ys) e ∙ h'
    go false e h' later = ap (λ b. fold (touched_after p) (cond b (Some y) l) ys) e ∙ later h'

last_later : (p : Place) (old more : List (Act Octets)) (act : Act Octets) → last_touch p more ≡ Some act → last_touch p (old ++ more) ≡ Some act
unfolding last_touch
last_later p old more act h = fold-append (touched_after p) None old more ∙ touched_later p more (fold (touched_after p) None old) act h

-- an act, at a table that it fits
one_step : (p : Place) (n : ℕ) (right : Right) (done : List (Act Octets)) (act : Act Octets) → (right ≡ rights.Read → ⊥) → FitsAct (table_after done) act
    → IsStep (Act Octets) (IsPlacing n right p.stag) p (table_after done) (table_after (done ++ act ∷ [])) (touches p act) act (placed_at p n right done) (placed_at p n right (done ++ act ∷ []))
one_step p n right done act unread fits = record {
  left = λ h.
      (λ o s. subst (λ t. Stands t p o) (sym (table-push done act)) (stays (table_after done) p o act fits h s), λ octet. omega (arith, counts-push n right (cell_of p octet) done act, none_act (table_after done) p octet n right act fits h));
  put = λ h to octets same.
      let fits' : FitsAct (table_after done) (Stream n (Work (seen.Placed right p.stag to octets))) = subst (FitsAct (table_after done)) same fits in
      let h' : touches p (Stream n (Work (seen.Placed right p.stag to octets))) ≡ true = ap (touches p) (sym same) ∙ h in (
        subst (λ t. IsPut t p to octets) (sym (table-push done act ∙ ap (table_by (table_after done)) same)) (placed_there (table_after done) p n right to octets fits' h'),
        λ octet one. (let some = placed_counted (table_after done) p n right to octets octet unread fits' h' one in omega (arith, some, counts-push n right (cell_of p octet) done act, ap (count_act n right (cell_of p octet)) same)),
      );
  more = λ octet. omega (arith, counts-push n right (cell_of p octet) done act);
}

-- ---- so at every moment of a trace

fits_act : (before : List (Act Octets)) (act : Act Octets) → OnStream WithinStream before act → PlainAnswered before act → FitsAct (table_after before) act
fits_act before (Stream n act) within answered = go (deed act).placing within.0
  where
    go : (o : Option Placing) → OnSome (λ q. AllowsFor (table_after before) (peer_at n before) q.stag q.to (length q.octets) q.right) o → OnSome (IsPlaceable (table_after before)) o
    go None h = tt
    go (Some q) h = placeable (table_after before) (peer_at n before) q h
fits_act before (Store stag to octets None) within answered = storable (table_after before) stag to octets answered
fits_act before (Store stag to octets (Some refusal)) within answered = tt
fits_act before (Domain pd refused) within answered = tt
fits_act before (Register pd base rights octets answer) within answered = tt
fits_act before (Deregister stag answer) within answered = tt
fits_act before (Invalidate stag refused) within answered = tt
fits_act before (Open number pd role options private refused) within answered = tt
fits_act before (Share pd refused) within answered = tt
fits_act before (Pool pd len refused) within answered = tt
fits_act before (Unpool pd answer) within answered = tt
fits_act before (OpenShared number pd role options private refused) within answered = tt

module _ (trace : List (Entry Octets)) (within : Within trace) (answered : ShowsRegions trace) (y : End) (p : Place) (n : ℕ) (right : Right) (unread : right ≡ rights.Read → ⊥) (past : List (Entry Octets)) where
  abbrev Since : List (Act Octets) → List (Act Octets) → Type 0
  Since more done = IsSeenSince (Act Octets) (IsPlacing n right p.stag) p (table_after done) (last_touch p more) (placed_at p n right (acts y past)) (placed_at p n right done)

  next : (more done : List (Act Octets)) (act : Act Octets) → FitsAct (table_after done) act → Since more done → Since (more ++ act ∷ []) (done ++ act ∷ [])
  next more done act fits k =
      subst (λ l. IsSeenSince (Act Octets) (IsPlacing n right p.stag) p (table_after (done ++ act ∷ [])) l (placed_at p n right (acts y past)) (placed_at p n right (done ++ act ∷ []))) (sym (touch-push p more act))
      (seen_step (Act Octets) (IsPlacing n right p.stag) p (placed_at p n right (acts y past)) (table_after done) (table_after (done ++ act ∷ [])) (last_touch p more) (touches p act) act (placed_at p n right done) (placed_at p n right (done ++ act ∷ []))
      (one_step p n right done act unread fits) k)

  one : (mid pre : List (Entry Octets)) (e : Entry Octets) (post : List (Entry Octets)) → trace ≡ pre ++ e ∷ post → Since (acts y mid) (acts y pre) → Since (acts y (mid ++ e ∷ [])) (acts y (pre ++ e ∷ []))
  one mid pre e post is k =
      subst (λ z. Since z (acts y (pre ++ e ∷ []))) (sym (acts-push y mid e))
      (subst (Since (acts y mid ++ acts_if y e.end e.act)) (sym (acts-push y pre e)) (by y e.end (acts y mid) (acts y pre) k (fits_act (acts e.end pre) e.act (within pre e post is) (answered pre e post is)) refl))
    where
      by : (z u : End) (more done : List (Act Octets)) → Since more done → FitsAct (table_after (acts u pre)) e.act → (done ≡ acts z pre) → Since (more ++ acts_if z u e.act) (done ++ acts_if z u e.act)
      by A A more done k fits at = next more done e.act (subst (λ d. FitsAct (table_after d) e.act) (sym at) fits) k
      by B B more done k fits at = next more done e.act (subst (λ d. FitsAct (table_after d) e.act) (sym at) fits) k
      by A B more done k fits at = subst (λ z. Since z (done ++ [])) (sym (append-nil more)) (subst (Since more) (sym (append-nil done)) k)
      by B A more done k fits at = subst (λ z. Since z (done ++ [])) (sym (append-nil more)) (subst (Since more) (sym (append-nil done)) k)

  from : (mid pre post future : List (Entry Octets)) → trace ≡ pre ++ (post ++ future) → Since (acts y mid) (acts y pre) → Since (acts y (mid ++ post)) (acts y (pre ++ post))
  from mid pre [] future is k = subst (λ z. Since (acts y z) (acts y (pre ++ []))) (sym (append-nil mid)) (subst (λ z. Since (acts y mid) (acts y z)) (sym (append-nil pre)) k)
  from mid pre (e ∷ post) future is k =
      subst (λ z. Since (acts y z) (acts y (pre ++ e ∷ post))) (append_assoc mid (e ∷ []) post)
      (subst (λ z. Since (acts y ((mid ++ e ∷ []) ++ post)) (acts y z)) (append_assoc pre (e ∷ []) post)
      (from (mid ++ e ∷ []) (pre ++ e ∷ []) post future (is ∙ sym (append_assoc pre (e ∷ []) (post ++ future))) (one mid pre e (post ++ future) is k)))

  seen_since : (since future : List (Entry Octets)) → trace ≡ (past ++ since) ++ future → Since (acts y since) (acts y (past ++ since))
  unfolding acts last_touch
  seen_since since future is = from [] past since future (is ∙ append_assoc past since future) (seen_first (Act Octets) (IsPlacing n right p.stag) p (placed_at p n right (acts y past)) (table_after (acts y past)))

  acts_split : (since : List (Entry Octets)) → acts y (past ++ since) ≡ acts y past ++ acts y since
  unfolding acts
  acts_split since = flat_map-append (λ (e : Entry Octets). acts_if y e.end e.act) past since

  -- an octet stands where it was placed since, where no other was
  pub there_stands : (since future : List (Entry Octets)) → trace ≡ (past ++ since) ++ future → (octet : ℕ) → IsOnlyOne (placed_at p n right (acts y past)) (placed_at p n right (acts y (past ++ since))) octet
      → IsUntouched p n right (acts y (past ++ since)) → Holds (table_after (acts y (past ++ since))) p octet
  there_stands since future is octet one untouched =
      stands_there (Act Octets) (IsPlacing n right p.stag) p (placed_at p n right (acts y past)) (table_after (acts y (past ++ since))) (last_touch p (acts y since)) (placed_at p n right (acts y (past ++ since)))
      (seen_since since future is) octet one.some one.alone
      (λ act last. untouched act (ap (last_touch p) (acts_split since) ∙ last_later p (acts y past) (acts y since) act last))
