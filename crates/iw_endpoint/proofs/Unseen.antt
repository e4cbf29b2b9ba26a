-- Of the octets of a region that is limited to one stream nothing is told but by an emission of that stream, and to the region's owner.
use Rattle.std.proofs.Common.{◌≡◌, ◌⊎◌, ◌<◌, ◌-◌, ℕ, zero, suc, Bool, true, false, cond, List, [], ◌∷◌, length, Option, Some, None, refl, sym, ap, subst, ◌∙◌, arith, inl, inr}
use Rattle.std.specs.Prelude.{IsSomeAnd, is_some, slice_index_or}
use Rattle.std.specs.Option.{option_map}
use Rattle.std.proofs.Math.Seq.{take-length}
use Rattle.std.proofs.lemmas.Bool.Decides.{eqb_tells}
use Rattle.iw_octets.specs.declared.stag.Stag.{Stag}
use Rattle.iw_memory.specs.declared.peer.Peer.{Peer}
use Rattle.iw_memory.specs.declared.refusal.DeregisterRefusal.{DeregisterRefusal}
use Rattle.iw_memory.specs.declared.refusal.StoreRefusal.{StoreRefusal}
use Rattle.iw_memory.specs.Part.{own_region}
use Rattle.iw_memory.specs.Region.{Region, is_bound_to, made_invalid, retired_region, region_with, overlay}
use Rattle.iw_memory.specs.Table.{Table, with_slot, region_at, with_region, put, invalidated, retired, registered, registered_drawn}
use Rattle.iw_memory.specs.TableLending.{overwritten}
use Rattle.iw_memory.proofs.LawLemmas.{stag_cases, with_region-changes}
use Rattle.iw_memory.proofs.ScopeLemmas.{retires}
use Rattle.iw_memory.proofs.TableLemmas.{with_region-found, with_region-none, with_slot-same}
use Rattle.iw_stream.specs.Stream.{StreamState, peer_of}
use Rattle.iw_stream.specs.Work.{table_worked}
use Rattle.iw_endpoint.specs.Endpoint.{EndpointState, with_table, pool_of, lent_to, deregistered, store_refusal, stored, rewritten}
use Rattle.iw_endpoint.specs.Sharing.{emptied}
use Rattle.iw_endpoint.specs.Isolation.{StreamCall, Call, Answer, Deregister, DeregisterKept, TakeRegion, Invalidate, Store, Local, LocalMut, AtStream, Invalidated, Stored, OfStream, stream_answer, after_stream, answer, after, unless}
use Rattle.iw_endpoint.specs.Limited.{KnowNumbers, Spares, Hides, DifferIn, AreHidden, LimitedRegionsAreHidden, answers}
use Rattle.iw_endpoint.proofs.Calls.{told_alike, left_alike, worked_over, alone_over}
use Rattle.iw_endpoint.proofs.Drawn.{drawn_keeps}
use Rattle.iw_endpoint.proofs.Forms.{own_fault, kept_fault}
use Rattle.iw_endpoint.proofs.Limited.{limited_apart, know_step}
use Rattle.iw_endpoint.proofs.Rewritten.{with_octets, registered_keeps, put_passes, put_over, invalidated_passes, invalidated_over, rewritten_over, deregistered_over, over_denies, over_store}
use Rattle.iw_endpoint.proofs.Spared.{passes}
use Rattle.iw_endpoint.proofs.Tables.{keeps-worked, both-worked}

-- ---- the region stays limited to the stream

abbrev IsBound : ℕ → Stag → Table → Type 0
IsBound n stag t = IsSomeAnd (region_at t stag) (λ r. r.bound ≡ Some n)

changed_bound : (n : ℕ) (o : Option Region) (change : Region → Region) → ((r : Region) → (change r).bound ≡ r.bound) → IsSomeAnd o (λ r. r.bound ≡ Some n) → IsSomeAnd (option_map change o) (λ r. r.bound ≡ Some n)
changed_bound n None change keeps bound = bound
changed_bound n (Some r) change keeps bound = keeps r ∙ bound

retired_bound : (stream : Option ℕ) (r : Region) → (retired_region stream r).bound ≡ r.bound
retired_bound stream r = go (is_bound_to r.bound stream)
  where
    go : (b : Bool) → (cond b (made_invalid r) r).bound ≡ r.bound
    go true = refl
    go false = refl

-- a region that is limited so
pub record Found (n : ℕ) (o : Option Region) : Type 0 where
  pub region : Region
  pub found : o ≡ Some region
  pub limited : region.bound ≡ Some n

found_in : (n : ℕ) (o : Option Region) → IsSomeAnd o (λ r. r.bound ≡ Some n) → Found n o
found_in n None bound = absurd bound
found_in n (Some r) bound = record { region = r; found = refl; limited = bound }

module _ (n : ℕ) (stag : Stag) (t : Table) (bound : IsBound n stag t) where
  still : (u : Table) → region_at u stag ≡ region_at t stag → IsBound n stag u
  still u same = subst (λ o. IsSomeAnd o (λ r. r.bound ≡ Some n)) (sym same) bound

  bound_changed : (other : Stag) (change : Region → Region) → ((r : Region) → (change r).bound ≡ r.bound) → IsBound n stag (with_region t other change)
  bound_changed other change keeps = elim (stag_cases stag other) [
    | inr ne ↦ still (with_region t other change) ((with_region-changes t other change).others stag ne)
    | inl same ↦
        subst (λ o. IsSomeAnd o (λ r. r.bound ≡ Some n)) (sym (ap (region_at (with_region t other change)) same ∙ (with_region-changes t other change).changed ∙ ap (λ x. option_map change (region_at t x)) (sym same)))
        (changed_bound n (region_at t stag) change keeps bound)
  ]

  bound_retired : (peer : Peer) → IsBound n stag (retired t peer)
  bound_retired peer = elim (eqb_tells stag.domain peer.domain) [
    | inr off ↦ still (retired t peer) (ap (λ part. own_region part stag) ((retires t peer).others stag.domain off.1))
    | inl own ↦ subst (λ o. IsSomeAnd o (λ r. r.bound ≡ Some n)) (sym ((retires t peer).own stag own.1)) (changed_bound n (region_at t stag) (retired_region peer.stream) (retired_bound peer.stream) bound)
  ]

  bound_registered : (pd : ℕ) (region : Region) → IsBound n stag (registered t pd region)
  bound_registered pd region = let is = found_in n (region_at t stag) bound in still (registered t pd region) (registered_keeps t pd region stag is.region is.found)

  bound_drawn : (pd drawn : ℕ) (region : Region) → IsBound n stag (registered_drawn t pd drawn region)
  bound_drawn pd drawn region = let is = found_in n (region_at t stag) bound in still (registered_drawn t pd drawn region) (drawn_keeps t pd drawn region stag is.region is.found)

  bound_worked : (s : StreamState) → IsBound n stag (table_worked t s)
  bound_worked s = keeps-worked s t (IsBound n stag) (record {
    all = bound;
    placed = λ other to octets right none. bound_changed other (λ r. region_with r to octets) (λ r. refl);
    invalidated = λ other none. bound_changed other made_invalid (λ r. refl);
  })

-- ---- one call

record OverTable (stag : Stag) (new old : Table) : Type 0 where
  later : List ℕ
  is : new ≡ overwritten old stag later

abbrev Related : ℕ → Stag → EndpointState → EndpointState → Type 0
Related n stag e f = (f ≡ e) ⊎ (IsBound n stag e.table × DifferIn stag e f)

record Step (n : ℕ) (stag : Stag) (e f : EndpointState) (call : Call) : Type 0 where
  told : Hides n stag call → answer f call ≡ answer e call
  left : Related n stag (after e call) (after f call)

module _ (e : EndpointState) (n : ℕ) (stag : Stag) (r : Region) (found : region_at e.table stag ≡ Some r) (limited : r.bound ≡ Some n) (know : KnowNumbers e) (octets : List ℕ) where
  abbrev t : Table
  t = overwritten e.table stag octets

  abbrev f : EndpointState
  f = rewritten e stag octets

  bound : IsBound n stag e.table
  bound = subst (λ o. IsSomeAnd o (λ r. r.bound ≡ Some n)) (sym found) limited

  -- at any stream

  worked_later : (s : StreamState) → OverTable stag (table_worked t s) (table_worked e.table s)
  worked_later s = both-worked s t e.table (OverTable stag) (record {
    all = record { later = octets; is = refl };
    placed = λ other to new right none. elim (stag_cases other stag) [
      | inr ne ↦ record { later = octets; is = put_passes e.table stag r found octets other to new ne }
      | inl same ↦ subst (λ x. OverTable stag (put t x to new) (put e.table x to new)) (sym same) (record { later = overlay (overlay r.octets 0 octets) (to - r.base) new; is = put_over e.table stag r found octets to new })
    ];
    invalidated = λ other none. elim (stag_cases other stag) [
      | inr ne ↦ record { later = octets; is = invalidated_passes e.table stag r found octets other ne }
      | inl same ↦ subst (λ x. OverTable stag (invalidated t x) (invalidated e.table x)) (sym same) (record { later = octets; is = invalidated_over e.table stag r found octets })
    ];
  }) (over_denies e.table stag r found octets (peer_of s))

  stream_left : (m : ℕ) (call : StreamCall) → IsBound n stag (after_stream e m call).table × DifferIn stag (after_stream e m call) (after_stream f m call)
  stream_left m call =
      left_alike e m stag r found octets (IsBound n stag) (λ new old. IsBound n stag old.table × DifferIn stag old new) bound
      (λ s is. bound_retired n stag e.table bound (peer_of s)) (λ pd region. bound_registered n stag e.table bound pd region)
      (λ pd drawn region. bound_drawn n stag e.table bound pd drawn region) (λ new b. (b, record { octets = octets; same = refl }))
      (λ s is.
      let x = lent_to (pool_of e s.domain) s in
      let over = worked_later x in
      (bound_worked n stag e.table bound x, record { octets = over.later; same = worked_over e m stag r found octets s over.later over.is }))
      (λ s is.
      let x = lent_to (emptied (pool_of e s.domain)) s in
      let over = worked_later x in
      (bound_worked n stag e.table bound x, record { octets = over.later; same = alone_over e m stag r found octets s over.later over.is })) call

  stream_told : (m : ℕ) (call : StreamCall) → Hides n stag (AtStream m call) → stream_answer f m call ≡ stream_answer e m call
  stream_told m call hides = elim (eqb_tells m n) [
    | inr ne ↦ (let one = limited_apart e m call stag know (record { region = r; found = found; other = n; limited = limited; apart = λ same. ne.1 (sym same) }) in one.unseen octets)
    | inl same ↦ told_alike e m stag r found octets (λ call. Hides n stag (AtStream m call)) (λ ne s is. absurd (ne same.1)) call hides
  ]

  -- by the owner

  spared : (call : Call) → Spares n stag call → Step n stag e f call
  spared call spares =
      let one = passes e stag r found n call know limited spares in
      record { told = λ hides. one.unseen octets; left = inr (still n stag e.table bound (after e call).table one.kept, record { octets = octets; same = one.alike octets }) }

  same_region : region_at t stag ≡ Some (with_octets octets r)
  same_region = (with_region-changes e.table stag (with_octets octets)).changed ∙ ap (option_map (with_octets octets)) found

  -- it is handed back, unless it is in the other form: of this its octets tell nothing
  gone : Related n stag (deregistered e stag) (deregistered f stag)
  gone = inl (ap (with_table e) (deregistered_over e.table stag r found octets))

  handed : (fault : Option Region → Option DeregisterRefusal) → fault (Some (with_octets octets r)) ≡ fault (Some r)
      → Related n stag (unless (fault (region_at e.table stag)) e (deregistered e stag)) (unless (fault (region_at t stag)) f (deregistered f stag))
  handed fault same = subst (λ q. Related n stag (unless (fault (region_at e.table stag)) e (deregistered e stag)) (unless q f (deregistered f stag))) (sym alike) (go (fault (region_at e.table stag)))
    where
      alike : fault (region_at t stag) ≡ fault (region_at e.table stag)
      alike = ap fault same_region ∙ same ∙ sym (ap fault found)

      go : (q : Option DeregisterRefusal) → Related n stag (unless q e (deregistered e stag)) (unless q f (deregistered f stag))
      go None = gone
      go (Some x) = inr (bound, record { octets = octets; same = refl })

  deregisters : Step n stag e f (Deregister stag)
  deregisters = record { told = λ hides. absurd (hides refl); left = handed own_fault refl }

  deregisters_kept : Step n stag e f (DeregisterKept stag)
  deregisters_kept = record { told = λ hides. absurd (hides refl); left = handed kept_fault refl }

  takes : Step n stag e f (TakeRegion stag)
  takes = record { told = λ hides. absurd (hides refl); left = gone }

  invalidates : Step n stag e f (Invalidate stag)
  invalidates = record {
    told = λ hides. ap (λ o. Invalidated (is_some o)) same_region ∙ sym (ap (λ o. Invalidated (is_some o)) found);
    left = inr (bound_changed n stag e.table bound stag made_invalid (λ q. refl), record { octets = octets; same = ap (with_table e) (invalidated_over e.table stag r found octets) });
  }

  stores : (to : ℕ) (new : List ℕ) → Step n stag e f (Store stag to new)
  stores to new = record {
    told = λ hides. ap Stored (over_store e.table stag r found octets stag to (length new));
    left = subst (λ q. Related n stag (unless (store_refusal e stag to (length new)) e (stored e stag to new)) (unless q f (stored f stag to new))) (sym (over_store e.table stag r found octets stag to (length new))) (go (store_refusal e stag to (length new)));
  }
    where
      go : (q : Option StoreRefusal) → Related n stag (unless q e (stored e stag to new)) (unless q f (stored f stag to new))
      go None = inr (bound_changed n stag e.table bound stag (λ q. region_with q to new) (λ q. refl), record { octets = overlay (overlay r.octets 0 octets) (to - r.base) new; same = ap (with_table e) (put_over e.table stag r found octets to new) })
      go (Some x) = inr (bound, record { octets = octets; same = refl })

  shows : Step n stag e f (Local stag)
  shows = record { told = λ hides. absurd (hides refl); left = inr (bound, record { octets = octets; same = refl }) }

  rewrites : (new : List ℕ) → Step n stag e f (LocalMut stag new)
  rewrites new = record {
    told = λ hides. absurd (hides refl);
    left = inr (bound_changed n stag e.table bound stag (with_octets new) (λ q. refl), record { octets = overlay (overlay r.octets 0 octets) 0 new; same = ap (with_table e) (rewritten_over e.table stag r found octets new) });
  }

  step : (call : Call) → Step n stag e f call
  step (Deregister other) = elim (stag_cases other stag) [ inr ne ↦ spared (Deregister other) ne | inl same ↦ subst (λ x. Step n stag e f (Deregister x)) (sym same) deregisters ]
  step (DeregisterKept other) = elim (stag_cases other stag) [ inr ne ↦ spared (DeregisterKept other) ne | inl same ↦ subst (λ x. Step n stag e f (DeregisterKept x)) (sym same) deregisters_kept ]
  step (TakeRegion other) = elim (stag_cases other stag) [ inr ne ↦ spared (TakeRegion other) ne | inl same ↦ subst (λ x. Step n stag e f (TakeRegion x)) (sym same) takes ]
  step (Invalidate other) = elim (stag_cases other stag) [ inr ne ↦ spared (Invalidate other) ne | inl same ↦ subst (λ x. Step n stag e f (Invalidate x)) (sym same) invalidates ]
  step (Store other to new) = elim (stag_cases other stag) [ inr ne ↦ spared (Store other to new) ne | inl same ↦ subst (λ x. Step n stag e f (Store x to new)) (sym same) (stores to new) ]
  step (Local other) = elim (stag_cases other stag) [ inr ne ↦ spared (Local other) ne | inl same ↦ subst (λ x. Step n stag e f (Local x)) (sym same) shows ]
  step (LocalMut other new) = elim (stag_cases other stag) [ inr ne ↦ spared (LocalMut other new) ne | inl same ↦ subst (λ x. Step n stag e f (LocalMut x new)) (sym same) (rewrites new) ]
  step (AtStream m call) = record { told = λ hides. ap OfStream (stream_told m call hides); left = inr (stream_left m call) }
  step call = spared call tt

any_step : (n : ℕ) (stag : Stag) (e f : EndpointState) → KnowNumbers e → Related n stag e f → (call : Call) → Step n stag e f call
any_step n stag e f know related call = elim related [
  | inl same ↦ record { told = λ hides. ap (λ x. answer x call) same; left = inl (ap (λ x. after x call) same) }
  | inr both ↦
      (let is = found_in n (region_at e.table stag) both.0 in let differ = both.1 in
      subst (λ x. Step n stag e x call) (sym differ.same) (step e n stag is.region is.found is.limited know differ.octets call))
]

-- ---- calls one after another

-- no octets are written
nothing_rewritten : (e : EndpointState) (stag : Stag) → rewritten e stag [] ≡ e
nothing_rewritten e stag = ap (with_table e) (go (region_at e.table stag) refl)
  where
    go : (o : Option Region) → region_at e.table stag ≡ o → overwritten e.table stag [] ≡ e.table
    go None is = with_region-none e.table stag (with_octets []) is
    go (Some r) is =
        with_region-found e.table stag (with_octets []) r is
        ∙ ap (λ q. with_slot e.table stag.domain stag.slot (record { key = stag.key; region = Some q })) (ap (λ xs. record r { octets = xs }) (take-length r.octets))
        ∙ with_slot-same e.table stag r is

differ : (n : ℕ) (stag : Stag) (e f : EndpointState) → Related n stag e f → DifferIn stag e f
differ n stag e f related = elim related [
  | inl same ↦ record { octets = []; same = same ∙ sym (nothing_rewritten e stag) }
  | inr both ↦ both.1
]

one_more : (n : ℕ) (stag : Stag) (e f : EndpointState) (call : Call) (calls : List Call) → Step n stag e f call → AreHidden n stag calls (after e call) (after f call) → AreHidden n stag (call ∷ calls) e f
one_more n stag e f call calls one rest = record { told = told; left = rest.left }
  where
    told : (k : ℕ) (x : Call) (none : Answer) → k < length (call ∷ calls) → Hides n stag (slice_index_or (call ∷ calls) k x) → slice_index_or (answers f (call ∷ calls)) k none ≡ slice_index_or (answers e (call ∷ calls)) k none
    told zero x none below hides = one.told hides
    told (suc k) x none below hides = rest.told k x none (omega (arith, below)) hides

hidden : (n : ℕ) (stag : Stag) (calls : List Call) (e f : EndpointState) → KnowNumbers e → Related n stag e f → AreHidden n stag calls e f
hidden n stag [] e f know related = record { told = λ k x none below hides. absurd (omega (arith, below)); left = differ n stag e f related }
hidden n stag (call ∷ calls) e f know related =
    let one = any_step n stag e f know related call in
    one_more n stag e f call calls one (hidden n stag calls (after e call) (after f call) (know_step e call know) one.left)

pub are_hidden : LimitedRegionsAreHidden
are_hidden e n calls stag octets know is =
    hidden n stag calls e (rewritten e stag octets) know (inr (subst (λ o. IsSomeAnd o (λ r. r.bound ≡ Some n)) (sym is.found) is.limited, record { octets = octets; same = refl }))
