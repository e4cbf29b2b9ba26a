-- Over any calls that spare it, a region that is limited to one stream stays apart.
use Rattle.std.proofs.Common.{◌≡◌, ◌≢◌, ◌==◌, ℕ, suc, Bool, true, false, cond, not, List, [], ◌∷◌, length, Option, Some, None, refl, sym, ap, ◌∙◌, arith, get_or-set_other}
use Rattle.std.specs.Prelude.{is_some, is_none, nat_le, if◌then◌else◌}
use Rattle.std.specs.Option.{option_map, option_or}
use Rattle.std.proofs.lemmas.Option.{none-some}
use Rattle.iw_octets.specs.declared.stag.Stag.{Stag}
use Rattle.iw_memory.specs.declared.refusal.DeregisterRefusal.{DeregisterRefusal}
use Rattle.iw_memory.specs.declared.refusal.DomainRefusal.TheVariants.{BadDomain, DomainTaken}
use Rattle.iw_memory.specs.Part.{own_region, own_added}
use Rattle.iw_memory.specs.Region.{most_octets, Region, new_region, made_invalid}
use Rattle.iw_memory.specs.Table.{part_of, region_at, is_added, register_refusal_within, next_stag, drawn_stag, registered, registered_drawn}
use Rattle.iw_memory.specs.TableLending.{overwritten}
use Rattle.iw_memory.proofs.TableLemmas.{slots_are}
use Rattle.iw_memory.proofs.LawLemmas.{put-changes, with_region-changes, deregistered-changes}
use Rattle.iw_startup.specs.declared.config.Config.{Config}
use Rattle.iw_stream.specs.declared.answer.OpenRefusal.TheVariants.{NumberTaken, BadNumber, NoDomain}
use Rattle.iw_stream.specs.declared.answer.Role.{Role}
use Rattle.iw_stream.specs.Starting.{exceeds_request}
use Rattle.iw_endpoint.specs.declared.refusal.OpenNextRefusal.TheVariants as next_refusals
use Rattle.iw_endpoint.specs.Endpoint.{EndpointState, with_table, stream_numbers, is_taken, domain_refusal, added, deregistered, store_refusal, stored, rewritten, pool_of, share_fault, share_refusal, shared, pool_fault, pool_refusal, pooled, take_fault, take_refusal, taken_at, after_take, number_refusal, request_refusal, open_refusal, opened, open_shared_refusal_of, unshared, open_shared_refusal, opened_shared, next_refusal, opened_next, next_shared_refusal, opened_shared_next}
use Rattle.iw_endpoint.specs.KeptRegions.{region_in}
use Rattle.iw_endpoint.specs.Isolation.{Call, Answer, AddDomain, Register, RegisterDrawn, RegisterOctets, RegisterOctetsDrawn, Deregister, DeregisterKept, TakeRegion, Invalidate, Store, Facts, Local, LocalMut, Open, Share, PostShared, TakeShared, OpenShared, OpenNext, OpenSharedNext, AtStream, answer, after, after_all, answer_or, unless}
use Rattle.iw_endpoint.specs.Isolation.{Added, Registered, Octets, Invalidated, Found, Stored, Opened, Shared, Pooled, Taken, OpenedShared, OpenedNext, OfStream}
use Rattle.iw_endpoint.specs.Limited.{KnowNumbers, PassesBy, Spares, answers, LimitedRegionsStayApart}
use Rattle.iw_endpoint.proofs.Drawn.{drawn_keeps}
use Rattle.iw_endpoint.proofs.Forms.{own_fault, kept_fault, handed_back, taken_out}
use Rattle.iw_endpoint.proofs.Rewritten.{with_octets, over_added, over_facts, over_store, over_register, over_stag, over_drawn, registered_keeps, put_passes, rewritten_passes, invalidated_passes, deregistered_passes, registered_passes, drawn_passes, added_passes}
use Rattle.iw_endpoint.proofs.Limited.{limited_apart, know_step}

module _ (e : EndpointState) (stag : Stag) (r : Region) (found : region_at e.table stag ≡ Some r) where
  -- a call that is refused alike whatever octets the region has, and leaves the region if it is not refused
  passes_unless : {R : Type 0} (refusal : EndpointState → Option R) (told : EndpointState → Answer) (change : EndpointState → EndpointState)
      → ((octets : List ℕ) → refusal (rewritten e stag octets) ≡ refusal e) → ((octets : List ℕ) → told (rewritten e stag octets) ≡ told e)
      → (refusal e ≡ None → region_at (change e).table stag ≡ region_at e.table stag) → ((octets : List ℕ) → refusal e ≡ None → change (rewritten e stag octets) ≡ rewritten (change e) stag octets)
      → PassesBy told (λ x. unless (refusal x) x (change x)) e stag
  passes_unless {R} refusal told change same_refusal same_told kept passes = record {
    kept = keeps (refusal e) refl;
    unseen = same_told;
    alike = λ octets. ap (λ q. unless q (rewritten e stag octets) (change (rewritten e stag octets))) (same_refusal octets) ∙ over octets (refusal e) refl;
  }
    where
      keeps : (q : Option R) → refusal e ≡ q → region_at (unless q e (change e)).table stag ≡ region_at e.table stag
      keeps None is = kept is
      keeps (Some x) is = refl

      over : (octets : List ℕ) (q : Option R) → refusal e ≡ q → unless q (rewritten e stag octets) (change (rewritten e stag octets)) ≡ rewritten (unless q e (change e)) stag octets
      over octets None is = passes octets is
      over octets (Some x) is = refl

  -- one that leaves the table
  table_stays : {R : Type 0} (refusal : EndpointState → Option R) (told : Option R → Answer) (change : EndpointState → EndpointState)
      → ((octets : List ℕ) → refusal (rewritten e stag octets) ≡ refusal e) → (change e).table ≡ e.table → ((octets : List ℕ) → change (rewritten e stag octets) ≡ rewritten (change e) stag octets)
      → PassesBy (λ x. told (refusal x)) (λ x. unless (refusal x) x (change x)) e stag
  table_stays refusal told change same stays over =
      passes_unless refusal (λ x. told (refusal x)) change same (λ octets. ap told (same octets)) (λ none. ap (λ t. region_at t stag) stays) (λ octets none. over octets)

  -- what other STags name, and whether a domain was added, is the same
  others_stay : (other : Stag) → other ≢ stag → (octets : List ℕ) → region_at (overwritten e.table stag octets) other ≡ region_at e.table other
  others_stay other ne octets = (with_region-changes e.table stag (with_octets octets)).others other ne

  there : (pd : ℕ) (octets : List ℕ) → is_added (overwritten e.table stag octets) pd ≡ is_added e.table pd
  there pd octets = over_added e.table stag r found octets pd

  added_alike : (pd : ℕ) (octets : List ℕ) → domain_refusal (rewritten e stag octets) pd ≡ domain_refusal e pd
  added_alike pd octets = ap (λ b. if pd == 0 then Some BadDomain else (if b then Some DomainTaken else None)) (there pd octets)

  numbers_alike : (n pd : ℕ) (octets : List ℕ) → number_refusal (rewritten e stag octets) n pd ≡ number_refusal e n pd
  numbers_alike n pd octets = ap (λ b. if nat_le stream_numbers n then Some BadNumber else if is_taken e n then Some NumberTaken else if not b then Some NoDomain else None) (there pd octets)

  nexts_alike : (n : Option ℕ) (pd : ℕ) (role : Role) (config : Config) (octets : List ℕ) → next_refusal (rewritten e stag octets) n pd role config ≡ next_refusal e n pd role config
  nexts_alike n pd role config octets =
      ap (λ b. if not b then Some next_refusals.NoDomain else if is_none n then Some next_refusals.NumbersSpent else if exceeds_request role config then Some next_refusals.PrivateTooLong else None) (there pd octets)

  nexts_shared_alike : (n : Option ℕ) (pd : ℕ) (role : Role) (config : Config) (octets : List ℕ) → next_shared_refusal (rewritten e stag octets) n pd role config ≡ next_shared_refusal e n pd role config
  nexts_shared_alike n pd role config octets =
      λ i. if not (there pd octets i) then Some next_refusals.NoDomain else if is_none (pool_of e pd) then Some next_refusals.NotShared else nexts_alike n pd role config octets i

  -- a domain that was not added is another than the region's
  not_added : (pd : ℕ) → domain_refusal e pd ≡ None → pd ≢ stag.domain
  not_added pd none same = go (pd == 0) (sym (ap (λ b. cond (pd == 0) (Some BadDomain) (cond b (Some DomainTaken) None)) was) ∙ none)
    where
      was : is_added e.table pd ≡ true
      was = ap (λ d. is_added e.table d) same ∙ ap is_some (slots_are (part_of e.table stag.domain) stag.slot stag.key r found)

      go : (b : Bool) → cond b (Some BadDomain) (Some DomainTaken) ≡ None → ⊥
      go true none = none-some _ (sym none)
      go false none = none-some _ (sym none)

  -- a region is registered in any domain, under its next STag, or under one that is drawn
  registers : (most pd base : ℕ) (new : List ℕ) (region : Region)
      → PassesBy (λ x. Registered (answer_or (register_refusal_within most x.table pd base (length new)) (next_stag x.table pd))) (λ x. unless (register_refusal_within most x.table pd base (length new)) x (with_table x (registered x.table pd region))) e stag
  registers most pd base new region =
      passes_unless (λ x. register_refusal_within most x.table pd base (length new)) (λ x. Registered (answer_or (register_refusal_within most x.table pd base (length new)) (next_stag x.table pd))) (λ x. with_table x (registered x.table pd region))
      (λ octets. over_register e.table stag r found octets most pd base (length new))
      (λ octets. (λ i. Registered (answer_or (over_register e.table stag r found octets most pd base (length new) i) (over_stag e.table stag r found octets pd i))))
      (λ none. registered_keeps e.table pd region stag r found)
      (λ octets none. ap (with_table e) (registered_passes e.table stag r found octets pd region))

  draws : (most pd base : ℕ) (new : List ℕ) (region : Region) (drawn : ℕ)
      → PassesBy (λ x. Registered (answer_or (register_refusal_within most x.table pd base (length new)) (drawn_stag x.table pd drawn))) (λ x. unless (register_refusal_within most x.table pd base (length new)) x (with_table x (registered_drawn x.table pd drawn region))) e stag
  draws most pd base new region drawn =
      passes_unless (λ x. register_refusal_within most x.table pd base (length new)) (λ x. Registered (answer_or (register_refusal_within most x.table pd base (length new)) (drawn_stag x.table pd drawn))) (λ x. with_table x (registered_drawn x.table pd drawn region))
      (λ octets. over_register e.table stag r found octets most pd base (length new))
      (λ octets. (λ i. Registered (answer_or (over_register e.table stag r found octets most pd base (length new) i) (over_drawn e.table stag r found octets pd drawn i))))
      (λ none. drawn_keeps e.table pd drawn region stag r found)
      (λ octets none. ap (with_table e) (drawn_passes e.table stag r found octets pd drawn region))

  -- another region is handed back, unless this refuses it
  hands_back : (fault : Option Region → Option DeregisterRefusal) (other : Stag) → other ≢ stag
      → PassesBy (λ x. handed_back fault (region_at x.table other)) (λ x. unless (fault (region_at x.table other)) x (deregistered x other)) e stag
  hands_back fault other ne =
      passes_unless (λ x. fault (region_at x.table other)) (λ x. handed_back fault (region_at x.table other)) (λ x. deregistered x other)
      (λ octets. ap fault (others_stay other ne octets)) (λ octets. ap (handed_back fault) (others_stay other ne octets))
      (λ none. (deregistered-changes e.table other).others stag (λ same. ne (sym same)))
      (λ octets none. ap (with_table e) (deregistered_passes e.table stag r found octets other ne))

  pub passes : (n : ℕ) (call : Call) → KnowNumbers e → r.bound ≡ Some n → Spares n stag call → PassesBy (λ x. answer x call) (λ x. after x call) e stag
  passes n (AddDomain pd) know limited spares =
      passes_unless (λ x. domain_refusal x pd) (λ x. Added (domain_refusal x pd)) (λ x. added x pd) (added_alike pd) (λ octets. ap Added (added_alike pd octets))
      (λ none. ap (λ part. own_region part stag) (get_or-set_other e.table pd stag.domain own_added None (λ same. not_added pd none (sym same))))
      (λ octets none. ap (with_table e) (added_passes e.table stag r found octets pd (not_added pd none)))
  passes n (Register pd base new rights) know limited spares = registers (most_octets false) pd base new (new_region base new rights)
  passes n (RegisterDrawn pd base new rights drawn) know limited spares = draws (most_octets false) pd base new (new_region base new rights) drawn
  passes n (RegisterOctets pd base new kept rights) know limited spares = registers (most_octets kept) pd base new (region_in base new kept rights None)
  passes n (RegisterOctetsDrawn pd base new kept rights drawn) know limited spares = draws (most_octets kept) pd base new (region_in base new kept rights None) drawn
  passes n (Deregister other) know limited ne = hands_back own_fault other ne
  passes n (DeregisterKept other) know limited ne = hands_back kept_fault other ne
  passes n (TakeRegion other) know limited ne = record {
    kept = (deregistered-changes e.table other).others stag (λ same. ne (sym same));
    unseen = λ octets. ap taken_out (others_stay other ne octets);
    alike = λ octets. ap (with_table e) (deregistered_passes e.table stag r found octets other ne);
  }
  passes n (Invalidate other) know limited ne = record {
    kept = (with_region-changes e.table other made_invalid).others stag (λ same. ne (sym same));
    unseen = λ octets. ap (λ o. Invalidated (is_some o)) (others_stay other ne octets);
    alike = λ octets. ap (with_table e) (invalidated_passes e.table stag r found octets other ne);
  }
  passes n (Store other to new) know limited ne =
      passes_unless (λ x. store_refusal x other to (length new)) (λ x. Stored (store_refusal x other to (length new))) (λ x. stored x other to new)
      (λ octets. over_store e.table stag r found octets other to (length new)) (λ octets. ap Stored (over_store e.table stag r found octets other to (length new)))
      (λ none. (put-changes e.table other to new).changed.others stag (λ same. ne (sym same)))
      (λ octets none. ap (with_table e) (put_passes e.table stag r found octets other to new ne))
  passes n (Facts other) know limited spares = record { kept = refl; unseen = λ octets. ap Found (over_facts e.table stag r found octets other); alike = λ octets. refl }
  passes n (Local other) know limited ne = record { kept = refl; unseen = λ octets. ap (λ o. Octets (option_map (λ q. q.octets) o)) (others_stay other ne octets); alike = λ octets. refl }
  passes n (LocalMut other new) know limited ne = record {
    kept = (with_region-changes e.table other (with_octets new)).others stag (λ same. ne (sym same));
    unseen = λ octets. ap (λ o. Octets (option_map (λ q. q.octets) o)) (others_stay other ne octets);
    alike = λ octets. ap (with_table e) (rewritten_passes e.table stag r found octets other new ne);
  }
  passes n (Open m pd role config) know limited spares =
      table_stays (λ x. open_refusal x m pd role config) Opened (λ x. opened x m pd role config) (λ octets. ap (λ o. option_or o (request_refusal role config)) (numbers_alike m pd octets)) refl (λ octets. refl)
  passes n (Share pd) know limited spares = table_stays (λ x. share_refusal x pd) Shared (λ x. shared x pd) (λ octets. ap (λ b. share_fault b (pool_of e pd)) (there pd octets)) refl (λ octets. refl)
  passes n (PostShared pd buffer) know limited spares = table_stays (λ x. pool_refusal x pd) Pooled (λ x. pooled x pd buffer) (λ octets. ap (λ b. pool_fault b (pool_of e pd)) (there pd octets)) refl (λ octets. refl)
  passes n (TakeShared pd) know limited spares =
      passes_unless (λ x. take_refusal x pd) (λ x. Taken (answer_or (take_refusal x pd) (taken_at x pd))) (λ x. after_take x pd) (λ octets. ap (λ b. take_fault b (pool_of e pd)) (there pd octets))
      (λ octets. ap (λ b. Taken (answer_or (take_fault b (pool_of e pd)) (taken_at e pd))) (there pd octets)) (λ none. refl) (λ octets none. refl)
  passes n (OpenShared m pd role config) know limited spares =
      table_stays (λ x. open_shared_refusal x m pd role config) OpenedShared (λ x. opened_shared x m pd role config)
      (λ octets. ap (λ o. option_or (option_map open_shared_refusal_of o) (option_or (unshared (pool_of e pd)) (option_map open_shared_refusal_of (request_refusal role config)))) (numbers_alike m pd octets)) refl (λ octets. refl)
  passes n (OpenNext m pd role config) know limited spares =
      table_stays (λ x. next_refusal x m pd role config) OpenedNext (λ x. opened_next x m pd role config) (nexts_alike m pd role config) refl (λ octets. refl)
  passes n (OpenSharedNext m pd role config) know limited spares =
      table_stays (λ x. next_shared_refusal x m pd role config) OpenedNext (λ x. opened_shared_next x m pd role config) (nexts_shared_alike m pd role config) refl (λ octets. refl)
  passes n (AtStream m call) know limited ne =
      let one = limited_apart e m call stag know (record { region = r; found = found; other = n; limited = limited; apart = λ same. ne (sym same) }) in
      record { kept = one.kept; unseen = λ octets. ap OfStream (one.unseen octets); alike = one.alike }

pub stay_apart : LimitedRegionsStayApart
stay_apart e n [] stag know limited spare = record { kept = refl; unseen = λ octets. refl; alike = λ octets. refl }
stay_apart e n (call ∷ calls) stag know limited spare =
    let one = passes e stag limited.region limited.found n call know limited.limited (spare 0 call (omega arith)) in
    let rest = stay_apart (after e call) n calls stag (know_step e call know) (record { region = limited.region; found = one.kept ∙ limited.found; limited = limited.limited })
    (λ k other below. spare (suc k) other (omega (arith, below))) in record {
      kept = rest.kept ∙ one.kept;
      unseen = λ octets. (λ i. one.unseen octets i ∷ answers (one.alike octets i) calls) ∙ ap (λ told. answer e call ∷ told) (rest.unseen octets);
      alike = λ octets. ap (λ x. after_all x calls) (one.alike octets) ∙ rest.alike octets;
    }
