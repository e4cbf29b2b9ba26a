-- A call on one stream passes by the regions that are limited to another.
use Rattle.std.proofs.Common.{◌≡◌, ◌==◌, ℕ, Bool, true, false, cond, not, List, [], ◌∷◌, length, set, get_or, Option, Some, None, refl, sym, ap, subst, ◌∙◌, inl, inr}
use Rattle.std.specs.Prelude.{IsSomeAnd, IfSome, nat_lt, unwrap_or, replicate, if◌then◌else◌}
use Rattle.std.specs.Option.{option_map, option_map_or}
use Rattle.std.proofs.lemmas.Bool.{cases_lt, ne_eqb}
use Rattle.std.proofs.lemmas.Bool.Decides.{eqb_tells}
use Rattle.std.proofs.lemmas.List.{set_past}
use Rattle.std.proofs.lemmas.Option.{none-some}
use Rattle.iw_octets.specs.declared.stag.Stag.{Stag}
use Rattle.iw_memory.specs.declared.peer.Peer.{Peer}
use Rattle.iw_memory.specs.declared.refusal.Deny.{Deny}
use Rattle.iw_memory.specs.declared.refusal.Deny.TheVariants.{NotAssociated, Invalid}
use Rattle.iw_memory.specs.declared.refusal.InvalidateDeny.TheVariants.{NotAssociated as NotOwn, Invalid as NotValid, NotAllowed}
use Rattle.iw_memory.specs.declared.rights.Right.{Right}
use Rattle.iw_memory.specs.Forms.{own_refusal, kept_refusal}
use Rattle.iw_memory.specs.Laws.{ChangesOneStag, Serves, IsOutOfScope, AnswersAlike, DiffersOutOfScope}
use Rattle.iw_memory.specs.Part.{own_region}
use Rattle.iw_memory.specs.Region.{most_octets, Region, is_in_scope, is_bound_to, made_invalid, retired_region, region_denial, region_denial_for, octets_from}
use Rattle.iw_memory.specs.Table.{Table, part_of, region_at, denial_for, invalidate_denial_for, octets_at, register_refusal, register_refusal_within, put, invalidated, retired}
use Rattle.iw_memory.specs.TableLending.{overwritten}
use Rattle.iw_memory.proofs.Callers.{allows, no_octets, own_region-region_at}
use Rattle.iw_memory.proofs.LawLemmas.{stag_cases, with_region-changes}
use Rattle.iw_memory.proofs.TableLemmas.{put-nothing}
use Rattle.iw_memory.proofs.ScopeLemmas.{out-kept, retires}
use Rattle.iw_ranges.specs.declared.Delivery.{Delivery}
use Rattle.iw_ranges.specs.declared.Delivery.TheVariants.{Kept, Dropped}
use Rattle.iw_stream.specs.Pooling.{bound_buffers}
use Rattle.iw_stream.specs.Stream as stream
use Rattle.iw_stream.specs.Stream.{StreamState, peer_of, sees, emission_of, emitted, delivery_of}
use Rattle.iw_stream.specs.Work.{table_worked}
use Rattle.iw_endpoint.specs.declared.refusal.CallRefusal.TheVariants.{Refused}
use Rattle.iw_endpoint.specs.Numbers.{put_at}
use Rattle.iw_endpoint.specs.Endpoint.{EndpointState, Pool, fresh, no_streams, new_stream, new_shared, pool_of, lent_to, left_of, with_worked, with_stream, stream_of, stream_at, unopened, refusal_at, rest_refusal, limit_refusal, limit_refusal_within, limited, domain_refusal, added, registered as registered_at, deregistered, store_refusal, stored, rewritten, open_refusal, opened, share_refusal, shared, pool_refusal, pooled, take_refusal, after_take, open_shared_refusal, opened_shared, next_refusal, opened_next, next_shared_refusal, opened_shared_next}
use Rattle.iw_endpoint.specs.Drawing.{registered_drawn, limited_drawn}
use Rattle.iw_endpoint.specs.KeptRegions.{registered_form, limited_form, drawn_form, limited_drawn_form}
use Rattle.iw_endpoint.specs.Sharing.{emptied, with_worked_alone}
use Rattle.iw_endpoint.specs.Isolation.{StreamCall, Accept, Reject, Post, PostRecv, FirstNumber, Deliver, Work, WorkWithin, Emit, BreakLink, Close, RegisterFor, RegisterDrawnFor, RegisterOctetsFor, RegisterOctetsDrawnFor, SetMulpdu, Private, Told, PeerOptions, Standing, HasDue, PeerFirst, Sent, DueLen, InOrderPoint, BoundBuffers, Limits, Call, AddDomain, Register, RegisterDrawn, RegisterOctets, RegisterOctetsDrawn, Deregister, DeregisterKept, TakeRegion, Invalidate, Store, Facts, Local, LocalMut, Open, Share, PostShared, TakeShared, OpenShared, OpenNext, OpenSharedNext, AtStream, stream_answer, after_stream, after, after_all, unless, if_there}
use Rattle.iw_endpoint.specs.Limited.{KnowNumbers, IsAnothers, LimitedRegionsAreApart, StreamsKnowTheirNumbers}
use Rattle.iw_endpoint.proofs.Filled.{IsPut, nothing_in, put_is, set_is}
use Rattle.iw_endpoint.proofs.Drawn.{drawn_keeps}
use Rattle.iw_endpoint.proofs.Rewritten.{with_octets, found_invalidate, registered_keeps, put_passes, invalidated_passes}
use Rattle.iw_endpoint.proofs.Calls.{told_alike, left_alike, worked_over, alone_over}
use Rattle.iw_endpoint.proofs.Steps.{closes, delivered, worked_within}
use Rattle.iw_endpoint.proofs.Tables.{none_taken, denies, keeps-worked, both-worked, same_emitted, worked_number, emit_number}

-- ---- tables that differ out of the peer's scope

abbrev found_denial : Option Region → Option ℕ → ℕ → ℕ → Right → Option Deny
found_denial found stream to n right = option_map_or (λ r. region_denial_for r stream to n right) found (Some Invalid)

out_denial : (table : Table) (peer : Peer) (stag : Stag) (to n : ℕ) (right : Right) → IsOutOfScope table peer stag → found_denial (region_at table stag) peer.stream to n right ≡ Some NotAssociated
out_denial table peer stag to n right out =
    ap (λ o. found_denial o peer.stream to n right) out.found
    ∙ ap (λ b. cond (not b) (Some NotAssociated) (region_denial out.region to n right)) out.apart

out_invalidate : (table : Table) (peer : Peer) (stag : Stag) → IsOutOfScope table peer stag → found_invalidate (region_at table stag) peer.stream ≡ Some NotOwn
out_invalidate table peer stag out =
    ap (λ o. found_invalidate o peer.stream) out.found
    ∙ ap (λ b. cond (not b) (Some NotOwn) (cond (not out.region.valid) (Some NotValid) (cond (not out.region.rights.invalidate) (Some NotAllowed) None))) out.apart

not_invalidated : (table : Table) (peer : Peer) (stag : Stag) → IsOutOfScope table peer stag → invalidate_denial_for table peer stag ≡ Some NotOwn
not_invalidated table peer stag out = go (stag.domain == peer.domain) refl
  where
    go : (b : Bool) → (stag.domain == peer.domain) ≡ b → cond (not b) (Some NotOwn) (found_invalidate (own_region (part_of table peer.domain) stag) peer.stream) ≡ Some NotOwn
    go false e = refl
    go true e = ap (λ o. found_invalidate o peer.stream) (own_region-region_at table peer.domain stag e) ∙ out_invalidate table peer stag out

not_served : (table : Table) (peer : Peer) (stag : Stag) (to n : ℕ) (right : Right) → IsOutOfScope table peer stag → IsSomeAnd (region_at table stag) (λ r. Serves r peer.stream to n right) → ⊥
not_served table peer stag to n right out served = refuted (subst (λ o. IsSomeAnd o (λ r. Serves r peer.stream to n right)) out.found served)
  where
    refuted : Serves out.region peer.stream to n right → ⊥
    refuted serves = let both : true ≡ false = sym serves.in_scope ∙ out.apart in cc

module _ (old new : Table) (peer : Peer) (differs : DiffersOutOfScope old new peer) where
  denied : (stag : Stag) (to n : ℕ) (right : Right) → denial_for new peer stag to n right ≡ denial_for old peer stag to n right
  denied stag to n right = ap (λ o. cond (n == 0) None o) (go (stag.domain == peer.domain) refl)
    where
      both : found_denial (region_at new stag) peer.stream to n right ≡ found_denial (region_at old stag) peer.stream to n right
      both = elim (differs stag) [
        | inl same ↦ ap (λ o. found_denial o peer.stream to n right) same
        | inr outs ↦ out_denial new peer stag to n right outs.1 ∙ sym (out_denial old peer stag to n right outs.0)
      ]

      go : (b : Bool) → (stag.domain == peer.domain) ≡ b
          → cond (not b) (Some NotAssociated) (found_denial (own_region (part_of new peer.domain) stag) peer.stream to n right) ≡ cond (not b) (Some NotAssociated) (found_denial (own_region (part_of old peer.domain) stag) peer.stream to n right)
      go false e = refl
      go true e =
          ap (λ o. found_denial o peer.stream to n right) (own_region-region_at new peer.domain stag e)
          ∙ both
          ∙ sym (ap (λ o. found_denial o peer.stream to n right) (own_region-region_at old peer.domain stag e))

  invalidate_denied : (stag : Stag) → invalidate_denial_for new peer stag ≡ invalidate_denial_for old peer stag
  invalidate_denied stag = go (stag.domain == peer.domain) refl
    where
      both : found_invalidate (region_at new stag) peer.stream ≡ found_invalidate (region_at old stag) peer.stream
      both = elim (differs stag) [
        | inl same ↦ ap (λ o. found_invalidate o peer.stream) same
        | inr outs ↦ out_invalidate new peer stag outs.1 ∙ sym (out_invalidate old peer stag outs.0)
      ]

      go : (b : Bool) → (stag.domain == peer.domain) ≡ b
          → cond (not b) (Some NotOwn) (found_invalidate (own_region (part_of new peer.domain) stag) peer.stream) ≡ cond (not b) (Some NotOwn) (found_invalidate (own_region (part_of old peer.domain) stag) peer.stream)
      go false e = refl
      go true e =
          ap (λ o. found_invalidate o peer.stream) (own_region-region_at new peer.domain stag e)
          ∙ both
          ∙ sym (ap (λ o. found_invalidate o peer.stream) (own_region-region_at old peer.domain stag e))

  octets_seen : (stag : Stag) (to n : ℕ) (right : Right) → denial_for old peer stag to n right ≡ None → octets_at new stag to n ≡ octets_at old stag to n
  octets_seen stag to n right none = elim (differs stag) [
    | inl same ↦ ap (λ o. option_map_or (λ r. octets_from r to n) o []) same
    | inr outs ↦ elim (allows old peer stag to n right none) [
      | inl nothing ↦ none_taken (region_at new stag) to n nothing ∙ sym (none_taken (region_at old stag) to n nothing)
      | inr allowed ↦ absurd (not_served old peer stag to n right outs.0 allowed.1)
    ]
  ]

  pub answered_alike : AnswersAlike old new peer
  answered_alike = record { denied = denied; invalidate_denied = invalidate_denied; octets = octets_seen }

-- ---- a region gets other octets

pub overwritten_differs : (table : Table) (peer : Peer) (stag : Stag) (octets : List ℕ) → IsOutOfScope table peer stag → DiffersOutOfScope table (overwritten table stag octets) peer
overwritten_differs table peer stag octets out other = elim (stag_cases other stag) [
  | inr ne ↦ inl (changes.others other ne)
  | inl same ↦ inr (subst (λ x. IsOutOfScope table peer x × IsOutOfScope (overwritten table stag octets) peer x) (sym same) (out, record { region = with_octets octets out.region; found = changes.changed ∙ ap (option_map (with_octets octets)) out.found; apart = out.apart }))
]
  where
    changes : ChangesOneStag table (overwritten table stag octets) stag (option_map (with_octets octets) (region_at table stag))
    changes = with_region-changes table stag (with_octets octets)

-- no octets are put
nothing_put : (table : Table) (stag : Stag) (to : ℕ) (octets : List ℕ) → length octets ≡ 0 → put table stag to octets ≡ table
nothing_put table stag to octets nothing = ap (put table stag to) (no_octets octets nothing) ∙ put-nothing table stag to

-- ---- a call passes by

out_is : (e : EndpointState) (n : ℕ) (stag : Stag) (s : StreamState) → IsAnothers e n stag → s.number ≡ Some n → IsOutOfScope e.table (peer_of s) stag
out_is e n stag s h number = record {
  region = h.region;
  found = h.found;
  apart = (λ i. is_in_scope (h.limited i) (number i)) ∙ ne_eqb h.other n h.apart;
}

known_at : (e : EndpointState) (n : ℕ) (s : StreamState) → KnowNumbers e → stream_of e n ≡ Some s → s.number ≡ Some n
known_at e n s know is = subst (λ o. IfSome o (λ s. s.number ≡ Some n)) is (know n)

module _ (e : EndpointState) (n : ℕ) (stag : Stag) (know : KnowNumbers e) (anothers : IsAnothers e n stag) where
  abbrev K : Table → Type 0
  K t = region_at t stag ≡ region_at e.table stag

  out_at : (s : StreamState) → stream_of e n ≡ Some s → IsOutOfScope e.table (peer_of s) stag
  out_at s is = out_is e n stag s anothers (known_at e n s know is)

  lent_out : (s : StreamState) → stream_of e n ≡ Some s → (o : Option Pool) → IsOutOfScope e.table (peer_of (lent_to o s)) stag
  lent_out s is None = out_at s is
  lent_out s is (Some pool) = out_at s is

  worked_keeps : (s : StreamState) → IsOutOfScope e.table (peer_of s) stag → K (table_worked e.table s)
  worked_keeps s out = keeps-worked s e.table K (record { all = refl; placed = (out-kept e.table (peer_of s) stag out).placed; invalidated = (out-kept e.table (peer_of s) stag out).invalidated })

  retired_keeps : (s : StreamState) → s.number ≡ Some n → K (retired e.table (peer_of s))
  retired_keeps s number = elim (eqb_tells stag.domain s.domain) [
    | inl here ↦
        (retires e.table (peer_of s)).own stag here.1
        ∙ ap (option_map (retired_region s.number)) anothers.found
        ∙ ap (λ b. Some (if b then made_invalid anothers.region else anothers.region)) ((λ i. is_bound_to (anothers.limited i) (number i)) ∙ ne_eqb anothers.other n anothers.apart)
        ∙ sym anothers.found
    | inr off ↦ ap (λ part. own_region part stag) ((retires e.table (peer_of s)).others stag.domain off.1)
  ]

  module _ (octets : List ℕ) where
    abbrev t : Table
    t = overwritten e.table stag octets

    answers : (peer : Peer) → IsOutOfScope e.table peer stag → AnswersAlike e.table t peer
    answers peer out = answered_alike e.table t peer (overwritten_differs e.table peer stag octets out)

    put_passes_by : (peer : Peer) → IsOutOfScope e.table peer stag → (other : Stag) (to : ℕ) (new : List ℕ) (right : Right) → denial_for e.table peer other to (length new) right ≡ None → put t other to new ≡ overwritten (put e.table other to new) stag octets
    put_passes_by peer out other to new right none = elim (stag_cases other stag) [
      | inr ne ↦ put_passes e.table stag anothers.region anothers.found octets other to new ne
      | inl same ↦ elim (allows e.table peer other to (length new) right none) [
        | inl nothing ↦
            nothing_put t other to new nothing ∙ ap (λ u. overwritten u stag octets) (sym (nothing_put e.table other to new nothing))
        | inr allowed ↦ absurd (not_served e.table peer stag to (length new) right out (subst (λ x. IsSomeAnd (region_at e.table x) (λ r. Serves r peer.stream to (length new) right)) same allowed.1))
      ]
    ]

    invalidated_passes_by : (peer : Peer) → IsOutOfScope e.table peer stag → (other : Stag) → invalidate_denial_for e.table peer other ≡ None → invalidated t other ≡ overwritten (invalidated e.table other) stag octets
    invalidated_passes_by peer out other none =
        invalidated_passes e.table stag anothers.region anothers.found octets other
        (λ same. none-some NotOwn (sym none ∙ ap (invalidate_denial_for e.table peer) same ∙ not_invalidated e.table peer stag out))

    table_over : (s : StreamState) → IsOutOfScope e.table (peer_of s) stag → table_worked t s ≡ overwritten (table_worked e.table s) stag octets
    table_over s out =
        let both = answers (peer_of s) out in
        both-worked s t e.table (λ new old. new ≡ overwritten old stag octets) (record {
          all = refl;
          placed = λ other to new right none. put_passes_by (peer_of s) out other to new right (sym (both.denied other to (length new) right) ∙ none);
          invalidated = λ other none. invalidated_passes_by (peer_of s) out other (sym (both.invalidate_denied other) ∙ none);
        }) (denies both)

    both_left : (call : StreamCall) → K (after_stream e n call).table × (after_stream (rewritten e stag octets) n call ≡ rewritten (after_stream e n call) stag octets)
    both_left call =
        left_alike e n stag anothers.region anothers.found octets K (λ new old. K old.table × (new ≡ rewritten old stag octets)) refl
        (λ s is. retired_keeps s (known_at e n s know is)) (λ pd region. registered_keeps e.table pd region stag anothers.region anothers.found)
        (λ pd drawn region. drawn_keeps e.table pd drawn region stag anothers.region anothers.found) (λ new kept. (kept, refl))
        (λ s is.
        let x = lent_to (pool_of e s.domain) s in
        let out = lent_out s is (pool_of e s.domain) in
        (worked_keeps x out, worked_over e n stag anothers.region anothers.found octets s octets (table_over x out)))
        (λ s is.
        let x = lent_to (emptied (pool_of e s.domain)) s in
        let out = lent_out s is (emptied (pool_of e s.domain)) in
        (worked_keeps x out, alone_over e n stag anothers.region anothers.found octets s octets (table_over x out))) call

    unseen : (call : StreamCall) → stream_answer (rewritten e stag octets) n call ≡ stream_answer e n call
    unseen call = told_alike e n stag anothers.region anothers.found octets (λ call. Unit {0}) (λ told s is. same_emitted s t e.table (answers (peer_of s) (out_at s is))) call tt

pub limited_apart : LimitedRegionsAreApart
limited_apart e n call stag know anothers = record {
  kept = (both_left e n stag know anothers [] call).0;
  unseen = λ octets. unseen e n stag know anothers octets call;
  alike = λ octets. (both_left e n stag know anothers octets call).1;
}

-- ---- streams have the numbers that they were opened under

abbrev Knows : List (Option StreamState) → Type 0
Knows xs = (m : ℕ) → IfSome (get_or xs m None) (λ s. s.number ≡ Some m)

know_put : (xs ys : List (Option StreamState)) (n : ℕ) (o : Option StreamState) → IsPut xs ys n o → Knows xs → IfSome o (λ s. s.number ≡ Some n) → Knows ys
know_put xs ys n o put know here m = elim (eqb_tells m n) [
  | inl same ↦ subst (λ k. IfSome (get_or ys k None) (λ s. s.number ≡ Some k)) (sym same.1) (subst (λ q. IfSome q (λ s. s.number ≡ Some n)) (sym put.here) here)
  | inr off ↦ subst (λ q. IfSome q (λ s. s.number ≡ Some m)) (sym (put.others m off.1)) (know m)
]

know_set : (xs : List (Option StreamState)) (n : ℕ) (o : Option StreamState) → Knows xs → IfSome o (λ s. s.number ≡ Some n) → Knows (set xs n o)
know_set xs n o know here = elim (cases_lt n (length xs)) [
  | inl below ↦ know_put xs (set xs n o) n o (set_is xs n o below) know here
  | inr past ↦ subst Knows (sym (set_past xs n o past)) know
]

know_with : (e : EndpointState) (n : ℕ) (s x : StreamState) → KnowNumbers e → stream_of e n ≡ Some s → x.number ≡ s.number → KnowNumbers (with_stream e n x)
know_with e n s x know is same = know_set e.streams n (Some x) know (same ∙ known_at e n s know is)

know_unless : {R : Type 0} (q : Option R) (e new : EndpointState) → KnowNumbers e → KnowNumbers new → KnowNumbers (unless q e new)
know_unless None e new know after = after
know_unless (Some r) e new know after = know

know_refusing : {R : Type 0} (refusal : StreamState → Option R) (new : StreamState → EndpointState) (e : EndpointState) (n : ℕ) → KnowNumbers e
    → ((s : StreamState) → stream_of e n ≡ Some s → KnowNumbers (new s)) → KnowNumbers (unless (refusal_at (stream_of e n) refusal) e (new (stream_at e n)))
know_refusing refusal new e n know step = go (stream_of e n) refl
  where
    go : (o : Option StreamState) → stream_of e n ≡ o → KnowNumbers (unless (refusal_at o refusal) e (new (unwrap_or o unopened)))
    go None is = know
    go (Some s) is = know_unless (option_map Refused (refusal s)) e (new s) know (step s is)

know_changing : (new : StreamState → EndpointState) (e : EndpointState) (n : ℕ) → KnowNumbers e
    → ((s : StreamState) → stream_of e n ≡ Some s → KnowNumbers (new s)) → KnowNumbers (if_there (stream_of e n) e (new (stream_at e n)))
know_changing new e n know step = go (stream_of e n) refl
  where
    go : (o : Option StreamState) → stream_of e n ≡ o → KnowNumbers (if_there o e (new (unwrap_or o unopened)))
    go None is = know
    go (Some s) is = step s is

delivered_number : (s : StreamState) (from : ℕ) (octets : List ℕ) (x : Delivery) → (stream.after_deliver s from octets x).number ≡ s.number
delivered_number s from octets Kept = refl
delivered_number s from octets Dropped = refl

left_number : (u : Table) (o : Option Pool) (s : StreamState) → (left_of u o s).number ≡ s.number
left_number u None s = worked_number u s
left_number u (Some pool) s = worked_number u (sees s pool)

know_within : (e : EndpointState) (n share : ℕ) (s : StreamState) → KnowNumbers e → stream_of e n ≡ Some s → KnowNumbers (worked_within e n share s)
know_within e n share s know is = go (nat_lt (bound_buffers s) share)
  where
    go : (fewer : Bool) → KnowNumbers (if fewer then with_worked e n s else with_worked_alone e n s)
    go true = know_with e n s (left_of e.table (pool_of e s.domain) s) know is (left_number e.table (pool_of e s.domain) s)
    go false = know_with e n s (left_of e.table (emptied (pool_of e s.domain)) s) know is (left_number e.table (emptied (pool_of e s.domain)) s)

know_stream : (e : EndpointState) (n : ℕ) (call : StreamCall) → KnowNumbers e → KnowNumbers (after_stream e n call)
know_stream e n (Accept private) know = know_refusing (λ s. stream.answer_refusal s private.items) (λ s. with_stream e n (stream.accepted s private)) e n know (λ s is. know_with e n s (stream.accepted s private) know is refl)
know_stream e n (Reject private) know = know_refusing (λ s. stream.answer_refusal s private.items) (λ s. with_stream e n (stream.rejected s private)) e n know (λ s is. know_with e n s (stream.rejected s private) know is refl)
know_stream e n (Post request) know = know_refusing (λ s. stream.post_refusal s request) (λ s. with_stream e n (stream.with_request s request)) e n know (λ s is. know_with e n s (stream.with_request s request) know is refl)
know_stream e n (PostRecv buffer) know = know_refusing stream.recv_refusal (λ s. with_stream e n (stream.with_buffer s buffer)) e n know (λ s is. know_with e n s (stream.with_buffer s buffer) know is refl)
know_stream e n (FirstNumber first) know = know_refusing stream.first_refusal (λ s. with_stream e n (stream.with_first s first)) e n know (λ s is. know_with e n s (stream.with_first s first) know is refl)
know_stream e n (Deliver from octets) know =
    know_changing (λ s. with_stream e n (delivered from octets s)) e n know (λ s is. know_with e n s (delivered from octets s) know is (delivered_number s from octets (delivery_of s from (length octets))))
know_stream e n Work know =
    know_changing (λ s. with_worked e n s) e n know (λ s is. know_with e n s (left_of e.table (pool_of e s.domain) s) know is (left_number e.table (pool_of e s.domain) s))
know_stream e n (WorkWithin share) know = know_changing (λ s. worked_within e n share s) e n know (λ s is. know_within e n share s know is)
know_stream e n Emit know = know_changing (λ s. with_stream e n (stream.after_emit e.table s)) e n know (λ s is. know_with e n s (stream.after_emit e.table s) know is (emit_number e.table s))
know_stream e n BreakLink know = know_changing (λ s. with_stream e n (stream.breaks s)) e n know (λ s is. know_with e n s (stream.breaks s) know is refl)
know_stream e n Close know = know_refusing rest_refusal (closes e n) e n know (λ s is. know_set e.streams n None know tt)
know_stream e n (RegisterFor base octets rights) know = know_unless (limit_refusal e n base (length octets)) e (limited e n base octets rights) know know
know_stream e n (RegisterDrawnFor base octets rights drawn) know = know_unless (limit_refusal e n base (length octets)) e (limited_drawn e n base octets rights drawn) know know
know_stream e n (RegisterOctetsFor base octets kept rights) know = know_unless (limit_refusal_within (most_octets kept) e n base (length octets)) e (limited_form e n base octets kept rights) know know
know_stream e n (RegisterOctetsDrawnFor base octets kept rights drawn) know = know_unless (limit_refusal_within (most_octets kept) e n base (length octets)) e (limited_drawn_form e n base octets kept rights drawn) know know
know_stream e n (SetMulpdu size) know = know_refusing (λ s. stream.size_refusal size) (λ s. with_stream e n (stream.with_mulpdu s size)) e n know (λ s is. know_with e n s (stream.with_mulpdu s size) know is refl)
know_stream e n Private know = know
know_stream e n Told know = know
know_stream e n PeerOptions know = know
know_stream e n Standing know = know
know_stream e n HasDue know = know
know_stream e n PeerFirst know = know
know_stream e n Sent know = know
know_stream e n DueLen know = know
know_stream e n InOrderPoint know = know
know_stream e n BoundBuffers know = know
know_stream e n Limits know = know

pub know_step : (e : EndpointState) (call : Call) → KnowNumbers e → KnowNumbers (after e call)
know_step e (AddDomain pd) know = know_unless (domain_refusal e pd) e (added e pd) know know
know_step e (Register pd base octets rights) know = know_unless (register_refusal e.table pd base (length octets)) e (registered_at e pd base octets rights) know know
know_step e (RegisterDrawn pd base octets rights drawn) know = know_unless (register_refusal e.table pd base (length octets)) e (registered_drawn e pd base octets rights drawn) know know
know_step e (RegisterOctets pd base octets kept rights) know = know_unless (register_refusal_within (most_octets kept) e.table pd base (length octets)) e (registered_form e pd base octets kept rights) know know
know_step e (RegisterOctetsDrawn pd base octets kept rights drawn) know = know_unless (register_refusal_within (most_octets kept) e.table pd base (length octets)) e (drawn_form e pd base octets kept rights drawn) know know
know_step e (Deregister stag) know = know_unless (own_refusal e.table stag) e (deregistered e stag) know know
know_step e (DeregisterKept stag) know = know_unless (kept_refusal e.table stag) e (deregistered e stag) know know
know_step e (TakeRegion stag) know = know
know_step e (Invalidate stag) know = know
know_step e (Store stag to octets) know = know_unless (store_refusal e stag to (length octets)) e (stored e stag to octets) know know
know_step e (Facts stag) know = know
know_step e (Local stag) know = know
know_step e (LocalMut stag octets) know = know
know_step e (Open n pd role config) know = know_unless (open_refusal e n pd role config) e (opened e n pd role config) know (know_set e.streams n (Some (new_stream n pd role config)) know refl)
know_step e (Share pd) know = know_unless (share_refusal e pd) e (shared e pd) know know
know_step e (PostShared pd buffer) know = know_unless (pool_refusal e pd) e (pooled e pd buffer) know know
know_step e (TakeShared pd) know = know_unless (take_refusal e pd) e (after_take e pd) know know
know_step e (OpenShared n pd role config) know = know_unless (open_shared_refusal e n pd role config) e (opened_shared e n pd role config) know (know_set e.streams n (Some (new_shared n pd role config)) know refl)
know_step e (OpenNext n pd role config) know =
    let m = unwrap_or n 0 in let x = new_stream m pd role config in
    know_unless (next_refusal e n pd role config) e (opened_next e n pd role config) know (know_put e.streams (put_at e.streams m x) m (Some x) (put_is e.streams m x) know refl)
know_step e (OpenSharedNext n pd role config) know =
    let m = unwrap_or n 0 in let x = new_shared m pd role config in
    know_unless (next_shared_refusal e n pd role config) e (opened_shared_next e n pd role config) know (know_put e.streams (put_at e.streams m x) m (Some x) (put_is e.streams m x) know refl)
know_step e (AtStream n call) know = know_stream e n call know

know_all : (e : EndpointState) (calls : List Call) → KnowNumbers e → KnowNumbers (after_all e calls)
know_all e [] know = know
know_all e (call ∷ calls) know = know_all (after e call) calls (know_step e call know)

nothing_known : (k m : ℕ) → IfSome (get_or (replicate k None) m None) (λ (s : StreamState). s.number ≡ Some m)
nothing_known k m = go (get_or (replicate k None) m None) (nothing_in k m)
  where
    go : (o : Option StreamState) → o ≡ None → IfSome o (λ (s : StreamState). s.number ≡ Some m)
    go None is = tt
    go (Some s) is = absurd (none-some s (sym is))

pub numbers_known : StreamsKnowTheirNumbers
unfolding no_streams
numbers_known calls = know_all fresh calls (nothing_known 64)
