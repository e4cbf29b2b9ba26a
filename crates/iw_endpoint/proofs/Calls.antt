-- A call at a stream, where a region has other octets: what it answers and leaves.
use Rattle.std.proofs.Common.{◌≡◌, ℕ, Bool, true, false, List, length, set, Option, Some, None, Ok, refl, sym, ap, subst}
use Rattle.std.specs.Prelude.{nat_lt, if◌then◌else◌, unwrap_or}
use Rattle.std.specs.Option.{option_map, option_or}
use Rattle.iw_octets.specs.declared.stag.Stag.{Stag}
use Rattle.iw_memory.specs.declared.peer.Peer.{Peer}
use Rattle.iw_memory.specs.Region.{most_octets, Region, bound_region}
use Rattle.iw_memory.specs.Table.{Table, region_at, next_stag, drawn_stag, registered, registered_drawn, retired}
use Rattle.iw_memory.specs.TableLending.{overwritten}
use Rattle.iw_untagged.specs.Receiving.{exchanged}
use Rattle.iw_stream.specs.Pooling.{bound_buffers}
use Rattle.iw_stream.specs.Stream as stream
use Rattle.iw_stream.specs.Stream.{StreamState, peer_of, sees, emission_of, emitted}
use Rattle.iw_stream.specs.Work.{work_step, table_worked}
use Rattle.iw_endpoint.specs.declared.refusal.CallRefusal.TheVariants.{Refused}
use Rattle.iw_endpoint.specs.declared.refusal.LimitRefusal.TheVariants as limits
use Rattle.iw_endpoint.specs.Endpoint.{EndpointState, Pool, pool_of, lent_to, left_of, pool_left, with_worked, with_stream, with_table, accepted, rejected, with_request, with_buffer, with_first, with_mulpdu, after_deliver, broken, stream_of, stream_at, unopened, answer_at, refusal_at, rest_refusal, running_refusal, limit_refusal_within, rewritten, answer_refusal, post_refusal, recv_refusal, first_refusal, size_refusal}
use Rattle.iw_endpoint.specs.KeptRegions.{region_in}
use Rattle.iw_endpoint.specs.Sharing.{emptied, with_worked_alone}
use Rattle.iw_endpoint.specs.Isolation.{StreamCall, StreamAnswer, Accept, Reject, Post, PostRecv, FirstNumber, Deliver, Work, WorkWithin, Emit, BreakLink, Close, RegisterFor, RegisterDrawnFor, RegisterOctetsFor, RegisterOctetsDrawnFor, SetMulpdu, Private, Told, PeerOptions, Standing, HasDue, PeerFirst, Sent, DueLen, InOrderPoint, BoundBuffers, Limits, Worked, Emitted, Bound, Counted, stream_answer, after_stream, answer_or, unless, if_there}
use Rattle.iw_endpoint.proofs.Rewritten.{over_denies, over_register, over_stag, over_drawn, registered_passes, drawn_passes, retired_passes}
use Rattle.iw_endpoint.proofs.Steps.{closes, worked_within}
use Rattle.iw_endpoint.proofs.Tables.{DeniesAlike, same_step, same_worked, same_emission, same_due_len, same_after_emit}

module _ (e : EndpointState) (n : ℕ) (stag : Stag) (r : Region) (found : region_at e.table stag ≡ Some r) (octets : List ℕ) where
  abbrev t : Table
  t = overwritten e.table stag octets

  abbrev f : EndpointState
  f = rewritten e stag octets

  denied : (peer : Peer) → DeniesAlike e.table t peer
  denied peer = over_denies e.table stag r found octets peer

  -- ---- what it answers

  step_alike : (s : StreamState) (o : Option Pool) → work_step t (lent_to o s) ≡ work_step e.table (lent_to o s)
  step_alike s None = same_step s t e.table (denied (peer_of s))
  step_alike s (Some pool) = same_step (sees s pool) t e.table (denied (peer_of s))

  at_alike : {A : Type 0} (o : Option StreamState) (at_f at_e : StreamState → A) → ((s : StreamState) → o ≡ Some s → at_f s ≡ at_e s) → answer_at o (λ s. at_f (unwrap_or o unopened)) ≡ answer_at o (λ s. at_e (unwrap_or o unopened))
  at_alike None at_f at_e same = refl
  at_alike (Some s) at_f at_e same = ap Ok (same s refl)

  -- a registration for the stream, under its domain's next STag, or under one that is drawn
  refused_alike : (most base len : ℕ) → limit_refusal_within most f n base len ≡ limit_refusal_within most e n base len
  refused_alike most base len = ap (λ o. option_or (running_refusal e n) (option_map (λ refusal. Refused (limits.Refused refusal)) o)) (over_register e.table stag r found octets most (stream_at e n).domain base len)

  told_bound : (most base len : ℕ) → Bound (answer_or (limit_refusal_within most f n base len) (next_stag t (stream_at e n).domain)) ≡ Bound (answer_or (limit_refusal_within most e n base len) (next_stag e.table (stream_at e n).domain))
  told_bound most base len = λ i. Bound (answer_or (refused_alike most base len i) (over_stag e.table stag r found octets (stream_at e n).domain i))

  told_drawn : (most base len drawn : ℕ) → Bound (answer_or (limit_refusal_within most f n base len) (drawn_stag t (stream_at e n).domain drawn)) ≡ Bound (answer_or (limit_refusal_within most e n base len) (drawn_stag e.table (stream_at e n).domain drawn))
  told_drawn most base len drawn = λ i. Bound (answer_or (refused_alike most base len i) (over_drawn e.table stag r found octets (stream_at e n).domain drawn i))

  -- if it is no emission, or its octets are the same
  pub told_alike : (T : StreamCall → Type 0) → (T Emit → (s : StreamState) → stream_of e n ≡ Some s → emitted t s ≡ emitted e.table s) → (call : StreamCall) → T call → stream_answer f n call ≡ stream_answer e n call
  told_alike T emits (Accept private) told = refl
  told_alike T emits (Reject private) told = refl
  told_alike T emits (Post request) told = refl
  told_alike T emits (PostRecv buffer) told = refl
  told_alike T emits (FirstNumber first) told = refl
  told_alike T emits (Deliver from came) told = refl
  told_alike T emits Work told = go (stream_of e n)
    where
      go : (o : Option StreamState) → Worked (answer_at o (λ s. work_step t (lent_to (pool_of e s.domain) s))) ≡ Worked (answer_at o (λ s. work_step e.table (lent_to (pool_of e s.domain) s)))
      go None = refl
      go (Some s) = ap (λ x. Worked (Ok x)) (step_alike s (pool_of e s.domain))
  told_alike T emits (WorkWithin share) told = go (stream_of e n)
    where
      by_share : Table → Option StreamState → StreamAnswer
      by_share u o =
          Worked (if nat_lt (bound_buffers (unwrap_or o unopened)) share then answer_at o (λ s. work_step u (lent_to (pool_of e s.domain) s)) else answer_at o (λ s. work_step u (lent_to (emptied (pool_of e s.domain)) s)))

      go : (o : Option StreamState) → by_share t o ≡ by_share e.table o
      go None = refl
      go (Some s) =
          let fewer = step_alike s (pool_of e s.domain) in
          let full = step_alike s (emptied (pool_of e s.domain)) in
          λ i. Worked (if nat_lt (bound_buffers s) share then Ok (fewer i) else Ok (full i))
  told_alike T emits Emit told =
      λ i. Emitted (at_alike (stream_of e n) (emission_of t) (emission_of e.table) (λ s is. same_emission s t e.table (denied (peer_of s))) i) (at_alike (stream_of e n) (emitted t) (emitted e.table) (emits told) i)
  told_alike T emits BreakLink told = refl
  told_alike T emits Close told = refl
  told_alike T emits (RegisterFor base theirs rights) told = told_bound (most_octets false) base (length theirs)
  told_alike T emits (RegisterDrawnFor base theirs rights drawn) told = told_drawn (most_octets false) base (length theirs) drawn
  told_alike T emits (RegisterOctetsFor base theirs kept rights) told = told_bound (most_octets kept) base (length theirs)
  told_alike T emits (RegisterOctetsDrawnFor base theirs kept rights drawn) told = told_drawn (most_octets kept) base (length theirs) drawn
  told_alike T emits (SetMulpdu size) told = refl
  told_alike T emits Private told = refl
  told_alike T emits Told told = refl
  told_alike T emits PeerOptions told = refl
  told_alike T emits Standing told = refl
  told_alike T emits HasDue told = refl
  told_alike T emits PeerFirst told = refl
  told_alike T emits Sent told = refl
  told_alike T emits DueLen told = ap Counted (at_alike (stream_of e n) (λ s. length (emitted t s)) (λ s. length (emitted e.table s)) (λ s is. same_due_len s t e.table (denied (peer_of s))))
  told_alike T emits InOrderPoint told = refl
  told_alike T emits BoundBuffers told = refl
  told_alike T emits Limits told = refl

  -- ---- what it leaves

  -- if the step leaves the table but for the region's octets, it so leaves the endpoint
  pub worked_over : (s : StreamState) (later : List ℕ) → table_worked t (lent_to (pool_of e s.domain) s) ≡ overwritten (table_worked e.table (lent_to (pool_of e s.domain) s)) stag later → with_worked f n s ≡ rewritten (with_worked e n s) stag later
  worked_over s later = go (pool_of e s.domain)
    where
      made : Table → Table → Option Pool → EndpointState
      made table new o = record { table = new; pools = set e.pools s.domain (pool_left table o s); streams = set e.streams n (Some (left_of table o s)); closed = e.closed }

      go : (o : Option Pool) → table_worked t (lent_to o s) ≡ overwritten (table_worked e.table (lent_to o s)) stag later → made t (table_worked t (lent_to o s)) o ≡ made e.table (overwritten (table_worked e.table (lent_to o s)) stag later) o
      go None tables =
          let left = same_worked s t e.table (denied (peer_of s)) in
          (λ i. record { table = tables i; pools = set e.pools s.domain None; streams = set e.streams n (Some (left i)); closed = e.closed })
      go (Some pool) tables =
          let left = same_worked (sees s pool) t e.table (denied (peer_of s)) in
          (λ i. record {
            table = tables i;
            pools = set e.pools s.domain (Some (exchanged (left i).receiving.source (exchanged s.receiving.source pool)));
            streams = set e.streams n (Some (sees (left i) (exchanged s.receiving.source pool)));
            closed = e.closed;
          })

  -- the same of a step as if the pool were empty
  pub alone_over : (s : StreamState) (later : List ℕ) → table_worked t (lent_to (emptied (pool_of e s.domain)) s) ≡ overwritten (table_worked e.table (lent_to (emptied (pool_of e s.domain)) s)) stag later → with_worked_alone f n s ≡ rewritten (with_worked_alone e n s) stag later
  alone_over s later = go (emptied (pool_of e s.domain))
    where
      made : Table → Table → Option Pool → EndpointState
      made table new o = record { table = new; pools = e.pools; streams = set e.streams n (Some (left_of table o s)); closed = e.closed }

      go : (o : Option Pool) → table_worked t (lent_to o s) ≡ overwritten (table_worked e.table (lent_to o s)) stag later → made t (table_worked t (lent_to o s)) o ≡ made e.table (overwritten (table_worked e.table (lent_to o s)) stag later) o
      go None tables =
          let left = same_worked s t e.table (denied (peer_of s)) in
          (λ i. record { table = tables i; pools = e.pools; streams = set e.streams n (Some (left i)); closed = e.closed })
      go (Some pool) tables =
          let left = same_worked (sees s pool) t e.table (denied (peer_of s)) in
          (λ i. record { table = tables i; pools = e.pools; streams = set e.streams n (Some (sees (left i) (exchanged s.receiving.source pool))); closed = e.closed })

  -- endpoints that differ in the region's octets alone are related so, if what the table has of this is kept
  module _ (P : Table → Type 0) (Q : EndpointState → EndpointState → Type 0) (all : P e.table) (retires : (s : StreamState) → stream_of e n ≡ Some s → P (retired e.table (peer_of s))) (registers : (pd : ℕ) (region : Region) → P (registered e.table pd region))
      (draws : (pd drawn : ℕ) (region : Region) → P (registered_drawn e.table pd drawn region))
      (related : (new : EndpointState) → P new.table → Q (rewritten new stag octets) new) (works : (s : StreamState) → stream_of e n ≡ Some s → Q (with_worked f n s) (with_worked e n s))
      (works_alone : (s : StreamState) → stream_of e n ≡ Some s → Q (with_worked_alone f n s) (with_worked_alone e n s)) where
    left_unless : {R : Type 0} (q : Option R) (new : EndpointState) → P new.table → Q (unless q f (rewritten new stag octets)) (unless q e new)
    left_unless None new p = related new p
    left_unless (Some x) new p = related e all

    left_there : (o : Option StreamState) (new : EndpointState) → P new.table → Q (if_there o f (rewritten new stag octets)) (if_there o e new)
    left_there None new p = related e all
    left_there (Some s) new p = related new p

    -- a region is registered for the stream
    left_bound : (most base len : ℕ) (region : Region)
        → Q (unless (limit_refusal_within most f n base len) f (with_table e (registered t (stream_at e n).domain region))) (unless (limit_refusal_within most e n base len) e (with_table e (registered e.table (stream_at e n).domain region)))
    left_bound most base len region =
        let d = (stream_at e n).domain in
        let new = with_table e (registered e.table d region) in
        let q = limit_refusal_within most e n base len in
        let same : unless (limit_refusal_within most f n base len) f (with_table e (registered t d region)) ≡ unless q f (rewritten new stag octets) =
        λ i. unless (refused_alike most base len i) f (with_table e (registered_passes e.table stag r found octets d region i)) in
        subst (λ x. Q x (unless q e new)) (sym same) (left_unless q new (registers d region))

    left_drawn : (most base len drawn : ℕ) (region : Region)
        → Q (unless (limit_refusal_within most f n base len) f (with_table e (registered_drawn t (stream_at e n).domain drawn region))) (unless (limit_refusal_within most e n base len) e (with_table e (registered_drawn e.table (stream_at e n).domain drawn region)))
    left_drawn most base len drawn region =
        let d = (stream_at e n).domain in
        let new = with_table e (registered_drawn e.table d drawn region) in
        let q = limit_refusal_within most e n base len in
        let same : unless (limit_refusal_within most f n base len) f (with_table e (registered_drawn t d drawn region)) ≡ unless q f (rewritten new stag octets) =
        λ i. unless (refused_alike most base len i) f (with_table e (drawn_passes e.table stag r found octets d drawn region i)) in
        subst (λ x. Q x (unless q e new)) (sym same) (left_unless q new (draws d drawn region))

    pub left_alike : (call : StreamCall) → Q (after_stream f n call) (after_stream e n call)
    left_alike (Accept private) = left_unless (answer_refusal e n private.items) (accepted e n private) all
    left_alike (Reject private) = left_unless (answer_refusal e n private.items) (rejected e n private) all
    left_alike (Post request) = left_unless (post_refusal e n request) (with_request e n request) all
    left_alike (PostRecv buffer) = left_unless (recv_refusal e n) (with_buffer e n buffer) all
    left_alike (FirstNumber first) = left_unless (first_refusal e n) (with_first e n first) all
    left_alike (Deliver from came) = left_there (stream_of e n) (after_deliver e n from came) all
    left_alike Work = go (stream_of e n) refl
      where
        go : (o : Option StreamState) → stream_of e n ≡ o → Q (if_there o f (with_worked f n (unwrap_or o unopened))) (if_there o e (with_worked e n (unwrap_or o unopened)))
        go None is = related e all
        go (Some s) is = works s is
    left_alike (WorkWithin share) = go (stream_of e n) refl
      where
        by_share : (s : StreamState) → stream_of e n ≡ Some s → (fewer : Bool) → Q (if fewer then with_worked f n s else with_worked_alone f n s) (if fewer then with_worked e n s else with_worked_alone e n s)
        by_share s is true = works s is
        by_share s is false = works_alone s is

        go : (o : Option StreamState) → stream_of e n ≡ o → Q (if_there o f (worked_within f n share (unwrap_or o unopened))) (if_there o e (worked_within e n share (unwrap_or o unopened)))
        go None is = related e all
        go (Some s) is = by_share s is (nat_lt (bound_buffers s) share)
    left_alike Emit =
        let s = stream_at e n in
        let new = with_stream e n (stream.after_emit e.table s) in
        subst (λ x. Q (if_there (stream_of e n) f (with_stream f n x)) (if_there (stream_of e n) e new)) (sym (same_after_emit s t e.table (denied (peer_of s)))) (left_there (stream_of e n) new all)
    left_alike BreakLink = left_there (stream_of e n) (broken e n) all
    left_alike Close = go (stream_of e n) refl
      where
        go : (o : Option StreamState) → stream_of e n ≡ o → Q (unless (refusal_at o rest_refusal) f (closes f n (unwrap_or o unopened))) (unless (refusal_at o rest_refusal) e (closes e n (unwrap_or o unopened)))
        go None is = related e all
        go (Some s) is =
            let q = option_map Refused (rest_refusal s) in
            subst (λ u. Q (unless q f (record (closes e n s) { table = u })) (unless q e (closes e n s))) (sym (retired_passes e.table stag r found octets (peer_of s))) (left_unless q (closes e n s) (retires s is))
    left_alike (RegisterFor base theirs rights) = left_bound (most_octets false) base (length theirs) (bound_region n base theirs rights)
    left_alike (RegisterDrawnFor base theirs rights drawn) = left_drawn (most_octets false) base (length theirs) drawn (bound_region n base theirs rights)
    left_alike (RegisterOctetsFor base theirs kept rights) = left_bound (most_octets kept) base (length theirs) (region_in base theirs kept rights (Some n))
    left_alike (RegisterOctetsDrawnFor base theirs kept rights drawn) = left_drawn (most_octets kept) base (length theirs) drawn (region_in base theirs kept rights (Some n))
    left_alike (SetMulpdu size) = left_unless (size_refusal e n size) (with_mulpdu e n size) all
    left_alike Private = related e all
    left_alike Told = related e all
    left_alike PeerOptions = related e all
    left_alike Standing = related e all
    left_alike HasDue = related e all
    left_alike PeerFirst = related e all
    left_alike Sent = related e all
    left_alike DueLen = related e all
    left_alike InOrderPoint = related e all
    left_alike BoundBuffers = related e all
    left_alike Limits = related e all
