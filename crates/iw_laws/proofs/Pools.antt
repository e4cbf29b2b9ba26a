-- Streams that share the pool of their domain: what the acts of an end say of its pools and of their receive buffers is what the state has.
use Rattle.std.proofs.Common.{◌≡◌, ℕ, zero, suc, ◌<◌, ◌≤◌, List, [], ◌∷◌, ◌++◌, length, drop, replicate, Option, Some, None, Ok, Err, Bool, true, false, cond, eqb, refl, sym, ap, ◌∙◌, subst, arith, eqb-true, inl, inr}
use Rattle.std.specs.Prelude.{slice_set, slice_index_or}
use Rattle.std.specs.Option.{option_map, option_map_or}
use Rattle.std.proofs.lemmas.Bool.{cases_lt, eq-eqb, false≢true}
use Rattle.std.proofs.lemmas.List.{get_or-set_same, get_or-set_other}
use Rattle.std.proofs.lemmas.Option.{none-some}
use Rattle.iw_memory.specs.Table.{Table, is_added, register_refusal}
use Rattle.iw_untagged.specs.Receiving.{Source, Receiving, exchanged, full_refusal, seeing}
use Rattle.iw_stream.specs.declared.answer.RecvRefusal.TheVariants as recv_refusals
use Rattle.iw_stream.specs.Stream.{StreamState, shares, ended, recv_refusal, recv_refusal_of}
use Rattle.iw_stream.specs.Work.{worked}
use Rattle.iw_endpoint.specs.Endpoint as endpoint
use Rattle.iw_endpoint.specs.Endpoint.{EndpointState, pool_of, lent_to, left_of, pool_left, stream_of, stream_at, has_stream}
use Rattle.iw_endpoint.specs.Isolation.{HasDomains, after, unless}
use Rattle.iw_events.specs.declared.act.Act.{Act}
use Rattle.iw_events.specs.declared.act.Act.TheVariants.{Domain, Register, Deregister, Invalidate, Store, Open, Share, Pool, Unpool, OpenShared, Stream}
use Rattle.iw_events.specs.declared.act.StreamAct.{StreamAct}
use Rattle.iw_events.specs.declared.act.StreamAct.TheVariants.{Recv, Post, Emit, First, Deliver, Raw, Mulpdu, Accept, Reject, Work, Break}
use Rattle.iw_events.specs.declared.act.Seen.{Seen}
use Rattle.iw_laws.specs.Words.{Octets, Opening, deed, domain_of, opening_of, sent_by, stream_acts, config_for, private_data}
use Rattle.iw_laws.specs.Turns.{story, story_of, story_after, Pooling, pooling, pooling_by, pooling_seen, pool_by, pool_back, taken_back, queue_seen, lent_in}
use Rattle.iw_laws.specs.Rules.{EndState, StreamRule, EndRule, call_made, end_after, seen_at, stream_for, wire_at}
use Rattle.iw_laws.proofs.Checks.{places_in, places_lent}
use Rattle.iw_laws.proofs.Lent.{requeued, retold, requeued_own}
use Rattle.iw_laws.proofs.Owned.{Own}
use Rattle.iw_laws.proofs.Owns.{owning}
use Rattle.iw_laws.proofs.Releases.{IsLeft, left_acts, left_apart, left_requeued}
use Rattle.iw_laws.proofs.States.{Connected, connected_at, connected_seen, connected_after, left_at, stream_after, found, granted, denied, pools_refused, pools_there, own_lent, own_left, own_pool}
use Rattle.iw_laws.proofs.Tales.{Tale, tale_of, tale_after, tale-push, pooled, pooling-push, story_apart}
use Rattle.iw_laws.proofs.Told.{after_act}
use Rattle.iw_laws.proofs.Tracks.{shown_stays}
use Rattle.iw_laws.proofs.Ends.{EndSeen, there}

-- ---- what the acts of an end say of a stream

-- where it shares a pool, with this queue
abbrev pub told_by : Bool → Opening → List (StreamAct Octets) → Receiving → Tale
told_by shared o done queue = record (tale_of o done) { story = record (story o done) { receiving = cond shared queue (story o done).receiving } }

-- no pool is lent to it
abbrev pub tale : ℕ → List (Act Octets) → Tale
tale n done = told_by (opening_of n done).shared (opening_of n done) (stream_acts n done) ((pooling done).queues n)

-- its pool is lent to it
abbrev pub tale_seen : ℕ → List (Act Octets) → Tale
tale_seen n done = record (tale_of (opening_of n done) (stream_acts n done)) { story = story_of n done }

-- a stream, as it would be had no octets of placed frames been given up
pub record Holds (l : Opening) (c : Connected) (t : Tale) : Type 0 where
  pub stream : StreamState
  pub is_left : IsLeft c.stream stream
  pub own : Own l (record { stream = stream; wire = c.wire }) t

abbrev pub held : {l : Opening} {c : Connected} {t : Tale} → Holds l c t → Connected
held {l} {c} {t} h = record { stream = h.stream; wire = c.wire }

-- an act of the stream
pub holding : (table : Table) (l : Opening) (c : Connected) (t : Tale) (act : StreamAct Octets) → StreamRule table c.stream act → Holds l c t → Holds l (connected_after table c act) (tale_after t act)
holding table l c t act rule h =
    let x = left_acts table c.stream h.stream t act h.is_left h.own.track rule in
    record { stream = after_act h.stream act; is_left = x.1; own = owning l table (record { stream = h.stream; wire = c.wire }) t act x.0 h.own }

receiving_is : {l : Opening} {c : Connected} {t : Tale} → Holds l c t → t.story.receiving ≡ c.stream.receiving
receiving_is h = h.own.track.receiving ∙ sym (ap (λ (z : StreamState). z.receiving) (left_apart h.is_left))

-- ---- a pool is lent, and taken back

requeued_holds : (l : Opening) (c : Connected) (t : Tale) (x y : Source) → y ≡ x → places_in x ≡ places_in c.stream.receiving.source → Holds l c t → Holds l (record c { stream = requeued c.stream x }) (retold t y)
requeued_holds l c t x y e same h = record {
  stream = requeued h.stream x;
  is_left = left_requeued x h.is_left;
  own = requeued_own l (record { stream = h.stream; wire = c.wire }) t x y e (same ∙ ap (λ (z : StreamState). places_in z.receiving.source) (left_apart h.is_left)) h.own;
}

abbrev lent_with : Option (List Octets) → Source → Source
lent_with pool x = option_map_or (seeing x) pool x

abbrev back_with : Option (List Octets) → Source → Source → Source
back_with pool before after = option_map_or (λ p. seeing after (exchanged before p)) pool after

places_with : (pool : Option (List Octets)) (x : Source) → places_in (lent_with pool x) ≡ places_in x
places_with None x = refl
places_with (Some pool) x = places_lent x pool

places_back : (pool : Option (List Octets)) (before after : Source) → places_in (back_with pool before after) ≡ places_in after
places_back None before after = refl
places_back (Some pool) before after = places_lent after (exchanged before pool)

lent_as : (pool : Option (List Octets)) (s : StreamState) → requeued s (lent_with pool s.receiving.source) ≡ lent_to pool s
lent_as None s = refl
lent_as (Some pool) s = refl

left_as : (table : Table) (pool : Option (List Octets)) (s : StreamState) → requeued (worked table (lent_to pool s)) (back_with pool s.receiving.source (worked table (lent_to pool s)).receiving.source) ≡ left_of table pool s
left_as table None s = refl
left_as table (Some pool) s = refl

pool_as : (table : Table) (pool : Option (List Octets)) (s : StreamState) → pool_left table pool s ≡ option_map (λ p. exchanged (worked table (lent_to pool s)).receiving.source (exchanged s.receiving.source p)) pool
pool_as table None s = refl
pool_as table (Some pool) s = refl

-- ---- the acts of a stream

-- each pool of the end is what its acts say
abbrev pub PoolsSeen : EndState → List (Act Octets) → Type 0
PoolsSeen s done = (d : ℕ) → pool_of s.endpoint d ≡ pool_by d done

-- a stream at this moment, with no pool lent to it
abbrev pub HeldAt : EndState → List (Act Octets) → ℕ → Type 0
HeldAt s done n = Holds (opening_of n done) (connected_at s n) (tale n done)

-- and once it did one more act
abbrev pub NextAt : EndState → List (Act Octets) → ℕ → StreamAct Octets → Bool → Receiving → Type 0
NextAt s done n act shared queue =
    Holds (opening_of n done) (record { stream = left_at s.endpoint n act; wire = wire_at s n ++ sent_by act })
    (told_by shared (opening_of n done) (stream_acts n done ++ act ∷ []) queue)

abbrev queue_next : List (Act Octets) → ℕ → StreamAct Octets → Receiving
queue_next done n act = (pooling (done ++ Stream n act ∷ [])).queues n

-- a step at which the pool is lent
module _ (s : EndState) (done : List (Act Octets)) (n : ℕ) (step : Seen Octets) (shared : (opening_of n done).shared ≡ true)
    (pool_is : pool_of s.endpoint (stream_at s.endpoint n).domain ≡ pool_by (domain_of n done) done) (rule : StreamRule s.endpoint.table (seen_at s.endpoint n) (Work step)) (h : HeldAt s done n) where
  abbrev o : Opening
  o = opening_of n done

  abbrev those : List (StreamAct Octets)
  those = stream_acts n done

  abbrev x : StreamState
  x = stream_at s.endpoint n

  abbrev there_pool : Option (List Octets)
  there_pool = pool_of s.endpoint (stream_at s.endpoint n).domain

  abbrev pool : Option (List Octets)
  pool = pool_by (domain_of n done) done

  abbrev queue : Receiving
  queue = (pooling done).queues n

  abbrev left : Receiving
  left = queue_seen (pooled done) n step

  h_shared : Holds (opening_of n done) (connected_at s n) (told_by true (opening_of n done) (stream_acts n done) ((pooling done).queues n))
  h_shared = subst (λ b. Holds (opening_of n done) (connected_at s n) (told_by b (opening_of n done) (stream_acts n done) ((pooling done).queues n))) shared h

  queue_is : (pooling done).queues n ≡ (stream_at s.endpoint n).receiving
  queue_is = receiving_is h_shared

  abbrev lent_stream : Connected
  lent_stream = record (connected_at s n) { stream = requeued x (lent_with there_pool x.receiving.source) }

  abbrev lent_tale : Tale
  lent_tale = retold (told_by true o those queue) (lent_with pool queue.source)

  h_lent : Holds o lent_stream lent_tale
  h_lent =
      requeued_holds o (connected_at s n) (told_by true o those queue) (lent_with there_pool x.receiving.source) (lent_with pool queue.source)
      (λ i. lent_with (sym pool_is i) (queue_is i).source) (places_with there_pool x.receiving.source) h_shared

  lent_so : StreamRule s.endpoint.table lent_stream.stream (Work step)
  lent_so = subst (λ z. StreamRule s.endpoint.table z (Work step)) (sym (lent_as there_pool x)) rule

  h_worked : Holds o (connected_after s.endpoint.table lent_stream (Work step)) (tale_after lent_tale (Work step))
  h_worked = holding s.endpoint.table o lent_stream lent_tale (Work step) lent_so h_lent

  left_is : queue_seen (pooled done) n step ≡ (worked s.endpoint.table lent_stream.stream).receiving
  left_is = receiving_is h_worked

  h_back : Holds o (record (connected_after s.endpoint.table lent_stream (Work step)) { stream = requeued (worked s.endpoint.table lent_stream.stream) (back_with there_pool x.receiving.source (worked s.endpoint.table lent_stream.stream).receiving.source) })
      (retold (tale_after lent_tale (Work step)) (back_with pool queue.source left.source))
  h_back =
      requeued_holds o (connected_after s.endpoint.table lent_stream (Work step)) (tale_after lent_tale (Work step)) (back_with there_pool x.receiving.source (worked s.endpoint.table lent_stream.stream).receiving.source)
      (back_with pool queue.source left.source) (λ i. back_with (sym pool_is i) (queue_is i).source (left_is i).source) (places_back there_pool x.receiving.source (worked s.endpoint.table lent_stream.stream).receiving.source) h_worked

  stream_so : requeued (worked s.endpoint.table lent_stream.stream) (back_with there_pool x.receiving.source (worked s.endpoint.table lent_stream.stream).receiving.source) ≡ left_of s.endpoint.table there_pool x
  stream_so =
      ap (λ z. requeued (worked s.endpoint.table z) (back_with there_pool x.receiving.source (worked s.endpoint.table z).receiving.source)) (lent_as there_pool x)
      ∙ left_as s.endpoint.table there_pool x

  tale_so : retold (tale_after lent_tale (Work step)) (back_with pool queue.source left.source) ≡ told_by true o (those ++ Work step ∷ []) (taken_back pool queue left)
  tale_so =
      (λ i. record (tale_after (tale_of o those) (Work step)) { story = record (story_apart (story o those) (lent_in pool queue) (Work step) i) { receiving = taken_back pool queue left } })
      ∙ (λ i. record (sym (tale-push o those (Work step)) i) { story = record (sym (tale-push o those (Work step)) i).story { receiving = taken_back pool queue left } })

  pub stepped_with : NextAt s done n (Work step) true (taken_back pool queue left)
  stepped_with =
      subst (λ z. Holds o (record { stream = z; wire = wire_at s n ++ sent_by (Work step) }) (told_by true o (those ++ Work step ∷ []) (taken_back pool queue left))) stream_so
      (subst (Holds o (record (connected_after s.endpoint.table lent_stream (Work step)) { stream = requeued (worked s.endpoint.table lent_stream.stream) (back_with there_pool x.receiving.source (worked s.endpoint.table lent_stream.stream).receiving.source) })) tale_so h_back)

  -- and what it leaves of the pool
  pub pool_stepped : pool_left s.endpoint.table there_pool x ≡ pool_back pool queue left
  pool_stepped =
      pool_as s.endpoint.table there_pool x
      ∙ ap (λ z. option_map (λ p. exchanged (worked s.endpoint.table z).receiving.source (exchanged x.receiving.source p)) there_pool) (sym (lent_as there_pool x))
      ∙ (λ i. option_map (λ p. exchanged (sym left_is i).source (exchanged (sym queue_is i).source p)) (pool_is i))

  next_is : (pooling (done ++ Stream n (Work step) ∷ [])).queues n ≡ taken_back pool queue left
  next_is =
      ap (λ (z : Pooling). z.queues n) (pooling-push done (Stream n (Work step)))
      ∙ ap (λ b. (cond b (pooling_seen (pooled done) n step) (pooled done)).queues n) shared
      ∙ ap (λ b. cond b (taken_back pool queue left) queue) (eq-eqb n n refl)

  pub stepped : NextAt s done n (Work step) true (queue_next done n (Work step))
  stepped = subst (NextAt s done n (Work step) true) (sym next_is) stepped_with

-- any other act leaves the queue
still_queue : (p : Pooling) (n : ℕ) (shared : Bool) (o : Option (Seen Octets)) → o ≡ None → (cond shared (option_map_or (pooling_seen p n) o p) p).queues n ≡ p.queues n
still_queue p n false o e = refl
still_queue p n true o e = ap (λ z. (option_map_or (pooling_seen p n) z p).queues n) e

module _ (s : EndState) (done : List (Act Octets)) (n : ℕ) (act : StreamAct Octets) (none : (deed act).step ≡ None) (rule : StreamRule s.endpoint.table (stream_for s.endpoint n act) act) where
  plain_so : StreamRule s.endpoint.table (stream_at s.endpoint n) act
  plain_so = subst (λ z. StreamRule s.endpoint.table z act) (ap (λ o. option_map_or (λ step. seen_at s.endpoint n) o (stream_at s.endpoint n)) none) rule

  left_so : left_at s.endpoint n act ≡ stream_after s.endpoint.table (stream_at s.endpoint n) act
  left_so = ap (λ o. option_map_or (λ step. left_of s.endpoint.table (pool_of s.endpoint (stream_at s.endpoint n).domain) (stream_at s.endpoint n)) o (stream_after s.endpoint.table (stream_at s.endpoint n) act)) none

  queue_so : queue_next done n act ≡ (pooling done).queues n
  queue_so = ap (λ (z : Pooling). z.queues n) (pooling-push done (Stream n act)) ∙ still_queue (pooled done) n (opening_of n done).shared (deed act).step none

  kept_so : (story_after (record (story (opening_of n done) (stream_acts n done)) { receiving = (pooling done).queues n }) act).receiving ≡ (pooling done).queues n
      → Holds (opening_of n done) (connected_at s n) (told_by true (opening_of n done) (stream_acts n done) ((pooling done).queues n))
      → NextAt s done n act true (queue_next done n act)
  kept_so stays h =
      let o : Opening = opening_of n done in
      let those : List (StreamAct Octets) = stream_acts n done in
      let queue : Receiving = (pooling done).queues n in
      let next = holding s.endpoint.table o (connected_at s n) (told_by true o those queue) act plain_so h in
      let tale_is : tale_after (told_by true o those queue) act ≡ told_by true o (those ++ act ∷ []) queue =
      (λ i. record (tale_after (tale_of o those) act) { story = story_apart (story o those) queue act i })
      ∙ (λ i. record (tale_after (tale_of o those) act) { story = record (story_after (story o those) act) { receiving = stays i } })
      ∙ (λ i. record (sym (tale-push o those act) i) { story = record (sym (tale-push o those act) i).story { receiving = queue } }) in
      subst (NextAt s done n act true) (sym queue_so)
      (subst (λ z. Holds o (record { stream = z; wire = wire_at s n ++ sent_by act }) (told_by true o (those ++ act ∷ []) queue)) (sym left_so)
      (subst (Holds o (connected_after s.endpoint.table (connected_at s n) act)) tale_is next))

-- a stream that shares no pool
module _ (s : EndState) (done : List (Act Octets)) (n : ℕ) (own : shares (stream_at s.endpoint n) ≡ false) where
  pub own_seen : (act : StreamAct Octets) → stream_for s.endpoint n act ≡ stream_at s.endpoint n
  own_seen act = go (deed act).step
    where
      go : (o : Option (Seen Octets)) → option_map_or (λ step. seen_at s.endpoint n) o (stream_at s.endpoint n) ≡ stream_at s.endpoint n
      go None = refl
      go (Some step) = own_lent (pool_of s.endpoint (stream_at s.endpoint n).domain) (stream_at s.endpoint n) own

  own_after : (act : StreamAct Octets) → left_at s.endpoint n act ≡ stream_after s.endpoint.table (stream_at s.endpoint n) act
  own_after (Recv len refused) = refl
  own_after (Post m refused) = refl
  own_after (Emit shown) = refl
  own_after (First number refused) = refl
  own_after (Deliver from number octets delivery) = refl
  own_after (Raw number octets delivery) = refl
  own_after (Mulpdu size refused) = refl
  own_after (Accept private answer) = refl
  own_after (Reject private refused) = refl
  own_after (Work step) = own_left s.endpoint.table (pool_of s.endpoint (stream_at s.endpoint n).domain) (stream_at s.endpoint n) own
  own_after Break = refl

  own_next : (act : StreamAct Octets) (next : Receiving) → StreamRule s.endpoint.table (stream_for s.endpoint n act) act
      → Holds (opening_of n done) (connected_at s n) (tale_of (opening_of n done) (stream_acts n done)) → NextAt s done n act false next
  own_next act next rule h =
      let o : Opening = opening_of n done in
      let those : List (StreamAct Octets) = stream_acts n done in
      let plain : StreamRule s.endpoint.table (stream_at s.endpoint n) act = subst (λ z. StreamRule s.endpoint.table z act) (own_seen act) rule in
      subst (λ z. Holds o (record { stream = z; wire = wire_at s n ++ sent_by act }) (tale_of o (those ++ act ∷ []))) (sym (own_after act))
      (subst (Holds o (connected_after s.endpoint.table (connected_at s n) act)) (sym (tale-push o those act)) (holding s.endpoint.table o (connected_at s n) (tale_of o those) act plain h))

-- a receive buffer is not posted to a stream that shares a pool
refused_shared : (s : StreamState) → shares s ≡ true → None ≡ recv_refusal s → ⊥
refused_shared s e rule = none-some _ (rule ∙ ap (λ b. cond b (Some recv_refusals.Shared) (cond (ended s) (Some recv_refusals.Ended) (option_map recv_refusal_of (full_refusal s.receiving)))) e)

pub next_held : (s : EndState) (done : List (Act Octets)) (n : ℕ) (act : StreamAct Octets) → EndSeen s done → PoolsSeen s done → has_stream s.endpoint n ≡ true → StreamRule s.endpoint.table (stream_for s.endpoint n act) act
    → HeldAt s done n → NextAt s done n act (opening_of n done).shared (queue_next done n act)
next_held s done n act k pools has rule h = go (opening_of n done).shared refl act rule
  where
    shared_is : (b : Bool) → (opening_of n done).shared ≡ b → shares (stream_at s.endpoint n) ≡ b
    shared_is b e = k.pooled n has ∙ e

    told : (b : Bool) → (opening_of n done).shared ≡ b → Holds (opening_of n done) (connected_at s n) (told_by b (opening_of n done) (stream_acts n done) ((pooling done).queues n))
    told b e = subst (λ z. Holds (opening_of n done) (connected_at s n) (told_by z (opening_of n done) (stream_acts n done) ((pooling done).queues n))) e h

    pool_is : pool_of s.endpoint (stream_at s.endpoint n).domain ≡ pool_by (domain_of n done) done
    pool_is = pools (stream_at s.endpoint n).domain ∙ ap (λ d. pool_by d done) (k.domain n has)

    go : (b : Bool) → (opening_of n done).shared ≡ b → (act : StreamAct Octets) → StreamRule s.endpoint.table (stream_for s.endpoint n act) act → NextAt s done n act b (queue_next done n act)
    go false e act rule = own_next s done n (shared_is false e) act (queue_next done n act) rule (told false e)
    go true e (Recv len None) rule = absurd (refused_shared (stream_at s.endpoint n) (shared_is true e) rule)
    go true e (Recv len (Some refusal)) rule = kept_so s done n (Recv len (Some refusal)) refl rule refl (told true e)
    go true e (Post m refused) rule = kept_so s done n (Post m refused) refl rule refl (told true e)
    go true e (Emit shown) rule = kept_so s done n (Emit shown) refl rule (shown_stays (record (story (opening_of n done) (stream_acts n done)) { receiving = (pooling done).queues n }) shown).receiving (told true e)
    go true e (First number refused) rule = kept_so s done n (First number refused) refl rule refl (told true e)
    go true e (Deliver from number octets delivery) rule = kept_so s done n (Deliver from number octets delivery) refl rule refl (told true e)
    go true e (Raw number octets delivery) rule = kept_so s done n (Raw number octets delivery) refl rule refl (told true e)
    go true e (Mulpdu size refused) rule = kept_so s done n (Mulpdu size refused) refl rule refl (told true e)
    go true e (Accept private answer) rule = kept_so s done n (Accept private answer) refl rule refl (told true e)
    go true e (Reject private refused) rule = kept_so s done n (Reject private refused) refl rule refl (told true e)
    go true e Break rule = kept_so s done n Break refl rule refl (told true e)
    go true e (Work step) rule = stepped s done n step e pool_is rule h

-- ---- the pools

set_past : (ps : List (Option (List Octets))) (d : ℕ) (x : Option (List Octets)) → length ps ≤ d → slice_set ps d x ≡ ps
set_past [] d x h = refl
set_past (p ∷ ps) zero x h = absurd (omega (arith, h))
set_past (p ∷ ps) (suc d) x h = ap (λ z. p ∷ z) (set_past ps d x (omega (arith, h)))

get_past : (ps : List (Option (List Octets))) (d : ℕ) → length ps ≤ d → slice_index_or ps d None ≡ None
get_past [] d h = refl
get_past (p ∷ ps) zero h = absurd (omega (arith, h))
get_past (p ∷ ps) (suc d) h = get_past ps d (omega (arith, h))

-- one place has another
put_there : (ps : List (Option (List Octets))) (i d : ℕ) (x : Option (List Octets)) → i < length ps → slice_index_or (slice_set ps i x) d None ≡ cond (eqb i d) x (slice_index_or ps d None)
put_there ps i d x room = go (eqb i d) refl
  where
    go : (b : Bool) → eqb i d ≡ b → slice_index_or (slice_set ps i x) d None ≡ cond b x (slice_index_or ps d None)
    go true e = subst (λ j. slice_index_or (slice_set ps i x) j None ≡ x) (eqb-true i d e) (get_or-set_same ps i x None room)
    go false e = get_or-set_other ps i d x None (λ same. false≢true (sym e ∙ eq-eqb i d (sym same)))

-- what is made of one: nothing of none
put_changed : (ps : List (Option (List Octets))) (i d : ℕ) (f : Option (List Octets) → Option (List Octets)) → f None ≡ None
    → slice_index_or (slice_set ps i (f (slice_index_or ps i None))) d None ≡ cond (eqb i d) (f (slice_index_or ps i None)) (slice_index_or ps d None)
put_changed ps i d f none =
    elim (cases_lt i (length ps)) [
      | inl room ↦ put_there ps i d (f (slice_index_or ps i None)) room
      | inr past ↦
          ap (λ z. slice_index_or z d None) (set_past ps i (f (slice_index_or ps i None)) past)
          ∙ go (eqb i d) refl (ap f (get_past ps i past) ∙ none) (get_past ps i past)
    ]
  where
    go : (b : Bool) → eqb i d ≡ b → f (slice_index_or ps i None) ≡ None → slice_index_or ps i None ≡ None → slice_index_or ps d None ≡ cond b (f (slice_index_or ps i None)) (slice_index_or ps d None)
    go false e gone past = refl
    go true e gone past = ap (λ j. slice_index_or ps j None) (sym (eqb-true i d e)) ∙ past ∙ sym gone

-- a domain that was added has a place
added_there : (e : EndpointState) (pd : ℕ) → HasDomains e → None ≡ endpoint.share_refusal e pd → pd < length e.pools
added_there e pd all rule = go (is_added e.table pd) refl rule
  where
    go : (added : Bool) → is_added e.table pd ≡ added → None ≡ endpoint.share_fault added (pool_of e pd) → pd < length e.pools
    go false is h = absurd (none-some _ h)
    go true is h = omega (arith, there e.table pd is, all.0, all.1)

same_at : (ps : List (Option (List Octets))) (i d : ℕ) → cond (eqb i d) (slice_index_or ps i None) (slice_index_or ps d None) ≡ slice_index_or ps d None
same_at ps i d = go (eqb i d) refl
  where
    go : (b : Bool) → eqb i d ≡ b → cond b (slice_index_or ps i None) (slice_index_or ps d None) ≡ slice_index_or ps d None
    go false e = refl
    go true e = ap (λ j. slice_index_or ps j None) (eqb-true i d e)

still_pools : (p : Pooling) (n d : ℕ) (shared : Bool) (o : Option (Seen Octets)) → o ≡ None → (cond shared (option_map_or (pooling_seen p n) o p) p).pools d ≡ p.pools d
still_pools p n d false o e = refl
still_pools p n d true o e = ap (λ z. (option_map_or (pooling_seen p n) z p).pools d) e

-- an act of a stream
module _ (s : EndState) (done : List (Act Octets)) (n d : ℕ) (k : EndSeen s done) (pools : PoolsSeen s done) (has : has_stream s.endpoint n ≡ true) where
  abbrev e : EndpointState
  e = s.endpoint

  -- that leaves them
  pools_kept : (act : StreamAct Octets) → (deed act).step ≡ None → (after e (call_made (Stream n act))).pools ≡ e.pools → pool_of (after e (call_made (Stream n act))) d ≡ (pooling_by (pooled done) (Stream n act)).pools d
  pools_kept act none same = ap (λ ps. slice_index_or ps d None) same ∙ pools d ∙ sym (still_pools (pooled done) n d (opening_of n done).shared (deed act).step none)

  pools_worked : (step : Seen Octets) → StreamRule e.table (seen_at e n) (Work step) → HeldAt s done n → pool_of (after e (call_made (Stream n (Work step)))) d ≡ (pooling_by (pooled done) (Stream n (Work step))).pools d
  pools_worked step rule h =
      ap (λ (z : EndpointState). pool_of z d) (found (stream_of e n) e (endpoint.after_work e n) has)
      ∙ put_changed e.pools (stream_at e n).domain d (λ o. pool_left e.table o (stream_at e n)) refl
      ∙ go (opening_of n done).shared refl
    where
      go : (b : Bool) → (opening_of n done).shared ≡ b
          → cond (eqb (stream_at e n).domain d) (pool_left e.table (pool_of e (stream_at e n).domain) (stream_at e n)) (pool_of e d) ≡ (cond b (pooling_seen (pooled done) n step) (pooled done)).pools d
      go false own =
          ap (λ z. cond (eqb (stream_at e n).domain d) z (pool_of e d)) (own_pool e.table (pool_of e (stream_at e n).domain) (stream_at e n) (k.pooled n has ∙ own))
          ∙ same_at e.pools (stream_at e n).domain d ∙ pools d
      go true shared =
          let domain : (stream_at e n).domain ≡ domain_of n done = k.domain n has in
          let pool_is : pool_of e (stream_at e n).domain ≡ pool_by (domain_of n done) done = pools (stream_at e n).domain ∙ ap (λ j. pool_by j done) domain in
          let next : pool_left e.table (pool_of e (stream_at e n).domain) (stream_at e n) ≡ pool_back (pool_by (domain_of n done) done) ((pooling done).queues n) (queue_seen (pooled done) n step) =
          pool_stepped s done n step shared pool_is rule h in
          (λ i. cond (eqb (domain i) d) (next i) (pools d i))

pub pools_next : (s : EndState) (done : List (Act Octets)) (act : Act Octets) → EndSeen s done → PoolsSeen s done → EndRule s.endpoint act → ((n : ℕ) → HeldAt s done n) → PoolsSeen (end_after s act) (done ++ act ∷ [])
pools_next s done act k pools rule holds d = by act rule ∙ sym (ap (λ (z : Pooling). z.pools d) (pooling-push done act))
  where
    same : (act : Act Octets) → (after s.endpoint (call_made act)).pools ≡ s.endpoint.pools → pool_of (after s.endpoint (call_made act)) d ≡ pool_by d done
    same act e = ap (λ ps. slice_index_or ps d None) e ∙ pools d

    of_stream : (n : ℕ) (act : StreamAct Octets) → has_stream s.endpoint n ≡ true → StreamRule s.endpoint.table (stream_for s.endpoint n act) act
        → pool_of (after s.endpoint (call_made (Stream n act))) d ≡ (pooling_by (pooled done) (Stream n act)).pools d
    of_stream n (Recv len refused) has rule = pools_kept s done n d k pools has (Recv len refused) refl (pools_refused (endpoint.recv_refusal s.endpoint n) s.endpoint (endpoint.with_buffer s.endpoint n (replicate len 0)) refl)
    of_stream n (Post m refused) has rule = pools_kept s done n d k pools has (Post m refused) refl (pools_refused (endpoint.post_refusal s.endpoint n m) s.endpoint (endpoint.with_request s.endpoint n m) refl)
    of_stream n (First number refused) has rule = pools_kept s done n d k pools has (First number refused) refl (pools_refused (endpoint.first_refusal s.endpoint n) s.endpoint (endpoint.with_first s.endpoint n number) refl)
    of_stream n (Mulpdu size refused) has rule = pools_kept s done n d k pools has (Mulpdu size refused) refl (pools_refused (endpoint.size_refusal s.endpoint n size) s.endpoint (endpoint.with_mulpdu s.endpoint n size) refl)
    of_stream n (Accept private answer) has rule = pools_kept s done n d k pools has (Accept private answer) refl (pools_refused (endpoint.answer_refusal s.endpoint n (private_data private).items) s.endpoint (endpoint.accepted s.endpoint n (private_data private)) refl)
    of_stream n (Reject private refused) has rule = pools_kept s done n d k pools has (Reject private refused) refl (pools_refused (endpoint.answer_refusal s.endpoint n (private_data private).items) s.endpoint (endpoint.rejected s.endpoint n (private_data private)) refl)
    of_stream n (Emit shown) has rule = pools_kept s done n d k pools has (Emit shown) refl (pools_there (stream_of s.endpoint n) s.endpoint (endpoint.after_emit s.endpoint n) refl)
    of_stream n (Deliver from number octets delivery) has rule = pools_kept s done n d k pools has (Deliver from number octets delivery) refl (pools_there (stream_of s.endpoint n) s.endpoint (endpoint.after_deliver s.endpoint n number octets) refl)
    of_stream n (Raw number octets delivery) has rule = pools_kept s done n d k pools has (Raw number octets delivery) refl (pools_there (stream_of s.endpoint n) s.endpoint (endpoint.after_deliver s.endpoint n number octets) refl)
    of_stream n Break has rule = pools_kept s done n d k pools has Break refl (pools_there (stream_of s.endpoint n) s.endpoint (endpoint.broken s.endpoint n) refl)
    of_stream n (Work step) has rule = pools_worked s done n d k pools has step rule (holds n)

    by : (act : Act Octets) → EndRule s.endpoint act → pool_of (after s.endpoint (call_made act)) d ≡ (pooling_by (pooled done) act).pools d
    by (Domain pd refused) rule = same (Domain pd refused) (pools_refused (endpoint.domain_refusal s.endpoint pd) s.endpoint (endpoint.added s.endpoint pd) refl)
    by (Register pd base rights octets answer) rule = same (Register pd base rights octets answer) (pools_refused (register_refusal s.endpoint.table pd base (length octets)) s.endpoint (endpoint.registered s.endpoint pd base octets rights) refl)
    by (Deregister stag answer) rule = pools d
    by (Invalidate stag refused) rule = pools d
    by (Store stag to octets refused) rule = same (Store stag to octets refused) (pools_refused (endpoint.store_refusal s.endpoint stag to (length octets)) s.endpoint (endpoint.stored s.endpoint stag to octets) refl)
    by (Open n pd role options private refused) rule =
        same (Open n pd role options private refused) (pools_refused (endpoint.open_refusal s.endpoint n pd role (config_for options private)) s.endpoint (endpoint.opened s.endpoint n pd role (config_for options private)) refl)
    by (OpenShared n pd role options private refused) rule =
        same (OpenShared n pd role options private refused) (pools_refused (endpoint.open_shared_refusal s.endpoint n pd role (config_for options private)) s.endpoint (endpoint.opened_shared s.endpoint n pd role (config_for options private)) refl)
    by (Share pd None) rule =
        ap (λ q. pool_of (unless q s.endpoint (endpoint.shared s.endpoint pd)) d) (sym rule)
        ∙ put_there s.endpoint.pools pd d (Some []) (added_there s.endpoint pd k.domains rule) ∙ ap (cond (eqb pd d) (Some [])) (pools d)
    by (Share pd (Some r)) rule = ap (λ q. pool_of (unless q s.endpoint (endpoint.shared s.endpoint pd)) d) (sym rule) ∙ pools d
    by (Pool pd len None) rule =
        ap (λ q. pool_of (unless q s.endpoint (endpoint.pooled s.endpoint pd (replicate len 0))) d) (sym rule)
        ∙ put_changed s.endpoint.pools pd d (option_map (λ pool. pool ++ replicate len 0 ∷ [])) refl
        ∙ (λ i. cond (eqb pd d) (option_map (λ pool. pool ++ replicate len 0 ∷ []) (pools pd i)) (pools d i))
    by (Pool pd len (Some r)) rule = ap (λ q. pool_of (unless q s.endpoint (endpoint.pooled s.endpoint pd (replicate len 0))) d) (sym rule) ∙ pools d
    by (Unpool pd (Ok buffer)) rule =
        ap (λ q. pool_of (unless q s.endpoint (endpoint.after_take s.endpoint pd)) d) (sym (granted (endpoint.take_refusal s.endpoint pd) buffer (endpoint.taken_at s.endpoint pd) rule).0)
        ∙ put_changed s.endpoint.pools pd d (option_map (drop 1)) refl
        ∙ (λ i. cond (eqb pd d) (option_map (drop 1) (pools pd i)) (pools d i))
    by (Unpool pd (Err r)) rule =
        ap (λ q. pool_of (unless q s.endpoint (endpoint.after_take s.endpoint pd)) d) (sym (denied (endpoint.take_refusal s.endpoint pd) r (endpoint.taken_at s.endpoint pd) rule)) ∙ pools d
    by (Stream n act) rule = of_stream n act rule.0 rule.1

-- ---- what a law sees

-- its pool is lent to it
pub seen_held : (s : EndState) (done : List (Act Octets)) (n : ℕ) → shares (stream_at s.endpoint n) ≡ (opening_of n done).shared → ((opening_of n done).shared ≡ true → pool_of s.endpoint (stream_at s.endpoint n).domain ≡ pool_by (domain_of n done) done)
    → HeldAt s done n → Holds (opening_of n done) (connected_seen s n) (tale_seen n done)
seen_held s done n shares_are pool_is h = go (opening_of n done).shared refl
  where
    told : (b : Bool) → (opening_of n done).shared ≡ b → Holds (opening_of n done) (connected_at s n) (told_by b (opening_of n done) (stream_acts n done) ((pooling done).queues n))
    told b e = subst (λ z. Holds (opening_of n done) (connected_at s n) (told_by z (opening_of n done) (stream_acts n done) ((pooling done).queues n))) e h

    go : (b : Bool) → (opening_of n done).shared ≡ b → Holds (opening_of n done) (connected_seen s n) (record (tale_of (opening_of n done) (stream_acts n done)) {
      story = record (story (opening_of n done) (stream_acts n done)) { receiving = cond (opening_of n done).shared (lent_in (pool_by (domain_of n done) done) ((pooling done).queues n)) (story (opening_of n done) (stream_acts n done)).receiving };
    })
    go false e =
        subst (λ b. Holds (opening_of n done) (connected_seen s n) (record (tale_of (opening_of n done) (stream_acts n done)) {
          story = record (story (opening_of n done) (stream_acts n done)) { receiving = cond b (lent_in (pool_by (domain_of n done) done) ((pooling done).queues n)) (story (opening_of n done) (stream_acts n done)).receiving };
        })) (sym e)
        (subst (λ z. Holds (opening_of n done) (record { stream = z; wire = wire_at s n }) (tale_of (opening_of n done) (stream_acts n done)))
        (sym (own_lent (pool_of s.endpoint (stream_at s.endpoint n).domain) (stream_at s.endpoint n) (shares_are ∙ e))) (told false e))
    go true e =
        subst (λ b. Holds (opening_of n done) (connected_seen s n) (record (tale_of (opening_of n done) (stream_acts n done)) {
          story = record (story (opening_of n done) (stream_acts n done)) { receiving = cond b (lent_in (pool_by (domain_of n done) done) ((pooling done).queues n)) (story (opening_of n done) (stream_acts n done)).receiving };
        })) (sym e)
        (subst (λ z. Holds (opening_of n done) (record { stream = z; wire = wire_at s n })
        (retold (told_by true (opening_of n done) (stream_acts n done) ((pooling done).queues n)) (lent_with (pool_by (domain_of n done) done) ((pooling done).queues n).source)))
        (lent_as (pool_of s.endpoint (stream_at s.endpoint n).domain) (stream_at s.endpoint n))
        (requeued_holds (opening_of n done) (connected_at s n) (told_by true (opening_of n done) (stream_acts n done) ((pooling done).queues n))
        (lent_with (pool_of s.endpoint (stream_at s.endpoint n).domain) (stream_at s.endpoint n).receiving.source) (lent_with (pool_by (domain_of n done) done) ((pooling done).queues n).source)
        (λ i. lent_with (sym (pool_is e) i) (receiving_is (told true e) i).source)
        (places_with (pool_of s.endpoint (stream_at s.endpoint n).domain) (stream_at s.endpoint n).receiving.source) (told true e)))
