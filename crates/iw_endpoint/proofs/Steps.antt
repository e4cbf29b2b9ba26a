-- Each call is one step on the part of the domain that it concerns.
use Rattle.std.proofs.Common.{◌≡◌, ℕ, ◌<◌, Bool, true, false, cond, set, arith, List, [], ◌∷◌, ◌++◌, length, drop, Option, Some, None, Ok, refl, sym, ap, subst, ◌∙◌, inr}
use Rattle.std.proofs.lemmas.Option.{none-some}
use Rattle.std.proofs.lemmas.Bool.Decides.{nat_tests}
use Rattle.std.specs.Prelude.{IfSome, ◌||◌, is_none, unwrap_or, is_some, nat_le, nat_lt, not, if◌then◌else◌}
use Rattle.std.specs.Option.{option_map, option_or}
use Rattle.std.proofs.lemmas.List.{length-set}
use Rattle.iw_octets.specs.declared.stag.Stag.{Stag}
use Rattle.iw_memory.specs.declared.refusal.NoRegion.{NoRegion}
use Rattle.iw_memory.specs.declared.refusal.RegisterRefusal.{RegisterRefusal}
use Rattle.iw_memory.specs.Forms.{own_refusal, kept_refusal}
use Rattle.iw_memory.specs.Part as regions
use Rattle.iw_memory.specs.Region.{most_octets, facts_of, new_region, bound_region, overlay}
use Rattle.iw_memory.specs.Table as tables
use Rattle.iw_memory.specs.Table.{Table, is_added, with_part, retired}
use Rattle.iw_stream.specs.declared.answer.OpenRefusal.{OpenRefusal}
use Rattle.iw_stream.specs.declared.answer.OpenRefusal.TheVariants.{NumberTaken, BadNumber, NoDomain}
use Rattle.iw_ranges.specs.declared.Delivery.{Delivery}
use Rattle.iw_ranges.specs.declared.Delivery.TheVariants.{Kept, Dropped}
use Rattle.iw_startup.specs.declared.config.Config.{Config}
use Rattle.iw_stream.specs.declared.answer.Role.{Role}
use Rattle.iw_stream.specs.Starting.{exceeds_request, private_in, told_in, options_in, agreement_in}
use Rattle.iw_stream.specs.Pooling.{bound_buffers}
use Rattle.iw_stream.specs.Stream as stream
use Rattle.iw_untagged.specs.Receiving.{exchanged}
use Rattle.iw_stream.specs.Stream.{StreamState, peer_of, ended, sees, standing_of, due, is_none_due, emission_of, emitted, delivery_of}
use Rattle.iw_stream.specs.Work.{work_step, table_worked}
use Rattle.iw_endpoint.specs.declared.refusal.CallRefusal.{CallRefusal}
use Rattle.iw_endpoint.specs.declared.refusal.CallRefusal.TheVariants.{Refused}
use Rattle.iw_endpoint.specs.declared.refusal.LimitRefusal.{LimitRefusal}
use Rattle.iw_endpoint.specs.declared.refusal.LimitRefusal.TheVariants as limits
use Rattle.iw_endpoint.specs.declared.refusal.OpenNextRefusal.TheVariants as next_refusals
use Rattle.iw_endpoint.specs.Numbers.{put_at}
use Rattle.iw_endpoint.specs.Endpoint.{EndpointState, Pool, new_stream, new_shared, HasNumbers, closed_at, is_taken, rest_refusal, with_next, next_refusal, next_shared_refusal, pool_of, with_pool, share_fault, share_refusal, pool_fault, pool_refusal, take_fault, take_refusal, taken, lent_to, left_of, pool_left, with_worked, stream_of, stream_at, unopened, with_stream, with_table, answer_at, refusal_at, limit_refusal_within, number_refusal, request_refusal, open_refusal, open_shared_refusal, open_shared_refusal_of, unshared, stream_numbers}
use Rattle.iw_endpoint.specs.KeptRegions.{region_in}
use Rattle.iw_endpoint.specs.Sharing.{emptied, with_worked_alone}
use Rattle.iw_endpoint.specs.Isolation.{StreamCall, Accept, Reject, Post, PostRecv, Deliver, Work, WorkWithin, Emit, BreakLink, Close, OpenNext, OpenSharedNext, SetMulpdu, Private, Told, PeerOptions, Standing, HasDue, Sent, DueLen, InOrderPoint, BoundBuffers, Limits, RegisterFor, RegisterDrawnFor, RegisterOctetsFor, RegisterOctetsDrawnFor, AddDomain, Register, RegisterDrawn, RegisterOctets, RegisterOctetsDrawn, Deregister, DeregisterKept, TakeRegion, Invalidate, Store, Facts, Local, LocalMut, Open, Share, PostShared, TakeShared, OpenShared, AtStream, FirstNumber, PeerFirst}
use Rattle.iw_endpoint.specs.Isolation.{StreamAnswer, Bound, Accepted, Rejected, Posted, Buffered, Delivered, Worked, Emitted, Broke, Closed, Sized, Shown, Declared, Wanted, Stood, Due, Counted, Limited, Added, Registered, Octets, Invalidated, Found, Stored, Opened, Shared, Pooled, Taken, OpenedShared, OpenedNext, OfStream, Numbered}
use Rattle.iw_endpoint.specs.Isolation.{HasDomains, IsOwn, IsOwnNumber, OwnStep, CallsConcernOneDomain, part_of, alone, stream_answer, after_stream, answer_or, unless}
use Rattle.iw_endpoint.proofs.Tables.{AreAlike, KeepsOthers, step-alike, worked-alike, alike-own, table_worked-alike, keeps-step, keeps-others, emission-alike, emitted-alike, after_emit-alike, worked_domain, emit_domain}
use Rattle.iw_endpoint.proofs.Filled.{set_is, put_is, within}
use Rattle.iw_endpoint.proofs.Forms.{own_fault, kept_fault, handed_back, taken_out}
use Rattle.iw_endpoint.proofs.Parts.{AreSeenAlike, seen_alone, stream_alike, alone_own, with_alike, with_tables_alike, with_pool_alike, pool_alike, pool_other, pool_leaves, unless_alike, refusing_alike, changing_alike, region_alike, Leaves, leaves-all, leaves-put, leaves-closed, leaves-changed, changed_alike, put_alike, closes_alike, closed_alike, alone_number, with_streams, refusing_leaves, changing_leaves, region_leaves, one_step}

-- ---- calls at a stream

-- a stream of the domain sees two endpoints alike
pub at_own : (d : ℕ) (e f : EndpointState) (s : StreamState) → IsOwn d (Some s) → AreSeenAlike d e f → AreAlike s.domain e.table f.table
at_own d e f s own h = subst (λ x. AreAlike x e.table f.table) (sym own) h.table

-- and so does one whose domain is seen so
seen_own : (d : ℕ) (e f : EndpointState) (s : StreamState) → IsOwn d (Some s) → AreSeenAlike d e f → AreSeenAlike s.domain e f
seen_own d e f s own h = subst (λ x. AreSeenAlike x e f) (sym own) h

-- its step, with this pool
lent_seen : (e f : EndpointState) (s : StreamState) → AreSeenAlike s.domain e f → (o : Option Pool) → work_step e.table (lent_to o s) ≡ work_step f.table (lent_to o s)
lent_seen e f s h None = step-alike s e.table f.table h.table
lent_seen e f s h (Some pool) = step-alike (sees s pool) e.table f.table h.table

-- with the pool of its domain
step_seen : (e f : EndpointState) (s : StreamState) → AreSeenAlike s.domain e f → work_step e.table (lent_to (pool_of e s.domain) s) ≡ work_step f.table (lent_to (pool_of f s.domain) s)
step_seen e f s h = lent_seen e f s h (pool_of e s.domain) ∙ ap (λ o. work_step f.table (lent_to o s)) h.pool

-- and as if that pool were empty
alone_seen : (e f : EndpointState) (s : StreamState) → AreSeenAlike s.domain e f → work_step e.table (lent_to (emptied (pool_of e s.domain)) s) ≡ work_step f.table (lent_to (emptied (pool_of f s.domain)) s)
alone_seen e f s h = lent_seen e f s h (emptied (pool_of e s.domain)) ∙ ap (λ o. work_step f.table (lent_to (emptied o) s)) h.pool

-- what it leaves, of the regions and of the stream
lent_tables : (e f : EndpointState) (s : StreamState) → AreSeenAlike s.domain e f → (o : Option Pool) → AreAlike s.domain (table_worked e.table (lent_to o s)) (table_worked f.table (lent_to o s))
lent_tables e f s h None = table_worked-alike s e.table f.table h.table
lent_tables e f s h (Some pool) = table_worked-alike (sees s pool) e.table f.table h.table

lent_left : (e f : EndpointState) (s : StreamState) → AreSeenAlike s.domain e f → (o : Option Pool) → left_of e.table o s ≡ left_of f.table o s
lent_left e f s h None = worked-alike s e.table f.table h.table
lent_left e f s h (Some pool) = ap (λ t. sees t (exchanged s.receiving.source pool)) (worked-alike (sees s pool) e.table f.table h.table)

worked_alike : (e f : EndpointState) (n : ℕ) (s : StreamState) → n < length e.streams → n < length f.streams → AreSeenAlike s.domain e f → AreSeenAlike s.domain (with_worked e n s) (with_worked f n s)
worked_alike e f n s at_e at_f h = subst (λ o. AreSeenAlike s.domain (with_worked e n s) (made f o)) h.pool (go (pool_of e s.domain))
  where
    made : EndpointState → Option Pool → EndpointState
    made x o = with_table (with_pool (with_stream x n (left_of x.table o s)) s.domain (pool_left x.table o s)) (table_worked x.table (lent_to o s))

    pools : (o : Option Pool) → pool_left e.table o s ≡ pool_left f.table o s
    pools None = refl
    pools (Some pool) = ap (λ t. Some (exchanged t.receiving.source (exchanged s.receiving.source pool))) (worked-alike (sees s pool) e.table f.table h.table)

    go : (o : Option Pool) → AreSeenAlike s.domain (made e o) (made f o)
    go o =
        with_tables_alike s.domain (with_pool (with_stream e n (left_of e.table o s)) s.domain (pool_left e.table o s)) (with_pool (with_stream f n (left_of f.table o s)) s.domain (pool_left f.table o s)) (table_worked e.table (lent_to o s)) (table_worked f.table (lent_to o s)) (lent_tables e f s h o)
        (with_pool_alike s.domain (with_stream e n (left_of e.table o s)) (with_stream f n (left_of f.table o s)) (pool_left e.table o s) (pool_left f.table o s) (pools o)
        (with_alike s.domain e f n (left_of e.table o s) (left_of f.table o s) at_e at_f (lent_left e f s h o) h))

worked_alone_alike : (e f : EndpointState) (n : ℕ) (s : StreamState) → n < length e.streams → n < length f.streams → AreSeenAlike s.domain e f → AreSeenAlike s.domain (with_worked_alone e n s) (with_worked_alone f n s)
worked_alone_alike e f n s at_e at_f h = subst (λ o. AreSeenAlike s.domain (with_worked_alone e n s) (made f (emptied o))) h.pool (go (emptied (pool_of e s.domain)))
  where
    made : EndpointState → Option Pool → EndpointState
    made x o = with_table (with_stream x n (left_of x.table o s)) (table_worked x.table (lent_to o s))

    go : (o : Option Pool) → AreSeenAlike s.domain (made e o) (made f o)
    go o =
        with_tables_alike s.domain (with_stream e n (left_of e.table o s)) (with_stream f n (left_of f.table o s)) (table_worked e.table (lent_to o s)) (table_worked f.table (lent_to o s)) (lent_tables e f s h o)
        (with_alike s.domain e f n (left_of e.table o s) (left_of f.table o s) at_e at_f (lent_left e f s h o) h)

-- with a share
abbrev pub worked_within : EndpointState → ℕ → ℕ → StreamState → EndpointState
worked_within e n share s = if nat_lt (bound_buffers s) share then with_worked e n s else with_worked_alone e n s

within_alike : (e f : EndpointState) (n share : ℕ) (s : StreamState) → n < length e.streams → n < length f.streams → AreSeenAlike s.domain e f → AreSeenAlike s.domain (worked_within e n share s) (worked_within f n share s)
within_alike e f n share s at_e at_f h = go (nat_lt (bound_buffers s) share)
  where
    go : (fewer : Bool) → AreSeenAlike s.domain (if fewer then with_worked e n s else with_worked_alone e n s) (if fewer then with_worked f n s else with_worked_alone f n s)
    go true = worked_alike e f n s at_e at_f h
    go false = worked_alone_alike e f n s at_e at_f h

-- what is told of a stream that is the same at both
told_at : {A : Type 0} (d : ℕ) (e f : EndpointState) (o : Option StreamState) (at_e at_f : StreamState → A) → IsOwn d o → ((s : StreamState) → IsOwn d (Some s) → at_e s ≡ at_f s) → answer_at o (λ s. at_e (unwrap_or o unopened)) ≡ answer_at o (λ s. at_f (unwrap_or o unopened))
told_at d e f None at_e at_f own same = refl
told_at d e f (Some s) at_e at_f own same = ap Ok (same s own)

-- a registration for a stream, under the STag that the domain's part gives
bound_answers : (most : ℕ) (named : regions.Part → ℕ → Stag) (base len : ℕ) (d : ℕ) (e f : EndpointState) (n : ℕ) → IsOwn d (stream_of e n) → stream_of e n ≡ stream_of f n → AreSeenAlike d e f
    → Bound (answer_or (limit_refusal_within most e n base len) (named (tables.part_of e.table (stream_at e n).domain) (stream_at e n).domain)) ≡ Bound (answer_or (limit_refusal_within most f n base len) (named (tables.part_of f.table (stream_at f n).domain) (stream_at f n).domain))
bound_answers most named base len d e f n own same h = go (stream_of e n) own ∙ ap (bound f) same
  where
    bound : EndpointState → Option StreamState → StreamAnswer
    bound x o =
        Bound (answer_or (option_or (refusal_at o (λ s. if ended s then Some limits.Ended else None)) (option_map (λ refusal. Refused (limits.Refused refusal)) (regions.own_register_refusal_within most (tables.part_of x.table (unwrap_or o unopened).domain) base len)))
        (named (tables.part_of x.table (unwrap_or o unopened).domain) (unwrap_or o unopened).domain))

    go : (o : Option StreamState) → IsOwn d o → bound e o ≡ bound f o
    go None own = refl
    go (Some s) own = ap (λ part.
        Bound (answer_or (option_or (refusal_at (Some s) (λ s. if ended s then Some limits.Ended else None)) (option_map (λ refusal. Refused (limits.Refused refusal)) (regions.own_register_refusal_within most part base len)))
        (named part s.domain))) (at_own d e f s own h).part

stream_answers : (d : ℕ) (e f : EndpointState) (n : ℕ) (call : StreamCall) → IsOwn d (stream_of e n) → stream_of e n ≡ stream_of f n → AreSeenAlike d e f → stream_answer e n call ≡ stream_answer f n call
stream_answers d e f n (Accept private) own same h = ap (λ o. Accepted (answer_or (refusal_at o (λ s. stream.answer_refusal s private.items)) (agreement_in (unwrap_or o unopened).start))) same
stream_answers d e f n (Reject private) own same h = ap (λ o. Rejected (refusal_at o (λ s. stream.answer_refusal s private.items))) same
stream_answers d e f n (Post request) own same h = ap (λ o. Posted (refusal_at o (λ s. stream.post_refusal s request))) same
stream_answers d e f n (PostRecv buffer) own same h = ap (λ o. Buffered (refusal_at o stream.recv_refusal)) same
stream_answers d e f n (FirstNumber first) own same h = ap (λ o. Numbered (refusal_at o stream.first_refusal)) same
stream_answers d e f n (Deliver from octets) own same h = ap (λ o. Delivered (answer_at o (λ s. delivery_of (unwrap_or o unopened) from (length octets)))) same
stream_answers d e f n Work own same h = go (stream_of e n) own ∙ ap (λ o. Worked (answer_at o (λ s. work_step f.table (lent_to (pool_of f s.domain) s)))) same
  where
    go : (o : Option StreamState) → IsOwn d o → Worked (answer_at o (λ s. work_step e.table (lent_to (pool_of e s.domain) s))) ≡ Worked (answer_at o (λ s. work_step f.table (lent_to (pool_of f s.domain) s)))
    go None own = refl
    go (Some s) own = ap (λ x. Worked (Ok x)) (step_seen e f s (seen_own d e f s own h))
stream_answers d e f n (WorkWithin share) own same h = go (stream_of e n) own ∙ ap (by_share f) same
  where
    by_share : EndpointState → Option StreamState → StreamAnswer
    by_share x o =
        Worked (if nat_lt (bound_buffers (unwrap_or o unopened)) share then answer_at o (λ s. work_step x.table (lent_to (pool_of x s.domain) s)) else answer_at o (λ s. work_step x.table (lent_to (emptied (pool_of x s.domain)) s)))

    go : (o : Option StreamState) → IsOwn d o → by_share e o ≡ by_share f o
    go None own = refl
    go (Some s) own =
        let seen = seen_own d e f s own h in
        let fewer = step_seen e f s seen in
        let full = alone_seen e f s seen in
        λ i. Worked (if nat_lt (bound_buffers s) share then Ok (fewer i) else Ok (full i))
stream_answers d e f n Emit own same h =
    (λ i. Emitted (told_at d e f (stream_of e n) (emission_of e.table) (emission_of f.table) own (λ s own. emission-alike s e.table f.table (at_own d e f s own h)) i) (told_at d e f (stream_of e n) (emitted e.table) (emitted f.table) own (λ s own. emitted-alike s e.table f.table (at_own d e f s own h)) i))
    ∙ ap (λ o. Emitted (answer_at o (λ s. emission_of f.table (unwrap_or o unopened))) (answer_at o (λ s. emitted f.table (unwrap_or o unopened)))) same
stream_answers d e f n BreakLink own same h = ap (λ o. Broke (answer_at o (λ s. tt))) same
stream_answers d e f n Close own same h = ap (λ o. Closed (refusal_at o rest_refusal)) same
stream_answers d e f n (RegisterFor base octets rights) own same h = bound_answers (most_octets false) regions.own_next_stag base (length octets) d e f n own same h
stream_answers d e f n (RegisterDrawnFor base octets rights drawn) own same h = bound_answers (most_octets false) (λ part pd. regions.own_drawn_stag part pd drawn) base (length octets) d e f n own same h
stream_answers d e f n (RegisterOctetsFor base octets kept rights) own same h = bound_answers (most_octets kept) regions.own_next_stag base (length octets) d e f n own same h
stream_answers d e f n (RegisterOctetsDrawnFor base octets kept rights drawn) own same h = bound_answers (most_octets kept) (λ part pd. regions.own_drawn_stag part pd drawn) base (length octets) d e f n own same h
stream_answers d e f n (SetMulpdu size) own same h = ap (λ o. Sized (refusal_at o (λ s. stream.size_refusal size))) same
stream_answers d e f n Private own same h = ap (λ o. Shown (answer_at o (λ s. private_in (unwrap_or o unopened).start))) same
stream_answers d e f n Told own same h = ap (λ o. Declared (answer_at o (λ s. told_in (unwrap_or o unopened).start))) same
stream_answers d e f n PeerOptions own same h = ap (λ o. Wanted (answer_at o (λ s. options_in (unwrap_or o unopened).start))) same
stream_answers d e f n Standing own same h = ap (λ o. Stood (answer_at o (λ s. standing_of (unwrap_or o unopened)))) same
stream_answers d e f n HasDue own same h = ap (λ o. Due (answer_at o (λ s. not (is_none_due (due (unwrap_or o unopened)))))) same
stream_answers d e f n PeerFirst own same h = ap (λ o. Counted (answer_at o (λ s. (unwrap_or o unopened).first))) same
stream_answers d e f n Sent own same h = ap (λ o. Counted (answer_at o (λ s. (unwrap_or o unopened).sent))) same
stream_answers d e f n DueLen own same h =
    (λ i. Counted (told_at d e f (stream_of e n) (λ s. length (emitted e.table s)) (λ s. length (emitted f.table s)) own (λ s own. ap length (emitted-alike s e.table f.table (at_own d e f s own h))) i))
    ∙ ap (λ o. Counted (answer_at o (λ s. length (emitted f.table (unwrap_or o unopened))))) same
stream_answers d e f n InOrderPoint own same h = ap (λ o. Counted (answer_at o (λ s. (unwrap_or o unopened).arrived.floor))) same
stream_answers d e f n BoundBuffers own same h = ap (λ o. Counted (answer_at o (λ s. bound_buffers (unwrap_or o unopened)))) same
stream_answers d e f n Limits own same h = ap (λ o. Limited (answer_at o (λ s. tt))) same

-- what each call makes of its stream, and of the endpoint
abbrev pub closes : EndpointState → ℕ → StreamState → EndpointState
closes e n s = record e { table = retired e.table (peer_of s); streams = set e.streams n None; closed = set e.closed n (Some s.domain) }

abbrev pub delivered : ℕ → List ℕ → StreamState → StreamState
delivered from octets s = stream.after_deliver s from octets (delivery_of s from (length octets))

-- the domain's part gets a region of the stream
bound_alikes : (most base len : ℕ) (registers : ℕ → regions.Part → regions.Part) (d : ℕ) (e f : EndpointState) (n : ℕ) → IsOwn d (stream_of e n) → stream_of e n ≡ stream_of f n → AreSeenAlike d e f
    → AreSeenAlike d (unless (limit_refusal_within most e n base len) e (with_table e (with_part e.table (stream_at e n).domain (registers (stream_at e n).domain (tables.part_of e.table (stream_at e n).domain)))))
    (unless (limit_refusal_within most f n base len) f (with_table f (with_part f.table (stream_at f n).domain (registers (stream_at f n).domain (tables.part_of f.table (stream_at f n).domain)))))
bound_alikes most base len registers d e f n own same h = subst (λ o. AreSeenAlike d (made e (stream_of e n)) (made f o)) same (go (stream_of e n) own)
  where
    told : RegisterRefusal → CallRefusal LimitRefusal
    told refusal = Refused (limits.Refused refusal)

    made : EndpointState → Option StreamState → EndpointState
    made x o =
        unless (option_or (refusal_at o (λ s. if ended s then Some limits.Ended else None)) (option_map told (regions.own_register_refusal_within most (tables.part_of x.table (unwrap_or o unopened).domain) base len))) x
        (with_table x (with_part x.table (unwrap_or o unopened).domain (registers (unwrap_or o unopened).domain (tables.part_of x.table (unwrap_or o unopened).domain))))

    at_domain : (d : ℕ) → AreSeenAlike d e f → (b : Bool)
        → AreSeenAlike d (unless (option_or (option_map Refused (if b then Some limits.Ended else None)) (option_map told (regions.own_register_refusal_within most (tables.part_of e.table d) base len))) e (with_table e (with_part e.table d (registers d (tables.part_of e.table d)))))
        (unless (option_or (option_map Refused (if b then Some limits.Ended else None)) (option_map told (regions.own_register_refusal_within most (tables.part_of f.table d) base len))) f (with_table f (with_part f.table d (registers d (tables.part_of f.table d)))))
    at_domain d h true = h
    at_domain d h false = region_alike (λ part. option_map told (regions.own_register_refusal_within most part base len)) (registers d) d e f h

    go : (o : Option StreamState) → IsOwn d o → AreSeenAlike d (made e o) (made f o)
    go None own = h
    go (Some s) own = subst (λ x. AreSeenAlike x (made e (Some s)) (made f (Some s))) own (at_domain s.domain (seen_own d e f s own h) (ended s))

stream_alikes : (d : ℕ) (e f : EndpointState) (n : ℕ) (call : StreamCall) → IsOwn d (stream_of e n) → stream_of e n ≡ stream_of f n → AreSeenAlike d e f → AreSeenAlike d (after_stream e n call) (after_stream f n call)
stream_alikes d e f n (Accept private) own same h =
    refusing_alike (λ s. stream.answer_refusal s private.items) (λ s e. with_stream e n (stream.accepted s private)) d e f n same h (λ s at_e at_f. changed_alike d e f n s (stream.accepted s private) (stream.accepted s private) at_e at_f refl h)
stream_alikes d e f n (Reject private) own same h =
    refusing_alike (λ s. stream.answer_refusal s private.items) (λ s e. with_stream e n (stream.rejected s private)) d e f n same h (λ s at_e at_f. changed_alike d e f n s (stream.rejected s private) (stream.rejected s private) at_e at_f refl h)
stream_alikes d e f n (Post request) own same h =
    refusing_alike (λ s. stream.post_refusal s request) (λ s e. with_stream e n (stream.with_request s request)) d e f n same h (λ s at_e at_f. changed_alike d e f n s (stream.with_request s request) (stream.with_request s request) at_e at_f refl h)
stream_alikes d e f n (PostRecv buffer) own same h =
    refusing_alike (stream.recv_refusal) (λ s e. with_stream e n (stream.with_buffer s buffer)) d e f n same h (λ s at_e at_f. changed_alike d e f n s (stream.with_buffer s buffer) (stream.with_buffer s buffer) at_e at_f refl h)
stream_alikes d e f n (FirstNumber first) own same h =
    refusing_alike (stream.first_refusal) (λ s e. with_stream e n (stream.with_first s first)) d e f n same h (λ s at_e at_f. changed_alike d e f n s (stream.with_first s first) (stream.with_first s first) at_e at_f refl h)
stream_alikes d e f n (Deliver from octets) own same h =
    changing_alike (λ s e. with_stream e n (delivered from octets s)) d e f n same h (λ s at_e at_f. changed_alike d e f n s (delivered from octets s) (delivered from octets s) at_e at_f refl h)
stream_alikes d e f n Work own same h = changing_alike (λ s e. with_worked e n s) d e f n same h (λ s at_e at_f.
    let here : s.domain ≡ d = subst (λ o. IsOwn d o) at_e own in
    subst (λ x. AreSeenAlike x e f → AreSeenAlike x (with_worked e n s) (with_worked f n s)) here (worked_alike e f n s (within e.streams n s at_e) (within f.streams n s at_f)) h)
stream_alikes d e f n (WorkWithin share) own same h = changing_alike (λ s e. worked_within e n share s) d e f n same h (λ s at_e at_f.
    let here : s.domain ≡ d = subst (λ o. IsOwn d o) at_e own in
    subst (λ x. AreSeenAlike x e f → AreSeenAlike x (worked_within e n share s) (worked_within f n share s)) here (within_alike e f n share s (within e.streams n s at_e) (within f.streams n s at_f)) h)
stream_alikes d e f n Emit own same h = changing_alike (λ s e. with_stream e n (stream.after_emit e.table s)) d e f n same h (λ s at_e at_f.
    changed_alike d e f n s (stream.after_emit e.table s) (stream.after_emit f.table s) at_e at_f (after_emit-alike s e.table f.table (at_own d e f s (subst (λ o. IsOwn d o) at_e own) h)) h)
stream_alikes d e f n BreakLink own same h = changing_alike (λ s e. with_stream e n (stream.breaks s)) d e f n same h (λ s at_e at_f. changed_alike d e f n s (stream.breaks s) (stream.breaks s) at_e at_f refl h)
stream_alikes d e f n Close own same h = refusing_alike rest_refusal (λ s e. closes e n s) d e f n same h (λ s at_e at_f.
    with_tables_alike d (record e { streams = set e.streams n None; closed = set e.closed n (Some s.domain) }) (record f { streams = set f.streams n None; closed = set f.closed n (Some s.domain) }) (retired e.table (peer_of s)) (retired f.table (peer_of s))
    (alike-own d s.domain e.table f.table (λ part. regions.own_retired part s.number) h.table)
    (closes_alike d (with_streams e (set e.streams n None)) (with_streams f (set f.streams n None)) n s.domain
    (put_alike d e f (set e.streams n None) (set f.streams n None) n None None (set_is e.streams n None (within e.streams n s at_e)) (set_is f.streams n None (within f.streams n s at_f)) refl h)))
stream_alikes d e f n (RegisterFor base octets rights) own same h = bound_alikes (most_octets false) base (length octets) (λ pd part. regions.own_registered part (bound_region n base octets rights)) d e f n own same h
stream_alikes d e f n (RegisterDrawnFor base octets rights drawn) own same h =
    bound_alikes (most_octets false) base (length octets) (λ pd part. regions.own_registered_at part (regions.own_drawn_stag part pd drawn) (bound_region n base octets rights)) d e f n own same h
stream_alikes d e f n (RegisterOctetsFor base octets kept rights) own same h =
    bound_alikes (most_octets kept) base (length octets) (λ pd part. regions.own_registered part (region_in base octets kept rights (Some n))) d e f n own same h
stream_alikes d e f n (RegisterOctetsDrawnFor base octets kept rights drawn) own same h =
    bound_alikes (most_octets kept) base (length octets) (λ pd part. regions.own_registered_at part (regions.own_drawn_stag part pd drawn) (region_in base octets kept rights (Some n))) d e f n own same h
stream_alikes d e f n (SetMulpdu size) own same h =
    refusing_alike (λ s. stream.size_refusal size) (λ s e. with_stream e n (stream.with_mulpdu s size)) d e f n same h (λ s at_e at_f. changed_alike d e f n s (stream.with_mulpdu s size) (stream.with_mulpdu s size) at_e at_f refl h)
stream_alikes d e f n Private own same h = h
stream_alikes d e f n Told own same h = h
stream_alikes d e f n PeerOptions own same h = h
stream_alikes d e f n Standing own same h = h
stream_alikes d e f n HasDue own same h = h
stream_alikes d e f n PeerFirst own same h = h
stream_alikes d e f n Sent own same h = h
stream_alikes d e f n DueLen own same h = h
stream_alikes d e f n InOrderPoint own same h = h
stream_alikes d e f n BoundBuffers own same h = h
stream_alikes d e f n Limits own same h = h

delivered_domain : (s : StreamState) (from : ℕ) (octets : List ℕ) (x : Delivery) → (stream.after_deliver s from octets x).domain ≡ s.domain
delivered_domain s from octets Kept = refl
delivered_domain s from octets Dropped = refl

left_domain : (t : Table) (o : Option Pool) (s : StreamState) → (left_of t o s).domain ≡ s.domain
left_domain t None s = worked_domain t s
left_domain t (Some pool) s = worked_domain t (sees s pool)

keeps-lent : (o : Option Pool) (s : StreamState) (t : Table) → KeepsOthers s.domain t (table_worked t (lent_to o s))
keeps-lent None s t = keeps-others s t
keeps-lent (Some pool) s t = keeps-others (sees s pool) t

worked_leaves : (d : ℕ) (e : EndpointState) (n : ℕ) (IsNew : ℕ → ℕ → Type 0) (s : StreamState) → stream_of e n ≡ Some s → IsOwn d (Some s) → Leaves d e (with_worked e n s) IsNew
worked_leaves d e n IsNew s is own =
    let o = pool_of e s.domain in
    let put = leaves-changed d e n s (left_of e.table o s) IsNew is own (left_domain e.table o s) in record {
      table = subst (λ x. KeepsOthers x e.table (table_worked e.table (lent_to o s))) own (keeps-lent o s e.table);
      places = length-set e.pools s.domain (pool_left e.table o s);
      pools = λ other ne. pool_other s.domain other e (pool_left e.table o s) (λ same. ne (same ∙ own));
      streams = put.streams;
      closed = put.closed;
      given = put.given;
      owners = put.owners;
      ended = put.ended;
    }

worked_alone_leaves : (d : ℕ) (e : EndpointState) (n : ℕ) (IsNew : ℕ → ℕ → Type 0) (s : StreamState) → stream_of e n ≡ Some s → IsOwn d (Some s) → Leaves d e (with_worked_alone e n s) IsNew
worked_alone_leaves d e n IsNew s is own =
    let o = emptied (pool_of e s.domain) in
    let put = leaves-changed d e n s (left_of e.table o s) IsNew is own (left_domain e.table o s) in record {
      table = subst (λ x. KeepsOthers x e.table (table_worked e.table (lent_to o s))) own (keeps-lent o s e.table);
      places = put.places;
      pools = put.pools;
      streams = put.streams;
      closed = put.closed;
      given = put.given;
      owners = put.owners;
      ended = put.ended;
    }

within_leaves : (d : ℕ) (e : EndpointState) (n share : ℕ) (IsNew : ℕ → ℕ → Type 0) (s : StreamState) → stream_of e n ≡ Some s → IsOwn d (Some s) → Leaves d e (worked_within e n share s) IsNew
within_leaves d e n share IsNew s is own = go (nat_lt (bound_buffers s) share)
  where
    go : (fewer : Bool) → Leaves d e (if fewer then with_worked e n s else with_worked_alone e n s) IsNew
    go true = worked_leaves d e n IsNew s is own
    go false = worked_alone_leaves d e n IsNew s is own

bound_leaves : (most base len : ℕ) (registers : ℕ → regions.Part → regions.Part) (d : ℕ) (e : EndpointState) (n : ℕ) (IsNew : ℕ → ℕ → Type 0) → IsOwn d (stream_of e n)
    → Leaves d e (unless (limit_refusal_within most e n base len) e (with_table e (with_part e.table (stream_at e n).domain (registers (stream_at e n).domain (tables.part_of e.table (stream_at e n).domain))))) IsNew
bound_leaves most base len registers d e n IsNew own = go (stream_of e n) own
  where
    refused : Option StreamState → Option (CallRefusal LimitRefusal)
    refused o = option_or (refusal_at o (λ s. if ended s then Some limits.Ended else None)) (option_map (λ refusal. Refused (limits.Refused refusal)) (regions.own_register_refusal_within most (tables.part_of e.table (unwrap_or o unopened).domain) base len))

    made : ℕ → EndpointState
    made pd = with_table e (with_part e.table pd (registers pd (tables.part_of e.table pd)))

    go : (o : Option StreamState) → IsOwn d o → Leaves d e (unless (refused o) e (made (unwrap_or o unopened).domain)) IsNew
    go None own = leaves-all d e IsNew
    go (Some s) own = subst (λ x. Leaves x e (unless (refused (Some s)) e (made s.domain)) IsNew) own (region_leaves (refused (Some s)) s.domain e (registers s.domain (tables.part_of e.table s.domain)) IsNew)

stream_leaves : (d : ℕ) (e : EndpointState) (n : ℕ) (call : StreamCall) (IsNew : ℕ → ℕ → Type 0) → IsOwnNumber d e n → Leaves d e (after_stream e n call) IsNew
stream_leaves d e n (Accept private) IsNew own =
    refusing_leaves (λ s. stream.answer_refusal s private.items) (λ s. with_stream e n (stream.accepted s private)) d e n IsNew own.0 (λ s is own. leaves-changed d e n s (stream.accepted s private) IsNew is own refl)
stream_leaves d e n (Reject private) IsNew own =
    refusing_leaves (λ s. stream.answer_refusal s private.items) (λ s. with_stream e n (stream.rejected s private)) d e n IsNew own.0 (λ s is own. leaves-changed d e n s (stream.rejected s private) IsNew is own refl)
stream_leaves d e n (Post request) IsNew own =
    refusing_leaves (λ s. stream.post_refusal s request) (λ s. with_stream e n (stream.with_request s request)) d e n IsNew own.0 (λ s is own. leaves-changed d e n s (stream.with_request s request) IsNew is own refl)
stream_leaves d e n (PostRecv buffer) IsNew own =
    refusing_leaves (stream.recv_refusal) (λ s. with_stream e n (stream.with_buffer s buffer)) d e n IsNew own.0 (λ s is own. leaves-changed d e n s (stream.with_buffer s buffer) IsNew is own refl)
stream_leaves d e n (FirstNumber first) IsNew own =
    refusing_leaves (stream.first_refusal) (λ s. with_stream e n (stream.with_first s first)) d e n IsNew own.0 (λ s is own. leaves-changed d e n s (stream.with_first s first) IsNew is own refl)
stream_leaves d e n (Deliver from octets) IsNew own =
    changing_leaves (λ s. with_stream e n (delivered from octets s)) d e n IsNew own.0 (λ s is own. leaves-changed d e n s (delivered from octets s) IsNew is own (delivered_domain s from octets (delivery_of s from (length octets))))
stream_leaves d e n Work IsNew own = changing_leaves (λ s. with_worked e n s) d e n IsNew own.0 (worked_leaves d e n IsNew)
stream_leaves d e n (WorkWithin share) IsNew own = changing_leaves (λ s. worked_within e n share s) d e n IsNew own.0 (within_leaves d e n share IsNew)
stream_leaves d e n Emit IsNew own =
    changing_leaves (λ s. with_stream e n (stream.after_emit e.table s)) d e n IsNew own.0 (λ s is own. leaves-changed d e n s (stream.after_emit e.table s) IsNew is own (emit_domain e.table s))
stream_leaves d e n BreakLink IsNew own =
    changing_leaves (λ s. with_stream e n (stream.breaks s)) d e n IsNew own.0 (λ s is own. leaves-changed d e n s (stream.breaks s) IsNew is own refl)
stream_leaves d e n (SetMulpdu size) IsNew own =
    refusing_leaves (λ s. stream.size_refusal size) (λ s. with_stream e n (stream.with_mulpdu s size)) d e n IsNew own.0 (λ s is own. leaves-changed d e n s (stream.with_mulpdu s size) IsNew is own refl)
stream_leaves d e n Close IsNew own = refusing_leaves rest_refusal (closes e n) d e n IsNew own.0 (λ s is here.
    let put = leaves-closed d e n s IsNew is own in record {
      table = subst (λ x. KeepsOthers x e.table (retired e.table (peer_of s))) here (keeps-step s.domain e.table (regions.own_retired (tables.part_of e.table s.domain) s.number));
      places = put.places;
      pools = put.pools;
      streams = put.streams;
      closed = put.closed;
      given = put.given;
      owners = put.owners;
      ended = put.ended;
    })
stream_leaves d e n (RegisterFor base octets rights) IsNew own = bound_leaves (most_octets false) base (length octets) (λ pd part. regions.own_registered part (bound_region n base octets rights)) d e n IsNew own.0
stream_leaves d e n (RegisterDrawnFor base octets rights drawn) IsNew own =
    bound_leaves (most_octets false) base (length octets) (λ pd part. regions.own_registered_at part (regions.own_drawn_stag part pd drawn) (bound_region n base octets rights)) d e n IsNew own.0
stream_leaves d e n (RegisterOctetsFor base octets kept rights) IsNew own = bound_leaves (most_octets kept) base (length octets) (λ pd part. regions.own_registered part (region_in base octets kept rights (Some n))) d e n IsNew own.0
stream_leaves d e n (RegisterOctetsDrawnFor base octets kept rights drawn) IsNew own =
    bound_leaves (most_octets kept) base (length octets) (λ pd part. regions.own_registered_at part (regions.own_drawn_stag part pd drawn) (region_in base octets kept rights (Some n))) d e n IsNew own.0
stream_leaves d e n Private IsNew own = leaves-all d e IsNew
stream_leaves d e n Told IsNew own = leaves-all d e IsNew
stream_leaves d e n PeerOptions IsNew own = leaves-all d e IsNew
stream_leaves d e n Standing IsNew own = leaves-all d e IsNew
stream_leaves d e n HasDue IsNew own = leaves-all d e IsNew
stream_leaves d e n PeerFirst IsNew own = leaves-all d e IsNew
stream_leaves d e n Sent IsNew own = leaves-all d e IsNew
stream_leaves d e n DueLen IsNew own = leaves-all d e IsNew
stream_leaves d e n InOrderPoint IsNew own = leaves-all d e IsNew
stream_leaves d e n BoundBuffers IsNew own = leaves-all d e IsNew
stream_leaves d e n Limits IsNew own = leaves-all d e IsNew

-- ---- openings

number_alike : (d : ℕ) (e f : EndpointState) (n : ℕ) → stream_of e n ≡ stream_of f n → closed_at e n ≡ closed_at f n → AreSeenAlike d e f → number_refusal e n d ≡ number_refusal f n d
number_alike d e f n same closed h =
    (λ i. if nat_le stream_numbers n then Some BadNumber else if is_some (same i) || is_some (closed i) then Some NumberTaken else if not (is_some (h.table.part i)) then Some NoDomain else None)

pub open_alike : (d : ℕ) (e f : EndpointState) (n : ℕ) (role : Role) (config : Config) → stream_of e n ≡ stream_of f n → closed_at e n ≡ closed_at f n → AreSeenAlike d e f → open_refusal e n d role config ≡ open_refusal f n d role config
open_alike d e f n role config same closed h = λ i. option_or (number_alike d e f n same closed h i) (request_refusal role config)

open_shared_alike : (d : ℕ) (e f : EndpointState) (n : ℕ) (role : Role) (config : Config) → stream_of e n ≡ stream_of f n → closed_at e n ≡ closed_at f n → AreSeenAlike d e f
    → open_shared_refusal e n d role config ≡ open_shared_refusal f n d role config
open_shared_alike d e f n role config same closed h =
    λ i. option_or (option_map open_shared_refusal_of (number_alike d e f n same closed h i)) (option_or (unshared (h.pool i)) (option_map open_shared_refusal_of (request_refusal role config)))

-- a number under which a stream is opened has its place
pub numbered : (e : EndpointState) (n pd : ℕ) → number_refusal e n pd ≡ None → n < 64
numbered e n pd = go (nat_le stream_numbers n) refl
  where
    rest : Option OpenRefusal
    rest = if is_taken e n then Some NumberTaken else if not (is_added e.table pd) then Some NoDomain else None

    go : (beyond : Bool) → nat_le stream_numbers n ≡ beyond → cond beyond (Some BadNumber) rest ≡ None → n < 64
    go true z none = absurd (none-some _ (sym none))
    go false z none = grind (arith, nat_tests)

pub first_none : {R : Type 0} (o p : Option R) → option_or o p ≡ None → o ≡ None
first_none None p none = refl
first_none (Some r) p none = none

pub mapped_none : {R S : Type 0} (f : R → S) (o : Option R) → option_map f o ≡ None → o ≡ None
mapped_none f None none = refl
mapped_none f (Some r) none = absurd (none-some _ (sym none))

opens_alike : {R : Type 0} (q : Option R) (d : ℕ) (e f : EndpointState) (n : ℕ) (x : StreamState) → (q ≡ None → n < 64) → AreSeenAlike d e f → AreSeenAlike d (unless q e (with_stream e n x)) (unless q f (with_stream f n x))
opens_alike None d e f n x place h =
    let below : n < 64 = place refl in let a = h.room.0 in let b = h.room.1 in
    with_alike d e f n x x (omega (arith, below, a)) (omega (arith, below, b)) refl h
opens_alike (Some refusal) d e f n x place h = h

open_leaves : {R : Type 0} (q : Option R) (d : ℕ) (e : EndpointState) (n : ℕ) (x : StreamState) (IsNew : ℕ → ℕ → Type 0) → (q ≡ None → n < 64) → HasNumbers e → x.domain ≡ d → IsOwn d (stream_of e n) → IsNew n x.domain
    → Leaves d e (unless q e (with_stream e n x)) IsNew
open_leaves None d e n x IsNew place all here own is_new =
    let below : n < 64 = place refl in
    leaves-put d e (set e.streams n (Some x)) n (Some x) IsNew (set_is e.streams n (Some x) (omega (arith, below, all))) here own (inr is_new)
open_leaves (Some refusal) d e n x IsNew place all here own is_new = leaves-all d e IsNew

-- ---- openings without a number

next_alike : (d : ℕ) (e f : EndpointState) (n : Option ℕ) (role : Role) (config : Config) → AreSeenAlike d e f → next_refusal e n d role config ≡ next_refusal f n d role config
next_alike d e f n role config h =
    λ i. if not (is_some (h.table.part i)) then Some next_refusals.NoDomain else if is_none n then Some next_refusals.NumbersSpent else if exceeds_request role config then Some next_refusals.PrivateTooLong else None

next_shared_alike : (d : ℕ) (e f : EndpointState) (n : Option ℕ) (role : Role) (config : Config) → AreSeenAlike d e f → next_shared_refusal e n d role config ≡ next_shared_refusal f n d role config
next_shared_alike d e f n role config h =
    λ i. if not (is_some (h.table.part i)) then Some next_refusals.NoDomain else if is_none (h.pool i) then Some next_refusals.NotShared else next_alike d e f n role config h i

-- with no number left, none is opened
pub never : (e : EndpointState) (d : ℕ) (role : Role) (config : Config) → next_refusal e None d role config ≡ None → ⊥
never e d role config = go (is_added e.table d)
  where
    go : (added : Bool) → cond (not added) (Some next_refusals.NoDomain) (Some next_refusals.NumbersSpent) ≡ None → ⊥
    go true none = none-some _ (sym none)
    go false none = none-some _ (sym none)

pub never_shared : (e : EndpointState) (d : ℕ) (role : Role) (config : Config) → next_shared_refusal e None d role config ≡ None → ⊥
never_shared e d role config = go (is_added e.table d) (is_none (pool_of e d))
  where
    go : (added unshared : Bool) → cond (not added) (Some next_refusals.NoDomain) (cond unshared (Some next_refusals.NotShared) (next_refusal e None d role config)) ≡ None → ⊥
    go false u none = none-some _ (sym none)
    go true true none = none-some _ (sym none)
    go true false none = never e d role config none

nexts_alike : {R : Type 0} (q : Option R) (d : ℕ) (e f : EndpointState) (n : ℕ) (x : StreamState) → AreSeenAlike d e f → AreSeenAlike d (unless q e (with_next e n x)) (unless q f (with_next f n x))
nexts_alike q d e f n x h =
    unless_alike d e f (with_next e n x) (with_next f n x) q h (put_alike d e f (put_at e.streams n x) (put_at f.streams n x) n (Some x) (Some x) (put_is e.streams n x) (put_is f.streams n x) refl h)

next_leaves : {R : Type 0} (q : Option R) (d : ℕ) (e : EndpointState) (n : ℕ) (x : StreamState) (IsNew : ℕ → ℕ → Type 0) → x.domain ≡ d → (is_some q ≡ false → IsOwnNumber d e n) → IsNew n x.domain → Leaves d e (unless q e (with_next e n x)) IsNew
next_leaves None d e n x IsNew here own is_new = leaves-put d e (put_at e.streams n x) n (Some x) IsNew (put_is e.streams n x) here (own refl).0 (inr is_new)
next_leaves (Some refusal) d e n x IsNew here own is_new = leaves-all d e IsNew

refused_leaves : {R : Type 0} (q : Option R) (d : ℕ) (e new : EndpointState) (IsNew : ℕ → ℕ → Type 0) → (q ≡ None → ⊥) → Leaves d e (unless q e new) IsNew
refused_leaves None d e new IsNew never = absurd (never refl)
refused_leaves (Some refusal) d e new IsNew never = leaves-all d e IsNew

next_one : (d : ℕ) (e : EndpointState) (n : Option ℕ) (role : Role) (config : Config) → HasDomains e → (is_some (next_refusal e n d role config) ≡ false → IfSome n (IsOwnNumber d e)) → OwnStep d e (OpenNext n d role config)
next_one d e n role config all own =
    let h = seen_alone d e all in let f = alone d (part_of d e) in
    let m = unwrap_or n 0 in
    let x = new_stream m d role config in
    one_step d e (OpenNext n d role config) all (ap OpenedNext (next_alike d e f n role config h))
    (subst (λ q. AreSeenAlike d (unless (next_refusal e n d role config) e (with_next e m x)) (unless q f (with_next f m x))) (next_alike d e f n role config h) (nexts_alike (next_refusal e n d role config) d e f m x h))
    (go n own)
  where
    go : (n : Option ℕ) → (is_some (next_refusal e n d role config) ≡ false → IfSome n (IsOwnNumber d e)) → Leaves d e (unless (next_refusal e n d role config) e (with_next e (unwrap_or n 0) (new_stream (unwrap_or n 0) d role config))) (λ k pd. (n ≡ Some k) × (d ≡ pd))
    go None own = refused_leaves (next_refusal e None d role config) d e _ _ (never e d role config)
    go (Some m) own = next_leaves (next_refusal e (Some m) d role config) d e m (new_stream m d role config) _ refl own (refl, refl)

next_shared_one : (d : ℕ) (e : EndpointState) (n : Option ℕ) (role : Role) (config : Config) → HasDomains e → (is_some (next_shared_refusal e n d role config) ≡ false → IfSome n (IsOwnNumber d e)) → OwnStep d e (OpenSharedNext n d role config)
next_shared_one d e n role config all own =
    let h = seen_alone d e all in let f = alone d (part_of d e) in
    let m = unwrap_or n 0 in
    let x = new_shared m d role config in
    one_step d e (OpenSharedNext n d role config) all (ap OpenedNext (next_shared_alike d e f n role config h))
    (subst (λ q. AreSeenAlike d (unless (next_shared_refusal e n d role config) e (with_next e m x)) (unless q f (with_next f m x))) (next_shared_alike d e f n role config h) (nexts_alike (next_shared_refusal e n d role config) d e f m x h))
    (go n own)
  where
    go : (n : Option ℕ) → (is_some (next_shared_refusal e n d role config) ≡ false → IfSome n (IsOwnNumber d e)) → Leaves d e (unless (next_shared_refusal e n d role config) e (with_next e (unwrap_or n 0) (new_shared (unwrap_or n 0) d role config))) (λ k pd. (n ≡ Some k) × (d ≡ pd))
    go None own = refused_leaves (next_shared_refusal e None d role config) d e _ _ (never_shared e d role config)
    go (Some m) own = next_leaves (next_shared_refusal e (Some m) d role config) d e m (new_shared m d role config) _ refl own (refl, refl)

-- ---- any call

pub concerns_one : CallsConcernOneDomain
concerns_one d e (AddDomain pd) all here = subst (λ x. OwnStep x e (AddDomain pd)) here
    (let h = seen_alone pd e all in let f = alone pd (part_of pd e) in
    one_step pd e (AddDomain pd) all (ap (λ part. Added (regions.own_domain_refusal part pd)) h.table.part)
    (region_alike (λ part. regions.own_domain_refusal part pd) (λ part. regions.own_added) pd e f h)
    (region_leaves (tables.domain_refusal e.table pd) pd e regions.own_added _))
concerns_one d e (Register pd base octets rights) all here = subst (λ x. OwnStep x e (Register pd base octets rights)) here
    (let h = seen_alone pd e all in let f = alone pd (part_of pd e) in
    one_step pd e (Register pd base octets rights) all (ap (λ part. Registered (answer_or (regions.own_register_refusal part base (length octets)) (regions.own_next_stag part pd))) h.table.part)
    (region_alike (λ part. regions.own_register_refusal part base (length octets)) (λ part. regions.own_registered part (new_region base octets rights)) pd e f h)
    (region_leaves (tables.register_refusal e.table pd base (length octets)) pd e _ _))
concerns_one d e (RegisterDrawn pd base octets rights drawn) all here = subst (λ x. OwnStep x e (RegisterDrawn pd base octets rights drawn)) here
    (let h = seen_alone pd e all in let f = alone pd (part_of pd e) in
    one_step pd e (RegisterDrawn pd base octets rights drawn) all (ap (λ part. Registered (answer_or (regions.own_register_refusal part base (length octets)) (regions.own_drawn_stag part pd drawn))) h.table.part)
    (region_alike (λ part. regions.own_register_refusal part base (length octets)) (λ part. regions.own_registered_at part (regions.own_drawn_stag part pd drawn) (new_region base octets rights)) pd e f h)
    (region_leaves (tables.register_refusal e.table pd base (length octets)) pd e _ _))
concerns_one d e (RegisterOctets pd base octets kept rights) all here = subst (λ x. OwnStep x e (RegisterOctets pd base octets kept rights)) here
    (let h = seen_alone pd e all in let f = alone pd (part_of pd e) in
    one_step pd e (RegisterOctets pd base octets kept rights) all (ap (λ part. Registered (answer_or (regions.own_register_refusal_within (most_octets kept) part base (length octets)) (regions.own_next_stag part pd))) h.table.part)
    (region_alike (λ part. regions.own_register_refusal_within (most_octets kept) part base (length octets)) (λ part. regions.own_registered part (region_in base octets kept rights None)) pd e f h)
    (region_leaves (tables.register_refusal_within (most_octets kept) e.table pd base (length octets)) pd e _ _))
concerns_one d e (RegisterOctetsDrawn pd base octets kept rights drawn) all here = subst (λ x. OwnStep x e (RegisterOctetsDrawn pd base octets kept rights drawn)) here
    (let h = seen_alone pd e all in let f = alone pd (part_of pd e) in
    one_step pd e (RegisterOctetsDrawn pd base octets kept rights drawn) all (ap (λ part. Registered (answer_or (regions.own_register_refusal_within (most_octets kept) part base (length octets)) (regions.own_drawn_stag part pd drawn))) h.table.part)
    (region_alike (λ part. regions.own_register_refusal_within (most_octets kept) part base (length octets)) (λ part. regions.own_registered_at part (regions.own_drawn_stag part pd drawn) (region_in base octets kept rights None)) pd e f h)
    (region_leaves (tables.register_refusal_within (most_octets kept) e.table pd base (length octets)) pd e _ _))
concerns_one d e (Deregister stag) all here = subst (λ x. OwnStep x e (Deregister stag)) here
    (let h = seen_alone stag.domain e all in let f = alone stag.domain (part_of stag.domain e) in
    one_step stag.domain e (Deregister stag) all (ap (λ part. handed_back own_fault (regions.own_region part stag)) h.table.part)
    (region_alike (λ part. own_fault (regions.own_region part stag)) (λ part. regions.own_deregistered part stag) stag.domain e f h)
    (region_leaves (own_refusal e.table stag) stag.domain e _ _))
concerns_one d e (DeregisterKept stag) all here = subst (λ x. OwnStep x e (DeregisterKept stag)) here
    (let h = seen_alone stag.domain e all in let f = alone stag.domain (part_of stag.domain e) in
    one_step stag.domain e (DeregisterKept stag) all (ap (λ part. handed_back kept_fault (regions.own_region part stag)) h.table.part)
    (region_alike (λ part. kept_fault (regions.own_region part stag)) (λ part. regions.own_deregistered part stag) stag.domain e f h)
    (region_leaves (kept_refusal e.table stag) stag.domain e _ _))
concerns_one d e (TakeRegion stag) all here = subst (λ x. OwnStep x e (TakeRegion stag)) here
    (let h = seen_alone stag.domain e all in let f = alone stag.domain (part_of stag.domain e) in
    one_step stag.domain e (TakeRegion stag) all (ap (λ part. taken_out (regions.own_region part stag)) h.table.part)
    (region_alike {R = NoRegion} (λ part. None) (λ part. regions.own_deregistered part stag) stag.domain e f h)
    (region_leaves {R = NoRegion} None stag.domain e _ _))
concerns_one d e (Invalidate stag) all here = subst (λ x. OwnStep x e (Invalidate stag)) here
    (let h = seen_alone stag.domain e all in let f = alone stag.domain (part_of stag.domain e) in
    one_step stag.domain e (Invalidate stag) all (ap (λ part. Invalidated (is_some (regions.own_region part stag))) h.table.part)
    (region_alike {R = NoRegion} (λ part. None) (λ part. regions.own_invalidated part stag) stag.domain e f h)
    (region_leaves {R = NoRegion} None stag.domain e _ _))
concerns_one d e (Store stag to octets) all here = subst (λ x. OwnStep x e (Store stag to octets)) here
    (let h = seen_alone stag.domain e all in let f = alone stag.domain (part_of stag.domain e) in
    one_step stag.domain e (Store stag to octets) all (ap (λ part. Stored (regions.own_store_refusal part stag to (length octets))) h.table.part)
    (region_alike (λ part. regions.own_store_refusal part stag to (length octets)) (λ part. regions.own_put part stag to octets) stag.domain e f h)
    (region_leaves (tables.store_refusal e.table stag to (length octets)) stag.domain e _ _))
concerns_one d e (Facts stag) all here = subst (λ x. OwnStep x e (Facts stag)) here
    (let h = seen_alone stag.domain e all in
    one_step stag.domain e (Facts stag) all (ap (λ part. Found (option_map facts_of (regions.own_region part stag))) h.table.part) h (leaves-all stag.domain e _))
concerns_one d e (Local stag) all here = subst (λ x. OwnStep x e (Local stag)) here
    (let h = seen_alone stag.domain e all in
    one_step stag.domain e (Local stag) all (ap (λ part. Octets (option_map (λ r. r.octets) (regions.own_region part stag))) h.table.part) h (leaves-all stag.domain e _))
concerns_one d e (LocalMut stag octets) all here = subst (λ x. OwnStep x e (LocalMut stag octets)) here
    (let h = seen_alone stag.domain e all in let f = alone stag.domain (part_of stag.domain e) in
    one_step stag.domain e (LocalMut stag octets) all (ap (λ part. Octets (option_map (λ r. r.octets) (regions.own_region part stag))) h.table.part)
    (region_alike {R = NoRegion} (λ part. None) (λ part. regions.own_changed part stag (λ r. record r { octets = overlay r.octets 0 octets })) stag.domain e f h)
    (region_leaves {R = NoRegion} None stag.domain e _ _))
concerns_one d e (Open n pd role config) all here = subst (λ x. IsOwnNumber x e n → OwnStep x e (Open n pd role config)) here.0
    (λ own.
    let h = seen_alone pd e all in let f = alone pd (part_of pd e) in
    let there = alone_number pd e n in
    let same = open_alike pd e f n role config (stream_alike pd e f n own.0 there.0 h) (closed_alike pd e f n own.1 there.1 h) h in
    let x = new_stream n pd role config in
    let place : open_refusal e n pd role config ≡ None → n < 64 = λ none. numbered e n pd (first_none (number_refusal e n pd) (request_refusal role config) none) in
    one_step pd e (Open n pd role config) all (ap Opened same)
    (subst (λ q. AreSeenAlike pd (unless (open_refusal e n pd role config) e (with_stream e n x)) (unless q f (with_stream f n x))) same (opens_alike (open_refusal e n pd role config) pd e f n x place h))
    (open_leaves (open_refusal e n pd role config) pd e n x _ place all.2 refl own.0 (refl, refl))) here.1
concerns_one d e (Share pd) all here = subst (λ x. OwnStep x e (Share pd)) here
    (let h = seen_alone pd e all in let f = alone pd (part_of pd e) in
    one_step pd e (Share pd) all (λ i. Shared (share_fault (is_some (h.table.part i)) (h.pool i)))
    (pool_alike share_fault (λ pool. Some []) pd e f h)
    (pool_leaves (share_refusal e pd) pd e (Some []) _))
concerns_one d e (PostShared pd buffer) all here = subst (λ x. OwnStep x e (PostShared pd buffer)) here
    (let h = seen_alone pd e all in let f = alone pd (part_of pd e) in
    one_step pd e (PostShared pd buffer) all (λ i. Pooled (pool_fault (is_some (h.table.part i)) (h.pool i)))
    (pool_alike pool_fault (option_map (λ pool. pool ++ buffer ∷ [])) pd e f h)
    (pool_leaves (pool_refusal e pd) pd e _ _))
concerns_one d e (TakeShared pd) all here = subst (λ x. OwnStep x e (TakeShared pd)) here
    (let h = seen_alone pd e all in let f = alone pd (part_of pd e) in
    one_step pd e (TakeShared pd) all (λ i. Taken (answer_or (take_fault (is_some (h.table.part i)) (h.pool i)) (taken (h.pool i))))
    (pool_alike take_fault (option_map (drop 1)) pd e f h)
    (pool_leaves (take_refusal e pd) pd e _ _))
concerns_one d e (OpenShared n pd role config) all here = subst (λ x. IsOwnNumber x e n → OwnStep x e (OpenShared n pd role config)) here.0
    (λ own.
    let h = seen_alone pd e all in let f = alone pd (part_of pd e) in
    let there = alone_number pd e n in
    let same = open_shared_alike pd e f n role config (stream_alike pd e f n own.0 there.0 h) (closed_alike pd e f n own.1 there.1 h) h in
    let x = new_shared n pd role config in
    let place : open_shared_refusal e n pd role config ≡ None → n < 64 = λ none. numbered e n pd (mapped_none open_shared_refusal_of (number_refusal e n pd) (first_none (option_map open_shared_refusal_of (number_refusal e n pd)) _ none)) in
    one_step pd e (OpenShared n pd role config) all (ap OpenedShared same)
    (subst (λ q. AreSeenAlike pd (unless (open_shared_refusal e n pd role config) e (with_stream e n x)) (unless q f (with_stream f n x))) same (opens_alike (open_shared_refusal e n pd role config) pd e f n x place h))
    (open_leaves (open_shared_refusal e n pd role config) pd e n x _ place all.2 refl own.0 (refl, refl))) here.1
concerns_one d e (OpenNext n pd role config) all here = subst (λ x. (is_some (next_refusal e n pd role config) ≡ false → IfSome n (IsOwnNumber x e)) → OwnStep x e (OpenNext n pd role config)) here.0 (next_one pd e n role config all) here.1
concerns_one d e (OpenSharedNext n pd role config) all here = subst (λ x. (is_some (next_shared_refusal e n pd role config) ≡ false → IfSome n (IsOwnNumber x e)) → OwnStep x e (OpenSharedNext n pd role config)) here.0 (next_shared_one pd e n role config all) here.1
concerns_one d e (AtStream n call) all own =
    let h = seen_alone d e all in let f = alone d (part_of d e) in
    let same = stream_alike d e f n own.0 (alone_own d e n) h in
    one_step d e (AtStream n call) all (ap OfStream (stream_answers d e f n call own.0 same h)) (stream_alikes d e f n call own.0 same h) (stream_leaves d e n call _ own)
