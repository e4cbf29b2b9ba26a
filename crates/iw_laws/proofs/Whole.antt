-- Whatever follows the rules is as the laws say.
use Rattle.iw_laws.proofs.Nearby.{lands_near}
use Rattle.std.proofs.Common.{◌≡◌, ℕ, zero, suc, ◌+◌, ◌^◌, ◌<◌, ◌≤◌, List, [], ◌∷◌, ◌++◌, length, drop, replicate, Option, Some, None, Bool, true, false, cond, eqb, refl, sym, ap, ◌∙◌, subst, arith, append_assoc, length-append, length-take, eqb-true, ◌-◌, Ok, Err, inl, inr, ◌⊎◌}
use Rattle.std.specs.Prelude.{map, is_some, slice_set, slice_index_or, unwrap_or, not, ◌||◌, Bool, ◌%◌, ◌^◌}
use Rattle.std.proofs.lemmas.List.{append-nil, length-replicate}
use Rattle.std.proofs.lemmas.Bool.{eq-eqb, false≢true, true≢false}
use Rattle.iw_ranges.specs.Nearest.{place_near, before_start}
use Rattle.iw_octets.specs.Segment.{segment_octets}
use Rattle.iw_memory.specs.Table.{Table}
use Rattle.iw_ranges.specs.declared.Delivery.TheVariants.{Kept, Dropped}
use Rattle.iw_ranges.specs.Arrived.{nothing, taken_in, advanced}
use Rattle.iw_ranges.specs.InOrder.{IsOf}
use Rattle.iw_ranges.proofs.InOrder.{held_nothing, window_nothing, of_nothing, of_takes, of_more}
use Rattle.std.proofs.lemmas.Option.{none-some}
use Rattle.iw_startup.specs.declared.config.Config.{Config}
use Rattle.iw_startup.specs.State.{IsReached}
use Rattle.iw_startup.proofs.Reached.{reached-initiator, reached-responder}
use Rattle.iw_stream.specs.declared.answer.Role.{Role}
use Rattle.iw_stream.specs.declared.answer.Role.TheVariants.{Preset, Initiator, Responder}
use Rattle.iw_stream.specs.Starting.{StartState, AtOnce, Unheard, Heard, IsFresh, start_at_first, exceeds_request, sending, expecting}
use Rattle.iw_stream.specs.Starting as starting
use Rattle.iw_untagged.specs.Receiving.{Receiving, sharing}
use Rattle.iw_stream.specs.Stream.{StreamState, shares, frame_of}
use Rattle.iw_fpdu.specs.declared.layout.Layout.{Layout}
use Rattle.iw_fpdu.specs.Sequence.{sequence, place_past}
use Rattle.iw_fpdu.specs.Laws.{IsBetween}
use Rattle.iw_fpdu.proofs.Follows.{frames_follow}
use Rattle.iw_fpdu.proofs.Sequences.{written_few, place_is, between_past}
use Rattle.iw_queues.proofs.Limits.{limits_start}
use Rattle.iw_octets.specs.declared.segment.Segment.{Segment}
use Rattle.iw_octets.proofs.Segments.{length-segment_octets_tagged}
use Rattle.iw_reads.specs.Response.{response_head}
use Rattle.iw_laws.specs.Merged.{response_segment}
use Rattle.iw_laws.proofs.Merges.{merges_none}
use Rattle.iw_queues.specs.Segments.{segment_of}
use Rattle.iw_events.specs.declared.call.Options.{Options}
use Rattle.iw_events.specs.declared.call.End.{End}
use Rattle.iw_events.specs.declared.call.End.TheVariants.{A, B}
use Rattle.iw_events.specs.declared.act.Act.{Act}
use Rattle.iw_events.specs.declared.act.Act.TheVariants.{Domain, Register, Deregister, Invalidate, Store, Open, Share, Pool, Unpool, OpenShared, Stream}
use Rattle.iw_events.specs.declared.act.StreamAct.{StreamAct}
use Rattle.iw_events.specs.declared.act.StreamAct.TheVariants.{Recv, Post, Emit, First, Deliver, Raw, Mulpdu, Accept, Reject, Work, Break}
use Rattle.iw_events.specs.declared.act.Shown.TheVariants.{Frame, Fetched, Fault as Denied, Nothing}
use Rattle.iw_events.specs.declared.act.Entry.{Entry}
use Rattle.iw_events.specs.declared.act.Seen.TheVariants as seen
use Rattle.iw_laws.specs.Turns.{story, in_order_point, is_near, first_queue, Pooling, pooling, pool_by}
use Rattle.iw_laws.specs.Sends.{terminate_segment, count_reads}
use Rattle.std.specs.Prelude.{nat_lt}
use Rattle.iw_laws.specs.Words.{Octets, other, acts, stream_acts, stream_acts_by, Opening, config_for, no_opening, opening_in, opening_of, domain_of, openings, openings_by, posted, finished_kinds, handed_kinds, size_set, received, ended, sent, sent_by, placings, table_after, OnSome, deed}
use Rattle.std.specs.Option.{option_map}
use Rattle.iw_stream.specs.declared.answer.OpenRefusal.TheVariants as open_refusals
use Rattle.iw_endpoint.specs.Endpoint.{EndpointState, Pool as PoolOf, number_refusal, open_shared_refusal_of, unshared, pool_of, stream_of, stream_at, unopened as no_stream, has_stream, no_pools, no_streams, fresh, open_refusal, open_shared_refusal}
use Rattle.iw_endpoint.proofs.Parts.{fresh_domains}
use Rattle.iw_laws.specs.Rules.{EndState, State, end_of, with_end, start, Rule, EndRule, WireRule, StreamRule, stream_for, end_after, after_entry, state_after, Follows, wire_at, no_wires}
use Rattle.iw_laws.proofs.States.{opening_by, Connected, connected, unconnected, connected_at, connected_seen, left_at, streams_after, streams_left, wire_still, wire_more}
use Rattle.iw_stream.specs.Work.{scene}
use Rattle.iw_laws.proofs.Judged.{none_judged}
use Rattle.iw_laws.proofs.EarlySent.{none_sent}
use Rattle.iw_laws.specs.Once.{spans_placed}
use Rattle.iw_laws.proofs.Spent.{none_spent}
use Rattle.iw_laws.proofs.Tales.{Tale, tale_of, tale_after, tale-push, stream_acts-push, openings-push, acts_mine, acts_other, pooled, pooling-push, queue_other, queue_unused}
use Rattle.iw_laws.proofs.Sending.{shown_good, EmitsStart, EmitsLast, EmitsReady, EmitsPart, emits_as, terminate_small, rtr_small}
use Rattle.iw_laws.proofs.Ready.{ready_in, Apart}
use Rattle.iw_stream.specs.Rtr.{rtr_segment}
use Rattle.iw_laws.proofs.Rooms.{opening_fits, last_reason, last_shared}
use Rattle.iw_laws.proofs.Tracks.{OnStart, start_octets, Track, shown_stays}
use Rattle.iw_laws.proofs.Left.{equal_has}
use Rattle.iw_laws.proofs.Releases.{IsLeft, Still, left_apart, nothing_given}
use Rattle.iw_laws.proofs.Fills.{nothing_placed}
use Rattle.iw_laws.proofs.Owned.{same_merges, Own, first_fits, Emits, out_of, lives, all_spoken, word_unbroken, runs_unbroken, Unspoken, IsStartOf, past_start}
use Rattle.iw_laws.proofs.OwnedFrames.{answers_part}
use Rattle.iw_laws.proofs.Pools.{told_by, tale, tale_seen, Holds, PoolsSeen, HeldAt, next_held, pools_next, seen_held}
use Rattle.iw_laws.proofs.Ends.{EndSeen, IsTold, told_step, Opens, end_step, opens, numbered_open, numbered_shared, opens_same, at_act, at_same, at_other, number_there, unopened, opening_none, opening_one}

-- a stream at both ends, with what the acts say of each; if no octets strayed, what came is what the other end sent
pub record Pair (l : Opening) (c : Connected) (t : Tale) (m : Opening) (d : Connected) (u : Tale) : Type 0 where
  pub own : Holds l c t
  pub own_peer : Holds m d u
  pub out : u.story.strays ≡ false → IsOf u.story.came t.sent
  pub back : t.story.strays ≡ false → IsOf t.story.came u.sent

swapped : {l m : Opening} {c d : Connected} {t u : Tale} → Pair l c t m d u → Pair m d u l c t
swapped p = record { own = p.own_peer; own_peer = p.own; out = p.back; back = p.out }

moved : {l l' : Opening} {c c' : Connected} {t t' : Tale} (m : Opening) (d : Connected) (u : Tale) → l ≡ l' → c ≡ c' → t ≡ t' → Pair l c t m d u → Pair l' c' t' m d u
moved {l = l} {l' = l'} {c = c} {c' = c'} {t = t} {t' = t'} m d u e a b p = subst (λ z. Pair l' c' z m d u) b (subst (λ z. Pair l' z t m d u) a (subst (λ z. Pair z c t m d u) e p))

-- octets that come from a place have that place's number
abbrev IsNumbered : ℕ → StreamAct Octets → Type 0
IsNumbered first act = OnSome (λ c. OnSome (λ from. c.number ≡ (first + from) % 2 ^ 32) c.from) (deed act).coming

is_numbered : (table : Table) (s : StreamState) (act : StreamAct Octets) → StreamRule table s act → IsNumbered s.first act
is_numbered table s (Deliver from number octets delivery) rule = rule.0
is_numbered table s (Raw number octets delivery) rule = tt
is_numbered table s (First number refused) rule = tt
is_numbered table s (Recv len refused) rule = tt
is_numbered table s (Post m refused) rule = tt
is_numbered table s (Emit shown) rule = tt
is_numbered table s (Mulpdu size refused) rule = tt
is_numbered table s (Accept private answer) rule = tt
is_numbered table s (Reject private refused) rule = tt
is_numbered table s (Work step) rule = tt
is_numbered table s Break rule = tt

numbered_at : (e : EndpointState) (n : ℕ) (act : StreamAct Octets) → StreamRule e.table (stream_for e n act) act → IsNumbered (stream_at e n).first act
numbered_at e n (Work step) rule = tt
numbered_at e n (Deliver from number octets delivery) rule = is_numbered e.table (stream_at e n) (Deliver from number octets delivery) rule
numbered_at e n (Raw number octets delivery) rule = tt
numbered_at e n (First number refused) rule = tt
numbered_at e n (Recv len refused) rule = tt
numbered_at e n (Post m refused) rule = tt
numbered_at e n (Emit shown) rule = tt
numbered_at e n (Mulpdu size refused) rule = tt
numbered_at e n (Accept private answer) rule = tt
numbered_at e n (Reject private refused) rule = tt
numbered_at e n Break rule = tt

neither : (a b : Bool) → (a || b) ≡ false → (a ≡ false) × (b ≡ false)
neither true b h = absurd (true≢false h)
neither false b h = (refl, h)

not_false : (b : Bool) → not b ≡ false → b ≡ true
not_false true h = refl
not_false false h = absurd (true≢false h)

-- what came stays what the other end sent
still_of : (t : Tale) (u : Tale) (act : StreamAct Octets) → WireRule u.sent act → IsNumbered t.story.first act → (t.story.strays ≡ false → IsOf t.story.came u.sent)
    → (tale_after t act).story.strays ≡ false → IsOf (tale_after t act).story.came u.sent
still_of t u (Deliver from number octets Kept) rule n h calm =
    let point : ℕ = in_order_point t.story in
    let c = neither (not (is_near point from)) t.story.strays calm in
    let l = lands_near t.story.first point from octets (not_false (is_near point from) c.0) in
    let place : place_near number t.story.first point ≡ from = ap (λ z. place_near z t.story.first point) n ∙ l.0 in
    let rest : drop (before_start number t.story.first point) octets ≡ octets = ap (λ z. drop (before_start z t.story.first point) octets) n ∙ l.1 in
    subst (λ z. IsOf z u.sent) (λ i. taken_in t.story.came (sym place i) (sym rest i))
    (subst (λ z. IsOf (taken_in t.story.came from z) u.sent) (sym rule.are) (of_takes t.story.came from (length octets) u.sent (h c.1)))
still_of t u (Deliver from number octets Dropped) rule n h calm = h (neither (not (is_near (in_order_point t.story) from)) t.story.strays calm).1
still_of t u (Raw number octets delivery) rule n h calm = absurd (true≢false calm)
still_of t u (First number refused) rule n h calm = h calm
still_of t u (Mulpdu size refused) rule n h calm = h calm
still_of t u (Accept private (Ok agreed)) rule n h calm = h calm
still_of t u (Accept private (Err refusal)) rule n h calm = h calm
still_of t u (Reject private None) rule n h calm = h calm
still_of t u (Reject private (Some refusal)) rule n h calm = h calm
still_of t u (Work (seen.Asked word private)) rule n h calm = h calm
still_of t u (Work (seen.Opened agreed word private)) rule n h calm = h calm
still_of t u (Work (seen.Closed fault)) rule n h calm = h calm
still_of t u (Emit shown) rule n h calm = subst (λ z. IsOf z u.sent) (sym (shown_stays t.story shown).came) (h (sym (shown_stays t.story shown).strays ∙ calm))
still_of t u (Post m refused) rule n h calm = h calm
still_of t u (Recv len None) rule n h calm = h calm
still_of t u (Recv len (Some refusal)) rule n h calm = h calm
still_of t u (Work (seen.Done kind)) rule n h calm = h calm
still_of t u (Work (seen.Placed right stag to octets)) rule n h calm = h calm
still_of t u (Work (seen.Tried place)) rule n h calm = h calm
still_of t u (Work (seen.Buffered msn mo len)) rule n h calm = h calm
still_of t u (Work (seen.Requested size stag to)) rule n h calm = h calm
still_of t u (Work seen.Passed) rule n h calm = h calm
still_of t u (Work (seen.Received octets solicited invalidate)) rule n h calm = h calm
still_of t u (Work (seen.Flushed kind)) rule n h calm = h calm
still_of t u (Work (seen.FlushedRecv octets)) rule n h calm = h calm
still_of t u (Work (seen.Terminated fault)) rule n h calm = h calm
still_of t u (Work (seen.Fault fault)) rule n h calm = h calm
still_of t u Break rule n h calm = h calm
still_of t u (Work seen.Idle) rule n h calm = h calm

-- ---- at the start, and at an opening

nothing_moves : nothing ≡ advanced nothing 0
unfolding advanced
nothing_moves = refl

-- each opening has private data that fits
pub record OpensFit (o : Opening) : Type 0 where
  pub small : length o.config.private.items ≤ 512
  pub fits : exceeds_request o.role o.config ≡ false

-- how a stream begins
reached_at_first : (role : Role) (config : Config) → length config.private.items ≤ 512 → exceeds_request role config ≡ false → OnStart IsReached (start_at_first role config)
reached_at_first Preset config small fits = tt
reached_at_first Initiator config small fits = reached-initiator config (opening_fits config small fits)
reached_at_first Responder config small fits = reached-responder config

fresh_at_first : (role : Role) (config : Config) → IsFresh (start_at_first role config)
fresh_at_first Preset config = tt
fresh_at_first Initiator config = (refl, refl)
fresh_at_first Responder config = (refl, refl)

first_octets : (role : Role) (config : Config) → [] ≡ start_octets (start_at_first role config)
first_octets Preset config = refl
first_octets Initiator config = refl
first_octets Responder config = refl

starts_at_first : (o : Opening) → IsStartOf o (start_at_first o.role o.config)
starts_at_first o = go o.role refl
  where
    go : (r : Role) → o.role ≡ r → IsStartOf o (start_at_first r o.config)
    go Preset e = (e, refl)
    go Initiator e = record { role = sym e }
    go Responder e = record { role = sym e }

-- a stream to which nothing has happened
first_ready : (role : Role) (config : Config) → ready_in (start_at_first role config) ≡ []
first_ready Preset config = refl
first_ready Initiator config = refl
first_ready Responder config = refl

no_emits : (o : Opening) (number : Option ℕ) → Emits (connected o number).stream (tale_of o [])
unfolding posted handed_kinds size_set sent story
no_emits o number = record {
  segments = [];
  kept = (connected o number).stream.queue;
  before = [];
  left = [];
  done = 0;
  asking = [];
  live = λ h. record { queue = refl; handed = refl };
  merges = same_merges refl refl refl refl (λ i. first_ready o.role o.config i ++ []) refl (merges_none (connected o number).stream.queue refl refl);
  spoken = inl refl;
  asks = record { reads = refl; asked = refl; fetched = refl; begun = refl; few = omega arith };
  good = tt;
  framed = Unspoken refl refl;
  parts = record {
    ending = refl;
    once = inl refl;
    short = λ payload h. absurd (none-some _ h);
    shut = λ h. record { none = refl; quiet = refl };
    silent = λ h. record { none = refl; quiet = refl };
  };
  limits = limits_start;
  fit = tt;
  numbers = record { send = omega arith; read = omega arith };
  size = refl;
  enough = omega arith;
  few = omega arith;
  counts = record {
    order = refl;
    first = [];
    split = refl;
    lasts = refl;
    counted = refl;
    oldest = refl;
    marked = refl;
    some = omega arith;
    done = omega arith;
    tickets = refl;
  };
  handing = record { order = refl; marked = refl };
  reads = Apart refl (omega (arith, ap count_reads (first_ready o.role o.config)));
  whole = omega (arith, ap length (first_ready o.role o.config));
}

no_track : (o : Opening) (number : Option ℕ) → OpensFit o → Track (connected o number).stream (tale_of o [])
unfolding received placings story
no_track o number asks = record {
  intro = [];
  begins = record {
    start = refl;
    reached = reached_at_first o.role o.config asks.small asks.fits;
    fresh = fresh_at_first o.role o.config;
    octets = first_octets o.role o.config;
  };
  frames = [];
  before = [];
  shut = λ h. record { frames = refl; before = refl; placed = refl };
  from_start = refl;
  came = refl;
  arrived = nothing_moves;
  point = refl;
  between = frames_follow.first (expecting (start_at_first o.role o.config)).markers;
  located = [];
  named = refl;
  split = λ more. refl;
  ends = refl;
  turns = refl;
  placed = refl;
  receiving = refl;
  fore_is = λ f h. absurd (none-some _ h);
  held = held_nothing;
  window = window_nothing;
  near = omega arith;
  far = omega arith;
  soon = omega arith;
  segments = [];
  shown = [];
  early = record {
    records_are = refl;
    unopened = λ h. refl;
    judged = none_judged (scene (connected o number).stream) refl;
    clear = λ f h. absurd (none-some _ h);
    written_are = λ c. refl;
    sunk_are = λ c. refl;
  };
  sent_ones = λ us short of. none_sent (expecting (start_at_first o.role o.config)) us;
  carried = refl;
  joins = record {
    completed_are = refl;
    begun_are = λ e. refl;
    waits = λ e p. absurd (false≢true p);
    counted = λ c. refl;
    sunk_are = λ c. refl;
  };
  tells = record { answered_are = refl; asked_are = refl };
}

no_own : (o : Opening) (number : Option ℕ) → OpensFit o → Own o (connected o number) (tale_of o [])
unfolding sent received ended story finished_kinds handed_kinds spans_placed
no_own o number asks = record {
  wire = refl;
  sent = refl;
  due = refl;
  numbered = record { first = refl; delivered = refl };
  starts = starts_at_first o;
  emits = no_emits o number;
  track = no_track o number asks;
  doing = record { answered = omega arith; among = omega arith };
  ended = refl;
  paid = record { paid = omega arith };
  once = record { known = []; are = refl; spent = none_spent (scene (connected o number).stream) None; bare = λ h. refl };
  fills = nothing_placed (connected o number).stream (tale_of o []) refl refl refl refl;
}

nothing_left : (o : Opening) (number : Option ℕ) → IsLeft (connected o number).stream (connected o number).stream
nothing_left o number = Still (equal_has refl) (nothing_given (scene (connected o number).stream) held_nothing)

no_holds : (o : Opening) (number : Option ℕ) → OpensFit o → Holds o (connected o number) (tale_of o [])
no_holds o number asks = record { stream = (connected o number).stream; is_left = nothing_left o number; own = no_own o number asks }

-- nothing came of it
nothing_of : (o : Opening) (octets : List ℕ) → IsOf (tale_of o []).story.came octets
unfolding story
nothing_of o octets = of_nothing octets

-- a stream to which nothing has happened is opened
reopened : (o l m : Opening) (number : Option ℕ) (c : Connected) (shared : Bool) (queue : Receiving) (done : List (StreamAct Octets)) (d : Connected) (u : Tale) → OpensFit o → done ≡ []
    → Pair l c (told_by shared l done queue) m d u → Pair o (connected o number) (tale_of o []) m d u
reopened o l m number c shared queue done d u asks none p = record {
  own = no_holds o number asks;
  own_peer = p.own_peer;
  out = λ raw. subst (IsOf u.story.came) (ap sent none) (p.out raw);
  back = λ raw. nothing_of o u.sent;
}

first_told : (o : Opening) → told_by o.shared o [] sharing ≡ tale_of o []
unfolding story
first_told o = λ i. record (tale_of o []) { story = record (story o []) { receiving = go o.shared i } }
  where
    go : (b : Bool) → cond b sharing (first_queue b) ≡ first_queue b
    go true = refl
    go false = refl

-- an act that is none of the stream leaves its queue
same_queue : (n : ℕ) (done : List (Act Octets)) (act : Act Octets) → stream_acts_by n act ≡ [] → (pooling (done ++ act ∷ [])).queues n ≡ (pooling done).queues n
same_queue n done act none = ap (λ (z : Pooling). z.queues n) (pooling-push done act) ∙ queue_other (pooled done) n act none

-- an act that neither opens the stream nor is one of it, and leaves this end
same_stream : (s s' : EndState) (act : Act Octets) (n : ℕ) (done : List (Act Octets)) (m : Opening) (d : Connected) (u : Tale) → stream_of s'.endpoint n ≡ stream_of s.endpoint n → wire_at s' n ≡ wire_at s n → openings_by n act ≡ []
    → stream_acts_by n act ≡ [] → Pair (opening_of n done) (connected_at s n) (tale n done) m d u → Pair (opening_of n (done ++ act ∷ [])) (connected_at s' n) (tale n (done ++ act ∷ [])) m d u
same_stream s s' act n done m d u same wire closed none p =
    let same_opening : opening_of n (done ++ act ∷ []) ≡ opening_of n done = ap opening_in (opens_same n done act closed) in
    let acts_are : stream_acts n (done ++ act ∷ []) ≡ stream_acts n done = stream_acts-push n done act ∙ ap (λ z. stream_acts n done ++ z) none ∙ append-nil (stream_acts n done) in
    moved m d u (sym same_opening) (λ i. record { stream = unwrap_or (sym same i) no_stream; wire = sym wire i })
    (λ i. told_by (sym same_opening i).shared (sym same_opening i) (sym acts_are i) (sym (same_queue n done act none) i)) p

-- one that the rules give
stream_kept : (s : EndState) (act : Act Octets) (n : ℕ) (done : List (Act Octets)) (m : Opening) (d : Connected) (u : Tale) → EndRule s.endpoint act → slice_index_or (streams_after s.endpoint act) n None ≡ stream_of s.endpoint n → openings_by n act ≡ []
    → stream_acts_by n act ≡ [] → Pair (opening_of n done) (connected_at s n) (tale n done) m d u → Pair (opening_of n (done ++ act ∷ [])) (connected_at (end_after s act) n) (tale n (done ++ act ∷ [])) m d u
stream_kept s act n done m d u rule same closed none p = same_stream s (end_after s act) act n done m d u (at_act s.endpoint act n rule ∙ same) (wire_still s act n none) closed none p

pub acts_none : (m n : ℕ) (act : StreamAct Octets) → eqb m n ≡ false → stream_acts_by n (Stream m act) ≡ []
acts_none m n act e = ap (λ b. cond b (act ∷ []) []) e

pub acts_one : (m n : ℕ) (act : StreamAct Octets) → eqb m n ≡ true → stream_acts_by n (Stream m act) ≡ act ∷ []
acts_one m n act e = ap (λ b. cond b (act ∷ []) []) e

-- one more act of a stream
pub acts_next : (n : ℕ) (done : List (Act Octets)) (m : ℕ) (act : StreamAct Octets) → eqb m n ≡ true → stream_acts n (done ++ Stream m act ∷ []) ≡ stream_acts n done ++ act ∷ []
acts_next n done m act e = stream_acts-push n done (Stream m act) ∙ ap (λ z. stream_acts n done ++ z) (acts_one m n act e)

pub sent_next : (done : List (StreamAct Octets)) (act : StreamAct Octets) → sent (done ++ act ∷ []) ≡ sent done ++ sent_by act
sent_next done act = ap (λ (t : Tale). t.sent) (tale-push no_opening done act)

nothing_sent : sent [] ≡ []
unfolding sent
nothing_sent = refl

-- a stream is opened, and this end is left
pub opened_pair : (s s' : EndState) (done : List (Act Octets)) (act : Act Octets) (m n number : ℕ) (o l : Opening) (d : Connected) (u : Tale) → EndSeen s done → Opens s m → OpensFit o → openings_by n act ≡ cond (eqb m n) (o ∷ []) []
    → s'.endpoint.streams ≡ slice_set s.endpoint.streams m (Some (connected o (Some number)).stream) → wire_at s' n ≡ wire_at s n → stream_acts_by n act ≡ [] → Pair (opening_of n done) (connected_at s n) (tale n done) l d u
    → Pair (opening_of n (done ++ act ∷ [])) (connected_at s' n) (tale n (done ++ act ∷ [])) l d u
opened_pair s s' done act m n number o l d u k new asks one left wire silent p = go (eqb m n) refl
  where
    go : (b : Bool) → eqb m n ≡ b → Pair (opening_of n (done ++ act ∷ [])) (connected_at s' n) (tale n (done ++ act ∷ [])) l d u
    go false e = same_stream s s' act n done l d u (ap (λ xs. slice_index_or xs n None) left ∙ at_other s m n (Some (connected o (Some number)).stream) e) wire (one ∙ opening_none (eqb m n) o e) silent p
    go true e =
        let same : m ≡ n = eqb-true m n e in
        let here : stream_of s'.endpoint n ≡ Some (connected o (Some number)).stream =
        ap (λ xs. slice_index_or xs n None) left ∙ subst (λ j. slice_index_or (slice_set s.endpoint.streams m (Some (connected o (Some number)).stream)) j None ≡ Some (connected o (Some number)).stream) same (at_same s m (connected o (Some number)).stream new.number) in
        let closed : has_stream s.endpoint n ≡ false = subst (λ j. has_stream s.endpoint j ≡ false) same new.fresh in
        let before : openings n done ≡ [] = unopened (openings n done) (sym (k.opened n) ∙ closed) in
        let now : opening_of n (done ++ act ∷ []) ≡ o = ap opening_in (openings-push n done act ∙ (λ i. before i ++ (one ∙ opening_one (eqb m n) o e) i)) in
        let none : stream_acts n (done ++ act ∷ []) ≡ [] = stream_acts-push n done act ∙ (λ i. k.unused n closed i ++ silent i) in
        let queue : (pooling (done ++ act ∷ [])).queues n ≡ sharing = same_queue n done act silent ∙ queue_unused n done (k.unused n closed) in
        let quiet : [] ≡ wire_at s' n = sym (wire ∙ p.own.own.wire ∙ ap sent (k.unused n closed) ∙ nothing_sent) in
        moved l d u (sym now) (λ i. record { stream = unwrap_or (sym here i) no_stream; wire = quiet i }) (sym (first_told o) ∙ (λ i. told_by (sym now i).shared (sym now i) (sym none i) (sym queue i)))
        (reopened o (opening_of n done) l (Some number) (connected_at s n) (opening_of n done).shared ((pooling done).queues n) (stream_acts n done) d u asks (k.unused n closed) p)

-- an act of the stream itself
acted_here : (s peer : EndState) (done : List (Act Octets)) (act : StreamAct Octets) (n : ℕ) (l : Opening) (u : Tale) → EndSeen s done → PoolsSeen s done → Rule s peer (Stream n act) → Pair (opening_of n done) (connected_at s n) (tale n done) l (connected_at peer n) u
    → Pair (opening_of n (done ++ Stream n act ∷ [])) (connected_at (end_after s (Stream n act)) n) (tale n (done ++ Stream n act ∷ [])) l (connected_at peer n) u
acted_here s peer done act n l u k pools rule p =
    let o : Opening = opening_of n done in
    let those : List (StreamAct Octets) = stream_acts n done in
    let queue : Receiving = (pooling (done ++ Stream n act ∷ [])).queues n in
    let there : n < length s.endpoint.streams = number_there s n rule.0.0 in
    let one : eqb n n ≡ true = eq-eqb n n refl in
    let opening_is : opening_of n (done ++ Stream n act ∷ []) ≡ o = ap opening_in (opens_same n done (Stream n act) refl) in
    let acts_are : stream_acts n (done ++ Stream n act ∷ []) ≡ those ++ act ∷ [] = acts_next n done n act one in
    let here : stream_of (end_after s (Stream n act)).endpoint n ≡ Some (left_at s.endpoint n act) = at_act s.endpoint (Stream n act) n rule.0 ∙ at_same s n (left_at s.endpoint n act) there in
    let room : n < length s.wires = omega (arith, there, k.wires) in
    let wire : WireRule u.sent act = subst (λ z. WireRule z act) p.own_peer.own.wire rule.1.1 in
    let numbered : IsNumbered (tale_of o those).story.first act =
    subst (λ z. IsNumbered z act) (ap (λ (z : StreamState). z.first) (left_apart p.own.is_left) ∙ sym p.own.own.numbered.first) (numbered_at s.endpoint n act rule.0.1) in
    let next : Pair o (record { stream = left_at s.endpoint n act; wire = wire_at s n ++ sent_by act }) (told_by o.shared o (those ++ act ∷ []) queue) l (connected_at peer n) u = record {
      own = next_held s done n act k pools rule.0.0 rule.0.1 p.own;
      own_peer = p.own_peer;
      out = λ raw. subst (IsOf u.story.came) (sym (sent_next those act)) (of_more u.story.came (sent those) (sent_by act) (p.out raw));
      back = subst (λ (z : Tale). z.story.strays ≡ false → IsOf z.story.came u.sent) (sym (tale-push o those act)) (still_of (tale_of o those) u act wire numbered p.back);
    } in
    moved l (connected_at peer n) u (sym opening_is) (λ i. record { stream = unwrap_or (sym here i) no_stream; wire = wire_more s n n act refl room i })
    (λ i. told_by (sym opening_is i).shared (sym opening_is i) (sym acts_are i) queue) next

-- the private data of an opening fits
pub fits_so : (shared : Bool) (pd : ℕ) (role : Role) (options : Options) (private : Octets) → exceeds_request role (config_for options private) ≡ false → OpensFit (opening_by shared pd role options private)
fits_so shared pd role options private h = record { small = omega (arith, length-take 512 private); fits = h }

pub open_fits : (e : EndpointState) (n pd : ℕ) (role : Role) (options : Options) (private : Octets) → None ≡ open_refusal e n pd role (config_for options private) → OpensFit (opening_by false pd role options private)
open_fits e n pd role options private rule =
    fits_so false pd role options private (last_reason (number_refusal e n pd) (exceeds_request role (config_for options private)) open_refusals.PrivateTooLong rule)

pub shared_fits : (e : EndpointState) (n pd : ℕ) (role : Role) (options : Options) (private : Octets) → None ≡ open_shared_refusal e n pd role (config_for options private) → OpensFit (opening_by true pd role options private)
shared_fits e n pd role options private rule =
    fits_so true pd role options private (last_shared (option_map open_shared_refusal_of (number_refusal e n pd)) (unshared (pool_of e pd)) (exceeds_request role (config_for options private)) rule)

-- an act of an end, as each of its streams sees it
acted : (s peer : EndState) (done : List (Act Octets)) (act : Act Octets) (n : ℕ) (l : Opening) (u : Tale) → EndSeen s done → PoolsSeen s done → Rule s peer act → Pair (opening_of n done) (connected_at s n) (tale n done) l (connected_at peer n) u
    → Pair (opening_of n (done ++ act ∷ [])) (connected_at (end_after s act) n) (tale n (done ++ act ∷ [])) l (connected_at peer n) u
acted s peer done (Domain pd refused) n l u k pools rule p = stream_kept s (Domain pd refused) n done l (connected_at peer n) u rule.0 refl refl refl p
acted s peer done (Register pd base rights octets answer) n l u k pools rule p = stream_kept s (Register pd base rights octets answer) n done l (connected_at peer n) u rule.0 refl refl refl p
acted s peer done (Deregister stag answer) n l u k pools rule p = stream_kept s (Deregister stag answer) n done l (connected_at peer n) u rule.0 refl refl refl p
acted s peer done (Invalidate stag refused) n l u k pools rule p = stream_kept s (Invalidate stag refused) n done l (connected_at peer n) u rule.0 refl refl refl p
acted s peer done (Store stag to octets refused) n l u k pools rule p = stream_kept s (Store stag to octets refused) n done l (connected_at peer n) u rule.0 refl refl refl p
acted s peer done (Share pd refused) n l u k pools rule p = stream_kept s (Share pd refused) n done l (connected_at peer n) u rule.0 refl refl refl p
acted s peer done (Pool pd len refused) n l u k pools rule p = stream_kept s (Pool pd len refused) n done l (connected_at peer n) u rule.0 refl refl refl p
acted s peer done (Unpool pd answer) n l u k pools rule p = stream_kept s (Unpool pd answer) n done l (connected_at peer n) u rule.0 refl refl refl p
acted s peer done (Open m pd role options private (Some refusal)) n l u k pools rule p = stream_kept s (Open m pd role options private (Some refusal)) n done l (connected_at peer n) u rule.0 refl refl refl p
acted s peer done (OpenShared m pd role options private (Some refusal)) n l u k pools rule p = stream_kept s (OpenShared m pd role options private (Some refusal)) n done l (connected_at peer n) u rule.0 refl refl refl p
acted s peer done (Open m pd role options private None) n l u k pools rule p =
    opened_pair s (end_after s (Open m pd role options private None)) done (Open m pd role options private None) m n m (opening_by false pd role options private) l (connected_at peer n) u k (opens s m pd k.domains (numbered_open s.endpoint m pd role (config_for options private) rule.0)) (open_fits s.endpoint m pd role options private rule.0) refl (streams_left s.endpoint (Open m pd role options private None) rule.0) refl refl p
acted s peer done (OpenShared m pd role options private None) n l u k pools rule p =
    opened_pair s (end_after s (OpenShared m pd role options private None)) done (OpenShared m pd role options private None) m n m (opening_by true pd role options private) l (connected_at peer n) u k (opens s m pd k.domains (numbered_shared s.endpoint m pd role (config_for options private) rule.0)) (shared_fits s.endpoint m pd role options private rule.0) refl (streams_left s.endpoint (OpenShared m pd role options private None) rule.0) refl refl p
acted s peer done (Stream m act) n l u k pools rule p = go (eqb m n) refl
  where
    go : (b : Bool) → eqb m n ≡ b → Pair (opening_of n (done ++ Stream m act ∷ [])) (connected_at (end_after s (Stream m act)) n) (tale n (done ++ Stream m act ∷ [])) l (connected_at peer n) u
    go false e = stream_kept s (Stream m act) n done l (connected_at peer n) u rule.0 (at_other s m n (Some (left_at s.endpoint m act)) e) refl (acts_none m n act e) p
    go true e =
        subst (λ j. Rule s peer (Stream j act) → Pair (opening_of n (done ++ Stream j act ∷ [])) (connected_at (end_after s (Stream j act)) n) (tale n (done ++ Stream j act ∷ [])) l (connected_at peer n) u) (sym (eqb-true m n e))
        (λ rule. acted_here s peer done act n l u k pools rule p) rule

-- ---- what an act may emit

-- a start-up frame is short
few_start : (start : StartState) → OnStart IsReached start → length (starting.own_frame start) ≤ 532
few_start (AtOnce layout) r = omega arith
few_start (Unheard u) r = r.fits
few_start (Heard u) r = r.fits

few_frame : {opening : Opening} (c : Connected) (t : Tale) → Own opening c t → nat_lt c.stream.sent (starting.first_place_out c.stream.start) ≡ false → (segment : Segment Octets) → length (segment_octets segment) ≤ 64512 → length (frame_of c.stream segment) ≤ 2 ^ 17
few_frame c t o spoken segment small =
    let s : StreamState = c.stream in
    let own : Octets = starting.own_frame s.start in
    let layout : Layout = sending s.start in
    let us : List (List ℕ) = map segment_octets (out_of s t o.emits) in
    let framed : t.sent ≡ own ++ sequence layout 0 us = past_start s t o.emits o.sent spoken in
    let between : IsBetween layout.markers (place_past layout 0 us) = between_past layout 0 us (frames_follow.first layout.markers) in
    let place : place_past layout 0 us ≡ s.sent - length own =
    place_is layout 0 us (frames_follow.first layout.markers) ∙ omega (arith, ap length framed, length-append own (sequence layout 0 us), o.sent) in
    written_few layout (s.sent - length own) (segment_octets segment) (omega (arith, between.aligned, place)) small

pub emits_few : (opening : Opening) (table : Table) (c : Connected) (t : Tale) (act : StreamAct Octets) → StreamRule table c.stream act → Own opening c t → length (sent_by act) ≤ 2 ^ 17
emits_few opening table c t (Emit (Frame from octets)) rule o = go (emits_as table c.stream (Frame from octets) rule)
  where
    go : EmitsStart c.stream from octets ⊎ (EmitsLast c.stream from octets ⊎ (EmitsReady c.stream from octets ⊎ EmitsPart c.stream from octets)) → length octets ≤ 2 ^ 17
    go (inl p) = omega (arith, ap length p.octets_are, few_start c.stream.start o.track.begins.reached)
    go (inr (inl p)) =
        subst (λ z. length z ≤ 2 ^ 17) (sym p.octets_are)
        (few_frame c t o (all_spoken c.stream p.spoken (word_unbroken c.stream.ending p.payload p.is_due)) (terminate_segment p.payload) (omega (arith, terminate_small p.payload (o.emits.parts.short p.payload p.is_due))))
    go (inr (inr (inl p))) =
        subst (λ z. length z ≤ 2 ^ 17) (sym p.octets_are)
        (few_frame c t o (all_spoken c.stream p.speaks.spoken (runs_unbroken c.stream.ending p.speaks.running)) (rtr_segment c.stream.numbers p.rtr) (omega (arith, rtr_small c.stream.numbers p.rtr)))
    go (inr (inr (inr p))) =
        let l = lives c.stream t o.emits p.is_loud.running in
        subst (λ z. length z ≤ 2 ^ 17) (sym p.octets_are)
        (few_frame c t o (all_spoken c.stream p.is_loud.spoken (runs_unbroken c.stream.ending p.is_loud.running)) (segment_of c.stream.numbers p.part) (shown_good c.stream.numbers c.stream.queue c.stream.mulpdu p.part p.is_loud.part_is l.limits o.emits.enough o.emits.few o.emits.numbers (first_fits c.stream.queue l.fit)).small)
emits_few opening table c t (Emit (Fetched from frame stag to octets)) rule o =
    let p = emits_as table c.stream (Fetched from frame stag to octets) rule in
    let w = answers_part table c.stream t from frame stag to octets p o.emits.asks in
    subst (λ z. length z ≤ 2 ^ 17) (sym w.frame_is)
    (few_frame c t o (all_spoken c.stream p.speaks.spoken (runs_unbroken c.stream.ending p.speaks.running)) (response_segment w.oldest.request (length t.story.begun) w.last octets)
    (omega (arith, length-segment_octets_tagged (response_head w.oldest.request (length t.story.begun) w.last) octets, w.many, o.emits.few, o.emits.enough)))
emits_few opening table c t (Emit (Denied fault)) rule o = omega arith
emits_few opening table c t (Emit Nothing) rule o = omega arith
emits_few opening table c t (Recv len refused) rule o = omega arith
emits_few opening table c t (Post m refused) rule o = omega arith
emits_few opening table c t (Deliver from number octets delivery) rule o = omega arith
emits_few opening table c t (Raw number octets delivery) rule o = omega arith
emits_few opening table c t (First number refused) rule o = omega arith
emits_few opening table c t (Mulpdu size refused) rule o = omega arith
emits_few opening table c t (Accept private answer) rule o = omega arith
emits_few opening table c t (Reject private refused) rule o = omega arith
emits_few opening table c t (Work step) rule o = omega arith
emits_few opening table c t Break rule o = omega arith

-- ---- both ends

-- a stream of a number at two ends, by their acts
abbrev pub PairAt : EndState → List (Act Octets) → EndState → List (Act Octets) → ℕ → Type 0
PairAt s own peer others n = Pair (opening_of n own) (connected_at s n) (tale n own) (opening_of n others) (connected_at peer n) (tale n others)

-- the end with these regions
abbrev pub retabled : EndState → Table → EndState
retabled s t = record s { endpoint = record s.endpoint { table = t } }

-- what the entries and the state have in common
pub record Keeps (trace : List (Entry Octets)) (w : State) : Type 0 where
  pub ends : (x : End) → EndSeen (end_of x w) (acts x trace)
  pub pools : (x : End) → PoolsSeen (end_of x w) (acts x trace)
  pub pairs : (x : End) (n : ℕ) → PairAt (end_of x w) (acts x trace) (end_of (other x) w) (acts (other x) trace) n

pub changed : (x : End) (s : EndState) (w : State) → end_of x (with_end x s w) ≡ s
changed A s w = refl
changed B s w = refl

pub unchanged : (x : End) (s : EndState) (w : State) → end_of (other x) (with_end x s w) ≡ end_of (other x) w
unchanged A s w = refl
unchanged B s w = refl

twice : (x : End) → other (other x) ≡ x
twice A = refl
twice B = refl

-- what holds of one end and of the other holds of each
pub both : (P : End → Type 0) (x : End) → P x → P (other x) → (y : End) → P y
both P A here there A = here
both P A here there B = there
both P B here there A = there
both P B here there B = here

-- an act leaves this end, and the other as it was
pub end_moved : (trace : List (Entry Octets)) (w : State) (x : End) (act : Act Octets) (s' : EndState) → Keeps trace w → EndSeen s' (acts x trace ++ act ∷ []) → PoolsSeen s' (acts x trace ++ act ∷ [])
    → ((n : ℕ) → PairAt s' (acts x trace ++ act ∷ []) (end_of (other x) w) (acts (other x) trace) n) → Keeps (trace ++ record { end = x; act = act } ∷ []) (with_end x s' w)
end_moved trace w x act s' k seen pooled pair =
    let e : Entry Octets = record { end = x; act = act } in
    let y : End = other x in
    let w' : State = with_end x s' w in
    let here : end_of x w' ≡ s' = changed x s' w in
    let there : end_of y w' ≡ end_of y w = unchanged x s' w in
    let mine : acts x (trace ++ e ∷ []) ≡ acts x trace ++ act ∷ [] = acts_mine trace e in
    let others : acts y (trace ++ e ∷ []) ≡ acts y trace = acts_other trace e in
    let E : End → Type 0 = λ v. EndSeen (end_of v w') (acts v (trace ++ e ∷ [])) in
    let end_mine : E x = subst (λ z. EndSeen z (acts x (trace ++ e ∷ []))) (sym here) (subst (EndSeen s') (sym mine) seen) in
    let end_other : E y = subst (λ z. EndSeen z (acts y (trace ++ e ∷ []))) (sym there) (subst (EndSeen (end_of y w)) (sym others) (k.ends y)) in
    let Q : End → Type 0 = λ v. PoolsSeen (end_of v w') (acts v (trace ++ e ∷ [])) in
    let pools_mine : Q x = subst (λ z. PoolsSeen z (acts x (trace ++ e ∷ []))) (sym here) (subst (PoolsSeen s') (sym mine) pooled) in
    let pools_other : Q y = subst (λ z. PoolsSeen z (acts y (trace ++ e ∷ []))) (sym there) (subst (PoolsSeen (end_of y w)) (sym others) (k.pools y)) in
    let D : End → List (Act Octets) = λ v. acts v (trace ++ e ∷ []) in
    let P : End → Type 0 = λ v. (n : ℕ) → PairAt (end_of v w') (D v) (end_of (other v) w') (D (other v)) n in
    let pair_mine : P x = λ n.
    subst (λ z. PairAt z (D x) (end_of y w') (D y) n) (sym here)
    (subst (λ z. PairAt s' z (end_of y w') (D y) n) (sym mine)
    (subst (λ z. PairAt s' (acts x trace ++ act ∷ []) z (D y) n) (sym there)
    (subst (λ z. PairAt s' (acts x trace ++ act ∷ []) (end_of y w) z n) (sym others) (pair n)))) in
    let pair_other : P y = λ n. subst (λ v. PairAt (end_of y w') (D y) (end_of v w') (D v) n) (sym (twice x)) (swapped (pair_mine n)) in
    record { ends = both E x end_mine end_other; pools = both Q x pools_mine pools_other; pairs = both P x pair_mine pair_other }

pub one_more : (trace : List (Entry Octets)) (w : State) (e : Entry Octets) → Keeps trace w → Rule (end_of e.end w) (end_of (other e.end) w) e.act → Keeps (trace ++ e ∷ []) (after_entry w e)
one_more trace w e k rule =
    let x : End = e.end in
    let s : EndState = end_of x w in
    let peer : EndState = end_of (other x) w in
    end_moved trace w x e.act (end_after s e.act) k (end_step s peer (acts x trace) e.act (k.ends x) rule)
    (pools_next s (acts x trace) e.act (k.ends x) (k.pools x) rule.0 (λ n. (k.pairs x n).own))
    (λ n. acted s peer (acts x trace) e.act n (opening_of n (acts (other x) trace)) (tale n (acts (other x) trace)) (k.ends x) (k.pools x) rule (k.pairs x n))

-- the regions of this end are others: of as many domains
pub keeps_retabled : (trace : List (Entry Octets)) (w : State) (x : End) (t : Table) → Keeps trace w → length t ≡ length (end_of x w).endpoint.table → Keeps trace (with_end x (retabled (end_of x w) t) w)
keeps_retabled trace w x t k same = by x same
  where
    end_retabled : (y : End) → length t ≡ length (end_of y w).endpoint.table → EndSeen (retabled (end_of y w) t) (acts y trace)
    end_retabled y same = record {
      domains = (same ∙ (k.ends y).domains.0, (k.ends y).domains.1, (k.ends y).domains.2);
      wires = (k.ends y).wires;
      none_closed = (k.ends y).none_closed;
      opened = (k.ends y).opened;
      domain = (k.ends y).domain;
      pooled = (k.ends y).pooled;
      unused = (k.ends y).unused;
    }

    by : (y : End) → length t ≡ length (end_of y w).endpoint.table → Keeps trace (with_end y (retabled (end_of y w) t) w)
    by A same = record {
      ends = both (λ z. EndSeen (end_of z (with_end A (retabled w.a t) w)) (acts z trace)) A (end_retabled A same) (k.ends B);
      pools = both (λ z. PoolsSeen (end_of z (with_end A (retabled w.a t) w)) (acts z trace)) A (k.pools A) (k.pools B);
      pairs = both (λ z. (n : ℕ) → PairAt (end_of z (with_end A (retabled w.a t) w)) (acts z trace) (end_of (other z) (with_end A (retabled w.a t) w)) (acts (other z) trace) n) A (k.pairs A) (k.pairs B);
    }
    by B same = record {
      ends = both (λ z. EndSeen (end_of z (with_end B (retabled w.b t) w)) (acts z trace)) B (end_retabled B same) (k.ends A);
      pools = both (λ z. PoolsSeen (end_of z (with_end B (retabled w.b t) w)) (acts z trace)) B (k.pools B) (k.pools A);
      pairs = both (λ z. (n : ℕ) → PairAt (end_of z (with_end B (retabled w.b t) w)) (acts z trace) (end_of (other z) (with_end B (retabled w.b t) w)) (acts (other z) trace) n) B (k.pairs B) (k.pairs A);
    }

-- ---- regions as they were told

abbrev pub AreTold : List (Entry Octets) → State → Type 0
AreTold trace w = (x : End) → IsTold (end_of x w) (acts x trace)

-- an act leaves this end, and the other as it was
pub told_moved : (trace : List (Entry Octets)) (w : State) (x : End) (act : Act Octets) (s' : EndState) → AreTold trace w → IsTold s' (acts x trace ++ act ∷ []) → AreTold (trace ++ record { end = x; act = act } ∷ []) (with_end x s' w)
told_moved trace w x act s' told new =
    let e : Entry Octets = record { end = x; act = act } in
    let y : End = other x in
    let P : End → Type 0 = λ v. IsTold (end_of v (with_end x s' w)) (acts v (trace ++ e ∷ [])) in
    let here : P x = subst (λ z. IsTold z (acts x (trace ++ e ∷ []))) (sym (changed x s' w)) (subst (IsTold s') (sym (acts_mine trace e)) new) in
    let there : P y = subst (λ z. IsTold z (acts y (trace ++ e ∷ []))) (sym (unchanged x s' w)) (subst (IsTold (end_of y w)) (sym (acts_other trace e)) (told y)) in
    both P x here there

pub told_more : (trace : List (Entry Octets)) (w : State) (e : Entry Octets) → Keeps trace w → Rule (end_of e.end w) (end_of (other e.end) w) e.act → AreTold trace w → AreTold (trace ++ e ∷ []) (after_entry w e)
told_more trace w e k rule told =
    let x : End = e.end in
    told_moved trace w x e.act (end_after (end_of x w) e.act) told (told_step (end_of x w) (end_of (other x) w) (acts x trace) e.act (k.ends x) rule (told x))

pub told_onward : (past rest : List (Entry Octets)) (w : State) → Keeps past w → AreTold past w → Follows w rest → AreTold (past ++ rest) (state_after w rest)
told_onward past [] w k told follows = subst (λ p. AreTold p w) (sym (append-nil past)) told
told_onward past (e ∷ rest) w k told follows =
    subst (λ p. AreTold p (state_after (after_entry w e) rest)) (append_assoc past (e ∷ []) rest)
    (told_onward (past ++ e ∷ []) rest (after_entry w e) (one_more past w e k follows.0) (told_more past w e k follows.0 told) follows.1)

-- from a moment on, to the end of what follows the rules
pub onward : (past rest : List (Entry Octets)) (w : State) → Keeps past w → Follows w rest → Keeps (past ++ rest) (state_after w rest)
onward past [] w k follows = subst (λ p. Keeps p w) (sym (append-nil past)) k
onward past (e ∷ rest) w k follows =
    subst (λ p. Keeps p (state_after (after_entry w e) rest)) (append_assoc past (e ∷ []) rest)
    (onward (past ++ e ∷ []) rest (after_entry w e) (one_more past w e k follows.0) follows.1)

-- the first entries follow the rules, and so do the others from there on
pub follows_split : (xs ys : List (Entry Octets)) (w : State) → Follows w (xs ++ ys) → Follows w xs × Follows (state_after w xs) ys
follows_split [] ys w h = (tt, h)
follows_split (e ∷ xs) ys w h = let p = follows_split xs ys (after_entry w e) h.1 in ((h.0, p.0), p.1)

pub follows_push : (xs : List (Entry Octets)) (e : Entry Octets) (w : State) → Follows w xs → Rule (end_of e.end (state_after w xs)) (end_of (other e.end) (state_after w xs)) e.act → Follows w (xs ++ e ∷ [])
follows_push [] e w h rule = (rule, tt)
follows_push (x ∷ xs) e w h rule = (h.0, follows_push xs e (after_entry w x) h.1 rule)

pub state_after-push : (xs : List (Entry Octets)) (e : Entry Octets) (w : State) → state_after w (xs ++ e ∷ []) ≡ after_entry (state_after w xs) e
state_after-push [] e w = refl
state_after-push (x ∷ xs) e w = state_after-push xs e (after_entry w x)

-- ---- at the start

no_pair : Pair no_opening unconnected (tale_of no_opening []) no_opening unconnected (tale_of no_opening [])
no_pair = record {
  own = no_holds no_opening None (record { small = omega arith; fits = refl });
  own_peer = no_holds no_opening None (record { small = omega arith; fits = refl });
  out = λ raw. nothing_of no_opening (tale_of no_opening []).sent;
  back = λ raw. nothing_of no_opening (tale_of no_opening []).sent;
}

-- ends with this many places for streams
abbrev pub end_with : ℕ → EndState
end_with size = record { endpoint = record fresh { streams = replicate size None }; wires = replicate size [] }

abbrev pub start_with : ℕ → State
start_with size = record { a = end_with size; b = end_with size }

pub none_at : (size n : ℕ) → slice_index_or (replicate {A = Option StreamState} size None) n None ≡ None
none_at zero n = refl
none_at (suc size) zero = refl
none_at (suc size) (suc n) = none_at size n

pub no_wire : (size n : ℕ) → slice_index_or (replicate {A = Octets} size []) n [] ≡ []
no_wire zero n = refl
no_wire (suc size) zero = refl
no_wire (suc size) (suc n) = no_wire size n

fresh_end : (size : ℕ) (x : End) → 64 ≤ size → EndSeen (end_with size) (acts x [])
unfolding acts openings stream_acts
fresh_end size x many = record {
  domains = (fresh_domains.0, fresh_domains.1, omega (arith, many, length-replicate {A = Option StreamState} size None));
  wires = length-replicate {A = Octets} size [] ∙ sym (length-replicate {A = Option StreamState} size None);
  none_closed = refl;
  opened = λ n. ap is_some (none_at size n);
  domain = λ n h. absurd (false≢true (ap is_some (sym (none_at size n)) ∙ h));
  pooled = λ n h. absurd (false≢true (ap is_some (sym (none_at size n)) ∙ h));
  unused = λ n h. refl;
}

-- nothing was done
nothing_opened : (n : ℕ) (x : End) → no_opening ≡ opening_of n (acts x [])
unfolding acts openings
nothing_opened n x = refl

nothing_said : (n : ℕ) (x : End) → tale_of no_opening [] ≡ tale n (acts x [])
unfolding acts openings stream_acts
nothing_said n x = refl

start_at : (size n : ℕ) (x : End) → unconnected ≡ connected_at (end_of x (start_with size)) n
start_at size n A = λ i. record { stream = unwrap_or (sym (none_at size n) i) no_stream; wire = sym (no_wire size n) i }
start_at size n B = λ i. record { stream = unwrap_or (sym (none_at size n) i) no_stream; wire = sym (no_wire size n) i }

no_pool_at : (d : ℕ) → slice_index_or no_pools d None ≡ None
unfolding no_pools
no_pool_at d = none_in 256 d
  where
    none_in : (k d : ℕ) → slice_index_or (replicate {A = Option PoolOf} k None) d None ≡ None
    none_in zero d = refl
    none_in (suc k) zero = refl
    none_in (suc k) (suc d) = none_in k d

pooled_none : (d : ℕ) (x : End) → None ≡ pool_by d (acts x [])
unfolding acts pooling
pooled_none d x = refl

pub unsaid_with : (size : ℕ) → 64 ≤ size → Keeps [] (start_with size)
unsaid_with size many = record { ends = start_end; pools = start_pools; pairs = start_pair }
  where
    start_pools : (x : End) → PoolsSeen (end_of x (start_with size)) (acts x [])
    start_pools A d = no_pool_at d ∙ pooled_none d A
    start_pools B d = no_pool_at d ∙ pooled_none d B

    start_end : (x : End) → EndSeen (end_of x (start_with size)) (acts x [])
    start_end A = fresh_end size A many
    start_end B = fresh_end size B many

    start_pair : (x : End) (n : ℕ) → PairAt (end_of x (start_with size)) (acts x []) (end_of (other x) (start_with size)) (acts (other x) []) n
    start_pair x n =
        moved (opening_of n (acts (other x) [])) (connected_at (end_of (other x) (start_with size)) n) (tale n (acts (other x) [])) (nothing_opened n x) (start_at size n x) (nothing_said n x)
        (swapped (moved no_opening unconnected (tale_of no_opening []) (nothing_opened n (other x)) (start_at size n (other x)) (nothing_said n (other x)) no_pair))

pub told_with : (size : ℕ) → AreTold [] (start_with size)
unfolding acts table_after
told_with size A = record { table = refl; numbers = λ n c is. absurd (none-some c (sym (none_at size n) ∙ is)) }
told_with size B = record { table = refl; numbers = λ n c is. absurd (none-some c (sym (none_at size n) ∙ is)) }

pub told_first : AreTold [] start
unfolding no_streams no_wires
told_first = told_with 64

pub unsaid : Keeps [] start
unfolding no_streams no_wires
unsaid = unsaid_with 64 (omega arith)

-- ---- what a law sees of it: the pool of its domain is lent to each stream

shared_is : (s : EndState) (done : List (Act Octets)) (n : ℕ) → EndSeen s done → shares (stream_at s.endpoint n) ≡ (opening_of n done).shared
shared_is s done n k = go (stream_of s.endpoint n) refl
  where
    go : (o : Option StreamState) → stream_of s.endpoint n ≡ o → shares (stream_at s.endpoint n) ≡ (opening_of n done).shared
    go (Some x) e = k.pooled n (ap is_some e)
    go None e = ap (λ z. shares (unwrap_or z no_stream)) e ∙ ap (λ os. (opening_in os).shared) (sym (unopened (openings n done) (sym (k.opened n) ∙ ap is_some e)))

pool_is : (s : EndState) (done : List (Act Octets)) (n : ℕ) → EndSeen s done → PoolsSeen s done → (opening_of n done).shared ≡ true → pool_of s.endpoint (stream_at s.endpoint n).domain ≡ pool_by (domain_of n done) done
pool_is s done n k pools shared = go (has_stream s.endpoint n) refl
  where
    go : (b : Bool) → has_stream s.endpoint n ≡ b → pool_of s.endpoint (stream_at s.endpoint n).domain ≡ pool_by (domain_of n done) done
    go true e = pools (stream_at s.endpoint n).domain ∙ ap (λ d. pool_by d done) (k.domain n e)
    go false e = absurd (false≢true (ap (λ os. (opening_in os).shared) (sym (unopened (openings n done) (sym (k.opened n) ∙ e))) ∙ shared))

abbrev PairSeenAt : EndState → List (Act Octets) → EndState → List (Act Octets) → ℕ → Type 0
PairSeenAt s own peer others n = Pair (opening_of n own) (connected_seen s n) (tale_seen n own) (opening_of n others) (connected_seen peer n) (tale_seen n others)

pub record Seen (trace : List (Entry Octets)) (w : State) : Type 0 where
  pub ends : (x : End) → EndSeen (end_of x w) (acts x trace)
  pub pools : (x : End) → PoolsSeen (end_of x w) (acts x trace)
  pub pairs : (x : End) (n : ℕ) → PairSeenAt (end_of x w) (acts x trace) (end_of (other x) w) (acts (other x) trace) n

pub keeps_seen : (trace : List (Entry Octets)) (w : State) → Keeps trace w → Seen trace w
keeps_seen trace w k = record {
  ends = k.ends;
  pools = k.pools;
  pairs = λ x n.
      let p = k.pairs x n in
      let seen_so : (v : End) → HeldAt (end_of v w) (acts v trace) n → Holds (opening_of n (acts v trace)) (connected_seen (end_of v w) n) (tale_seen n (acts v trace)) =
      λ v h. seen_held (end_of v w) (acts v trace) n (shared_is (end_of v w) (acts v trace) n (k.ends v)) (pool_is (end_of v w) (acts v trace) n (k.ends v) (k.pools v)) h in
      record { own = seen_so x p.own; own_peer = seen_so (other x) p.own_peer; out = p.out; back = p.back };
}

pub seen_at : (past future trace : List (Entry Octets)) → Follows start trace → trace ≡ past ++ future → Seen past (state_after start past)
seen_at past future trace follows is = keeps_seen past (state_after start past) (onward [] past start unsaid (follows_split past future start (subst (Follows start) is follows)).0)

pub keeps_after : (trace : List (Entry Octets)) → Follows start trace → Keeps trace (state_after start trace)
keeps_after trace follows = onward [] trace start unsaid follows

pub seen_after : (trace : List (Entry Octets)) → Follows start trace → Seen trace (state_after start trace)
seen_after trace follows = keeps_seen trace (state_after start trace) (keeps_after trace follows)
