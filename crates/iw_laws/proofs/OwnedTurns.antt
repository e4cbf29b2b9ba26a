-- So does what comes: what is handed back, the peer's start-up frame, the user's answer, and frames that have their turn.
use Rattle.std.proofs.Common.{◌≡◌, ℕ, take, ◌+◌, ◌-◌, ◌<◌, ◌≤◌, List, [], ◌∷◌, ◌++◌, length, drop, Option, Some, None, Bool, true, false, cond, refl, sym, ap, ◌∙◌, subst, arith, inl, inr, ◌⊎◌, Ok, Err}
use Rattle.std.specs.Prelude.{nat_lt, nat_eq, is_some, ◌&&◌}
use Rattle.std.proofs.lemmas.List.{append-nil}
use Rattle.std.proofs.lemmas.Option.{none-some}
use Rattle.std.proofs.lemmas.Bool.Decides.{nat_tests}
use Rattle.std.proofs.lemmas.Bool.{true≢false, false≢true}
use Rattle.iw_octets.specs.declared.head.TaggedHead.{TaggedHead}
use Rattle.iw_octets.specs.declared.stag.Stag.{Stag}
use Rattle.iw_fpdu.specs.Sequence.{Carried}
use Rattle.iw_queues.specs.declared.request.Request.TheVariants.{Read}
use Rattle.iw_queues.specs.declared.request.Kind.TheVariants as kinds
use Rattle.iw_queues.specs.Completions as completions
use Rattle.iw_queues.specs.Request.{payload}
use Rattle.iw_reads.specs.declared.reads.Outstanding.{Outstanding}
use Rattle.iw_reads.specs.declared.requests.Asked.{Asked}
use Rattle.iw_reads.specs.Outstanding.{reads_turned, finished_read}
use Rattle.iw_reads.specs.Requests.{Requested, taken_up}
use Rattle.iw_reads.specs.Requests.{oldest_headers}
use Rattle.iw_reads.specs.Requests as requests
use Rattle.iw_stream.specs.Frames.{placed as placed_of}
use Rattle.iw_stream.specs.Judging.{is_response, left_by_turn}
use Rattle.std.specs.Option.{option_map_or}
use Rattle.std.specs.Prelude.{not}
use Rattle.std.proofs.lemmas.Option.{same_Some}
use Rattle.std.proofs.lemmas.List.{length-set}
use Rattle.iw_laws.specs.Turns.{Answer, Story, story_after, is_silent, asked_in, next_reads, next_asked, terminate_next, was_placed}
use Rattle.iw_laws.specs.Merged.{Item, Response}
use Rattle.iw_laws.specs.Rules.{FitsPosted}
use Rattle.iw_laws.proofs.Merges.{Merges, BeginsResponse, asked_or, with_left}
use Rattle.iw_laws.proofs.Ready.{ready_in, ReadsAre, Apart, Leads, same_reads_are}
use Rattle.iw_octets.specs.declared.segment.Segment.{Segment}
use Rattle.iw_octets.specs.declared.segment.Segment.TheVariants.{Tagged, Untagged}
use Rattle.iw_memory.specs.Table.{Table}
use Rattle.iw_ranges.specs.declared.Delivery.TheVariants.{Kept, Dropped}
use Rattle.iw_ranges.proofs.InOrder.{floor_takes}
use Rattle.iw_queues.specs.declared.request.Kind.{Kind}
use Rattle.iw_queues.specs.declared.request.Request.{Request}
use Rattle.iw_queues.specs.declared.completions.Done.{Done}
use Rattle.iw_queues.specs.Queue.{Queue, done_in, handed_from, IsWithinLimits}
use Rattle.iw_queues.specs.Laws.{IsHandedOut}
use Rattle.iw_queues.proofs.Order.{keeps_order}
use Rattle.iw_queues.specs.Segments.{Numbers}
use Rattle.iw_queues.proofs.Limits.{limits_handed}
use Rattle.iw_stream.specs.declared.answer.SizeRefusal.TheVariants.{BadSize}
use Rattle.iw_startup.specs.declared.progress.Progress.{Progress}
use Rattle.iw_startup.specs.declared.progress.Progress.TheVariants as progresses
use Rattle.iw_startup.specs.declared.side.Side.TheVariants as sides
use Rattle.iw_startup.specs.declared.side.Reply.{Reply}
use Rattle.iw_startup.specs.State.{StartupState, IsReached, answered}
use Rattle.iw_startup.specs.State as startups
use Rattle.iw_startup.proofs.Reached.{frame_of-pushed}
use Rattle.iw_startup.proofs.Openings.{unanswered_not_agreed}
use Rattle.iw_stream.specs.Frames.{payload_of}
use Rattle.iw_stream.specs.Starting.{StartState, AtOnce, Unheard, Heard, is_open, own_frame, first_place_in, is_responder, awaits_frame, heard}
use Rattle.iw_stream.specs.Stream.{StreamState, ended, size_refusal, due, keeps_silent, place_of, left_out}
use Rattle.iw_stream.specs.declared.ending.Ending.TheVariants.{Over, Broken}
use Rattle.iw_stream.specs.Ending.{last_word, with_last_word}
use Rattle.iw_laws.specs.Turns as turns
use Rattle.iw_stream.specs.Terminating.{is_request_of, terminate_alone, terminate_judged, terminate_turned, terminate_fetched}
use Rattle.iw_laws.specs.Sends.{count_reads}
use Rattle.iw_octets.specs.declared.fault.Fault.{Fault}
use Rattle.iw_stream.specs.Work.{inbox, waiting}
use Rattle.iw_events.specs.declared.act.StreamAct.{StreamAct}
use Rattle.iw_events.specs.declared.act.StreamAct.TheVariants.{Recv, Post, Emit, First, Deliver, Raw, Mulpdu, Accept, Reject, Work, Break}
use Rattle.iw_events.specs.declared.act.Shown.TheVariants.{Frame, Fetched, Fault as Denied, Nothing}
use Rattle.iw_events.specs.declared.act.Seen.TheVariants as seen
use Rattle.iw_laws.specs.Words.{Octets, deed, posted_by, handed_by, size_after, ended_after, sent_by, private_data}
use Rattle.iw_laws.specs.Words.{OnSome}
use Rattle.iw_laws.proofs.Nexts.{Front, fore, segment_at, standing}
use Rattle.iw_laws.proofs.Rooms.{wants_open, heard_open}
use Rattle.iw_laws.proofs.Told.{Told, Hears, HearsMismatch, Judged, Turned, GivesUp, fault_front, fault_for, hears_due, faults_open, after_act, told, asked_front, reads_front, finishes_read, with_finished}
use Rattle.iw_laws.proofs.Tales.{Tale, tale_after}
use Rattle.iw_laws.proofs.Tracks.{fault_heard, told_open, OnStart, Track, by_ended, silent_is, next_whole, next_none, next_reads_are, was_placed_is, tracking, MayAnswer, may, accepting, refusing, unanswered}
use Rattle.iw_laws.proofs.Lists.{Each}
use Rattle.iw_laws.proofs.Counts.{Counts, Handing, handing_of, same_handing, one_handed, same_counts, handed_counts, answered_counts, hands}
use Rattle.iw_laws.proofs.Sending.{emits_as, terminate_few}
use Rattle.iw_laws.proofs.Owned.{IsFramed, Asks, Parts, IsLive, Emits, out_of, shown_ended, StillSilent, stays_said, same_asks, same_merges, sent_merges, StaysQuiet, stays, StaysApart, same_parts, quiet_parts, fault_parts, same_most, nothing_more, quiet, restarts, restart_parts, loud_parts, lives, posts}
use Rattle.iw_laws.proofs.OwnedFrames.{frame_sent, sends_response}

-- the oldest message is handed back, finished or given up
hands_back : (s : StreamState) (t : Tale) (kind : Kind) (d : Done) (act : StreamAct Octets) → kind ≡ d.kind → posted_by act ≡ [] → handed_by act ≡ kind ∷ [] → size_after t.size act ≡ t.size → sent_by act ≡ [] → story_after t.story act ≡ t.story
    → (e : Emits s t) → (kept : Queue) (before : List Kind) → (ended s ≡ false → IsLive (record s { queue = handed_from s.queue (Some d) }) (tale_after t act) kept before)
    → Merges (with_left e.left kept) s.numbers s.asked.unanswered t.story.begun (ready_in s.start ++ t.posted) t.story.answers e.segments → IsWithinLimits kept → (n : Counts kept t.story.whole t.posted before e.done e.asking)
    → Handing (handed_from s.queue (Some d)) n.first (t.posted ++ []) (t.handed ++ d.kind ∷ []) e.done → Emits (record s { queue = handed_from s.queue (Some d) }) (tale_after t act)
hands_back s t kind d act kind_is posted handed size sent story e kept before live merges limits counts handing =
    let s' : StreamState = record s { queue = handed_from s.queue (Some d) } in
    let same : t.posted ++ posted_by act ≡ t.posted = ap (λ z. t.posted ++ z) posted ∙ append-nil t.posted in
    subst (λ z. Emits s' (record (tale_after t act) { story = z })) (sym story)
    (record {
      segments = e.segments;
      kept = kept;
      before = before;
      left = e.left;
      done = e.done;
      asking = e.asking;
      live = λ h. let l = live h in record { queue = l.queue; handed = l.handed };
      merges = same_merges refl refl refl refl (ap (λ z. ready_in s.start ++ z) same) refl merges;
      spoken = e.spoken;
      asks = record { reads = e.asks.reads; asked = e.asks.asked; fetched = e.asks.fetched; begun = e.asks.begun; few = e.asks.few };
      good = e.good;
      framed = subst (λ z. IsFramed s.start z (out_of s t e)) (sym (ap (λ z. t.sent ++ z) sent ∙ append-nil t.sent)) e.framed;
      parts = same_parts s s' t.story t.story e.segments (record { ending = refl; told = refl; farewell = refl }) e.parts (λ h. h) (λ h. h);
      limits = limits;
      fit = subst (Each FitsPosted) (sym same) e.fit;
      numbers = e.numbers;
      size = e.size ∙ sym size;
      enough = e.enough;
      few = e.few;
      counts = same_counts refl same refl refl refl counts;
      handing = same_handing refl (same ∙ sym (append-nil t.posted)) (ap (λ z. t.handed ++ z) (handed ∙ ap (λ z. z ∷ []) kind_is)) refl handing;
      reads = e.reads;
      whole = e.whole;
    })

-- of a stream that has ended
hands_over : (s : StreamState) (t : Tale) (kind : Kind) (d : Done) (act : StreamAct Octets) → IsHandedOut s.queue d → kind ≡ d.kind → posted_by act ≡ [] → handed_by act ≡ kind ∷ [] → size_after t.size act ≡ t.size → sent_by act ≡ [] → story_after t.story act ≡ t.story
    → ended s ≡ true → Emits s t → Emits (record s { queue = handed_from s.queue (Some d) }) (tale_after t act)
hands_over s t kind d act out kind_is posted handed size sent story over e =
    hands_back s t kind d act kind_is posted handed size sent story e e.kept e.before (λ h. absurd (true≢false (sym over ∙ h))) e.merges e.limits e.counts (one_handed s.queue e.counts.first t.posted t.handed e.done d out e.handing)

-- a finished message is handed out
hands_out : (s : StreamState) (t : Tale) (kind : Kind) (d : Done) → done_in s.queue ≡ Some d → kind ≡ d.kind → Emits s t → Emits (after_act s (Work (seen.Done kind))) (tale_after t (Work (seen.Done kind)))
hands_out s t kind d finished kind_is e =
    subst (λ z. Emits (record s { queue = handed_from s.queue z }) (tale_after t (Work (seen.Done kind)))) (sym finished) (go (ended s) refl)
  where
    out : IsHandedOut s.queue d
    out = keeps_order.done s.queue d finished

    go : (over : Bool) → ended s ≡ over → Emits (record s { queue = handed_from s.queue (Some d) }) (tale_after t (Work (seen.Done kind)))
    go true over = hands_over s t kind d (Work (seen.Done kind)) out kind_is refl refl refl refl refl over e
    go false running =
        let l = lives s t e running in
        let h = hands s.queue d finished in
        let counts : Counts (handed_from s.queue (Some d)) t.story.whole (t.posted ++ []) (t.handed ++ d.kind ∷ []) e.done e.asking =
        subst (λ z. Counts (handed_from s.queue z) t.story.whole (t.posted ++ []) (t.handed ++ d.kind ∷ []) e.done e.asking) finished (handed_counts s.queue t.story.whole t.posted t.handed e.done e.asking d finished l.counts) in
        hands_back s t kind d (Work (seen.Done kind)) kind_is refl refl refl refl refl e (handed_from s.queue (Some d)) (t.handed ++ d.kind ∷ [])
        (λ z. record { queue = refl; handed = ap (λ k. t.handed ++ k ∷ []) kind_is })
        (same_merges (ap (with_left e.left) h.left) refl refl refl refl refl (sent_merges l.merges))
        (subst (λ z. IsWithinLimits (handed_from s.queue z)) finished (limits_handed s.queue l.limits))
        (same_counts refl (sym (append-nil t.posted)) refl refl refl counts) (handing_of counts)

-- one that is not finished is given up
gives_up : (s : StreamState) (t : Tale) (kind : Kind) → GivesUp s kind → Emits s t → Emits (after_act s (Work (seen.Flushed kind))) (tale_after t (Work (seen.Flushed kind)))
gives_up s t kind g e =
    subst (λ z. Emits (record s { queue = handed_from s.queue z }) (tale_after t (Work (seen.Flushed kind)))) (sym g.is)
    (hands_over s t kind g.oldest (Work (seen.Flushed kind)) (keeps_order.given_up s.queue g.oldest g.is) g.kind_is refl refl refl refl refl g.over e)

-- a size that is set is within its limits
record IsSize (size : ℕ) : Type 0 where
  pub enough : 128 ≤ size
  pub few : size ≤ 64512

set_size : (size : ℕ) → None ≡ size_refusal size → IsSize size
set_size size e = go (nat_lt size 128) (nat_lt 64512 size) refl refl e
  where
    go : (small large : Bool) → nat_lt size 128 ≡ small → nat_lt 64512 size ≡ large → None ≡ cond small (Some BadSize) (cond large (Some BadSize) None) → IsSize size
    go true large a b h = absurd (none-some _ h)
    go false true a b h = absurd (none-some _ h)
    go false false a b h = record { enough = grind (arith, nat_tests); few = grind (arith, nat_tests) }

sets_size : (s : StreamState) (t : Tale) (size : ℕ) → None ≡ size_refusal size → Emits s t → Emits (after_act s (Mulpdu size None)) (tale_after t (Mulpdu size None))
sets_size s t size rule e =
    let z = set_size size rule in
    let s' : StreamState = after_act s (Mulpdu size None) in
    record {
      segments = e.segments;
      kept = e.kept;
      before = e.before;
      left = e.left;
      done = e.done;
      asking = e.asking;
      live = λ h. let l = e.live h in record { queue = l.queue; handed = append-nil t.handed ∙ l.handed };
      merges = same_merges refl refl refl refl (ap (λ z. ready_in s.start ++ z) (append-nil t.posted)) refl e.merges;
      spoken = e.spoken;
      asks = same_asks s s' t.story t.story refl refl (stays_said t.story) e.asks.few e.asks;
      good = e.good;
      framed = subst (λ z. IsFramed s.start z (out_of s t e)) (sym (append-nil t.sent)) e.framed;
      parts = same_parts s s' t.story t.story e.segments (record { ending = refl; told = refl; farewell = refl }) e.parts (λ h. h) (λ h. h);
      limits = e.limits;
      fit = subst (Each FitsPosted) (sym (append-nil t.posted)) e.fit;
      numbers = e.numbers;
      size = refl;
      enough = z.enough;
      few = z.few;
      counts = same_counts refl (append-nil t.posted) refl refl refl e.counts;
      handing = same_handing refl (append-nil t.posted) (append-nil t.handed) refl e.handing;
      reads = e.reads;
      whole = e.whole;
    }

-- ---- start-up

own_heard : (start : StartState) (xs : Octets) → OnStart IsReached start → own_frame (heard start xs) ≡ own_frame start
own_heard (AtOnce layout) xs r = refl
own_heard (Unheard u) xs r = frame_of-pushed u xs r
own_heard (Heard u) xs r = refl

-- the peer's start-up frame is read
hears_frame : (s s' : StreamState) (t : Tale) (act : StreamAct Octets) (p : Progress) → OnStart IsReached s.start → Hears s p → s'.start ≡ heard s.start (inbox s) → StaysQuiet s s' t act → (e : Emits s t) → Parts s' (story_after t.story act) e.segments → Emits s' (tale_after t act)
hears_frame s s' t act p reached h start q e parts = restarts s s' t act (ap is_open h.is) q (inl (ap own_frame start ∙ own_heard s.start (inbox s) reached)) e parts

-- and the start-up goes on
hears_on : (s s' : StreamState) (t : Tale) (act : StreamAct Octets) (p : Progress) → OnStart IsReached s.start → Hears s p → s'.start ≡ heard s.start (inbox s) → StaysQuiet s s' t act → StaysApart s s' t.story (story_after t.story act) → Emits s t → Emits s' (tale_after t act)
hears_on s s' t act p reached h start q apart e = hears_frame s s' t act p reached h start q e (restart_parts s s' t.story (story_after t.story act) e.segments (ap is_open h.is) apart e.parts)

-- or the stream ends
hears_end : (s s' : StreamState) (t : Tale) (act : StreamAct Octets) (p : Progress) → OnStart IsReached s.start → Hears s p → s'.start ≡ heard s.start (inbox s) → StaysQuiet s s' t act → s'.ending ≡ Over None → (story_after t.story act).ending ≡ Over None → Emits s t → Emits s' (tale_after t act)
hears_end s s' t act p reached h start q ending told e =
    let none = (e.parts.shut (ap is_open h.is)).none in
    hears_frame s s' t act p reached h start q e (quiet_parts s s' t.story (story_after t.story act) e.segments (Over None) ending told refl refl q.farewell e.parts (λ z. none) (λ z. none))

side_frame : (u : StartupState) → u.side ≡ sides.Responder None → startups.frame_of u ≡ []
side_frame u e = ap (λ side. startups.own_frame u.config side u.octets) e

pub unanswered_shut : (s : StreamState) → MayAnswer s → is_open s.start ≡ false
unanswered_shut s m = ap is_open m.is ∙ ap is_some (unanswered_not_agreed m.startup (unanswered m.startup m.asked))

-- a responder's user answers: it had no frame before
answers_frame : (s s' : StreamState) (t : Tale) (act : StreamAct Octets) → MayAnswer s → StaysQuiet s s' t act → (e : Emits s t) → Parts s' (story_after t.story act) e.segments → Emits s' (tale_after t act)
answers_frame s s' t act m q e parts =
    let u : StartupState = m.startup in
    restarts s s' t act (unanswered_shut s m) q (inr (ap own_frame m.is ∙ side_frame u (unanswered u m.asked))) e parts

-- by accepting, or by rejecting, by which the stream ends
accepts_frame : (s s' : StreamState) (t : Tale) (act : StreamAct Octets) → MayAnswer s → StaysQuiet s s' t act → StaysApart s s' t.story (story_after t.story act) → Emits s t → Emits s' (tale_after t act)
accepts_frame s s' t act m q apart e = answers_frame s s' t act m q e (restart_parts s s' t.story (story_after t.story act) e.segments (unanswered_shut s m) apart e.parts)

rejects_frame : (s s' : StreamState) (t : Tale) (act : StreamAct Octets) → MayAnswer s → StaysQuiet s s' t act → s'.ending ≡ Over None → (story_after t.story act).ending ≡ Over None → Emits s t → Emits s' (tale_after t act)
rejects_frame s s' t act m q ending told e =
    let none = (e.parts.shut (unanswered_shut s m)).none in
    answers_frame s s' t act m q e (quiet_parts s s' t.story (story_after t.story act) e.segments (Over None) ending told refl refl q.farewell e.parts (λ z. none) (λ z. none))

-- a Reply that wants what this end does not have ends the stream, and a Terminate is due
hears_fault : (s s' : StreamState) (t : Tale) (act : StreamAct Octets) (fault : Fault) → OnStart IsReached s.start → HearsMismatch s fault → s'.start ≡ heard s.start (inbox s) → StaysQuiet s s' t act
    → s'.ending ≡ with_last_word (terminate_alone fault) → (story_after t.story act).ending ≡ with_last_word (terminate_alone fault) → Emits s t → Emits s' (tale_after t act)
hears_fault s s' t act fault reached h start q ending told e =
    let wants = wants_open (heard s.start (inbox s)) h.mismatch h.is in
    hears_frame s s' t act progresses.Agreed reached h.hears_it start q e
    (record {
      ending = told ∙ sym ending;
      once = elim e.parts.once [ inl none ↦ inl (q.farewell ∙ none) | inr o ↦ absurd (true≢false (sym o.over ∙ h.hears_it.running)) ];
      short = λ payload due. subst (λ (z : Octets). length z ≤ 52) (same_Some _ _ (ap last_word (sym ending) ∙ due)) (terminate_few fault [] 0 false);
      shut = λ closed. absurd (true≢false (sym wants.0 ∙ ap is_open (sym start) ∙ closed));
      silent = λ mute. absurd (false≢true (sym (ap (λ z. is_responder z && nat_eq s'.arrived.floor (first_place_in z)) start ∙ ap (λ b. b && nat_eq s'.arrived.floor (first_place_in (heard s.start (inbox s)))) wants.1) ∙ mute));
    })

-- behind a frame that had its turn a stream may speak
late : (b : Bool) (n : ℕ) → (b && nat_eq (n + 1) 0) ≡ false
late true n = grind (arith, nat_tests)
late false n = refl

loud : (table : Table) (s : StreamState) (t : Tale) (act : StreamAct Octets) → Told table s act → t.story.reads ≡ s.reads → OnSome (λ c. t.story.first ≡ s.first) (deed act).coming → Track s t → (tale_after t act).story.turns ≡ t.story.turns + 1 → keeps_silent (after_act s act) ≡ false
loud table s t act rule same first k turns =
    let t' : Tale = tale_after t act in
    silent_is (after_act s act) t' (tracking table s t act rule same first k) ∙ ap (λ n. is_responder t'.story.start && nat_eq n 0) turns ∙ late (is_responder t'.story.start) t.story.turns

-- the stream ends, and no Terminate is due: it may speak, or its link broke
ends_loud : (s s' : StreamState) (t : Tale) (act : StreamAct Octets) → s'.start ≡ s.start → StaysQuiet s s' t act → s'.ending ≡ Over None → (story_after t.story act).ending ≡ Over None → is_open s.start ≡ true → keeps_silent s' ≡ false → Emits s t → Emits s' (tale_after t act)
ends_loud s s' t act start q ending told started loud e =
    stays s s' t act q (ap ready_in start) (same_most s s' t start e) e (nothing_more s s' t act start q.sent e)
    (quiet_parts s s' t.story (story_after t.story act) e.segments (Over None) ending told refl refl q.farewell e.parts (λ h. absurd (true≢false (sym started ∙ ap is_open (sym start) ∙ h))) (λ h. absurd (false≢true (sym loud ∙ h))))

ends_broken : (s s' : StreamState) (t : Tale) (act : StreamAct Octets) → s'.start ≡ s.start → StaysQuiet s s' t act → s'.ending ≡ Broken → (story_after t.story act).ending ≡ Broken → StillSilent s s' → Emits s t → Emits s' (tale_after t act)
ends_broken s s' t act start q ending told silent e =
    stays s s' t act q (ap ready_in start) (same_most s s' t start e) e (nothing_more s s' t act start q.sent e)
    (quiet_parts s s' t.story (story_after t.story act) e.segments Broken ending told refl refl q.farewell e.parts (λ h. (e.parts.shut (ap is_open (sym start) ∙ h)).none) (λ h. (e.parts.silent (silent h)).none))

-- it ends by a fault: this Terminate is due
ends_fault : (s s' : StreamState) (t : Tale) (act : StreamAct Octets) (payload said : Octets) → Track s t → s'.start ≡ s.start → StaysQuiet s s' t act → ended s ≡ false → is_open s.start ≡ true → StillSilent s s'
    → s'.ending ≡ cond (keeps_silent s) (Over None) (with_last_word payload) → (story_after t.story act).ending ≡ cond (is_silent t.story) (Over None) (with_last_word said) → said ≡ payload → length payload ≤ 52 → Emits s t → Emits s' (tale_after t act)
ends_fault s s' t act payload said k start q running started silent ending told same few e =
    stays s s' t act q (ap ready_in start) (same_most s s' t start e) e (nothing_more s s' t act start q.sent e)
    (fault_parts s s' t.story (story_after t.story act) e.segments payload said running started start silent ending told (sym (silent_is s t k)) same few q.farewell e.parts)

-- the Terminate for a fault of the frame at the in-order point
terminate_is : (s : StreamState) (t : Tale) (fault : Fault) → Track s t → t.story.asked ≡ s.asked → terminate_next t.story fault ≡ fault_front s fault
terminate_is s t fault k asked = go (fore s) refl
  where
    go : (o : Front) → fore s ≡ o
        → terminate_next t.story fault ≡ option_map_or (λ (x : Carried × Octets). cond (is_some (waiting s)) (terminate_turned (placed_of (standing s x.0)) fault) (terminate_judged s.asked (standing s x.0) fault)) o []
    go None is = ap (λ z. option_map_or (λ f. cond (was_placed t.story) (terminate_turned (placed_of f) fault) (terminate_judged t.story.asked f fault)) z []) (next_none s t k is)
    go (Some (frame, rest)) is =
        ap (λ z. option_map_or (λ f. cond (was_placed t.story) (terminate_turned (placed_of f) fault) (terminate_judged t.story.asked f fault)) z []) (next_whole s t frame rest k is)
        ∙ (λ i. cond (was_placed_is s t k i) (terminate_turned (placed_of (standing s frame)) fault) (terminate_judged (asked i) (standing s frame) fault))

front_few : (s : StreamState) (fault : Fault) → length (fault_front s fault) ≤ 52
front_few s fault = go (fore s)
  where
    by : (b : Bool) (x y : Octets) → length x ≤ 52 → length y ≤ 52 → length (cond b x y) ≤ 52
    by true x y h k = h
    by false x y h k = k

    go : (o : Front) → length (option_map_or (λ (x : Carried × Octets). cond (is_some (waiting s)) (terminate_turned (placed_of (standing s x.0)) fault) (terminate_judged s.asked (standing s x.0) fault)) o []) ≤ 52
    go None = omega arith
    go (Some (frame, rest)) =
        by (is_some (waiting s)) (terminate_turned (placed_of (standing s frame)) fault) (terminate_judged s.asked (standing s frame) fault)
        (terminate_few fault (placed_of (standing s frame)).header.items (placed_of (standing s frame)).len false)
        (terminate_few fault (take 46 (standing s frame).ulpdu) (length (standing s frame).ulpdu) (is_request_of s.asked (standing s frame).ulpdu))

-- a stream that is found to have a fault runs, and is open
pub record IsRunningOpen (s : StreamState) : Type 0 where
  pub running : ended s ≡ false
  pub started : is_open s.start ≡ true

pub fault_runs : (table : Table) (s : StreamState) (fault : Fault) → Judged table s (seen.Fault fault) ⊎ Turned table s (seen.Fault fault) → IsRunningOpen s
fault_runs table s fault (inl j) = record { running = j.runs.running; started = j.runs.started }
fault_runs table s fault (inr j) = record { running = j.runs.running; started = j.runs.started }

-- octets that come leave it where it is
waits : (s : StreamState) (number : ℕ) (octets : Octets) → keeps_silent (after_act s (Raw number octets Kept)) ≡ true → keeps_silent s ≡ true
waits s number octets h = ap (λ n. is_responder s.start && nat_eq n (first_place_in s.start)) (sym (floor_takes s.arrived (place_of s number) (drop (left_out s number) octets))) ∙ h

-- ---- turns

-- a Read is finished by the last segment of its response, and no other is
pub record Turns_reads (q : Queue) (reads left : List Outstanding) (ticket : Option ℕ) (us : ℕ) (ms : List (Request Octets)) (ks : List Kind) (a : ℕ) : Type 0 where
  pub counts : Counts (with_finished q ticket) us (ms ++ []) (ks ++ []) (a + (length reads - length left)) left
  pub few : length left ≤ length reads

turning_reads : (q : Queue) (reads : List Outstanding) (n : ℕ) (o : Option (Segment Octets)) (us : ℕ) (ms : List (Request Octets)) (ks : List Kind) (a : ℕ) → length q.sent.messages ≤ 256 → Counts q us ms ks a reads
    → Turns_reads q reads (left_by_turn reads n o) (finishes_read reads o) us ms ks a
turning_reads q reads n o us ms ks a few counts = go o
  where
    none : Turns_reads q reads reads None us ms ks a
    none = record { counts = same_counts refl (append-nil ms) (append-nil ks) (omega arith) refl counts; few = omega arith }

    last : (head : TaggedHead) (rs : List Outstanding) → reads ≡ rs → (b : Bool) → head.last ≡ b → Turns_reads q reads (reads_turned rs head n) (finished_read rs head) us ms ks a
    last head [] is b l = subst (λ z. Turns_reads q reads z None us ms ks a) is none
    last head (read ∷ rs) is true l =
        let all : Counts q us ms ks a (read ∷ rs) = same_counts refl refl refl refl (sym is) counts in
        let w = answered_counts q us ms ks a read rs few all in
        subst (λ b. Turns_reads q reads (cond b rs (record read { turned = read.turned + n } ∷ rs)) (cond b read.ticket None) us ms ks a) (sym l)
        (subst (λ o. Turns_reads q reads rs o us ms ks a) (sym w.1) (record {
          counts = same_counts refl refl refl (omega (arith, ap length is)) refl w.2;
          few = omega (arith, ap length is);
        }))
    last head (read ∷ rs) is false l =
        let all : Counts q us ms ks a (read ∷ rs) = same_counts refl refl refl refl (sym is) counts in
        subst (λ b. Turns_reads q reads (cond b rs (record read { turned = read.turned + n } ∷ rs)) (cond b read.ticket None) us ms ks a) (sym l)
        (record {
          counts = same_counts refl (append-nil ms) (append-nil ks) (omega (arith, ap length is)) refl
              (record { order = all.order; first = all.first; split = all.split; lasts = all.lasts; counted = all.counted; oldest = all.oldest; marked = all.marked; some = all.some; done = all.done; tickets = all.tickets });
          few = omega (arith, ap length is);
        })

    by : (head : TaggedHead) (b : Bool) → Turns_reads q reads (cond b (reads_turned reads head n) reads) (cond b (finished_read reads head) None) us ms ks a
    by head true = last head reads refl head.last refl
    by head false = none

    go : (o : Option (Segment Octets)) → Turns_reads q reads (left_by_turn reads n o) (finishes_read reads o) us ms ks a
    go None = none
    go (Some (Tagged head payload)) = by head (is_response head)
    go (Some (Untagged head payload)) = none

-- and with the RTR among them
pub record TurnsAll (q : Queue) (reads left : List Outstanding) (ticket : Option ℕ) (us : ℕ) (ms : List (Request Octets)) (ks : List Kind) (ready unsent : List (Request Octets)) (answered : ℕ) : Type 0 where
  pub done : ℕ
  pub asking : List Outstanding
  pub counts : Counts (with_finished q ticket) us (ms ++ []) (ks ++ []) done asking
  pub are : ReadsAre ready unsent left asking (answered + (length reads - length left)) done
  pub few : length left ≤ length reads

turning_all : (q : Queue) (reads : List Outstanding) (n : ℕ) (o : Option (Segment Octets)) (us : ℕ) (ms : List (Request Octets)) (ks : List Kind) (a : ℕ) (asking : List Outstanding) (ready unsent : List (Request Octets)) (answered : ℕ) → length q.sent.messages ≤ 256
    → Counts q us ms ks a asking → ReadsAre ready unsent reads asking answered a → TurnsAll q reads (left_by_turn reads n o) (finishes_read reads o) us ms ks ready unsent answered
turning_all q reads n o us ms ks a asking ready unsent answered few counts (Apart same sum) =
    let turn = turning_reads q reads n o us ms ks a few (same_counts refl refl refl refl same counts) in
    record { done = a + (length reads - length (left_by_turn reads n o)); asking = left_by_turn reads n o; counts = turn.counts; are = Apart refl (omega (arith, sum)); few = turn.few }
turning_all q reads n o us ms ks a asking ready unsent answered few counts (Leads rtr none is zero_answered zero_done gone one) =
    subst (λ z. TurnsAll q z (left_by_turn z n o) (finishes_read z o) us ms ks ready unsent answered) (sym is) (go o)
  where
    stay : Counts q us (ms ++ []) (ks ++ []) a asking
    stay = same_counts refl (append-nil ms) (append-nil ks) refl refl counts

    still : (rtr' : Outstanding) → rtr'.ticket ≡ None → TurnsAll q (rtr ∷ asking) (rtr' ∷ asking) None us ms ks ready unsent answered
    still rtr' none' = record { done = a; asking = asking; counts = stay; are = Leads rtr' none' refl (omega (arith, zero_answered)) zero_done gone one; few = omega arith }

    last : (head : TaggedHead) (b : Bool) → TurnsAll q (rtr ∷ asking) (cond b asking (record rtr { turned = rtr.turned + n } ∷ asking)) (cond b rtr.ticket None) us ms ks ready unsent answered
    last head true =
        subst (λ z. TurnsAll q (rtr ∷ asking) asking z us ms ks ready unsent answered) (sym none)
        (record { done = a; asking = asking; counts = stay; are = Apart refl (omega (arith, zero_answered, zero_done, one, ap count_reads gone)); few = omega arith })
    last head false = still (record rtr { turned = rtr.turned + n }) none

    by : (head : TaggedHead) (b : Bool) → TurnsAll q (rtr ∷ asking) (cond b (reads_turned (rtr ∷ asking) head n) (rtr ∷ asking)) (cond b (finished_read (rtr ∷ asking) head) None) us ms ks ready unsent answered
    by head true = last head head.last
    by head false = still rtr none

    go : (o : Option (Segment Octets)) → TurnsAll q (rtr ∷ asking) (left_by_turn (rtr ∷ asking) n o) (finishes_read (rtr ∷ asking) o) us ms ks ready unsent answered
    go None = still rtr none
    go (Some (Tagged head payload)) = by head (is_response head)
    go (Some (Untagged head payload)) = still rtr none

finished_merges : {q : Queue} {n : Numbers} {w : List Asked} {b : Octets} {ms : List (Request Octets)} {an : List Answer} {us : List (Segment Octets)} (o : Option ℕ) → Merges q n w b ms an us → Merges (with_finished q o) n w b ms an us
finished_merges None k = k
finished_merges (Some ticket) k = sent_merges k

finished_left : (left : List (Request Octets)) (q : Queue) (o : Option ℕ) → with_left left (with_finished q o) ≡ with_finished (with_left left q) o
finished_left left q None = refl
finished_left left q (Some ticket) = refl

finished_limits : (q : Queue) (o : Option ℕ) → IsWithinLimits q → IsWithinLimits (with_finished q o)
finished_limits q None l = l
finished_limits q (Some ticket) l = record { posted = omega (arith, l.posted, length-set q.sent.messages (completions.place_of q.sent ticket) (record { kind = kinds.Read; finished = true })); sizes = l.sizes; begun = l.begun }

finished_unsent : (q : Queue) (o : Option ℕ) → (with_finished q o).unsent ≡ q.unsent
finished_unsent q None = refl
finished_unsent q (Some ticket) = refl

-- a frame has its turn
passes : (table : Table) (s : StreamState) (t : Tale) → Told table s (Work seen.Passed) → Track s t → keeps_silent (after_act s (Work seen.Passed)) ≡ false → Emits s t → Emits (after_act s (Work seen.Passed)) (tale_after t (Work seen.Passed))
passes table s t rule k loud e =
    let w = rule.1 in
    let s' : StreamState = after_act s (Work seen.Passed) in
    let t' : Tale = tale_after t (Work seen.Passed) in
    let l = lives s t e w.fronts.running in
    let o : Option (Segment Octets) = segment_at (fore s) in
    let reads : next_reads t.story ≡ reads_front s = next_reads_are s t true w.segment w.fronts k e.asks.reads in
    let turn = turning_all s.queue s.reads (length (payload_of o)) o t.story.whole t.posted t.handed e.done e.asking (ready_in s.start) e.left t.story.answered (omega (arith, l.limits.posted)) l.counts e.reads in
    let answered : t.story.answered + (length t.story.reads - length (next_reads t.story)) ≡ t.story.answered + (length s.reads - length (reads_front s)) =
    (λ i. t.story.answered + (length (e.asks.reads i) - length (reads i))) in
    let counts : Counts s'.queue t'.story.whole t'.posted t'.handed turn.done turn.asking = turn.counts in
    record {
      segments = e.segments;
      kept = s'.queue;
      before = t'.handed;
      left = e.left;
      done = turn.done;
      asking = turn.asking;
      live = λ h. record { queue = refl; handed = refl };
      merges = same_merges (finished_left e.left s.queue (finishes_read s.reads o)) refl refl refl (ap (λ z. ready_in s.start ++ z) (append-nil t.posted)) refl (finished_merges (finishes_read s.reads o) l.merges);
      spoken = e.spoken;
      asks = record {
        reads = reads;
        asked = e.asks.asked;
        fetched = e.asks.fetched;
        begun = e.asks.begun;
        few = omega (arith, turn.few, e.asks.few);
      };
      good = e.good;
      framed = subst (λ z. IsFramed s.start z (out_of s t e)) (sym (append-nil t.sent)) e.framed;
      parts = loud_parts s s' t.story t'.story e.segments e.segments w.fronts.started loud (record { ending = refl; told = refl; farewell = refl }) e.parts;
      limits = finished_limits s.queue (finishes_read s.reads o) l.limits;
      fit = subst (Each FitsPosted) (sym (append-nil t.posted)) e.fit;
      numbers = e.numbers;
      size = e.size;
      enough = e.enough;
      few = e.few;
      counts = counts;
      handing = handing_of counts;
      reads = same_reads_are refl refl answered turn.are;
      whole = e.whole;
    }

-- a Read Request is taken up
merges_asked : (q : Queue) (s : StreamState) (t : Tale) (asked : Asked) (ms : List (Request Octets)) (us : List (Segment Octets)) → Asks s t.story → Merges q s.numbers s.asked.unanswered t.story.begun ms t.story.answers us
    → Merges q s.numbers (s.asked.unanswered ++ asked ∷ []) t.story.begun ms t.story.answers us
merges_asked q s t asked ms us asks m = record {
  items = m.items;
  posts = m.posts;
  are = m.are;
  apart = m.apart;
  fresh = λ none. let f = m.fresh none in record { numbers_are = f.numbers_are; offset = f.offset; none = f.none };
  done = m.done;
  partial = m.partial;
  segments_are = m.segments_are;
  spelled = m.spelled;
  goes_on = λ rest ss g more. m.goes_on rest ss (record { post = g.post; response = λ some. go s.asked.unanswered refl some (g.response some) }) more;
}
  where
    go : {rest : List Item} (waiting : List Asked) → s.asked.unanswered ≡ waiting → 0 < length t.story.begun → BeginsResponse (s.asked.unanswered ++ asked ∷ []) t.story.begun rest → BeginsResponse s.asked.unanswered t.story.begun rest
    go [] is some b = absurd (let none : s.asked.fetched ≡ 0 = subst (λ z. requests.IsBegun z s.asked.fetched) is asks.begun in omega (arith, none, some, asks.fetched))
    go (x ∷ xs) is some b =
        let same : x ≡ b.oldest = ap (asked_or x) (sym (ap (λ z. z ++ asked ∷ []) is) ∙ b.waiting_is) in
        record { oldest = x; others = xs; waiting_is = is; more = b.more; items = b.items; is = b.is ∙ ap (λ (z : Asked). Response (record { request = z.request; octets = t.story.begun ++ b.more }) ∷ b.items) (sym same) }

begun_more : (waiting : List Asked) (fetched : ℕ) (asked : Asked) → requests.IsBegun waiting fetched → requests.IsBegun (waiting ++ asked ∷ []) fetched
begun_more [] fetched asked h = λ some. absurd (omega (arith, h, some))
begun_more (x ∷ xs) fetched asked h = h

takes : (table : Table) (s : StreamState) (t : Tale) (size : ℕ) (stag : Stag) (to : ℕ) → Told table s (Work (seen.Requested size stag to)) → Track s t → keeps_silent (after_act s (Work (seen.Requested size stag to))) ≡ false → Emits s t
    → Emits (after_act s (Work (seen.Requested size stag to))) (tale_after t (Work (seen.Requested size stag to)))
takes table s t size stag to rule k loud e =
    let w = rule.1 in
    let x : Asked = asked_in (standing s w.fronts.frame) in
    let state : asked_front s ≡ taken_up s.asked x = ap (λ o. option_map_or (λ (z : Carried × Octets). taken_up s.asked (asked_in (standing s z.0))) o s.asked) w.fronts.whole in
    let story : next_asked t.story ≡ taken_up s.asked x =
    ap (λ z. option_map_or (λ f. taken_up t.story.asked (asked_in f)) z t.story.asked) (next_whole s t w.fronts.frame w.fronts.rest k w.fronts.whole) ∙ ap (λ z. taken_up z x) e.asks.asked in
    let s' : StreamState = after_act s (Work (seen.Requested size stag to)) in
    let t' : Tale = tale_after t (Work (seen.Requested size stag to)) in
    record {
      segments = e.segments;
      kept = e.kept;
      before = e.before;
      left = e.left;
      done = e.done;
      asking = e.asking;
      live = λ h. let l = e.live h in record { queue = l.queue; handed = append-nil t.handed ∙ l.handed };
      merges = same_merges refl refl (ap (λ (z : Requested). z.unanswered) state) refl (ap (λ z. ready_in s.start ++ z) (append-nil t.posted)) refl (merges_asked (with_left e.left e.kept) s t x (ready_in s.start ++ t.posted) e.segments e.asks e.merges);
      spoken = e.spoken;
      asks = record {
        reads = e.asks.reads;
        asked = story ∙ sym state;
        fetched = ap (λ (z : Requested). z.fetched) state ∙ e.asks.fetched;
        begun = subst (λ (z : Requested). requests.IsBegun z.unanswered z.fetched) (sym state) (begun_more s.asked.unanswered s.asked.fetched x e.asks.begun);
        few = e.asks.few;
      };
      good = e.good;
      framed = subst (λ z. IsFramed s.start z (out_of s t e)) (sym (append-nil t.sent)) e.framed;
      parts = loud_parts s s' t.story t'.story e.segments e.segments w.fronts.started loud (record { ending = refl; told = refl; farewell = refl }) e.parts;
      limits = e.limits;
      fit = subst (Each FitsPosted) (sym (append-nil t.posted)) e.fit;
      numbers = e.numbers;
      size = e.size;
      enough = e.enough;
      few = e.few;
      counts = same_counts refl (append-nil t.posted) refl refl refl e.counts;
      handing = same_handing refl (append-nil t.posted) (append-nil t.handed) refl e.handing;
      reads = e.reads;
      whole = e.whole;
    }

pub emitting : (table : Table) (s : StreamState) (t : Tale) (act : StreamAct Octets) → Told table s act → s.sent ≡ length t.sent → Track s t → Emits s t → Emits (after_act s act) (tale_after t act)
emitting table s t (Post m None) rule sent k e = posts table s t m rule e
emitting table s t (Emit (Frame from octets)) rule sent k e = frame_sent table s t from octets rule k.begins.start sent e
emitting table s t (Emit (Fetched from frame stag to octets)) rule sent k e = sends_response table s t from frame stag to octets (emits_as table s (Fetched from frame stag to octets) rule) k.begins.start sent e
emitting table s t (Emit (Denied fault)) rule sent k e =
    let p = emits_as table s (Denied fault) rule in
    ends_fault s (after_act s (Emit (Denied fault))) t (Emit (Denied fault)) (terminate_fetched s.asked fault) (terminate_fetched t.story.asked fault) k refl
    (record { queue = refl; numbers = refl; mulpdu = refl; reads = refl; asked = refl; posted = refl; handed = refl; size = refl; sent = refl; said = record { whole = refl; reads = refl; answered = refl; asked = refl; answers = refl; begun = refl }; running = λ h. absurd (true≢false (sym (by_ended s (terminate_fetched s.asked fault)) ∙ h)); farewell = refl })
    p.speaks.running p.speaks.started (λ h. h) refl refl (ap (λ z. terminate_fetched z fault) e.asks.asked) (terminate_few fault (oldest_headers s.asked) 46 true) e
emitting table s t (Work (seen.Fault fault)) (inl m) sent k e =
    let s' : StreamState = after_act s (Work (seen.Fault fault)) in
    let wants = wants_open (heard s.start (inbox s)) m.mismatch m.is in
    let awaits : awaits_frame s.start ≡ true = ap awaits_frame m.hears_it.is in
    let told : awaits_frame t.story.start ≡ true = ap awaits_frame k.begins.start ∙ awaits in
    let start : (turns.hears t.story).start ≡ heard s.start (inbox s) = (fault_heard s t fault m k).begins.start in
    hears_fault s s' t (Work (seen.Fault fault)) fault k.begins.reached m refl
    (record { queue = refl; numbers = refl; mulpdu = refl; reads = refl; asked = refl; posted = refl; handed = refl; size = refl; sent = refl; said = record { whole = refl; reads = refl; answered = refl; asked = refl; answers = refl; begun = refl }; running = λ h. absurd (true≢false (sym (by_ended (hears_due s) (fault_for s fault)) ∙ h)); farewell = refl })
    (λ i. cond (wants.1 i && nat_eq s'.arrived.floor (first_place_in (heard s.start (inbox s)))) (Over None) (with_last_word (cond (awaits i) (terminate_alone fault) (fault_front s fault))))
    ((λ i. cond (is_responder (start i) && nat_eq t.story.turns 0) (Over None) (with_last_word (cond (told i) (terminate_alone fault) (terminate_next t.story fault))))
    ∙ ap (λ b. cond (b && nat_eq t.story.turns 0) (Over None) (with_last_word (terminate_alone fault))) wants.1) e
emitting table s t (Work (seen.Fault fault)) (inr rule) sent k e =
    let r = fault_runs table s fault rule in
    ends_fault s (after_act s (Work (seen.Fault fault))) t (Work (seen.Fault fault)) (fault_front s fault) (terminate_next t.story fault) k (heard_open s.start (inbox s) r.started)
    (record { queue = refl; numbers = refl; mulpdu = refl; reads = refl; asked = refl; posted = refl; handed = refl; size = refl; sent = refl; said = record { whole = refl; reads = refl; answered = refl; asked = refl; answers = refl; begun = refl }; running = λ h. absurd (true≢false (sym (by_ended (hears_due s) (fault_for s fault)) ∙ h)); farewell = refl })
    r.running r.started (λ h. ap keeps_silent (sym (faults_open s fault r.started)) ∙ h) (ap (λ (z : StreamState). z.ending) (faults_open s fault r.started)) (ap (λ (z : Story). z.ending) (told_open t.story fault (ap is_open k.begins.start ∙ r.started)))
    (terminate_is s t fault k e.asks.asked) (front_few s fault) e
emitting table s t (First number None) rule sent k e = quiet s (after_act s (First number None)) t (First number None) refl (record { queue = refl; numbers = refl; mulpdu = refl; reads = refl; asked = refl; posted = refl; handed = refl; size = refl; sent = refl; said = record { whole = refl; reads = refl; answered = refl; asked = refl; answers = refl; begun = refl }; running = λ h. h; farewell = refl }) (record { ending = refl; told = refl; farewell = refl }) (λ h. h) e
emitting table s t (Mulpdu size None) rule sent k e = sets_size s t size rule e
emitting table s t (Work (seen.Done kind)) rule sent k e = hands_out s t kind rule.0 rule.1 rule.2 e
emitting table s t (Work (seen.Flushed kind)) rule sent k e = gives_up s t kind rule e
emitting table s t (Accept private (Ok agreed)) rule sent k e = accepts_frame s (after_act s (Accept private (Ok agreed))) t (Accept private (Ok agreed)) (may s (accepting s (private_data private).items agreed rule)) (record { queue = refl; numbers = refl; mulpdu = refl; reads = refl; asked = refl; posted = refl; handed = refl; size = refl; sent = refl; said = record { whole = refl; reads = refl; answered = refl; asked = refl; answers = refl; begun = refl }; running = λ h. h; farewell = refl }) (record { ending = refl; told = refl; farewell = refl }) e
emitting table s t (Reject private None) rule sent k e = rejects_frame s (after_act s (Reject private None)) t (Reject private None) (may s (refusing s (private_data private).items rule)) (record { queue = refl; numbers = refl; mulpdu = refl; reads = refl; asked = refl; posted = refl; handed = refl; size = refl; sent = refl; said = record { whole = refl; reads = refl; answered = refl; asked = refl; answers = refl; begun = refl }; running = λ h. absurd (true≢false h); farewell = refl }) refl refl e
emitting table s t (Work (seen.Asked word private)) rule sent k e = hears_on s (after_act s (Work (seen.Asked word private))) t (Work (seen.Asked word private)) progresses.Asked k.begins.reached rule.0 refl (record { queue = refl; numbers = refl; mulpdu = refl; reads = refl; asked = refl; posted = refl; handed = refl; size = refl; sent = refl; said = record { whole = refl; reads = refl; answered = refl; asked = refl; answers = refl; begun = refl }; running = λ h. h; farewell = refl }) (record { ending = refl; told = refl; farewell = refl }) e
emitting table s t (Work (seen.Opened agreed word private)) rule sent k e = hears_on s (after_act s (Work (seen.Opened agreed word private))) t (Work (seen.Opened agreed word private)) progresses.Agreed k.begins.reached rule.0.hears_it refl (record { queue = refl; numbers = refl; mulpdu = refl; reads = refl; asked = refl; posted = refl; handed = refl; size = refl; sent = refl; said = record { whole = refl; reads = refl; answered = refl; asked = refl; answers = refl; begun = refl }; running = λ h. h; farewell = refl }) (record { ending = refl; told = refl; farewell = refl }) e
emitting table s t (Work (seen.Closed fault)) rule sent k e = hears_end s (after_act s (Work (seen.Closed fault))) t (Work (seen.Closed fault)) (progresses.Faulted fault) k.begins.reached rule refl (record { queue = refl; numbers = refl; mulpdu = refl; reads = refl; asked = refl; posted = refl; handed = refl; size = refl; sent = refl; said = record { whole = refl; reads = refl; answered = refl; asked = refl; answers = refl; begun = refl }; running = λ h. absurd (true≢false h); farewell = refl }) refl refl e
emitting table s t (Work (seen.Terminated fault)) rule sent k e = ends_loud s (after_act s (Work (seen.Terminated fault))) t (Work (seen.Terminated fault)) refl (record { queue = refl; numbers = refl; mulpdu = refl; reads = refl; asked = refl; posted = refl; handed = refl; size = refl; sent = refl; said = record { whole = refl; reads = refl; answered = refl; asked = refl; answers = refl; begun = refl }; running = λ h. absurd (true≢false h); farewell = refl }) refl refl rule.1.fronts.started (loud table s t (Work (seen.Terminated fault)) rule e.asks.reads tt k refl) e
emitting table s t Break rule sent k e = ends_broken s (after_act s Break) t Break refl (record { queue = refl; numbers = refl; mulpdu = refl; reads = refl; asked = refl; posted = refl; handed = refl; size = refl; sent = refl; said = record { whole = refl; reads = refl; answered = refl; asked = refl; answers = refl; begun = refl }; running = λ h. absurd (true≢false h); farewell = refl }) refl refl (λ h. h) e
emitting table s t (Emit Nothing) rule sent k e = quiet s s t (Emit Nothing) refl (record { queue = refl; numbers = refl; mulpdu = refl; reads = refl; asked = refl; posted = refl; handed = refl; size = refl; sent = refl; said = record { whole = refl; reads = refl; answered = refl; asked = refl; answers = refl; begun = refl }; running = λ h. h; farewell = refl }) (record { ending = refl; told = refl; farewell = refl }) (λ h. h) e
emitting table s t (Post m (Some refusal)) rule sent k e = quiet s s t (Post m (Some refusal)) refl (record { queue = refl; numbers = refl; mulpdu = refl; reads = refl; asked = refl; posted = refl; handed = refl; size = refl; sent = refl; said = record { whole = refl; reads = refl; answered = refl; asked = refl; answers = refl; begun = refl }; running = λ h. h; farewell = refl }) (record { ending = refl; told = refl; farewell = refl }) (λ h. h) e
emitting table s t (Recv len (Some refusal)) rule sent k e = quiet s s t (Recv len (Some refusal)) refl (record { queue = refl; numbers = refl; mulpdu = refl; reads = refl; asked = refl; posted = refl; handed = refl; size = refl; sent = refl; said = record { whole = refl; reads = refl; answered = refl; asked = refl; answers = refl; begun = refl }; running = λ h. h; farewell = refl }) (record { ending = refl; told = refl; farewell = refl }) (λ h. h) e
emitting table s t (Deliver from number octets Dropped) rule sent k e = quiet s (after_act s (Deliver from number octets Dropped)) t (Deliver from number octets Dropped) refl (record { queue = refl; numbers = refl; mulpdu = refl; reads = refl; asked = refl; posted = refl; handed = refl; size = refl; sent = refl; said = record { whole = refl; reads = refl; answered = refl; asked = refl; answers = refl; begun = refl }; running = λ h. h; farewell = refl }) (record { ending = refl; told = refl; farewell = refl }) (λ h. h) e
emitting table s t (Raw number octets Dropped) rule sent k e = quiet s (after_act s (Raw number octets Dropped)) t (Raw number octets Dropped) refl (record { queue = refl; numbers = refl; mulpdu = refl; reads = refl; asked = refl; posted = refl; handed = refl; size = refl; sent = refl; said = record { whole = refl; reads = refl; answered = refl; asked = refl; answers = refl; begun = refl }; running = λ h. h; farewell = refl }) (record { ending = refl; told = refl; farewell = refl }) (λ h. h) e
emitting table s t (First number (Some refusal)) rule sent k e = quiet s s t (First number (Some refusal)) refl (record { queue = refl; numbers = refl; mulpdu = refl; reads = refl; asked = refl; posted = refl; handed = refl; size = refl; sent = refl; said = record { whole = refl; reads = refl; answered = refl; asked = refl; answers = refl; begun = refl }; running = λ h. h; farewell = refl }) (record { ending = refl; told = refl; farewell = refl }) (λ h. h) e
emitting table s t (Mulpdu size (Some refusal)) rule sent k e = quiet s s t (Mulpdu size (Some refusal)) refl (record { queue = refl; numbers = refl; mulpdu = refl; reads = refl; asked = refl; posted = refl; handed = refl; size = refl; sent = refl; said = record { whole = refl; reads = refl; answered = refl; asked = refl; answers = refl; begun = refl }; running = λ h. h; farewell = refl }) (record { ending = refl; told = refl; farewell = refl }) (λ h. h) e
emitting table s t (Accept private (Err refusal)) rule sent k e = quiet s s t (Accept private (Err refusal)) refl (record { queue = refl; numbers = refl; mulpdu = refl; reads = refl; asked = refl; posted = refl; handed = refl; size = refl; sent = refl; said = record { whole = refl; reads = refl; answered = refl; asked = refl; answers = refl; begun = refl }; running = λ h. h; farewell = refl }) (record { ending = refl; told = refl; farewell = refl }) (λ h. h) e
emitting table s t (Reject private (Some refusal)) rule sent k e = quiet s s t (Reject private (Some refusal)) refl (record { queue = refl; numbers = refl; mulpdu = refl; reads = refl; asked = refl; posted = refl; handed = refl; size = refl; sent = refl; said = record { whole = refl; reads = refl; answered = refl; asked = refl; answers = refl; begun = refl }; running = λ h. h; farewell = refl }) (record { ending = refl; told = refl; farewell = refl }) (λ h. h) e
emitting table s t (Work seen.Idle) rule sent k e = quiet s s t (Work seen.Idle) refl (record { queue = refl; numbers = refl; mulpdu = refl; reads = refl; asked = refl; posted = refl; handed = refl; size = refl; sent = refl; said = record { whole = refl; reads = refl; answered = refl; asked = refl; answers = refl; begun = refl }; running = λ h. h; farewell = refl }) (record { ending = refl; told = refl; farewell = refl }) (λ h. h) e
emitting table s t (Recv len None) rule sent k e = quiet s (after_act s (Recv len None)) t (Recv len None) refl (record { queue = refl; numbers = refl; mulpdu = refl; reads = refl; asked = refl; posted = refl; handed = refl; size = refl; sent = refl; said = record { whole = refl; reads = refl; answered = refl; asked = refl; answers = refl; begun = refl }; running = λ h. h; farewell = refl }) (record { ending = refl; told = refl; farewell = refl }) (λ h. h) e
emitting table s t (Work (seen.Placed right stag to octets)) rule sent k e = quiet s (after_act s (Work (seen.Placed right stag to octets))) t (Work (seen.Placed right stag to octets)) refl (record { queue = refl; numbers = refl; mulpdu = refl; reads = refl; asked = refl; posted = refl; handed = refl; size = refl; sent = refl; said = record { whole = refl; reads = refl; answered = refl; asked = refl; answers = refl; begun = refl }; running = λ h. h; farewell = refl }) (record { ending = refl; told = refl; farewell = refl }) (λ h. h) e
emitting table s t (Work (seen.Tried place)) rule sent k e = quiet s (after_act s (Work (seen.Tried place))) t (Work (seen.Tried place)) refl (record { queue = refl; numbers = refl; mulpdu = refl; reads = refl; asked = refl; posted = refl; handed = refl; size = refl; sent = refl; said = record { whole = refl; reads = refl; answered = refl; asked = refl; answers = refl; begun = refl }; running = λ h. h; farewell = refl }) (record { ending = refl; told = refl; farewell = refl }) (λ h. h) e
emitting table s t (Work (seen.Buffered msn mo len)) rule sent k e = quiet s (after_act s (Work (seen.Buffered msn mo len))) t (Work (seen.Buffered msn mo len)) refl (record { queue = refl; numbers = refl; mulpdu = refl; reads = refl; asked = refl; posted = refl; handed = refl; size = refl; sent = refl; said = record { whole = refl; reads = refl; answered = refl; asked = refl; answers = refl; begun = refl }; running = λ h. h; farewell = refl }) (record { ending = refl; told = refl; farewell = refl }) (λ h. h) e
emitting table s t (Work (seen.FlushedRecv octets)) rule sent k e = quiet s (after_act s (Work (seen.FlushedRecv octets))) t (Work (seen.FlushedRecv octets)) refl (record { queue = refl; numbers = refl; mulpdu = refl; reads = refl; asked = refl; posted = refl; handed = refl; size = refl; sent = refl; said = record { whole = refl; reads = refl; answered = refl; asked = refl; answers = refl; begun = refl }; running = λ h. h; farewell = refl }) (record { ending = refl; told = refl; farewell = refl }) (λ h. h) e
emitting table s t (Deliver from number octets Kept) rule sent k e = quiet s (after_act s (Deliver from number octets Kept)) t (Deliver from number octets Kept) refl (record { queue = refl; numbers = refl; mulpdu = refl; reads = refl; asked = refl; posted = refl; handed = refl; size = refl; sent = refl; said = record { whole = refl; reads = refl; answered = refl; asked = refl; answers = refl; begun = refl }; running = λ h. h; farewell = refl }) (record { ending = refl; told = refl; farewell = refl }) (waits s number octets) e
emitting table s t (Raw number octets Kept) rule sent k e = quiet s (after_act s (Raw number octets Kept)) t (Raw number octets Kept) refl (record { queue = refl; numbers = refl; mulpdu = refl; reads = refl; asked = refl; posted = refl; handed = refl; size = refl; sent = refl; said = record { whole = refl; reads = refl; answered = refl; asked = refl; answers = refl; begun = refl }; running = λ h. h; farewell = refl }) (record { ending = refl; told = refl; farewell = refl }) (waits s number octets) e
emitting table s t (Work seen.Passed) rule sent k e = passes table s t rule k (loud table s t (Work seen.Passed) rule e.asks.reads tt k refl) e
emitting table s t (Work (seen.Requested size stag to)) rule sent k e = takes table s t size stag to rule k (loud table s t (Work (seen.Requested size stag to)) rule e.asks.reads tt k refl) e
emitting table s t (Work (seen.Received octets solicited invalidate)) rule sent k e = quiet s (after_act s (Work (seen.Received octets solicited invalidate))) t (Work (seen.Received octets solicited invalidate)) refl (record { queue = refl; numbers = refl; mulpdu = refl; reads = refl; asked = refl; posted = refl; handed = refl; size = refl; sent = refl; said = record { whole = refl; reads = refl; answered = refl; asked = refl; answers = refl; begun = refl }; running = λ h. h; farewell = refl }) (record { ending = refl; told = refl; farewell = refl }) (λ h. absurd (false≢true (sym (loud table s t (Work (seen.Received octets solicited invalidate)) rule e.asks.reads tt k refl) ∙ h))) e

pub ended_is : (table : Table) (s : StreamState) (act : StreamAct Octets) → Told table s act → ended (after_act s act) ≡ ended_after (ended s) act
ended_is table s (Work (seen.Fault fault)) rule = by_ended (hears_due s) (fault_for s fault)
ended_is table s (Work (seen.Terminated fault)) rule = refl
ended_is table s (Work (seen.Flushed kind)) rule = refl
ended_is table s (Work (seen.FlushedRecv octets)) rule = refl
ended_is table s Break rule = refl
ended_is table s (Work (seen.Done kind)) rule = refl
ended_is table s (Work (seen.Placed right stag to octets)) rule = refl
ended_is table s (Work (seen.Tried place)) rule = refl
ended_is table s (Work (seen.Buffered msn mo len)) rule = refl
ended_is table s (Work (seen.Requested size stag to)) rule = refl
ended_is table s (Work seen.Passed) rule = refl
ended_is table s (Work (seen.Received octets solicited invalidate)) rule = refl
ended_is table s (Work seen.Idle) rule = refl
ended_is table s (Recv len None) rule = refl
ended_is table s (Recv len (Some refusal)) rule = refl
ended_is table s (Post m None) rule = refl
ended_is table s (Post m (Some refusal)) rule = refl
ended_is table s (Emit shown) rule = shown_ended table s shown rule
ended_is table s (Accept private (Ok agreed)) rule = refl
ended_is table s (Accept private (Err refusal)) rule = refl
ended_is table s (Reject private None) rule = refl
ended_is table s (Reject private (Some refusal)) rule = refl
ended_is table s (Work (seen.Asked word private)) rule = refl
ended_is table s (Work (seen.Opened agreed word private)) rule = refl
ended_is table s (Work (seen.Closed fault)) rule = refl
ended_is table s (Deliver from number octets Kept) rule = refl
ended_is table s (Raw number octets Kept) rule = refl
ended_is table s (Deliver from number octets Dropped) rule = refl
ended_is table s (Raw number octets Dropped) rule = refl
ended_is table s (First number None) rule = refl
ended_is table s (Mulpdu size None) rule = refl
ended_is table s (First number (Some refusal)) rule = refl
ended_is table s (Mulpdu size (Some refusal)) rule = refl
