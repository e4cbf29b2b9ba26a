-- The laws, of every run.
use Rattle.iw_ranges.specs.Nearest.{place_near, before_start}
use Rattle.iw_ranges.specs.declared.Delivery.{Delivery}
use Rattle.iw_stream.specs.declared.answer.FirstRefusal.TheVariants.{Late}
use Rattle.std.proofs.Common.{◌≡◌, ◌⊎◌, ℕ, zero, suc, ◌+◌, ◌-◌, ◌%◌, ◌^◌, ◌<◌, ◌≤◌, List, [], ◌∷◌, ◌++◌, length, take, drop, length-take, length-drop, length-append, cond, map, Option, Some, None, true, false, refl, sym, ap, ◌∙◌, subst, inl, inr, arith}
use Rattle.std.proofs.lemmas.List.{append-nil, length-map}
use Rattle.std.specs.Prelude.{option_map, is_some, not, nat_eq, nat_le, nat_lt, min, Bool, ◌&&◌, ◌||◌, Result, IfOk}
use Rattle.std.specs.Result.{result_err}
use Rattle.std.specs.Option.{option_map, option_map_or, option_or}
use Rattle.std.proofs.lemmas.Bool.{false≢true, true≢false}
use Rattle.iw_octets.specs.Segment.{segment_octets}
use Rattle.iw_memory.specs.declared.peer.Peer.{Peer}
use Rattle.iw_memory.specs.declared.refusal.RegisterRefusal.{RegisterRefusal}
use Rattle.iw_memory.specs.declared.refusal.RegisterRefusal.TheVariants as register_refusals
use Rattle.iw_memory.specs.Region.{Region, new_region}
use Rattle.iw_memory.specs.Part.{free_slot}
use Rattle.iw_memory.proofs.LawLemmas.{registered-changes}
use Rattle.std.proofs.lemmas.Option.{none-some}
use Rattle.iw_memory.specs.Table.{Table, part_of, slots_of, region_at, is_added, domain_refusal, register_refusal, store_refusal, next_stag}
use Rattle.iw_octets.specs.declared.segment.Segment.{Segment}
use Rattle.iw_fpdu.specs.Sequence.{sequence}
use Rattle.iw_queues.specs.Joined.{IsPrefixOf, Cell}
use Rattle.iw_queues.specs.Segments.{Numbers, first_numbers, segment_with, segment_of}
use Rattle.iw_octets.specs.declared.operation.TaggedOperation.TheVariants as tagged
use Rattle.iw_octets.specs.declared.operation.UntaggedOperation.TheVariants as untagged
use Rattle.iw_octets.specs.Operation.{control_of, tagged_opcode, untagged_opcode}
use Rattle.iw_stream.specs.Starting as starting
use Rattle.iw_stream.specs.Starting.{most_reads_in, sending, own_frame, first_place_out, agreement_in}
use Rattle.iw_stream.specs.Stream.{StreamState, is_read, may_go, part_due, response_due, owes_frame, rtr_due, recv_refusal, recv_refusal_of, post_refusal, post_refusal_of, answer_refusal, delivery_of, ended, place_of, left_out, peer_of}
use Rattle.iw_stream.specs.Ending.{has_ended, is_broken, last_word}
use Rattle.iw_stream.specs.Work as work
use Rattle.iw_stream.specs.declared.answer.PostRefusal.TheVariants as post_refusals
use Rattle.iw_stream.specs.declared.answer.RecvRefusal.TheVariants as recv_refusals
use Rattle.iw_untagged.specs.declared.queue.BufferRefusal.TheVariants as buffer_refusals
use Rattle.iw_queues.specs.declared.request.Refusal.TheVariants as queue_refusals
use Rattle.iw_queues.specs.declared.request.Request.{Request}
use Rattle.iw_queues.specs.declared.request.Request.TheVariants.{Message as Posted, Read}
use Rattle.iw_queues.specs.declared.completions.Sent.{Sent as WasSent}
use Rattle.iw_queues.specs.declared.send_queue.Part.{Part}
use Rattle.iw_queues.specs.Request.{kind_of, payload, size_of, header_len}
use Rattle.iw_queues.specs.Queue.{Queue, next_part, oldest_in, oldest_among, handed_from, IsBegun, IsWithinLimits}
use Rattle.iw_queues.proofs.Order.{keeps_order}
use Rattle.iw_queues.specs.Laws.{IsFilled, kinds_in}
use Rattle.iw_queues.proofs.Filled.{fills}
use Rattle.iw_octets.specs.declared.payload.ReadRequest.{ReadRequest}
use Rattle.iw_octets.specs.Payload.{request_octets}
use Rattle.iw_octets.proofs.Spelled.{length-request_octets}
use Rattle.iw_memory.specs.declared.rights.Right.TheVariants as rights
use Rattle.iw_memory.proofs.Callers.{allows}
use Rattle.iw_reads.specs.declared.requests.Asked.{Asked}
use Rattle.iw_reads.specs.Requests.{Requested, part_for}
use Rattle.iw_reads.specs.Requests as requests
use Rattle.iw_reads.specs.Response.{fetch_fault}
use Rattle.iw_reads.specs.Source.{reading_fault}
use Rattle.std.specs.Prelude.{slice_get, ◌≢◌}
use Rattle.std.proofs.lemmas.Bool.{cases_lt}
use Rattle.std.proofs.lemmas.Bool.Decides.{nat_tests}
use Rattle.std.proofs.Math.Seq.{take-append_seam}
use Rattle.iw_octets.specs.declared.message.Message.TheVariants.{Write, Send}
use Rattle.iw_octets.specs.declared.stag.Stag.{Stag}
use Rattle.iw_octets.specs.Stag.{number_of}
use Rattle.iw_octets.proofs.Segments.{length-segment_octets_tagged, length-segment_octets_untagged}
use Rattle.iw_fpdu.specs.Frame.{frame_octets}
use Rattle.iw_ranges.specs.declared.Delivery.TheVariants.{Dropped}
use Rattle.iw_ranges.specs.Arrived.{advanced, delivery}
use Rattle.iw_startup.specs.declared.config.Config.{Config}
use Rattle.iw_stream.specs.declared.answer.AnswerRefusal.TheVariants.{NotAsked}
use Rattle.iw_stream.specs.declared.answer.Role.{Role}
use Rattle.iw_stream.specs.declared.answer.OpenRefusal.TheVariants.{NumberTaken, BadNumber, NoDomain}
use Rattle.iw_events.specs.declared.call.End.{End}
use Rattle.iw_events.specs.declared.call.Call.{Call}
use Rattle.iw_events.specs.declared.call.Call.TheVariants as calls
use Rattle.iw_events.specs.declared.act.Act.{Act}
use Rattle.iw_events.specs.declared.act.Act.TheVariants.{Domain, Register, Deregister, Invalidate, Store, Open, Share, Pool, Unpool, OpenShared, Stream}
use Rattle.iw_events.specs.declared.act.StreamAct.{StreamAct}
use Rattle.iw_events.specs.declared.act.StreamAct.TheVariants.{Recv, Post, Emit, First, Deliver, Raw, Mulpdu, Accept, Reject, Work, Break}
use Rattle.iw_events.specs.declared.act.Shown.TheVariants.{Frame, Fetched, Fault as Denied, Nothing}
use Rattle.iw_events.specs.declared.act.Shown.{Shown}
use Rattle.iw_events.specs.declared.act.Seen.{Seen}
use Rattle.iw_events.specs.declared.act.Seen.TheVariants as seen
use Rattle.iw_events.specs.declared.act.Entry.{Entry}
use Rattle.iw_laws.specs.Words.{Octets, other, acts, deed, private_data, config_for, handed_kinds, size_set, stream_acts, Opening, opening_in, opening_of, openings, was_opened, posted, sends, received, ended as has_ended_by, sent, placings, written, sunk, finished_kinds, table_after, peer_at}
use Rattle.iw_laws.specs.Safe.{IsHonest, InOrder, CoversWrites, Covered, Fits, Within, WithinStream}
use Rattle.iw_laws.specs.Merged.{AreMerged, response_segment}
use Rattle.iw_laws.specs.Faithful.{FetchShown, FetchStream, count_done, AnswersReads, Answering}
use Rattle.iw_laws.specs.Sends.{farewells, ready_of, terminate_segment, IsStartFrame, IsLastWord, AreFirstFrames, Emission, AreAllFrames, HasNothing, Over, Closed, AllSent, ReadWaits, MayRespond, MaySend, FewReads, NothingShown, NothingStream, NothingOnlyAtRest, FrameSized, SizedStream, Sized, FrameAllowed, SpeaksStream, Speaks, CanFinish, FinishedStream, Finished}
use Rattle.iw_laws.specs.Sends.{Silent as Muted}
use Rattle.iw_laws.specs.Turns.{Answer, Story, is_last, story, story_of, receiving_of, standing, TurnsSeen, TurnsStream, Turns, in_order_point}
use Rattle.iw_laws.specs.Rest.{IdleStream, IdleOnlyAtRest}
use Rattle.iw_laws.specs.Ends.{HoldsNoMessage, HoldsNothing, EndSeen, IsStartDue, EndShown, EndsStream, Ends}
use Rattle.iw_laws.specs.Calls.{deregister_answer, invalidate_refusal, IsNew, number_refusal_by, open_refusal_by, open_shared_refusal_by, EndAnswered, ShowsMemory, recv_refusal_by, post_refusal_by, answer_refusal_by, StreamAnswered, AnsweredStream, Answered, delivery_by, KeptStream, KeepsOctets, IsCarried, CarriedStream, CarriesOctets, OpenedStream, OpensFirst}
use Rattle.iw_laws.specs.Words.{OnSome, OnStream, AtEach}
use Rattle.iw_endpoint.specs.Endpoint.{is_taken, stream_numbers, pool_of, stream_at, share_fault, pool_fault, take_fault, taken, open_shared_refusal_of, unshared, has_stream, number_refusal, request_refusal, open_refusal, open_shared_refusal}
use Rattle.iw_endpoint.specs.Isolation.{answer_or}
use Rattle.iw_laws.specs.Rules.{EndState, State, end_of, start, Rule, EndRule, PeerRule, WireRule, StreamRule, needs_peer, state_after, Follows, wire_at}
use Rattle.iw_events.specs.Events.{stream_call_of}
use Rattle.iw_laws.proofs.States.{Connected, connected_seen as connected_at, lent_rule, lent_peer}
use Rattle.iw_laws.proofs.Pools.{PoolsSeen, held, tale_seen as tale}
use Rattle.iw_laws.specs.Bounds.{LacksStream, AsksTooMuch, AsksOver}
use Rattle.iw_laws.specs.Stops.{NamesNoStream, AsksNotSent, IsUnopened}
use Rattle.iw_stream.proofs.Tasks.{IsResting, Ended as HasEnded, Unanswered, Without}
use Rattle.iw_startup.specs.declared.progress.Progress.TheVariants as progresses
use Rattle.iw_untagged.specs.Receiving.{Receiving, first_buffer, is_full, is_shared}
use Rattle.iw_laws.proofs.Told.{told, Hears, Sees, sees}
use Rattle.iw_laws.proofs.Tracks.{Track, sound, silent_is, point_is}
use Rattle.iw_laws.proofs.Answers.{answers, idles, idle_unfinished}
use Rattle.iw_laws.proofs.Tales.{Tale, tale_of}
use Rattle.iw_laws.proofs.Counts.{plain_part, message_at}
use Rattle.iw_laws.proofs.Merges.{asked_or}
use Rattle.iw_laws.proofs.Sending.{shown_good, Rests, Ended, Shut, Silent, Sent, MaySpeak, none_left, shows, EmitsStart, EmitsLast, EmitsReady, EmitsPart, EmitsResponse, emits_as, terminate_small, terminate_good, rtr_good, rtr_small, rtr_plain, rtr_last}
use Rattle.iw_laws.proofs.Ready.{ready_in}
use Rattle.iw_stream.specs.Rtr.{rtr_segment}
use Rattle.iw_laws.proofs.Owned.{ready_gone, not_rtr, first_fits, Own, out_of, alone_out, lives, all_spoken, owes_some, runs_unbroken, IsFramed, Unspoken, Spoken, below, past_start, before_start as owes_start}
use Rattle.iw_laws.proofs.OwnedFrames.{answers_part, part_is_of, frame_plain}
use Rattle.iw_laws.proofs.Owns.{within, WithinTale}
use Rattle.iw_laws.proofs.Messages.{items_are, start_frame_is, open_is, sequence_is, can_finish, cannot_finish}
use Rattle.iw_laws.proofs.Heard.{IsHeard, hears_all}
use Rattle.iw_laws.proofs.Delivered.{whole_of, received_prefix, writes_covered}
use Rattle.iw_laws.proofs.Placed.{reads_answered}
use Rattle.iw_laws.proofs.Ends.{there, EndSeen as EndKept, peer_told, unopened, closed_none}
use Rattle.iw_laws.specs.Early.{JudgesEarly, ChecksOnce}
use Rattle.iw_laws.specs.Once.{NonePlacedTwice, PlacesOnce, spans_placed}
use Rattle.iw_laws.proofs.EarlyLaws.{judges_early, checks_once}
use Rattle.iw_stream.specs.Judging.{Standing}
use Rattle.iw_laws.proofs.Onces.{are_once}
use Rattle.iw_laws.proofs.Busy.{TurnsStreamBySome, TurnsBySome}
use Rattle.iw_laws.proofs.Placements.{placements}
use Rattle.iw_laws.proofs.Releases.{left_acts, left_apart}
use Rattle.iw_laws.proofs.Whole.{Seen as BothSeen, seen_at, follows_split, told_onward, unsaid, told_first}
use Rattle.iw_laws.proofs.Runs.{Run, ToldRun, Moment, PlainRule, PlainRuleIn, seen_then, run_in}
use Rattle.iw_laws.specs.Plain.{PlainAnswered, ShowsRegions}

-- ---- honest streams

-- the openings of an honest stream understand each other
pub fitting : (n : ℕ) (past : List (Entry Octets)) → IsHonest n past → (x : End) → Fits (opening_of n (acts x past)) (opening_of n (acts (other x) past))
fitting n past honest x =
    subst (λ o. Fits o (opening_of n (acts (other x) past))) (ap opening_in (sym (honest.opened x)))
    (subst (λ o. Fits (honest.opening x) o) (ap opening_in (sym (honest.opened (other x)))) (honest.fits x))

-- what each end has heard of the other
heard : (past : List (Entry Octets)) (w : State) (k : BothSeen past w) (x : End) (n : ℕ) → IsHonest n past
    → IsHeard (held (k.pairs x n).own) (tale n (acts x past)) (held (k.pairs x n).own_peer) (tale n (acts (other x) past)) (out_of (held (k.pairs x n).own).stream (tale n (acts x past)) (k.pairs x n).own.own.emits) (k.pairs x n).own_peer.own.track
heard past w k x n honest =
    let p = k.pairs x n in
    hears_all (opening_of n (acts x past)) (held (k.pairs x n).own) (tale n (acts x past)) p.own.own (opening_of n (acts (other x) past)) (held (k.pairs x n).own_peer) (tale n (acts (other x) past)) p.own_peer.own
    (fitting n past honest x) (p.out (honest.calm (other x))) (p.back (honest.calm x))

-- what was received is a prefix of the Sends posted
prefix_of : (past : List (Entry Octets)) (w : State) → BothSeen past w → (x : End) (n : ℕ) → IsHonest n past → IsPrefixOf (received (stream_acts n (acts (other x) past))) (sends (posted (stream_acts n (acts x past))))
prefix_of past w k x n honest =
    let p = k.pairs x n in
    received_prefix (held p.own) (tale n (acts x past)) (held p.own_peer) (tale n (acts (other x) past)) p.own.own.emits p.own_peer.own.track (heard past w k x n honest) (p.out (honest.calm (other x))) p.own_peer.own.fills

pub in_order : (trace : List (Entry Octets)) → Run trace → InOrder trace
in_order trace run past future is x n honest = let m = run past future is in prefix_of past m.state (seen_then past future m) x n honest

-- what was placed for Writes is what was posted, as far as Sends were received
covers : (past : List (Entry Octets)) (w : State) → BothSeen past w → (x : End) (n : ℕ) → IsHonest n past → (cell : Cell)
    → CoversWrites (posted (stream_acts n (acts x past))) (written (placings (stream_acts n (acts (other x) past)))) (length (received (stream_acts n (acts (other x) past)))) cell
covers past w k x n honest cell =
    let p = k.pairs x n in
    writes_covered (held p.own) (tale n (acts x past)) (held p.own_peer) (tale n (acts (other x) past)) p.own.own.emits p.own_peer.own.track (heard past w k x n honest) (p.out (honest.calm (other x))) cell

pub covered : (trace : List (Entry Octets)) → Run trace → Covered trace
covered trace run past future is x n honest cell = let m = run past future is in covers past m.state (seen_then past future m) x n honest cell

-- ---- Reads of an honest stream

fits_both : (a b : Opening) → Fits a b → Fits b a
fits_both a b (inl f) = inl (f.1, f.0, sym f.2, sym f.3)
fits_both a b (inr (inl f)) = inr (inr (f.1, f.0))
fits_both a b (inr (inr f)) = inr (inl (f.1, f.0))

-- what was answered is what was asked for, and is placed
answers_reads : (past : List (Entry Octets)) (w : State) → BothSeen past w → (x : End) (n : ℕ) → IsHonest n past
    → AnswersReads (story_of n (acts x past)) (ready_of (story_of n (acts (other x) past))) (posted (stream_acts n (acts (other x) past))) (sunk (placings (stream_acts n (acts (other x) past)))) (count_done (finished_kinds (stream_acts n (acts (other x) past))))
answers_reads past w k x n honest =
    let p = k.pairs x n in
    let o : Opening = opening_of n (acts x past) in
    let m : Opening = opening_of n (acts (other x) past) in
    let out = p.out (honest.calm (other x)) in
    let back = p.back (honest.calm x) in
    let there = heard past w k x n honest in
    let home = hears_all m (held p.own_peer) (tale n (acts (other x) past)) p.own_peer.own o (held p.own) (tale n (acts x past)) p.own.own (fits_both o m (fitting n past honest x)) back out in
    reads_answered (held p.own) (tale n (acts x past)) (held p.own_peer) (tale n (acts (other x) past)) p.own.own.emits p.own.own.track p.own_peer.own.emits p.own_peer.own.track p.own_peer.own.doing.answered there home out back

pub answering_all : (trace : List (Entry Octets)) → Run trace → Answering trace
answering_all trace run past future is x n honest = let m = run past future is in answers_reads past m.state (seen_then past future m) x n honest

-- ---- what changes

-- what changed lay where it was allowed
within_stream : (done : List (Act Octets)) (n : ℕ) (peer : Peer) (table : Table) (act : StreamAct Octets) → peer ≡ peer_at n done → table ≡ table_after done
    → WithinTale table peer (tale n done) act → WithinStream done n act
within_stream done n peer table act p t h = subst (λ z. WithinTale z (peer_at n done) (tale n done) act) t (subst (λ z. WithinTale table z (tale n done) act) p h)

-- with these receive buffers
abbrev story_with : Opening → List (StreamAct Octets) → Receiving → Story
story_with o done queue = record (story o done) { receiving = queue }

abbrev tale_with : Opening → List (StreamAct Octets) → Receiving → Tale
tale_with o done queue = record (tale_of o done) { story = record (story o done) { receiving = queue } }

-- what holds of the acts of a stream holds of those of an end
on_stream : (P : List (Act Octets) → ℕ → StreamAct Octets → Type 0) (done : List (Act Octets)) (s peer : EndState) (act : Act Octets) → PlainRule s peer act
    → ((n : ℕ) (a : StreamAct Octets) → has_stream s.endpoint n ≡ true → StreamRule s.endpoint.table (connected_at s n).stream a → P done n a) → OnStream P done act
on_stream P done s peer (Stream n act) rule h = h n act rule.0.0 (lent_rule s.endpoint n act rule.0.1)
on_stream P done s peer (Domain pd refused) rule h = tt
on_stream P done s peer (Register pd base rights octets answer) rule h = tt
on_stream P done s peer (Deregister stag answer) rule h = tt
on_stream P done s peer (Invalidate stag refused) rule h = tt
on_stream P done s peer (Store stag to octets refused) rule h = tt
on_stream P done s peer (Open n pd role options private refused) rule h = tt
on_stream P done s peer (Share pd refused) rule h = tt
on_stream P done s peer (Pool pd len refused) rule h = tt
on_stream P done s peer (Unpool pd answer) rule h = tt
on_stream P done s peer (OpenShared n pd role options private refused) rule h = tt

-- one act of a stream, by the state before it
pub at_stream : (P : List (Act Octets) → ℕ → StreamAct Octets → Type 0) (past : List (Entry Octets)) (e : Entry Octets) (future : List (Entry Octets)) (m : Moment past (e ∷ future))
    → ((n : ℕ) (c : Connected) (act : StreamAct Octets) → has_stream (end_of e.end m.state).endpoint n ≡ true → peer_of c.stream ≡ peer_of (stream_at (end_of e.end m.state).endpoint n) → StreamRule (end_of e.end m.state).endpoint.table c.stream act
    → Own (opening_of n (acts e.end past)) c (tale n (acts e.end past)) → P (acts e.end past) n act) → OnStream P (acts e.end past) e.act
at_stream P past e future m one =
    let s : EndState = end_of e.end m.state in
    on_stream P (acts e.end past) s (end_of (other e.end) m.state) e.act m.next (λ n act opened rule.
    let h = ((seen_then past (e ∷ future) m).pairs e.end n).own in
    let there = left_acts s.endpoint.table (connected_at s n).stream h.stream (tale n (acts e.end past)) act h.is_left h.own.track rule in
    one n (held h) act opened (sym (ap peer_of (left_apart h.is_left)) ∙ lent_peer (pool_of s.endpoint (stream_at s.endpoint n).domain) (stream_at s.endpoint n)) there.0 h.own)

-- a law of each entry of a stream, whatever the regions are
each_stream : (P : List (Act Octets) → ℕ → StreamAct Octets → Type 0) (trace : List (Entry Octets)) → Run trace
    → ((done : List (Act Octets)) (table : Table) (n : ℕ) (c : Connected) (act : StreamAct Octets) → StreamRule table c.stream act → Own (opening_of n done) c (tale n done) → P done n act) → AtEach (OnStream P) trace
each_stream P trace run one past e future is =
    let m : Moment past (e ∷ future) = run past (e ∷ future) is in
    at_stream P past e future m (λ n c act opened peer rule own. one (acts e.end past) (end_of e.end m.state).endpoint.table n c act rule own)

-- where they are as they were told
each_told : (P : List (Act Octets) → ℕ → StreamAct Octets → Type 0) (trace : List (Entry Octets)) → ToldRun trace
    → ((done : List (Act Octets)) (table : Table) (n : ℕ) (c : Connected) (act : StreamAct Octets) → table ≡ table_after done → peer_of c.stream ≡ peer_at n done → StreamRule table c.stream act
    → Own (opening_of n done) c (tale n done) → P done n act) → AtEach (OnStream P) trace
each_told P trace run one past e future is =
    let m = run past (e ∷ future) is in
    let s : EndState = end_of e.end m.0.state in
    at_stream P past e future m.0 (λ n c act opened peer rule own.
    one (acts e.end past) s.endpoint.table n c act (m.1 e.end).table (peer ∙ peer_told s (acts e.end past) n (m.0.keeps.ends e.end) (m.1 e.end) opened) rule own)

pub within_all : (trace : List (Entry Octets)) → ToldRun trace → Within trace
within_all trace run = each_told WithinStream trace run (λ done table n c act regions peer rule own.
    within_stream done n (peer_of c.stream) table act peer regions (within (opening_of n done) table c (tale n done) act (told table c.stream act (sound c.stream (tale n done) own.track) rule) own))

-- ---- what goes out

first_frames : (past : List (Entry Octets)) (w : State) → BothSeen past w → (x : End) (n : ℕ) → AreFirstFrames (story_of n (acts x past)) (sent (stream_acts n (acts x past))) (posted (stream_acts n (acts x past)))
first_frames past w k x n =
    let s : StreamState = (k.pairs x n).own.stream in
    let t : Tale = tale n (acts x past) in
    let own = (k.pairs x n).own.own in
    let e = own.emits in
    let all = whole_of s t e in
    record {
      items = all.items;
      posts = all.posts ∙ ap (λ z. ready_in z ++ posted (stream_acts n (acts x past))) (sym own.track.begins.start);
      answers = all.requests ∙ ap (λ (z : Requested). map (λ (a : Answer). a.request) t.story.answers ++ map (λ (a : Asked). a.request) z.unanswered) (sym e.asks.asked);
      fetched = all.octets;
      begun = e.segments;
      later = all.later;
      carry = all.merged;
      framed = framed s t own.track e.segments (farewells t.story.farewell) e.framed;
      closed = λ h. (e.parts.shut (sym (open_is s t own.track) ∙ h)).none;
      silent = λ h. (e.parts.silent (silent_is s t own.track ∙ h)).none;
    }
  where
    none_first : (us fs : List (Segment Octets)) → us ++ fs ≡ [] → us ≡ []
    none_first [] fs h = refl
    none_first (u ∷ us) fs h = absurd (omega (arith, ap length h))

    framed : (s : StreamState) (t : Tale) (k : Track s t) (us fs : List (Segment Octets)) → IsFramed s.start t.sent (us ++ fs)
        → ((t.sent ≡ []) × (us ≡ [])) ⊎ (t.sent ≡ own_frame t.story.start ++ sequence (sending t.story.start) 0 (map segment_octets (us ++ fs)))
    framed s t k us fs (Unspoken b c) = inl (b, none_first us fs c)
    framed s t k us fs (Spoken b) = inr (b ∙ sym (sequence_is s t k (us ++ fs)))

pub emission : (trace : List (Entry Octets)) → Run trace → Emission trace
emission trace run past future is x n = let m = run past future is in first_frames past m.state (seen_then past future m) x n

-- where no part of a message was begun, and no request waits, what was sent is all frames of messages and responses
all_frames : (o : Opening) (c : Connected) (t : Tale) (own : Own o c t) → ended c.stream ≡ false → owes_frame c.stream ≡ false → c.stream.queue.offset ≡ 0 → c.stream.asked.unanswered ≡ [] → own.emits.left ≡ [] → AreAllFrames t.story t.sent own.emits.counts.first
all_frames o c t own running owes unbegun none gone =
    let e = own.emits in
    let k = e.merges in
    let l = e.live running in
    let nil : length t.story.begun ≡ 0 = (let zero_is : c.stream.asked.fetched ≡ 0 = subst (λ z. requests.IsBegun z c.stream.asked.fetched) none e.asks.begun in omega (arith, zero_is, e.asks.fetched)) in
    let fresh : e.kept.offset ≡ 0 = ap (λ (q : Queue). q.offset) (sym l.queue) ∙ unbegun in
    let whole : AreMerged first_numbers 0 (k.items ++ []) (e.segments ++ []) =
    k.goes_on [] [] (record { post = λ some. absurd (omega (arith, some, fresh)); response = λ some. absurd (omega (arith, some, nil)) }) refl in
    let all : out_of c.stream t e ≡ e.segments = alone_out e.segments (farewells t.story.farewell) (lives c.stream t e running).none in
    record {
      items = k.items;
      posts = items_are c.stream t e gone ∙ ap (λ z. ready_in z ++ e.counts.first) (sym own.track.begins.start);
      answers = k.are;
      none_waits = ap (λ (z : Requested). z.unanswered) e.asks.asked ∙ none;
      frames = record {
        segments = e.segments;
        carry = subst (λ z. AreMerged first_numbers 0 z e.segments) (append-nil k.items) (subst (AreMerged first_numbers 0 (k.items ++ [])) (append-nil e.segments) whole);
        framed = past_start c.stream t e own.sent (all_spoken c.stream owes (runs_unbroken c.stream.ending running)) ∙ sym (sequence_is c.stream t own.track (out_of c.stream t e))
            ∙ ap (λ z. own_frame t.story.start ++ sequence (sending t.story.start) 0 (map segment_octets z)) all;
      };
    }

-- nothing is due of a response: no request waits, where no message was begun
none_waits : (s : StreamState) → s.queue.offset ≡ 0 → response_due s ≡ None → s.asked.unanswered ≡ []
none_waits s unbegun e = go s.asked.unanswered refl
  where
    go : (waiting : List Asked) → s.asked.unanswered ≡ waiting → s.asked.unanswered ≡ []
    go [] is = is
    go (x ∷ xs) is = absurd (none-some _ (sym e ∙ (λ i. cond (nat_lt 0 (unbegun i)) None (part_for (is i) s.asked.fetched s.mulpdu))))

-- why no part of a message is due
record WaitsFor (s : StreamState) : Type 0 where
  pub request : ReadRequest
  pub messages : List (Request Octets)
  pub unsent : s.queue.unsent ≡ Read request ∷ messages
  pub full : most_reads_in s.start ≤ length s.reads

part_waits : (s : StreamState) → part_due s ≡ None → (s.queue.unsent ≡ []) ⊎ WaitsFor s
part_waits s e = go (next_part s.queue s.mulpdu) refl e
  where
    read_of : (m : Request Octets) (ms : List (Request Octets)) → s.queue.unsent ≡ m ∷ ms → (is_read m && nat_le (most_reads_in s.start) (length s.reads)) ≡ true → (s.queue.unsent ≡ []) ⊎ WaitsFor s
    read_of (Posted m) ms is b = absurd (false≢true b)
    read_of (Read request) ms is b = inr (record { request = request; messages = ms; unsent = is; full = (let le : nat_le (most_reads_in s.start) (length s.reads) ≡ true = b in grind (arith, nat_tests)) })

    go : (p : Option (Part (Request Octets))) → next_part s.queue s.mulpdu ≡ p → may_go (most_reads_in s.start) s.reads p ≡ None → (s.queue.unsent ≡ []) ⊎ WaitsFor s
    go None is h = inl (none_left s.queue s.mulpdu is)
    go (Some part) is h =
        let w = shows s.queue s.mulpdu part is in
        by (is_read part.message && nat_le (most_reads_in s.start) (length s.reads)) refl h w.message w.messages w.unsent (ap (λ (p : Part (Request Octets)). p.message) w.is)
      where
        by : (b : Bool) → (is_read part.message && nat_le (most_reads_in s.start) (length s.reads)) ≡ b → cond b None (Some part) ≡ None → (m : Request Octets) (ms : List (Request Octets)) → s.queue.unsent ≡ m ∷ ms → part.message ≡ m → (s.queue.unsent ≡ []) ⊎ WaitsFor s
        by false b h m ms is same = absurd (none-some _ (sym h))
        by true b h m ms is same = read_of m ms is (ap (λ z. is_read z && nat_le (most_reads_in s.start) (length s.reads)) (sym same) ∙ b)

nothing_stream : (o : Opening) (c : Connected) (done : List (StreamAct Octets)) (queue : Receiving) (table : Table) (act : StreamAct Octets) → StreamRule table c.stream act → Own o c (tale_with o done queue) → OnSome (NothingShown (story_with o done queue) done) (deed act).shown
nothing_stream o c done queue table (Emit Nothing) rule own =
    let r = emits_as table c.stream Nothing rule in
    let ending = own.emits.parts.ending in
    ((λ unbroken. frame_sent r.spoken (sym (ap is_broken ending) ∙ unbroken)), ap last_word ending ∙ r.silent, go r.spoken r.reason)
  where
    t : Tale
    t = tale_with o done queue

    frame_sent : owes_frame c.stream ≡ false → is_broken c.stream.ending ≡ false → IsPrefixOf (own_frame (story_with o done queue).start) (sent done)
    frame_sent owes unbroken =
        let frames : List ℕ = sequence (sending c.stream.start) 0 (map segment_octets (out_of c.stream (tale_with o done queue) own.emits)) in
        (frames, ap (λ z. z ++ frames) (start_frame_is c.stream (tale_with o done queue) own.track) ∙ sym (past_start c.stream (tale_with o done queue) own.emits own.sent (all_spoken c.stream owes unbroken)))

    all : ended c.stream ≡ false → owes_frame c.stream ≡ false → rtr_due c.stream ≡ None → response_due c.stream ≡ None → (c.stream.queue.unsent ≡ []) ⊎ WaitsFor c.stream → HasNothing (has_ended_by done) (story_with o done queue) (sent done) (posted done)
    all running owes unready quiet (inl left) =
        let e = own.emits in
        let l = lives c.stream (tale_with o done queue) e running in
        let unbegun : c.stream.queue.offset ≡ 0 = subst (λ z. IsBegun z c.stream.queue.offset) left l.limits.begun in
        let none : e.kept.unsent ≡ [] = ap (λ (q : Queue). q.unsent) (sym (e.live running).queue) ∙ left in
        let whole : e.counts.first ≡ posted done = sym (append-nil e.counts.first) ∙ ap (λ z. e.counts.first ++ z) (sym none) ∙ sym e.counts.split in
        let gone : e.left ≡ [] = ready_gone c.stream (tale_with o done queue) e own.sent running owes unready in
        AllSent (subst (AreAllFrames (story_with o done queue) (sent done)) whole (all_frames o c (tale_with o done queue) own running owes unbegun (none_waits c.stream unbegun quiet) gone))
    all running owes unready quiet (inr w) =
        let e = own.emits in
        let l = lives c.stream (tale_with o done queue) e running in
        let unbegun : c.stream.queue.offset ≡ 0 = zero_of c.stream.queue.offset (subst (λ z. IsBegun z c.stream.queue.offset) w.unsent l.limits.begun) in
        let items : List (Request Octets) = e.counts.first in
        let gone : e.left ≡ [] = ready_gone c.stream (tale_with o done queue) e own.sent running owes unready in
        let unsent : e.kept.unsent ≡ Read w.request ∷ w.messages = ap (λ (q : Queue). q.unsent) (sym (e.live running).queue) ∙ w.unsent in
        let split : posted done ≡ items ++ Read w.request ∷ w.messages = e.counts.split ∙ ap (λ z. items ++ z) unsent in
        let here : slice_get (posted done) (length items) ≡ Some (Read w.request) = ap (λ z. slice_get z (length items)) split ∙ get_after items (Read w.request) w.messages in
        let firsts : items ≡ take (length items) (posted done) = sym (take-append_seam items (Read w.request ∷ w.messages)) ∙ ap (take (length items)) (sym split) in
        ReadWaits (length items) w.request here (omega (arith, w.full, ap length e.asks.reads, ap most_reads_in own.track.begins.start))
        (subst (AreAllFrames (story_with o done queue) (sent done)) firsts (all_frames o c (tale_with o done queue) own running owes unbegun (none_waits c.stream unbegun quiet) gone))
      where
        zero_of : (n : ℕ) → (0 < n → n < 0) → n ≡ 0
        zero_of zero h = refl
        zero_of (suc n) h = let no : suc n < 0 = h (omega arith) in absurd (omega (arith, no))

        get_after : (xs : List (Request Octets)) (m : Request Octets) (ms : List (Request Octets)) → slice_get (xs ++ m ∷ ms) (length xs) ≡ Some m
        get_after [] m ms = refl
        get_after (x ∷ xs) m ms = get_after xs m ms

    runs_or : (b : Bool) → ended c.stream ≡ b → owes_frame c.stream ≡ false → rtr_due c.stream ≡ None → response_due c.stream ≡ None → part_due c.stream ≡ None → HasNothing (has_ended_by done) (story_with o done queue) (sent done) (posted done)
    runs_or true over owes unready quiet none = Over (sym own.ended ∙ over)
    runs_or false running owes unready quiet none = all running owes unready quiet (part_waits c.stream none)

    go : owes_frame c.stream ≡ false → Rests c.stream → HasNothing (has_ended_by done) (story_with o done queue) (sent done) (posted done)
    go owes (Ended over) = Over (sym own.ended ∙ over)
    go owes (Shut closed) = Closed (open_is c.stream (tale_with o done queue) own.track ∙ closed)
    go owes (Silent silent) = Muted (sym (silent_is c.stream (tale_with o done queue) own.track) ∙ silent)
    go owes (Sent unready quiet none) = runs_or (ended c.stream) refl owes unready quiet none
nothing_stream o c done queue table (Emit (Frame from octets)) rule own = tt
nothing_stream o c done queue table (Emit (Fetched from frame stag to octets)) rule own = tt
nothing_stream o c done queue table (Emit (Denied fault)) rule own = tt
nothing_stream o c done queue table (Post m refused) rule own = tt
nothing_stream o c done queue table (Recv len refused) rule own = tt
nothing_stream o c done queue table (Deliver from number octets delivery) rule own = tt
nothing_stream o c done queue table (Raw number octets delivery) rule own = tt
nothing_stream o c done queue table (First number refused) rule own = tt
nothing_stream o c done queue table (Mulpdu size refused) rule own = tt
nothing_stream o c done queue table (Accept private answer) rule own = tt
nothing_stream o c done queue table (Reject private refused) rule own = tt
nothing_stream o c done queue table (Work step) rule own = tt
nothing_stream o c done queue table Break rule own = tt

pub nothing_at_rest : (trace : List (Entry Octets)) → Run trace → NothingOnlyAtRest trace
nothing_at_rest trace run = each_stream NothingStream trace run (λ done table n c act rule own. nothing_stream (opening_of n done) c (stream_acts n done) (receiving_of n done) table act rule own)

-- a frame stands behind what was sent, and is the start-up frame or that of a part, as large as was set
-- how large the frame of a part is
part_size : (numbers : Numbers) (m : Request Octets) (offset n : ℕ) (last : Bool) (size : ℕ) → offset + n ≤ length (payload m) → n + header_len m ≤ size → 128 ≤ size → (last ≡ false → n + header_len m ≡ size)
    → (length (segment_octets (segment_with numbers m offset last (take n (drop offset (payload m))))) ≤ size) × (is_last (segment_with numbers m offset last (take n (drop offset (payload m)))) ≡ false → length (segment_octets (segment_with numbers m offset last (take n (drop offset (payload m))))) ≡ size)
part_size numbers (Posted (Write stag to octets)) offset n last size within fits enough full =
    let long = length-segment_octets_tagged (record { last = last; ddp_version = 1; control = control_of (tagged_opcode tagged.Write); stag = stag; to = (to + offset) % 2 ^ 64 }) (take n (drop offset octets)) in
    let many : length (take n (drop offset octets)) ≡ n = omega (arith, within, length-take n (drop offset octets), length-drop offset octets) in
    (omega (arith, long, many, fits), (λ h. omega (arith, long, many, full h)))
part_size numbers (Posted (Send octets solicited invalidate)) offset n last size within fits enough full =
    let long = length-segment_octets_untagged (record { last = last; ddp_version = 1; control = control_of (untagged_opcode (untagged.Send solicited (is_some invalidate))); tail = option_map_or number_of invalidate 0; queue = 0; msn = numbers.send; mo = offset }) (take n (drop offset octets)) in
    let many : length (take n (drop offset octets)) ≡ n = omega (arith, within, length-take n (drop offset octets), length-drop offset octets) in
    (omega (arith, long, many, fits), (λ h. omega (arith, long, many, full h)))
part_size numbers (Read request) offset n last size within fits enough full =
    let long = length-segment_octets_untagged (record { last = true; ddp_version = 1; control = control_of (untagged_opcode untagged.ReadRequest); tail = 0; queue = 1; msn = numbers.read; mo = 0 }) (request_octets request) in
    (omega (arith, long, length-request_octets request, enough), (λ h. absurd (false≢true (sym h))))

-- how far a part reaches
part_within : (q : Queue) (max : ℕ) (part : Part (Request Octets)) → IsWithinLimits q → next_part q max ≡ Some part → part.offset + part.n ≤ length (payload part.message)
part_within q max part limits e =
    let w = shows q max part e in
    let m : Request Octets = w.message in
    let begun : IsBegun (m ∷ w.messages) q.offset = subst (λ ms. IsBegun ms q.offset) w.unsent limits.begun in
    subst (λ (p : Part (Request Octets)). p.offset + p.n ≤ length (payload p.message)) (sym w.is) (reach q.offset (length (payload m)) (max - header_len m) begun)
  where
    reach : (offset len room : ℕ) → (0 < offset → offset < len) → offset + min (len - offset) room ≤ len
    reach zero len room begun = omega arith
    reach (suc k) len room begun = let more : suc k < len = begun (omega arith) in omega (arith, more)

-- the start-up frame goes out first
start_frame : (o : Opening) (c : Connected) (done : List (StreamAct Octets)) (queue : Receiving) (from : ℕ) (octets : Octets) → EmitsStart c.stream from octets → Own o c (tale_with o done queue) → IsStartFrame (story_with o done queue) (sent done) octets
start_frame o c done queue from octets p own =
    let t : Tale = tale_with o done queue in
    let some : c.stream.sent < length (own_frame c.stream.start) = below c.stream.sent (length (own_frame c.stream.start)) (owes_some c.stream p.owes).1 in
    ((owes_start c.stream t own.emits own.sent p.owes).0, p.octets_are ∙ sym (start_frame_is c.stream t own.track), λ none. omega (arith, some, ap length p.octets_are, ap length none))

frame_sized : (o : Opening) (c : Connected) (done : List (StreamAct Octets)) (queue : Receiving) (from : ℕ) (octets : Octets) → Own o c (tale_with o done queue) → EmitsStart c.stream from octets ⊎ (EmitsLast c.stream from octets ⊎ (EmitsReady c.stream from octets ⊎ EmitsPart c.stream from octets))
    → FrameSized (story_with o done queue) (size_set done) (sent done) (Frame from octets)
frame_sized o c done queue from octets own (inl p) = (p.from_is ∙ own.sent, inl (start_frame o c done queue from octets p own))
frame_sized o c done queue from octets own (inr (inl p)) =
    let s : StreamState = c.stream in
    let t : Tale = tale_with o done queue in
    let e = own.emits in
    let few : length p.payload ≤ 52 = e.parts.short p.payload p.is_due in (
      p.from_is ∙ own.sent,
      inr (record {
        segment = terminate_segment p.payload;
        known = (terminate_good p.payload few).fits refl;
        is = p.octets_are ∙ (λ i. frame_octets (sending (sym own.track.begins.start i)) (own.sent i - length (own_frame (sym own.track.begins.start i))) (segment_octets (terminate_segment p.payload)));
        fits = omega (arith, terminate_small p.payload few, e.size, e.enough);
        full = λ h. absurd (false≢true (sym h));
      }),
    )
frame_sized o c done queue from octets own (inr (inr (inl p))) =
    let small = rtr_small c.stream.numbers p.rtr in (
      p.from_is ∙ own.sent,
      inr (record {
        segment = rtr_segment c.stream.numbers p.rtr;
        known = (rtr_good c.stream.numbers p.rtr own.emits.numbers).fits (rtr_plain c.stream.numbers p.rtr);
        is = p.octets_are ∙ (λ i. frame_octets (sending (sym own.track.begins.start i)) (own.sent i - length (own_frame (sym own.track.begins.start i))) (segment_octets (rtr_segment c.stream.numbers p.rtr)));
        fits = omega (arith, small, own.emits.enough, own.emits.size);
        full = λ h. absurd (true≢false (sym (rtr_last c.stream.numbers p.rtr) ∙ h));
      }),
    )
frame_sized o c done queue from octets own (inr (inr (inr p))) =
    let s : StreamState = c.stream in
    let t : Tale = tale_with o done queue in
    let e = own.emits in
    let l = lives s t e p.is_loud.running in
    let filled : IsFilled s.mulpdu p.part = fills s.queue s.mulpdu p.part e.enough l.limits p.is_loud.part_is in
    let size = part_size s.numbers p.part.message p.part.offset p.part.n p.part.last s.mulpdu (part_within s.queue s.mulpdu p.part l.limits p.is_loud.part_is) filled.fits e.enough filled.full in (
      p.from_is ∙ own.sent,
      inr (record {
        segment = segment_of s.numbers p.part;
        known = (shown_good s.numbers s.queue s.mulpdu p.part p.is_loud.part_is l.limits e.enough e.few e.numbers (first_fits s.queue l.fit)).fits (plain_part s.numbers p.part);
        is = p.octets_are ∙ (λ i. frame_octets (sending (sym own.track.begins.start i)) (own.sent i - length (own_frame (sym own.track.begins.start i))) (segment_octets (segment_of s.numbers p.part)));
        fits = omega (arith, size.0, e.size);
        full = λ h. size.1 h ∙ e.size;
      }),
    )

-- the frame of part of a response
response_sized : (o : Opening) (c : Connected) (done : List (StreamAct Octets)) (queue : Receiving) (table : Table) (from : ℕ) (frame : Octets) (stag : Stag) (to : ℕ) (octets : Octets) → EmitsResponse table c.stream from frame stag to octets → Own o c (tale_with o done queue)
    → FrameSized (story_with o done queue) (size_set done) (sent done) (Fetched from frame stag to octets)
response_sized o c done queue table from frame stag to octets p own =
    let s : StreamState = c.stream in
    let e = own.emits in
    let w = answers_part table s (tale_with o done queue) from frame stag to octets p e.asks in
    let waits : (story_with o done queue).asked.unanswered ≡ w.oldest ∷ w.others = ap (λ (z : Requested). z.unanswered) e.asks.asked ∙ w.waiting in (
      p.from_is ∙ own.sent,
      record {
        fits = omega (arith, w.many, e.size, e.enough);
        full = λ oldest others is less.
            let same : w.oldest ≡ oldest = ap (asked_or w.oldest) (sym waits ∙ is) in
            let size : oldest.request.size ≡ w.oldest.request.size = ap (λ (z : Asked). z.request.size) (sym same) in
            omega (arith, w.many, e.size, e.enough, below_size (λ z. less (z ∙ sym size)) w.within);
      },
    )
  where
    below_size : {a b : ℕ} → a ≢ b → a ≤ b → a < b
    below_size {a} {b} h le = elim (cases_lt a b) [ inl lt ↦ lt | inr ge ↦ absurd (h (omega (arith, le, ge))) ]

shown_sized : (o : Opening) (c : Connected) (done : List (StreamAct Octets)) (queue : Receiving) (table : Table) (act : StreamAct Octets) → StreamRule table c.stream act → Own o c (tale_with o done queue)
    → OnSome (FrameSized (story_with o done queue) (size_set done) (sent done)) (deed act).shown
shown_sized o c done queue table (Emit (Frame from octets)) rule own = frame_sized o c done queue from octets own (emits_as table c.stream (Frame from octets) rule)
shown_sized o c done queue table (Emit (Fetched from frame stag to octets)) rule own = response_sized o c done queue table from frame stag to octets (emits_as table c.stream (Fetched from frame stag to octets) rule) own
shown_sized o c done queue table (Emit (Denied fault)) rule own = tt
shown_sized o c done queue table (Emit Nothing) rule own = tt
shown_sized o c done queue table (Post m refused) rule own = tt
shown_sized o c done queue table (Recv len refused) rule own = tt
shown_sized o c done queue table (Deliver from number octets delivery) rule own = tt
shown_sized o c done queue table (Raw number octets delivery) rule own = tt
shown_sized o c done queue table (First number refused) rule own = tt
shown_sized o c done queue table (Mulpdu size refused) rule own = tt
shown_sized o c done queue table (Accept private answer) rule own = tt
shown_sized o c done queue table (Reject private refused) rule own = tt
shown_sized o c done queue table (Work step) rule own = tt
shown_sized o c done queue table Break rule own = tt

pub sized_all : (trace : List (Entry Octets)) → Run trace → Sized trace
sized_all trace run = each_stream SizedStream trace run (λ done table n c act rule own. shown_sized (opening_of n done) c (stream_acts n done) (receiving_of n done) table act rule own)

may_send : (o : Opening) (c : Connected) (done : List (StreamAct Octets)) (queue : Receiving) → MaySpeak c.stream → Own o c (tale_with o done queue) → MaySend (has_ended_by done) (story_with o done queue)
may_send o c done queue m own =
    let t : Tale = tale_with o done queue in
    record { running = sym own.ended ∙ m.running; open_now = open_is c.stream t own.track ∙ m.started; loud = sym (silent_is c.stream t own.track) ∙ m.loud }

may_respond : (o : Opening) (c : Connected) (done : List (StreamAct Octets)) (queue : Receiving) → MaySpeak c.stream → rtr_due c.stream ≡ None → Own o c (tale_with o done queue) → MayRespond (has_ended_by done) (story_with o done queue) (sent done)
may_respond o c done queue m unready own =
    let t : Tale = tale_with o done queue in
    let gone : own.emits.left ≡ [] = ready_gone c.stream t own.emits own.sent m.running m.spoken unready in
    (may_send o c done queue m own, not_rtr c.stream t (length t.sent) own.track.begins.start (sym own.sent) own.sent (all_spoken c.stream m.spoken (runs_unbroken c.stream.ending m.running)) own.emits gone (lives c.stream t own.emits m.running).none)

-- the Terminate that is due
last_word_of : (o : Opening) (c : Connected) (done : List (StreamAct Octets)) (queue : Receiving) (from : ℕ) (octets : Octets) → EmitsLast c.stream from octets → Own o c (tale_with o done queue) → IsLastWord (story_with o done queue) (sent done) octets
last_word_of o c done queue from octets p own = record {
  payload = p.payload;
  is_due = ap last_word own.emits.parts.ending ∙ p.is_due;
  is = p.octets_are ∙ (λ i. frame_octets (sending (sym own.track.begins.start i)) (own.sent i - length (own_frame (sym own.track.begins.start i))) (segment_octets (terminate_segment p.payload)));
}

-- and goes out where one may
shown_allowed : (o : Opening) (c : Connected) (done : List (StreamAct Octets)) (queue : Receiving) (table : Table) (act : StreamAct Octets) → StreamRule table c.stream act → Own o c (tale_with o done queue)
    → OnSome (FrameAllowed (has_ended_by done) (story_with o done queue) (sent done)) (deed act).shown
shown_allowed o c done queue table (Emit (Frame from octets)) rule own = go (emits_as table c.stream (Frame from octets) rule)
  where
    t : Tale
    t = tale_with o done queue

    go : EmitsStart c.stream from octets ⊎ (EmitsLast c.stream from octets ⊎ (EmitsReady c.stream from octets ⊎ EmitsPart c.stream from octets)) → FrameAllowed (has_ended_by done) (story_with o done queue) (sent done) (Frame from octets)
    go (inl p) = inl (start_frame o c done queue from octets p own)
    go (inr (inl p)) = inr (inl (last_word_of o c done queue from octets p own))
    go (inr (inr (inl p))) = inr (inr (may_send o c done queue p.speaks own))
    go (inr (inr (inr p))) = inr (inr (record { running = sym own.ended ∙ p.is_loud.running; open_now = open_is c.stream t own.track ∙ p.is_loud.started; loud = sym (silent_is c.stream t own.track) ∙ p.is_loud.loud }))
shown_allowed o c done queue table (Emit (Fetched from frame stag to octets)) rule own = (let p = emits_as table c.stream (Fetched from frame stag to octets) rule in may_respond o c done queue p.speaks p.unready own)
shown_allowed o c done queue table (Emit (Denied fault)) rule own = (let p = emits_as table c.stream (Denied fault) rule in may_respond o c done queue p.speaks p.unready own)
shown_allowed o c done queue table (Emit Nothing) rule own = tt
shown_allowed o c done queue table (Post m refused) rule own = tt
shown_allowed o c done queue table (Recv len refused) rule own = tt
shown_allowed o c done queue table (Deliver from number octets delivery) rule own = tt
shown_allowed o c done queue table (Raw number octets delivery) rule own = tt
shown_allowed o c done queue table (First number refused) rule own = tt
shown_allowed o c done queue table (Mulpdu size refused) rule own = tt
shown_allowed o c done queue table (Accept private answer) rule own = tt
shown_allowed o c done queue table (Reject private refused) rule own = tt
shown_allowed o c done queue table (Work step) rule own = tt
shown_allowed o c done queue table Break rule own = tt

pub speaks_all : (trace : List (Entry Octets)) → Run trace → Speaks trace
speaks_all trace run = each_stream SpeaksStream trace run (λ done table n c act rule own. shown_allowed (opening_of n done) c (stream_acts n done) (receiving_of n done) table act rule own)

-- ---- the turns of frames

pub standing_is : (done : List (Act Octets)) (n : ℕ) (table : Table) (c : Connected) → Own (opening_of n done) c (tale n done) → work.standing table c.stream ≡ record (standing n done) { table = table; peer = peer_of c.stream }
standing_is done n table c own = λ i. record { table = table; peer = peer_of c.stream; receiving = sym own.track.receiving i; reads = sym own.emits.asks.reads i; asked = sym own.emits.asks.asked i }

-- where the regions, and the number of the stream, are those that were told
same_standing : (done : List (Act Octets)) (n : ℕ) (table : Table) (c : Connected) → table ≡ table_after done → peer_of c.stream ≡ peer_at n done → Own (opening_of n done) c (tale n done) → work.standing table c.stream ≡ standing n done
same_standing done n table c regions peer own = standing_is done n table c own ∙ (λ i. record (standing n done) { table = regions i; peer = peer i })

abbrev pub TurnsIn : Standing → List (Act Octets) → ℕ → StreamAct Octets → Type 0
TurnsIn s done n act = OnSome (TurnsSeen (has_ended_by (stream_acts n done)) (story_of n done) s) (deed act).step

pub turns_stream : (done : List (Act Octets)) (n : ℕ) (table : Table) (c : Connected) (act : StreamAct Octets) → StreamRule table c.stream act → Own (opening_of n done) c (tale n done) → TurnsIn (work.standing table c.stream) done n act
turns_stream done n table c (Work step) rule own = answers table c.stream (tale n done) step rule own.track own.ended
turns_stream done n table c (Post m refused) rule own = tt
turns_stream done n table c (Recv len refused) rule own = tt
turns_stream done n table c (Emit shown) rule own = tt
turns_stream done n table c (Deliver from number octets delivery) rule own = tt
turns_stream done n table c (Raw number octets delivery) rule own = tt
turns_stream done n table c (First number refused) rule own = tt
turns_stream done n table c (Mulpdu size refused) rule own = tt
turns_stream done n table c (Accept private answer) rule own = tt
turns_stream done n table c (Reject private refused) rule own = tt
turns_stream done n table c Break rule own = tt

pub turns_all : (trace : List (Entry Octets)) → ToldRun trace → Turns trace
turns_all trace run = each_told TurnsStream trace run (λ done table n c act regions peer rule own. subst (λ z. TurnsIn z done n act) (same_standing done n table c regions peer own) (turns_stream done n table c act rule own))

by_some : (done : List (Act Octets)) (n : ℕ) (table : Table) (peer : Peer) (act : StreamAct Octets) → TurnsIn (record (standing n done) { table = table; peer = peer }) done n act → TurnsStreamBySome done n act
by_some done n table peer act = go (deed act).step
  where
    go : (o : Option (Seen Octets)) → OnSome (TurnsSeen (has_ended_by (stream_acts n done)) (story_of n done) (record (standing n done) { table = table; peer = peer })) o
        → OnSome (λ step. (t : Table) × (p : Peer) × TurnsSeen (has_ended_by (stream_acts n done)) (story_of n done) (record (standing n done) { table = t; peer = p }) step) o
    go None h = tt
    go (Some step) h = (table, peer, h)

pub turns_by_some : (trace : List (Entry Octets)) → Run trace → TurnsBySome trace
turns_by_some trace run = each_stream TurnsStreamBySome trace run (λ done table n c act rule own.
    by_some done n table (peer_of c.stream) act (subst (λ z. TurnsIn z done n act) (standing_is done n table c own) (turns_stream done n table c act rule own)))

-- ---- what is fetched

pub fetch_shown : (done : List (Act Octets)) (n : ℕ) (table : Table) (c : Connected) (act : StreamAct Octets) → StreamRule table c.stream act → Own (opening_of n done) c (tale n done)
    → OnSome (FetchShown (story_of n done) (work.standing table c.stream) (size_set (stream_acts n done))) (deed act).shown
fetch_shown done n table c (Emit (Fetched from frame stag to octets)) rule own =
    let t : Tale = tale n done in
    let w = answers_part table c.stream t from frame stag to octets (emits_as table c.stream (Fetched from frame stag to octets) rule) own.emits.asks in
    let p = emits_as table c.stream (Fetched from frame stag to octets) rule in
    record {
      oldest = w.oldest;
      waits = record { others = w.others; is = ap (λ (z : Requested). z.unanswered) own.emits.asks.asked ∙ w.waiting };
      source = w.stag_is;
      place = w.to_is;
      asked_for = w.within;
      allowed = allows table (peer_of c.stream) stag to (length octets) rights.Read w.admitted;
      stand = w.stand;
      carries = w.frame_is
          ∙ (λ i. frame_octets (sending (sym own.track.begins.start i)) (sym p.from_is i - first_place_out (sym own.track.begins.start i)) (segment_octets (response_segment w.oldest.request (length (story_of n done).begun) (w.last_is i) octets)));
    }
fetch_shown done n table c (Emit (Denied fault)) rule own =
    let t : Tale = tale n done in
    let p = emits_as table c.stream (Denied fault) rule in
    let w = part_is_of c.stream p.part p.is_due in
    let fetched = own.emits.asks.fetched in
    record {
      oldest = w.oldest;
      waits = record { others = w.others; is = ap (λ (z : Requested). z.unanswered) own.emits.asks.asked ∙ w.waiting };
      denied = (λ i. reading_fault table (peer_of c.stream) w.oldest.request.source (w.oldest.request.source_to + sym fetched i) (min (w.oldest.request.size - sym fetched i) (sym own.emits.size i - 14)))
          ∙ ap (fetch_fault table (peer_of c.stream)) (sym w.is) ∙ p.denied;
    }
fetch_shown done n table c (Emit (Frame from octets)) rule own =
    frame_plain table c.stream (tale n done) from octets rule own.track.begins.start own.sent own.emits
fetch_shown done n table c (Emit Nothing) rule own = tt
fetch_shown done n table c (Post m refused) rule own = tt
fetch_shown done n table c (Recv len refused) rule own = tt
fetch_shown done n table c (Deliver from number octets delivery) rule own = tt
fetch_shown done n table c (Raw number octets delivery) rule own = tt
fetch_shown done n table c (First number refused) rule own = tt
fetch_shown done n table c (Mulpdu size refused) rule own = tt
fetch_shown done n table c (Accept private answer) rule own = tt
fetch_shown done n table c (Reject private refused) rule own = tt
fetch_shown done n table c (Work step) rule own = tt
fetch_shown done n table c Break rule own = tt

pub fetched_all : (trace : List (Entry Octets)) → ToldRun trace → AtEach (OnStream FetchStream) trace
fetched_all trace run = each_told FetchStream trace run (λ done table n c act regions peer rule own.
    subst (λ z. OnSome (FetchShown (story_of n done) z (size_set (stream_acts n done))) (deed act).shown) (same_standing done n table c regions peer own) (fetch_shown done n table c act rule own))

-- ---- Reads that are outstanding

pub few_reads : (trace : List (Entry Octets)) → Run trace → FewReads trace
few_reads trace run past future is x n =
    let own = ((seen_then past future (run past future is)).pairs x n).own.own in
    omega (arith, own.emits.asks.few, ap length own.emits.asks.reads, ap most_reads_in own.track.begins.start)

-- ---- finished messages

finished_stream : (done : List (Act Octets)) (n : ℕ) (table : Table) (c : Connected) (act : StreamAct Octets) → StreamRule table c.stream act → Own (opening_of n done) c (tale n done) → FinishedStream done n act
finished_stream done n table c (Work (seen.Done kind)) rule own =
    let d = (sees table c.stream (sound c.stream (tale n done) own.track) (seen.Done kind) rule).0 in
    subst (CanFinish (story_of n done) (stream_acts n done)) (sym d.2) (can_finish c.stream (tale n done) own.track own.emits d.0 d.1)
finished_stream done n table c (Work seen.Idle) rule own = tt
finished_stream done n table c (Work (seen.Asked word private)) rule own = tt
finished_stream done n table c (Work (seen.Opened agreed word private)) rule own = tt
finished_stream done n table c (Work (seen.Closed fault)) rule own = tt
finished_stream done n table c (Work (seen.Placed right stag to octets)) rule own = tt
finished_stream done n table c (Work (seen.Tried place)) rule own = tt
finished_stream done n table c (Work (seen.Buffered msn mo len)) rule own = tt
finished_stream done n table c (Work (seen.Requested size stag to)) rule own = tt
finished_stream done n table c (Work seen.Passed) rule own = tt
finished_stream done n table c (Work (seen.Received octets solicited invalidate)) rule own = tt
finished_stream done n table c (Work (seen.Flushed kind)) rule own = tt
finished_stream done n table c (Work (seen.FlushedRecv octets)) rule own = tt
finished_stream done n table c (Work (seen.Terminated fault)) rule own = tt
finished_stream done n table c (Work (seen.Fault fault)) rule own = tt
finished_stream done n table c Break rule own = tt
finished_stream done n table c (Post m refused) rule own = tt
finished_stream done n table c (Recv len refused) rule own = tt
finished_stream done n table c (Emit shown) rule own = tt
finished_stream done n table c (Deliver from number octets delivery) rule own = tt
finished_stream done n table c (Raw number octets delivery) rule own = tt
finished_stream done n table c (First number refused) rule own = tt
finished_stream done n table c (Mulpdu size refused) rule own = tt
finished_stream done n table c (Accept private answer) rule own = tt
finished_stream done n table c (Reject private refused) rule own = tt

pub finished_all : (trace : List (Entry Octets)) → Run trace → Finished trace
finished_all trace run = each_stream FinishedStream trace run (λ done table n c act rule own. finished_stream done n table c act rule own)

-- ---- rest

pub idle_stream : (table : Table) (c : Connected) (done : List (Act Octets)) (n : ℕ) (act : StreamAct Octets) → StreamRule table c.stream act → Own (opening_of n done) c (tale n done) → IdleStream done n act
idle_stream table c done n (Work seen.Idle) rule o = record {
  reason = idles table c.stream (tale n done) rule o.track o.ended;
  unfinished = cannot_finish c.stream (tale n done) o.track o.emits (idle_unfinished table c.stream (tale n done) rule o.track);
}
idle_stream table c done n (Work (seen.Asked word private)) rule o = tt
idle_stream table c done n (Work (seen.Opened agreed word private)) rule o = tt
idle_stream table c done n (Work (seen.Closed fault)) rule o = tt
idle_stream table c done n (Accept private answer) rule o = tt
idle_stream table c done n (Reject private refused) rule o = tt
idle_stream table c done n (Work (seen.Done kind)) rule own = tt
idle_stream table c done n (Work (seen.Placed right stag to octets)) rule o = tt
idle_stream table c done n (Work (seen.Tried place)) rule o = tt
idle_stream table c done n (Work (seen.Buffered msn mo len)) rule o = tt
idle_stream table c done n (Work (seen.Requested size stag to)) rule o = tt
idle_stream table c done n (Work seen.Passed) rule o = tt
idle_stream table c done n (Work (seen.Received octets solicited invalidate)) rule o = tt
idle_stream table c done n (Work (seen.Flushed kind)) rule o = tt
idle_stream table c done n (Work (seen.FlushedRecv octets)) rule o = tt
idle_stream table c done n (Work (seen.Terminated fault)) rule o = tt
idle_stream table c done n (Work (seen.Fault fault)) rule o = tt
idle_stream table c done n Break rule o = tt
idle_stream table c done n (Post m refused) rule o = tt
idle_stream table c done n (Recv len refused) rule o = tt
idle_stream table c done n (Emit shown) rule o = tt
idle_stream table c done n (Deliver from number octets delivery) rule o = tt
idle_stream table c done n (Raw number octets delivery) rule o = tt
idle_stream table c done n (First number refused) rule o = tt
idle_stream table c done n (Mulpdu size refused) rule o = tt

pub idle_at_rest : (trace : List (Entry Octets)) → Run trace → IdleOnlyAtRest trace
idle_at_rest trace run = each_stream IdleStream trace run (λ done table n c act rule own. idle_stream table c done n act rule own)

-- ---- before their turn

pub early_all : (trace : List (Entry Octets)) → ToldRun trace → JudgesEarly trace
early_all trace run = judges_early trace (idle_at_rest trace (run_in trace run)) (turns_all trace run)

pub second_all : (trace : List (Entry Octets)) → ToldRun trace → ChecksOnce trace
second_all trace run = checks_once trace (turns_all trace run)

pub spans_once : (trace : List (Entry Octets)) → Run trace → NonePlacedTwice trace
spans_once trace run past future is x n =
    let h = ((seen_then past future (run past future is)).pairs x n).own in
    are_once h.stream (spans_placed (opening_of n (acts x past)) (stream_acts n (acts x past))) h.own.once

pub once_all : (trace : List (Entry Octets)) → ToldRun trace → PlacesOnce trace
once_all trace run = record { placements = placements trace (turns_all trace run); once = spans_once trace (run_in trace run) }

-- ---- the end

-- what is handed back, and what is seen of a stream that has not ended
end_seen : (o : Opening) (c : Connected) (done : List (StreamAct Octets)) (queue : Receiving) (table : Table) (step : Seen Octets) → StreamRule table c.stream (Work step) → Own o c (tale_with o done queue) → EndSeen (has_ended_by done) (story_with o done queue) done step
end_seen o c done queue table step rule own = told step (sees table c.stream (sound c.stream t own.track) step rule).0
  where
    t : Tale
    t = tale_with o done queue

    q : Queue
    q = c.stream.queue

    no_kinds : oldest_in q ≡ None → kinds_in q ≡ []
    no_kinds h = go q.sent.messages q.unsent h
      where
        go : (ms : List WasSent) (unsent : List (Request Octets)) → oldest_among q.sent.first ms unsent ≡ None → map (λ (w : WasSent). w.kind) ms ++ map kind_of unsent ≡ []
        go [] [] h = refl
        go [] (m ∷ unsent) h = absurd (none-some _ (sym h))
        go (m ∷ ms) unsent h = absurd (none-some _ (sym h))

    none_held : oldest_in q ≡ None → HoldsNoMessage done
    none_held h =
        let all : map kind_of (posted done) ≡ handed_kinds done = own.emits.handing.order ∙ ap (λ z. handed_kinds done ++ z) (no_kinds h) ∙ append-nil (handed_kinds done) in
        omega (arith, ap length all, length-map (posted done) kind_of)

    runs : ended c.stream ≡ false → has_ended_by done ≡ false
    runs h = sym own.ended ∙ h

    rests : Hears c.stream progresses.More ⊎ IsResting c.stream → has_ended_by done ≡ true → HoldsNothing (story_with o done queue) done
    rests (inl h) over = absurd (false≢true (sym (runs h.running) ∙ over))
    rests (inr (HasEnded e old none)) over = record { messages = none_held old; buffers = ap (λ (r : Receiving). first_buffer r.source) own.track.receiving ∙ none }
    rests (inr (Unanswered running a b)) over = absurd (false≢true (sym (runs running) ∙ over))
    rests (inr (Without r a b e)) over = absurd (false≢true (sym (runs r.running) ∙ over))

    told : (step : Seen Octets) → Sees table c.stream step → EndSeen (has_ended_by done) (story_with o done queue) done step
    told (seen.Done kind) h = tt
    told (seen.Flushed kind) h =
        let m = message_at (posted done) (handed_kinds done) h.oldest.kind (kinds_in (handed_from q (Some h.oldest))) (own.emits.handing.order ∙ ap (λ z. handed_kinds done ++ z) (keeps_order.given_up q h.oldest h.is).kind) in
        record {
          over_so = sym own.ended ∙ h.over;
          message = m.0;
          is = m.1;
          kind_is = h.kind_is ∙ m.2;
          unfinished = λ other. cannot_finish c.stream t own.track own.emits h.unfinished other;
        }
    told (seen.FlushedRecv octets) h = record { over_so = sym own.ended ∙ h.over; messages = none_held h.none; is = ap (λ (r : Receiving). first_buffer r.source) own.track.receiving ∙ h.is }
    told seen.Idle h = rests h.1
    told (seen.Asked word private) h = runs h.0.running
    told (seen.Opened agreed word private) h = runs h.0.hears_it.running
    told (seen.Closed fault) h = runs h.running
    told (seen.Placed right stag to octets) (inl h) = runs h.0.runs.running
    told (seen.Placed right stag to octets) (inr h) = runs h.0.runs.running
    told (seen.Tried place) h = runs h.runs.running
    told (seen.Buffered msn mo len) (inl h) = runs h.0.runs.running
    told (seen.Buffered msn mo len) (inr h) = runs h.0.runs.running
    told (seen.Requested size stag to) h = runs h.0.runs.running
    told seen.Passed h = runs h.0.runs.running
    told (seen.Received octets solicited invalidate) h = runs h.0.runs.running
    told (seen.Terminated fault) h = runs h.0.runs.running
    told (seen.Fault fault) (inl h) = runs h.hears_it.running
    told (seen.Fault fault) (inr (inl h)) = runs h.runs.running
    told (seen.Fault fault) (inr (inr h)) = runs h.runs.running

-- what goes out of a stream that has ended
end_shown : (o : Opening) (c : Connected) (done : List (StreamAct Octets)) (queue : Receiving) (table : Table) (shown : Shown Octets) → StreamRule table c.stream (Emit shown) → Own o c (tale_with o done queue) → EndShown (has_ended_by done) (story_with o done queue) (sent done) shown
end_shown o c done queue table (Frame from octets) rule own = λ over. go over (emits_as table c.stream (Frame from octets) rule)
  where
    t : Tale
    t = tale_with o done queue

    go : has_ended_by done ≡ true → EmitsStart c.stream from octets ⊎ (EmitsLast c.stream from octets ⊎ (EmitsReady c.stream from octets ⊎ EmitsPart c.stream from octets)) → IsStartDue (story_with o done queue) (sent done) octets ⊎ IsLastWord (story_with o done queue) (sent done) octets
    go over (inl p) = inl (record {
      unbroken = ap is_broken own.emits.parts.ending ∙ (owes_some c.stream p.owes).0;
      is = start_frame o c done queue from octets p own;
    })
    go over (inr (inl p)) = inr (last_word_of o c done queue from octets p own)
    go over (inr (inr (inl p))) = absurd (false≢true (sym p.speaks.running ∙ own.ended ∙ over))
    go over (inr (inr (inr p))) = absurd (false≢true (sym p.is_loud.running ∙ own.ended ∙ over))
end_shown o c done queue table (Fetched from frame stag to octets) rule own = sym own.ended ∙ (emits_as table c.stream (Fetched from frame stag to octets) rule).speaks.running
end_shown o c done queue table (Denied fault) rule own = sym own.ended ∙ (emits_as table c.stream (Denied fault) rule).speaks.running
end_shown o c done queue table Nothing rule own = tt

ends_stream : (done : List (Act Octets)) (n : ℕ) (table : Table) (c : Connected) (act : StreamAct Octets) → StreamRule table c.stream act → Own (opening_of n done) c (tale n done) → EndsStream done n act
ends_stream done n table c (Work step) rule own = (end_seen (opening_of n done) c (stream_acts n done) (receiving_of n done) table step rule own, tt)
ends_stream done n table c (Emit shown) rule own = (tt, end_shown (opening_of n done) c (stream_acts n done) (receiving_of n done) table shown rule own)
ends_stream done n table c (Post m refused) rule own = (tt, tt)
ends_stream done n table c (Recv len refused) rule own = (tt, tt)
ends_stream done n table c (Deliver from number octets delivery) rule own = (tt, tt)
ends_stream done n table c (Raw number octets delivery) rule own = (tt, tt)
ends_stream done n table c (First number refused) rule own = (tt, tt)
ends_stream done n table c (Mulpdu size refused) rule own = (tt, tt)
ends_stream done n table c (Accept private answer) rule own = (tt, tt)
ends_stream done n table c (Reject private refused) rule own = (tt, tt)
ends_stream done n table c Break rule own = (tt, tt)

pub ends_all : (trace : List (Entry Octets)) → Run trace → Ends trace
ends_all trace run = each_stream EndsStream trace run (λ done table n c act rule own. ends_stream done n table c act rule own)

-- the story of a stream has ended where its acts say so
pub ended_told : (trace : List (Entry Octets)) → Run trace → (x : End) (n : ℕ) → has_ended (story_of n (acts x trace)).ending ≡ has_ended_by (stream_acts n (acts x trace))
ended_told trace run x n =
    let own = ((seen_then trace [] (run trace [] (sym (append-nil trace)))).pairs x n).own.own in
    ap has_ended own.emits.parts.ending ∙ own.ended

-- ---- calls

-- an opening is refused by what was done
number_refused : (s : EndState) (done : List (Act Octets)) (n pd : ℕ) → EndKept s done → s.endpoint.table ≡ table_after done → number_refusal s.endpoint n pd ≡ number_refusal_by done n pd
number_refused s done n pd k regions =
    let taken : is_taken s.endpoint n ≡ was_opened (openings n done) = (λ i. k.opened n i || is_some (closed_none s.endpoint n k.none_closed i)) ∙ or_false (was_opened (openings n done)) in
    λ i. cond (nat_le stream_numbers n) (Some BadNumber) (cond (taken i) (Some NumberTaken) (cond (not (is_added (regions i) pd)) (Some NoDomain) None))
  where
    or_false : (b : Bool) → (b || false) ≡ b
    or_false true = refl
    or_false false = refl

open_refused : (s : EndState) (done : List (Act Octets)) (n pd : ℕ) (role : Role) (config : Config) → EndKept s done → s.endpoint.table ≡ table_after done → open_refusal s.endpoint n pd role config ≡ open_refusal_by done n pd role config
open_refused s done n pd role config k regions = λ i. option_or (number_refused s done n pd k regions i) (request_refusal role config)

open_shared_refused : (s : EndState) (done : List (Act Octets)) (n pd : ℕ) (role : Role) (config : Config) → EndKept s done → PoolsSeen s done → s.endpoint.table ≡ table_after done
    → open_shared_refusal s.endpoint n pd role config ≡ open_shared_refusal_by done n pd role config
open_shared_refused s done n pd role config k pools regions =
    λ i. option_or (option_map open_shared_refusal_of (number_refused s done n pd k regions i)) (option_or (unshared (pools pd i)) (option_map open_shared_refusal_of (request_refusal role config)))

-- the STag of the next region names nothing
next_free : (table : Table) (pd base len : ℕ) (region : Region) → register_refusal table pd base len ≡ None → region_at table (next_stag table pd) ≡ None
next_free table pd base len region e = go (is_some (part_of table pd)) refl e
  where
    go : (b : Bool) → is_some (part_of table pd) ≡ b
        → cond (not b) (Some register_refusals.NoDomain) (cond (nat_le 1024 (free_slot (slots_of table pd))) (Some register_refusals.DomainFull) (cond (nat_lt 16777216 len) (Some register_refusals.TooLong) (cond (nat_lt (2 ^ 64) (base + len)) (Some register_refusals.BaseWrap) None))) ≡ None
        → region_at table (next_stag table pd) ≡ None
    go true added h = (registered-changes table pd region (there table pd added)).was_free
    go false added h = absurd (none-some _ (sym h))

pub registers : (table : Table) (pd base len : ℕ) (region : Region) (answer : Result Stag RegisterRefusal) → answer ≡ answer_or (register_refusal table pd base len) (next_stag table pd) → (result_err answer ≡ register_refusal table pd base len) × IfOk answer (IsNew table pd)
registers table pd base len region answer e = subst (λ z. (result_err z ≡ register_refusal table pd base len) × IfOk z (IsNew table pd)) (sym e) (go (register_refusal table pd base len) refl)
  where
    go : (o : Option RegisterRefusal) → register_refusal table pd base len ≡ o → (result_err (answer_or o (next_stag table pd)) ≡ register_refusal table pd base len) × IfOk (answer_or o (next_stag table pd)) (IsNew table pd)
    go None is = (sym is, record { domain = refl; fresh = next_free table pd base len region is })
    go (Some refusal) is = (sym is, tt)

end_answered : (done : List (Act Octets)) (s : EndState) (act : Act Octets) → EndKept s done → PoolsSeen s done → s.endpoint.table ≡ table_after done → EndRule s.endpoint act → EndAnswered done act
end_answered done s (Domain pd refused) k pools regions rule = subst (λ t. refused ≡ domain_refusal t pd) regions rule
end_answered done s (Register pd base rights octets answer) k pools regions rule =
    subst (λ t. (result_err answer ≡ register_refusal t pd base (length octets)) × IfOk answer (IsNew t pd)) regions (registers s.endpoint.table pd base (length octets) (new_region base octets rights) answer rule)
end_answered done s (Deregister stag answer) k pools regions rule = subst (λ t. answer ≡ deregister_answer t stag) regions rule
end_answered done s (Invalidate stag refused) k pools regions rule = subst (λ t. refused ≡ invalidate_refusal t stag) regions rule
end_answered done s (Store stag to octets refused) k pools regions rule = subst (λ t. refused ≡ store_refusal t stag to (length octets)) regions rule
end_answered done s (Open n pd role options private refused) k pools regions rule = rule ∙ open_refused s done n pd role (config_for options private) k regions
end_answered done s (Share pd refused) k pools regions rule = rule ∙ (λ i. share_fault (is_added (regions i) pd) (pools pd i))
end_answered done s (Pool pd len refused) k pools regions rule = rule ∙ (λ i. pool_fault (is_added (regions i) pd) (pools pd i))
end_answered done s (Unpool pd answer) k pools regions rule = rule ∙ (λ i. answer_or (take_fault (is_added (regions i) pd) (pools pd i)) (taken (pools pd i)))
end_answered done s (OpenShared n pd role options private refused) k pools regions rule = rule ∙ open_shared_refused s done n pd role (config_for options private) k pools regions
end_answered done s (Stream n act) k pools regions rule = tt

pub shows_memory : (trace : List (Entry Octets)) → Follows start trace → ShowsMemory trace
shows_memory trace follows past e future is =
    let w : State = state_after start past in
    let m : BothSeen past w = seen_at past (e ∷ future) trace follows is in
    let split = follows_split past (e ∷ future) start (subst (Follows start) is follows) in
    let rule : Rule (end_of e.end w) (end_of (other e.end) w) e.act = split.1.0 in
    end_answered (acts e.end past) (end_of e.end w) e.act (m.ends e.end) (m.pools e.end) (told_onward [] past start unsaid told_first split.0 e.end).table rule.0

-- those on regions and pools, whatever numbers the streams have
plain_answered : (done : List (Act Octets)) (s peer : EndState) (act : Act Octets) → EndKept s done → PoolsSeen s done → s.endpoint.table ≡ table_after done → PlainRule s peer act → PlainAnswered done act
plain_answered done s peer (Domain pd refused) k pools regions rule = end_answered done s (Domain pd refused) k pools regions rule.0
plain_answered done s peer (Register pd base rights octets answer) k pools regions rule = end_answered done s (Register pd base rights octets answer) k pools regions rule.0
plain_answered done s peer (Deregister stag answer) k pools regions rule = end_answered done s (Deregister stag answer) k pools regions rule.0
plain_answered done s peer (Invalidate stag refused) k pools regions rule = end_answered done s (Invalidate stag refused) k pools regions rule.0
plain_answered done s peer (Store stag to octets refused) k pools regions rule = end_answered done s (Store stag to octets refused) k pools regions rule.0
plain_answered done s peer (Open n pd role options private refused) k pools regions rule = tt
plain_answered done s peer (Share pd refused) k pools regions rule = end_answered done s (Share pd refused) k pools regions rule.0
plain_answered done s peer (Pool pd len refused) k pools regions rule = end_answered done s (Pool pd len refused) k pools regions rule.0
plain_answered done s peer (Unpool pd answer) k pools regions rule = end_answered done s (Unpool pd answer) k pools regions rule.0
plain_answered done s peer (OpenShared n pd role options private refused) k pools regions rule = tt
plain_answered done s peer (Stream n act) k pools regions rule = tt

pub shows_regions : (trace : List (Entry Octets)) → ToldRun trace → ShowsRegions trace
shows_regions trace run past e future is =
    let m = run past (e ∷ future) is in
    let w : State = m.0.state in
    plain_answered (acts e.end past) (end_of e.end w) (end_of (other e.end) w) e.act (m.0.keeps.ends e.end) (m.0.keeps.pools e.end) (m.1 e.end).table m.0.next

-- the buffers and the messages that count for a refusal
recv_refused : (o : Opening) (c : Connected) (done : List (StreamAct Octets)) (queue : Receiving) → Own o c (tale_with o done queue) → recv_refusal c.stream ≡ recv_refusal_by (story_with o done queue) done
recv_refused o c done queue own =
    go (is_shared c.stream.receiving) (ended c.stream) (is_full c.stream.receiving.source) (ap is_shared (sym own.track.receiving)) own.ended (ap (λ (r : Receiving). is_full r.source) (sym own.track.receiving))
  where
    r : Receiving
    r = queue

    go : (shared over full : Bool) → shared ≡ is_shared r → over ≡ has_ended_by done → full ≡ is_full r.source
        → cond shared (Some recv_refusals.Shared) (cond over (Some recv_refusals.Ended) (option_map recv_refusal_of (cond full (Some buffer_refusals.Full) None)))
        ≡ cond (is_shared r) (Some recv_refusals.Shared) (cond (has_ended_by done) (Some recv_refusals.Ended) (cond (is_full r.source) (Some recv_refusals.Full) None))
    go true over full a b c = ap (λ z. cond z (Some recv_refusals.Shared) (cond (has_ended_by done) (Some recv_refusals.Ended) (cond (is_full r.source) (Some recv_refusals.Full) None))) a
    go false true full a b c = (λ i. cond (a i) (Some recv_refusals.Shared) (cond (b i) (Some recv_refusals.Ended) (cond (is_full r.source) (Some recv_refusals.Full) None)))
    go false false true a b c = (λ i. cond (a i) (Some recv_refusals.Shared) (cond (b i) (Some recv_refusals.Ended) (cond (c i) (Some recv_refusals.Full) None)))
    go false false false a b c = (λ i. cond (a i) (Some recv_refusals.Shared) (cond (b i) (Some recv_refusals.Ended) (cond (c i) (Some recv_refusals.Full) None)))

post_refused : (o : Opening) (c : Connected) (done : List (StreamAct Octets)) (queue : Receiving) (m : Request Octets) → Own o c (tale_with o done queue) → post_refusal c.stream m ≡ post_refusal_by (story_with o done queue) done m
post_refused o c done queue m own =
    (λ i. cond (own.ended i || not (sym (open_is c.stream (tale_with o done queue) own.track) i)) (Some post_refusals.NotOpen)
    (cond (is_read m && nat_eq (most_reads_in (sym own.track.begins.start i)) 0) (Some post_refusals.NoReads) (of_queue (nat_le 256 (held i)) (nat_lt 16777216 (size_of m)) i)))
  where
    q : Queue
    q = c.stream.queue

    counted : length (handed_kinds done) + (length q.sent.messages + length q.unsent) ≡ length (posted done)
    counted =
        omega (
          arith,
          ap length own.emits.handing.order,
          length-append (handed_kinds done) (kinds_in q),
          length-append (map (λ (w : WasSent). w.kind) q.sent.messages) (map kind_of q.unsent),
          length-map q.sent.messages (λ (w : WasSent). w.kind),
          length-map q.unsent kind_of,
          length-map (posted done) kind_of,
        )

    held : length q.sent.messages + length q.unsent ≡ length (posted done) - length (handed_kinds done)
    held = omega (arith, counted)

    of_queue : (full long : Bool) → option_map post_refusal_of (cond full (Some queue_refusals.Full) (cond long (Some queue_refusals.TooLong) None)) ≡ cond full (Some post_refusals.Full) (cond long (Some post_refusals.TooLong) None)
    of_queue true long = refl
    of_queue false true = refl
    of_queue false false = refl

-- a Request is refused an answer by what was done
answer_refused : (o : Opening) (c : Connected) (done : List (StreamAct Octets)) (queue : Receiving) (private : Octets) → Own o c (tale_with o done queue)
    → answer_refusal c.stream (private_data private).items ≡ answer_refusal_by (story_with o done queue) done private
answer_refused o c done queue private own = λ i. cond (own.ended i) (Some NotAsked) (starting.answer_refusal (sym own.track.begins.start i) (private_data private).items)

stream_answered : (o : Opening) (c : Connected) (done : List (StreamAct Octets)) (queue : Receiving) (table : Table) (act : StreamAct Octets) → StreamRule table c.stream act → Own o c (tale_with o done queue) → StreamAnswered (story_with o done queue) done act
stream_answered o c done queue table (Recv len refused) rule own = rule ∙ recv_refused o c done queue own
stream_answered o c done queue table (Post m refused) rule own = rule.1 ∙ post_refused o c done queue m own
stream_answered o c done queue table (First number refused) rule own = rule ∙ (λ i. cond (sym own.numbered.delivered i) (Some Late) None)
stream_answered o c done queue table (Mulpdu size refused) rule own = rule
stream_answered o c done queue table (Accept private answer) rule own = rule ∙ (λ i. answer_or (answer_refused o c done queue private own i) (agreement_in (sym own.track.begins.start i)))
stream_answered o c done queue table (Reject private refused) rule own = rule ∙ answer_refused o c done queue private own
stream_answered o c done queue table (Emit shown) rule own = tt
stream_answered o c done queue table (Deliver from number octets delivery) rule own = tt
stream_answered o c done queue table (Raw number octets delivery) rule own = tt
stream_answered o c done queue table (Work step) rule own = tt
stream_answered o c done queue table Break rule own = tt

pub answered_all : (trace : List (Entry Octets)) → Run trace → Answered trace
answered_all trace run = each_stream AnsweredStream trace run (λ done table n c act rule own. stream_answered (opening_of n done) c (stream_acts n done) (receiving_of n done) table act rule own)

-- ---- octets that come

delivery_is : (o : Opening) (c : Connected) (done : List (StreamAct Octets)) (queue : Receiving) (from : Option ℕ) (number : ℕ) (octets : Octets) (x : Delivery) → Own o c (tale_with o done queue)
    → delivery_of c.stream number (length octets) ≡ delivery_by (story_with o done queue) done (record { from = from; number = number; octets = octets; delivery = x })
delivery_is o c done queue from number octets x own =
    let s : StreamState = c.stream in
    let k = own.track in
    let point : in_order_point (story_with o done queue) ≡ s.arrived.floor = point_is s (tale_with o done queue) k ∙ sym k.point in
    ap (λ n. cond (ended s) Dropped (delivery s.arrived (place_of s number) n)) (sym (length-drop (left_out s number) octets))
    ∙ (λ i. cond (own.ended i) Dropped (delivery ((k.arrived ∙ ap (advanced (story_with o done queue).came) (sym (point_is s (tale_with o done queue) k))) i)
    (place_near number (sym own.numbered.first i) (sym point i))
    (length (drop (before_start number (sym own.numbered.first i) (sym point i)) octets))))

octets_kept : (o : Opening) (c : Connected) (done : List (StreamAct Octets)) (queue : Receiving) (table : Table) (act : StreamAct Octets) → StreamRule table c.stream act → Own o c (tale_with o done queue)
    → OnSome (λ z. z.delivery ≡ delivery_by (story_with o done queue) done z) (deed act).coming
octets_kept o c done queue table (Deliver from number octets delivery) rule own = rule.1 ∙ delivery_is o c done queue (Some from) number octets delivery own
octets_kept o c done queue table (Raw number octets delivery) rule own = rule ∙ delivery_is o c done queue None number octets delivery own
octets_kept o c done queue table (Recv len refused) rule own = tt
octets_kept o c done queue table (Post m refused) rule own = tt
octets_kept o c done queue table (First number refused) rule own = tt
octets_kept o c done queue table (Mulpdu size refused) rule own = tt
octets_kept o c done queue table (Accept private answer) rule own = tt
octets_kept o c done queue table (Reject private refused) rule own = tt
octets_kept o c done queue table (Emit shown) rule own = tt
octets_kept o c done queue table (Work step) rule own = tt
octets_kept o c done queue table Break rule own = tt

pub keeps_octets : (trace : List (Entry Octets)) → Run trace → KeepsOctets trace
keeps_octets trace run = each_stream KeptStream trace run (λ done table n c act rule own. octets_kept (opening_of n done) c (stream_acts n done) (receiving_of n done) table act rule own)

-- octets that are delivered are the other end's, and have the numbers of their places
carried : (o : Opening) (c : Connected) (done : List (StreamAct Octets)) (queue : Receiving) (table : Table) (wire : Octets) (act : StreamAct Octets) → StreamRule table c.stream act → WireRule wire act → Own o c (tale_with o done queue)
    → OnSome (λ z. OnSome (IsCarried wire (story_with o done queue).first z) z.from) (deed act).coming
carried o c done queue table wire (Deliver from number octets delivery) rule there own =
    record { stand = there; numbered = rule.0 ∙ ap (λ n. (n + from) % 2 ^ 32) (sym own.numbered.first) }
carried o c done queue table wire (Raw number octets delivery) rule there own = tt
carried o c done queue table wire (First number refused) rule there own = tt
carried o c done queue table wire (Recv len refused) rule there own = tt
carried o c done queue table wire (Post m refused) rule there own = tt
carried o c done queue table wire (Emit shown) rule there own = tt
carried o c done queue table wire (Mulpdu size refused) rule there own = tt
carried o c done queue table wire (Accept private answer) rule there own = tt
carried o c done queue table wire (Reject private refused) rule there own = tt
carried o c done queue table wire (Work step) rule there own = tt
carried o c done queue table wire Break rule there own = tt

-- of the stream that an act is of
wire_of : (peer : EndState) (others : List (Act Octets)) (n : ℕ) (act : StreamAct Octets) → wire_at peer n ≡ sent (stream_acts n others) → PeerRule peer (Stream n act) → WireRule (sent (stream_acts n others)) act
wire_of peer others n act wire rule = subst (λ z. WireRule z act) wire rule.1

carries : (P : List (Act Octets) → ℕ → StreamAct Octets → Type 0) (done : List (Act Octets)) (s peer : EndState) (act : Act Octets) → PlainRule s peer act
    → ((n : ℕ) (a : StreamAct Octets) → has_stream s.endpoint n ≡ true → StreamRule s.endpoint.table (connected_at s n).stream a → PeerRule peer (Stream n a) → P done n a) → OnStream P done act
carries P done s peer (Stream n act) rule h = h n act rule.0.0 (lent_rule s.endpoint n act rule.0.1) rule.1
carries P done s peer (Domain pd refused) rule h = tt
carries P done s peer (Register pd base rights octets answer) rule h = tt
carries P done s peer (Deregister stag answer) rule h = tt
carries P done s peer (Invalidate stag refused) rule h = tt
carries P done s peer (Store stag to octets refused) rule h = tt
carries P done s peer (Open n pd role options private refused) rule h = tt
carries P done s peer (Share pd refused) rule h = tt
carries P done s peer (Pool pd len refused) rule h = tt
carries P done s peer (Unpool pd answer) rule h = tt
carries P done s peer (OpenShared n pd role options private refused) rule h = tt

pub carries_octets : (trace : List (Entry Octets)) → Run trace → CarriesOctets trace
carries_octets trace run past e future is =
    let at : Moment past (e ∷ future) = run past (e ∷ future) is in
    let w : State = at.state in
    let m : BothSeen past w = seen_then past (e ∷ future) at in
    let rule : PlainRuleIn w e = at.next in
    let s : EndState = end_of e.end w in
    let done : List (Act Octets) = acts e.end past in
    let others : List (Act Octets) = acts (other e.end) past in
    carries (CarriedStream others) done s (end_of (other e.end) w) e.act rule (λ n act opened rule there.
    let h = (m.pairs e.end n).own in
    let mine = left_acts s.endpoint.table (connected_at s n).stream h.stream (tale n done) act h.is_left h.own.track rule in
    carried (opening_of n done) (held h) (stream_acts n done) (receiving_of n done) s.endpoint.table (sent (stream_acts n others)) act mine.0 (wire_of (end_of (other e.end) w) others n act (m.pairs e.end n).own_peer.own.wire there) h.own)

-- ---- streams that are there

-- the stream of an act is there, at the other end too where octets of it are delivered
stream_opened : (s peer : EndState) (own others : List (Act Octets)) (act : Act Octets) → EndKept s own → EndKept peer others → PlainRule s peer act → OnStream (OpenedStream others) own act
stream_opened s peer own others (Stream n act) k j rule = (sym (k.opened n) ∙ rule.0.0, go act rule.1.0)
  where
    go : (act : StreamAct Octets) → (needs_peer (stream_call_of act) ≡ true → has_stream peer.endpoint n ≡ true) → OnSome (λ c. OnSome (λ from. was_opened (openings n others) ≡ true) c.from) (deed act).coming
    go (Deliver from number octets delivery) h = sym (j.opened n) ∙ h refl
    go (Raw number octets delivery) h = tt
    go (Recv len refused) h = tt
    go (Post m refused) h = tt
    go (Emit shown) h = tt
    go (First number refused) h = tt
    go (Mulpdu size refused) h = tt
    go (Accept private answer) h = tt
    go (Reject private refused) h = tt
    go (Work step) h = tt
    go Break h = tt
stream_opened s peer own others (Domain pd refused) k j rule = tt
stream_opened s peer own others (Register pd base rights octets answer) k j rule = tt
stream_opened s peer own others (Deregister stag answer) k j rule = tt
stream_opened s peer own others (Invalidate stag refused) k j rule = tt
stream_opened s peer own others (Store stag to octets refused) k j rule = tt
stream_opened s peer own others (Open n pd role options private refused) k j rule = tt
stream_opened s peer own others (Share pd refused) k j rule = tt
stream_opened s peer own others (Pool pd len refused) k j rule = tt
stream_opened s peer own others (Unpool pd answer) k j rule = tt
stream_opened s peer own others (OpenShared n pd role options private refused) k j rule = tt

pub opens_first : (trace : List (Entry Octets)) → Run trace → OpensFirst trace
opens_first trace run past e future is =
    let at : Moment past (e ∷ future) = run past (e ∷ future) is in
    let w : State = at.state in
    let m : BothSeen past w = seen_then past (e ∷ future) at in
    let rule : PlainRuleIn w e = at.next in
    stream_opened (end_of e.end w) (end_of (other e.end) w) (acts e.end past) (acts (other e.end) past) e.act (m.ends e.end) (m.ends (other e.end)) rule

-- ---- events that cannot happen

lacks_opening : (s : EndState) (done : List (Act Octets)) (n : ℕ) → EndKept s done → has_stream s.endpoint n ≡ false → IsUnopened done n
lacks_opening s done n k h = unopened (openings n done) (sym (k.opened n) ∙ h)

has_opening : (s : EndState) (done : List (Act Octets)) (n : ℕ) → EndKept s done → has_stream s.endpoint n ≡ true → ¬ IsUnopened done n
has_opening s done n k h none = false≢true (sym (ap was_opened none) ∙ sym (k.opened n) ∙ h)

pub names_no_stream : (s peer : EndState) (own others : List (Act Octets)) (call : Call Octets) → EndKept s own → EndKept peer others → LacksStream s peer call → NamesNoStream own others call
names_no_stream s peer own others (calls.Stream n call) k j h = elim h [
  | inl mine ↦ inl (lacks_opening s own n k mine)
  | inr there ↦ inr (there.0, lacks_opening peer others n j there.1)
]
names_no_stream s peer own others (calls.Domain pd) k j h = h
names_no_stream s peer own others (calls.Register pd base rights octets) k j h = h
names_no_stream s peer own others (calls.Deregister stag) k j h = h
names_no_stream s peer own others (calls.Invalidate stag) k j h = h
names_no_stream s peer own others (calls.Store stag to octets) k j h = h
names_no_stream s peer own others (calls.Open n pd role options private) k j h = h
names_no_stream s peer own others (calls.Share pd) k j h = h
names_no_stream s peer own others (calls.Pool pd len) k j h = h
names_no_stream s peer own others (calls.Unpool pd) k j h = h
names_no_stream s peer own others (calls.OpenShared n pd role options private) k j h = h

pub names_streams : (s peer : EndState) (own others : List (Act Octets)) (call : Call Octets) → EndKept s own → EndKept peer others → AsksTooMuch s peer call → ¬ NamesNoStream own others call
names_streams s peer own others (calls.Stream n call) k j h names = elim names [
  | inl mine ↦ has_opening s own n k h.0 mine
  | inr there ↦ has_opening peer others n j (h.1 there.0) there.1
]
names_streams s peer own others (calls.Domain pd) k j h names = h
names_streams s peer own others (calls.Register pd base rights octets) k j h names = h
names_streams s peer own others (calls.Deregister stag) k j h names = h
names_streams s peer own others (calls.Invalidate stag) k j h names = h
names_streams s peer own others (calls.Store stag to octets) k j h names = h
names_streams s peer own others (calls.Open n pd role options private) k j h names = h
names_streams s peer own others (calls.Share pd) k j h names = h
names_streams s peer own others (calls.Pool pd len) k j h names = h
names_streams s peer own others (calls.Unpool pd) k j h names = h
names_streams s peer own others (calls.OpenShared n pd role options private) k j h names = h

pub asks_not_sent : (s peer : EndState) (own others : List (Act Octets)) (call : Call Octets) → EndKept s own → EndKept peer others → ((n : ℕ) → wire_at peer n ≡ sent (stream_acts n others)) → AsksTooMuch s peer call → AsksNotSent own others call
asks_not_sent s peer own others (calls.Stream n call) k j wires h = (names_streams s peer own others (calls.Stream n call) k j h, subst (λ z. AsksOver z call) (wires n) h.2)
asks_not_sent s peer own others (calls.Domain pd) k j wires h = absurd h
asks_not_sent s peer own others (calls.Register pd base rights octets) k j wires h = absurd h
asks_not_sent s peer own others (calls.Deregister stag) k j wires h = absurd h
asks_not_sent s peer own others (calls.Invalidate stag) k j wires h = absurd h
asks_not_sent s peer own others (calls.Store stag to octets) k j wires h = absurd h
asks_not_sent s peer own others (calls.Open n pd role options private) k j wires h = absurd h
asks_not_sent s peer own others (calls.Share pd) k j wires h = absurd h
asks_not_sent s peer own others (calls.Pool pd len) k j wires h = absurd h
asks_not_sent s peer own others (calls.Unpool pd) k j wires h = absurd h
asks_not_sent s peer own others (calls.OpenShared n pd role options private) k j wires h = absurd h
