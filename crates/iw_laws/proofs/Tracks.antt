-- The frames that came, one behind the other, and the one at the in-order point of a stream's state.
use Rattle.std.proofs.Common.{subst, ◌≡◌, ℕ, suc, ◌+◌, ◌-◌, ◌*◌, ◌<◌, ◌≤◌, List, [], ◌∷◌, ◌++◌, length, take, drop, map, replicate, Option, Some, None, Bool, true, false, cond, refl, sym, ap, ◌∙◌, arith, append_assoc, length-append, length-take, length-drop, Ok, Err, inl, inr}
use Rattle.std.specs.Prelude.{All, slice_get, max, nat_eq, nat_lt, is_some, not, ◌&&◌, ◌||◌}
use Rattle.std.specs.List.{Contains}
use Rattle.std.specs.Option.{option_map, option_map_or, option_or}
use Rattle.std.proofs.lemmas.Bool.{true≢false, false≢true, cases_lt}
use Rattle.std.proofs.lemmas.Bool.Decides.{nat_tests}
use Rattle.std.proofs.lemmas.List.{append-nil, length-take, map-append, length-map, take-append-drop, drop_at, drop-drop}
use Rattle.std.proofs.Math.Seq.{take-append_seam}
use Rattle.iw_octets.specs.declared.head.TaggedHead.{TaggedHead}
use Rattle.iw_octets.specs.declared.operation.TaggedOperation.TheVariants as tagged
use Rattle.iw_octets.specs.declared.payload.ReadRequest.{ReadRequest}
use Rattle.iw_octets.specs.Operation.{opcode_of}
use Rattle.iw_octets.specs.Payload.{request_fields}
use Rattle.iw_octets.specs.declared.segment.Segment.{Segment}
use Rattle.iw_octets.specs.declared.segment.Segment.TheVariants.{Tagged, Untagged}
use Rattle.iw_octets.specs.declared.stag.Stag.{Stag}
use Rattle.iw_memory.specs.declared.rights.Right.{Right}
use Rattle.iw_memory.specs.Table.{Table}
use Rattle.iw_ranges.specs.declared.Delivery.TheVariants.{Kept, Dropped}
use Rattle.iw_ranges.specs.Nearest.{place_near, before_start}
use Rattle.iw_ranges.specs.Arrived.{Arrived, in_order, delivery, taken_in, advanced}
use Rattle.iw_ranges.specs.InOrder.{IsHeld, IsInWindow, IsOf}
use Rattle.iw_ranges.proofs.InOrder.{takes, moves, moves_takes, floor_takes, floor_moves, held_takes, held_moves, window_takes, window_moves, short}
use Rattle.iw_fpdu.specs.declared.layout.Layout.{Layout}
use Rattle.iw_fpdu.specs.Sequence.{Carried, sequence, first_frame, frames_of}
use Rattle.iw_fpdu.specs.Laws.{IsBetween}
use Rattle.iw_fpdu.specs.Places.{span_start}
use Rattle.iw_fpdu.specs.Frame.{max_sent, frame_end as end_of_frame}
use Rattle.iw_fpdu.proofs.Octets.{span_low}
use Rattle.arrayvec.specs.ArrayVec.{ArrayVec}
use Rattle.iw_locate.specs.declared.judged.State.{State}
use Rattle.iw_locate.specs.declared.judged.State.TheVariants as states
use Rattle.iw_locate.specs.Records.{from_of, IsPlaced, added, kept_from}
use Rattle.iw_locate.specs.Free.{scene_of, front_of}
use Rattle.iw_locate.specs.Lowest.{early_place}
use Rattle.iw_locate.proofs.Telling.{overlaps_are_told}
use Rattle.iw_fpdu.proofs.Follows.{frames_follow}
use Rattle.iw_startup.specs.declared.side.Side.{Side}
use Rattle.iw_startup.specs.declared.side.Side.TheVariants.{Initiator, Responder}
use Rattle.iw_startup.specs.declared.side.Reply.{Reply}
use Rattle.iw_startup.specs.declared.side.Reply.TheVariants as replies
use Rattle.iw_startup.specs.declared.config.Agreed.{Agreed}
use Rattle.iw_startup.specs.declared.config.Establishment.{Establishment}
use Rattle.iw_stream.specs.declared.answer.AnswerRefusal.TheVariants.{NotAsked, PrivateTooLong}
use Rattle.iw_octets.specs.declared.fault.Fault.{Fault}
use Rattle.iw_startup.specs.declared.progress.StartupFault.{StartupFault}
use Rattle.iw_startup.specs.declared.progress.Progress.{Progress}
use Rattle.iw_startup.specs.declared.progress.Progress.TheVariants as progresses
use Rattle.iw_startup.specs.Peer.{frame_end, frame_part, progress_of}
use Rattle.iw_startup.specs.declared.enhanced.EnhancedData.{EnhancedData}
use Rattle.iw_startup.specs.State.{StartupState, IsReached, private_in, answer_room, pushed, answered, agreed_of, progress, is_unanswered, is_asked, awaits_answer}
use Rattle.iw_startup.proofs.Reached.{reached-pushed}
use Rattle.iw_startup.proofs.Answered.{reached-answered}
use Rattle.iw_startup.proofs.Heard.{octets-pushed}
use Rattle.iw_startup.proofs.Openings.{unanswered_not_agreed, told_whole}
use Rattle.std.proofs.lemmas.Option.{none-some, same_Some}
use Rattle.iw_fpdu.proofs.Sequences.{Alone, first_alone, first_stays, first_takes}
use Rattle.iw_untagged.specs.Receiving.{Receiving, with_buffer, written, finished, flushed}
use Rattle.iw_stream.specs.declared.landing.PlacedFrame.{PlacedFrame}
use Rattle.iw_stream.specs.Frames.{Frame, EarlyRecord, payload_of, standing_at, placed as placed_of, placed_at, record_of, record_tried, state_tried}
use Rattle.iw_stream.specs.declared.landing.Landing.{Landing}
use Rattle.iw_stream.specs.Frames as frames
use Rattle.iw_stream.specs.Judging.{receiving_turned, is_read_response, is_response, tagged_left, left_by_turn, reads_left}
use Rattle.iw_stream.specs.Terminating.{terminate_alone, terminate_fetched}
use Rattle.iw_stream.specs.Starting.{StartState, AtOnce, Unheard, Heard, IsFresh, is_open, expecting, first_place_in, is_responder, awaits_frame, progress_in, heard, agreement_in, answered_with, first_place_out}
use Rattle.iw_stream.specs.Starting as starting
use Rattle.iw_stream.specs.Stream.{StreamState, Due, StartUp, LastWord, Response, NextPart, NoneDue, ended, due, answer_refusal, may_answer, keeps_silent, delivery_of, ends_by, place_of, left_out, Ready}
use Rattle.iw_stream.specs.declared.ending.Ending.TheVariants.{Over}
use Rattle.iw_stream.specs.Ending.{has_ended, last_word, with_last_word}
use Rattle.iw_stream.specs.Work.{inbox, scene, waiting, clashes}
use Rattle.iw_stream.specs.Work as work
use Rattle.iw_stream.proofs.Fronts.{carried_by, frame_whole}
use Rattle.iw_stream.proofs.Headers.{turned_kept, left_kept}
use Rattle.iw_events.specs.declared.act.StreamAct.{StreamAct}
use Rattle.iw_events.specs.declared.act.StreamAct.TheVariants.{Recv, Post, Emit, First, Deliver, Raw, Mulpdu, Accept, Reject, Work, Break}
use Rattle.iw_events.specs.declared.act.Shown.{Shown}
use Rattle.iw_events.specs.declared.act.Seen.{Seen}
use Rattle.iw_events.specs.declared.act.Seen.TheVariants as seen
use Rattle.iw_laws.specs.Words.{Octets, Sent, Placing, placed_by, private_data, listed, written as written_of, written_by, sunk, sunk_by, as_write, OnSome, deed}
use Rattle.iw_queues.specs.Joined.{Cell, count_in, count_writes, count_segments}
use Rattle.iw_fpdu.specs.Places.{frame_start}
use Rattle.iw_laws.specs.Turns.{Located, located_of, past_last, in_order_point}
use Rattle.iw_laws.specs.Sends.{asked_of}
use Rattle.iw_reads.specs.declared.reads.Outstanding.{Outstanding}
use Rattle.iw_reads.specs.Outstanding.{response_turn_fault, reads_turned}
use Rattle.iw_reads.specs.Requests.{Requested, taken_up}
use Rattle.iw_laws.specs.Turns as turns
use Rattle.iw_laws.specs.Turns.{Answer, Story, is_silent, hears, frames_in, next_frame, early_frame, was_placed, judged_payload, next_turned, next_reads, asked_in, next_asked, in_order_point, moves_on, terminate_next, terminate_for, segment_out, sends_frame, is_rtr, says_farewell, fetches_for, story_shown, story_after}
use Rattle.iw_reads.specs.declared.requests.Asked.{Asked}
use Rattle.iw_memory.specs.declared.rights.Right.TheVariants as rights
use Rattle.iw_events.specs.declared.act.Shown.TheVariants as shows
use Rattle.iw_laws.proofs.Located.{frames_at, located_are, located_first, located_none, past_last-push}
use Rattle.iw_endpoint.specs.Isolation.{answer_or}
use Rattle.iw_laws.proofs.Rooms.{answer_fits, open_heard, heard_open}
use Rattle.iw_laws.proofs.States.{granted}
use Rattle.iw_laws.proofs.Nexts.{Front, fore, place_in, standing, segment_in, segment_at, place_past, past_front, past_is, first_is_here, IsFirstHere, turned_by, IsFore, Sound}
use Rattle.iw_laws.proofs.Judged.{View, AreJudged, IsPlaceable, IsFirstRecord, Adds, frame_in, first_record, judges_one, more_come, moves_to, none_goes, none_in, none_judged, same_segments, one_counts, open_at, segments_early}
use Rattle.iw_laws.proofs.Judged as judged
use Rattle.iw_locate.proofs.Honest.{of_earlier}
use Rattle.iw_laws.proofs.EarlySent.{AreSent, scene_sent, none_sent, fewer_sent, one_more_sent}
use Rattle.iw_laws.proofs.Told as told_of
use Rattle.iw_laws.proofs.Told.{Fronts, IsPlacedBy, JudgedEarly, SeesEarly, SeesPlaced, SeesRequest, SeesTerminate, SeesSend, SeesEarlySend, IsPassing, SeesReceive, Hears, HearsMismatch, Told, kept_of, nothing_waits, early_left, fault_for, hears_due, arrived_open, arrived_unheard, fault_open, left_frame, after_act, reads_front}
use Rattle.iw_laws.proofs.Tales.{Tale, tale_after}
use Rattle.iw_laws.proofs.Joins.{Tells, plain_tells, last_tells, ended-append, requests_in, requests-append, requests_more, count-append, responses-append, count_responses, written-push, sunk-push, Joins, Waits, reshape, joins_buffer, joins_written, joins_front, joins_end, joins_over, joins_write, joins_response, joins_other, joins_send, joins_tagged, joins_part, joins_last}

-- ---- what a state and the acts of a stream have in common

-- what holds of the start-up, where there is one
abbrev pub OnStart : (StartupState → Type 0) → StartState → Type 0
OnStart P (AtOnce layout) = Unit {0}
OnStart P (Unheard u) = P u
OnStart P (Heard u) = P u

-- the octets of the peer's start-up frame, once that was read
abbrev pub start_octets : StartState → Octets
start_octets (AtOnce layout) = []
start_octets (Unheard u) = []
start_octets (Heard u) = u.octets

pub record Begins (s : StreamState) (t : Tale) (intro : Octets) : Type 0 where
  pub start : t.story.start ≡ s.start
  pub reached : OnStart IsReached s.start
  pub fresh : IsFresh s.start
  pub octets : intro ≡ start_octets s.start

length-start_octets : (z : StartState) → length (start_octets z) ≡ first_place_in z
length-start_octets (AtOnce layout) = refl
length-start_octets (Unheard u) = refl
length-start_octets (Heard u) = refl

pub first_is : (s : StreamState) (t : Tale) (intro : Octets) → Begins s t intro → length intro ≡ first_place_in s.start
first_is s t intro b = ap length b.octets ∙ length-start_octets s.start

-- no frame was read
pub record IsBare (fs : List Carried) (octets : Octets) (was_placed : Bool) : Type 0 where
  pub frames : fs ≡ []
  pub before : octets ≡ []
  pub placed : was_placed ≡ false

-- no placed record begins before the end of the frame at the in-order point, where that was placed there
abbrev pub IsClearOf : StreamState → PlacedFrame → Type 0
IsClearOf s f = (r : EarlyRecord) → Contains s.early r → IsPlaced r.state → end_of_frame (expecting s.start).markers f.start f.len ≤ from_of r

-- the frames that were judged before their turn; `shown` is what was placed of the others
pub record Early (s : StreamState) (t : Tale) (shown : List Placing) : Type 0 where
  pub records_are : t.story.early ≡ s.early
  pub unopened : is_open s.start ≡ false → s.early ≡ []
  pub judged : AreJudged (scene s)
  pub clear : (f : PlacedFrame) → s.front ≡ Some f → IsClearOf s f
  pub written_are : (c : Cell) → count_writes c (written_of t.placings) ≡ count_writes c (written_of shown) + count_segments c (segments_early (scene s) s.early)
  pub sunk_are : (c : Cell) → count_writes c (sunk t.placings) ≡ count_writes c (sunk shown) + count_responses c (segments_early (scene s) s.early)

-- where what came was sent as frames, the frames that were judged before their turn are some of them
abbrev pub AreOfSent : StreamState → Story → Octets → Type 0
AreOfSent s t intro = (us : List Octets) → All (λ u. length u ≤ max_sent) us → IsOf t.came (intro ++ sequence (expecting s.start) 0 us) → AreSent (expecting s.start) us s.early

same_sent : (s s' : StreamState) (t t' : Story) (intro : Octets) → s'.start ≡ s.start → s'.early ≡ s.early → t'.came ≡ t.came → AreOfSent s t intro → AreOfSent s' t' intro
same_sent s s' t t' intro start early came are us short of =
    subst (λ rs. AreSent (expecting s'.start) us rs) (sym early)
    (subst (λ z. AreSent (expecting z) us s.early) (sym start) (are us short (subst (λ a. IsOf a (intro ++ sequence (expecting s.start) 0 us)) came (subst (λ z. IsOf t'.came (intro ++ sequence (expecting z) 0 us)) start of))))

bare_sent : (s : StreamState) (t : Story) (intro : Octets) → s.early ≡ [] → AreOfSent s t intro
bare_sent s t intro none us short of = subst (AreSent (expecting s.start) us) (sym none) (none_sent (expecting s.start) us)

pub record Track (s : StreamState) (t : Tale) : Type 0 where
  pub intro : Octets  -- the peer's start-up frame, once it was read
  pub begins : Begins s t intro
  pub frames : List Carried  -- those that had their turn
  pub before : Octets  -- their octets
  pub shut : is_open s.start ≡ false → IsBare frames before (is_some s.front)
  pub from_start : t.story.came.floor ≡ 0
  pub came : in_order t.story.came ≡ intro ++ (before ++ inbox s)
  pub arrived : s.arrived ≡ advanced t.story.came (length intro + length before)
  pub point : s.arrived.floor ≡ length intro + length before
  pub between : IsBetween (expecting s.start).markers (length before)
  pub located : List Located  -- the same with their places
  pub named : frames_at located ≡ frames
  pub split : (more : Octets) → located_of (expecting s.start) 0 (before ++ more) ≡ located ++ located_of (expecting s.start) (length before) more
  pub ends : past_last 0 located ≡ length before
  pub turns : t.story.turns ≡ length frames
  pub placed : t.story.placed ≡ (is_some s.front)
  pub receiving : t.story.receiving ≡ s.receiving
  pub fore_is : (f : PlacedFrame) → s.front ≡ Some f → IsFore s f
  pub held : IsHeld s.arrived
  pub window : IsInWindow s.arrived
  pub near : length before ≤ 262144 * length frames
  pub far : length frames ≤ length before
  pub soon : length intro ≤ 262144
  pub segments : List (Segment Octets)  -- what they carried
  pub carried : map segment_in frames ≡ map Some segments
  pub shown : List Placing  -- what was placed at the in-order point, or of a frame that has come there since
  pub early : Early s t shown
  pub sent_ones : AreOfSent s t.story intro
  pub joins : Joins segments s.receiving (is_some s.front) (ended s) (segment_at (fore s)) t.received shown
  pub tells : Tells t.story.answered (asked_of t.story) segments

get_past : (xs ys : List Located) → slice_get (xs ++ ys) (length xs) ≡ slice_get ys 0
get_past [] ys = refl
get_past (x ∷ xs) ys = get_past xs ys

-- the place of the in-order point among the frames
place_is : (s : StreamState) (t : Tale) (k : Track s t) → place_in s ≡ length k.before
place_is s t k = omega (arith, k.point, first_is s t k.intro k.begins)

-- the front of the state is the first frame of its octets in order
pub front_is : (s : StreamState) (t : Tale) (k : Track s t) → fore s ≡ first_frame (expecting s.start) (length k.before) (inbox s)
front_is s t k = ap (λ n. first_frame (expecting s.start) n (inbox s)) (place_is s t k)

-- the same state, with no frame placed
abbrev bare_state : StreamState → StreamState
bare_state s = record s { front = None; early = [] }

pub between_is : (s : StreamState) (t : Tale) → Track s t → IsBetween (expecting s.start).markers (place_in s)
between_is s t k = subst (IsBetween (expecting s.start).markers) (sym (place_is s t k)) k.between

bare_sound : (s : StreamState) (t : Tale) → Track s t → Sound (bare_state s)
bare_sound s t k = record {
  low = omega (arith, k.point, first_is s t k.intro k.begins);
  between = between_is s t k;
  held = k.held;
  placed_is = λ f e. absurd (none-some _ e);
}

-- a frame at the in-order point that was placed before its turn
pub first_early : (s : StreamState) (t : Tale) → Track s t → (f : PlacedFrame) → s.front ≡ None → waiting s ≡ Some f → IsFirstRecord (scene s) f
first_early s t k f none e = first_record (scene s) f (between_is s t k) k.early.judged (ap (λ o. option_or o (placed_at s.early (front_of (scene s)))) (sym none) ∙ e)

pub first_whole : (s : StreamState) (t : Tale) → Track s t → (f : PlacedFrame) → IsFirstRecord (scene s) f → work.next_frame s ≡ Some (frame_in (scene s) (front_of (scene s)))
first_whole s t k f w = frame_whole (expecting s.start) s.arrived (first_place_in s.start) (front_of (scene s)) w.whole

early_here : (s : StreamState) (t : Tale) → Track s t → (f : PlacedFrame) → IsFirstRecord (scene s) f → IsFirstHere (bare_state s) (frame_in (scene s) (front_of (scene s)))
early_here s t k f w = first_is_here (bare_state s) (frame_in (scene s) (front_of (scene s))) (bare_sound s t k) (first_whole s t k f w)

early_fore : (s : StreamState) (t : Tale) → Track s t → (f : PlacedFrame) → IsFirstRecord (scene s) f → IsFore s f
early_fore s t k f w = go (frames.segment_in (frame_in (scene s) (front_of (scene s)))) refl w.placeable
  where
    go : (o : Option (Segment Octets)) → frames.segment_in (frame_in (scene s) (front_of (scene s))) ≡ o → IsPlaceable o → IsFore s f
    go None is t = absurd t
    go (Some segment) is placeable =
        let first = early_here s t k f w in
        record {
          frame = carried_by (frame_in (scene s) (front_of (scene s)));
          rest = first.rest;
          whole = first.whole;
          is = w.is ∙ ap placed_of first.is;
          segment = segment;
          carries = is;
        }

pub sound : (s : StreamState) (t : Tale) → Track s t → Sound s
sound s t k = record {
  low = omega (arith, k.point, first_is s t k.intro k.begins);
  between = between_is s t k;
  held = k.held;
  placed_is = λ f e. go s.front refl f e;
}
  where
    go : (o : Option PlacedFrame) → s.front ≡ o → (f : PlacedFrame) → option_or o (placed_at s.early (front_of (scene s))) ≡ Some f → IsFore s f
    go None is f e = early_fore s t k f (first_early s t k f is (ap (λ o. option_or o (placed_at s.early (front_of (scene s)))) is ∙ e))
    go (Some g) is f e = k.fore_is f (is ∙ e)

-- the octets behind the start-up frame
past_intro : (s : StreamState) (t : Tale) (k : Track s t) → drop (first_place_in t.story.start) (in_order t.story.came) ≡ k.before ++ inbox s
past_intro s t k =
    let place : first_place_in t.story.start ≡ length k.intro = ap first_place_in k.begins.start ∙ sym (first_is s t k.intro k.begins) in
    (λ i. drop (place i) (k.came i)) ∙ drop_at k.intro (k.before ++ inbox s) (length k.intro) refl

-- as many had their turn as were located
turns_located : (s : StreamState) (t : Tale) (k : Track s t) → t.story.turns ≡ length k.located
turns_located s t k = omega (arith, k.turns, ap length k.named, length-map k.located (λ (f : Located). carried_by f.frame))

-- those that came are those, and the others
located_is : (s : StreamState) (t : Tale) (k : Track s t) → located_of (expecting t.story.start) 0 (drop (first_place_in t.story.start) (in_order t.story.came)) ≡ k.located ++ located_of (expecting s.start) (length k.before) (inbox s)
located_is s t k = (λ i. located_of (expecting (k.begins.start i)) 0 (past_intro s t k i)) ∙ k.split (inbox s)

-- the frame whose turn is next is the one at the in-order point
next_is : (s : StreamState) (t : Tale) (k : Track s t) → next_frame t.story ≡ option_map (λ (f : Located). f.frame) (slice_get (located_of (expecting s.start) (length k.before) (inbox s)) 0)
next_is s t k =
    ap (option_map (λ (f : Located). f.frame))
    ((λ i. slice_get (located_is s t k i) (turns_located s t k i)) ∙ get_past k.located (located_of (expecting s.start) (length k.before) (inbox s)))

pub next_whole : (s : StreamState) (t : Tale) (frame : Carried) (rest : Octets) → Track s t → fore s ≡ Some (frame, rest) → next_frame t.story ≡ Some (standing s frame)
next_whole s t frame rest k e =
    next_is s t k ∙ ap (λ z. option_map (λ (f : Located). f.frame) (slice_get z 0)) (located_first (expecting s.start) (length k.before) (inbox s) frame rest k.between (sym (front_is s t k) ∙ e))
    ∙ ap (λ n. Some (standing_at (frame_start (expecting s.start).markers n) frame)) (sym (place_is s t k))

pub next_none : (s : StreamState) (t : Tale) → Track s t → fore s ≡ None → next_frame t.story ≡ None
next_none s t k e = next_is s t k ∙ ap (λ z. option_map (λ (f : Located). f.frame) (slice_get z 0)) (located_none (expecting s.start) (length k.before) (inbox s) (sym (front_is s t k) ∙ e))

-- the frames by themselves
pub split_is : (s : StreamState) (t : Tale) (k : Track s t) (more : Octets) → frames_of (expecting s.start) 0 (k.before ++ more) ≡ k.frames ++ frames_of (expecting s.start) (length k.before) more
split_is s t k more =
    sym (located_are (expecting s.start) 0 (k.before ++ more)) ∙ ap frames_at (k.split more) ∙ map-append (λ (f : Located). carried_by f.frame) k.located (located_of (expecting s.start) (length k.before) more)
    ∙ (λ i. k.named i ++ located_are (expecting s.start) (length k.before) more i)

take_beyond : (xs ys : List Located) → take (length xs) (xs ++ ys) ≡ xs
take_beyond xs ys = take-append_seam xs ys

-- the in-order point of the state is that of the acts
pub point_is : (s : StreamState) (t : Tale) (k : Track s t) → in_order_point t.story ≡ length k.intro + length k.before
point_is s t k =
    let place : first_place_in t.story.start ≡ length k.intro = ap first_place_in k.begins.start ∙ sym (first_is s t k.intro k.begins) in
    let beyond : past_last 0 (take t.story.turns (located_of (expecting t.story.start) 0 (drop (first_place_in t.story.start) (in_order t.story.came)))) ≡ length k.before =
    ap (past_last 0) ((λ i. take (turns_located s t k i) (located_is s t k i)) ∙ take_beyond k.located (located_of (expecting s.start) (length k.before) (inbox s))) ∙ k.ends in
    (λ i. place i + beyond i)

-- what came, and the frames of it that were judged before their turn, are the same
pub scene_is : (s : StreamState) (t : Tale) (k : Track s t) → turns.scene t.story ≡ scene s
scene_is s t k =
    let arrived : advanced t.story.came (in_order_point t.story) ≡ s.arrived = ap (advanced t.story.came) (point_is s t k) ∙ sym k.arrived in
    λ i. scene_of (expecting (k.begins.start i)) (first_place_in (k.begins.start i)) (arrived i) (k.early.records_are i)

pub early_frame_is : (s : StreamState) (t : Tale) (k : Track s t) → early_frame t.story ≡ work.early_frame s
early_frame_is s t k = ap (λ v. option_map (λ place. frame_in v place) (early_place v)) (scene_is s t k)

pub was_placed_is : (s : StreamState) (t : Tale) (k : Track s t) → was_placed t.story ≡ is_some (waiting s)
was_placed_is s t k = (λ i. k.placed i || is_some (placed_at (k.early.records_are i) (front_of (scene_is s t k i)))) ∙ go s.front
  where
    go : (o : Option PlacedFrame) → (is_some o || is_some (placed_at s.early (front_of (scene s)))) ≡ is_some (option_or o (placed_at s.early (front_of (scene s))))
    go None = refl
    go (Some f) = refl

-- the octets of the frame that is judged next are the same
pub judged_carries : (s : StreamState) (t : Tale) → Track s t → judged_payload t.story ≡ told_of.judged_payload s
judged_carries s t k = go (fore s) refl
  where
    go : (o : Front) → fore s ≡ o → judged_payload t.story ≡ told_of.judged_payload s
    go None e = λ i. option_map_or (λ f. payload_of (frames.segment_in f)) (option_or ((next_none s t k e ∙ ap (option_map (λ (x : Carried × Octets). standing s x.0)) (sym e)) i) (early_frame_is s t k i)) []
    go (Some (frame, rest)) e =
        λ i. option_map_or (λ f. payload_of (frames.segment_in f)) (option_or ((next_whole s t frame rest k e ∙ ap (option_map (λ (x : Carried × Octets). standing s x.0)) (sym e)) i) (early_frame_is s t k i)) []

take_past : (xs ys : List Located) (y : Located) → take (length xs + 1) (xs ++ y ∷ ys) ≡ xs ++ y ∷ []
take_past [] ys y = refl
take_past (x ∷ xs) ys y = ap (λ n. take n (x ∷ (xs ++ y ∷ ys))) (let more : suc (length xs) + 1 ≡ suc (length xs + 1) = omega arith in more) ∙ ap (λ z. x ∷ z) (take_past xs ys y)

-- the records that stay when the next frame had its turn
moved_records : (s : StreamState) (t : Tale) (k : Track s t) (frame : Carried) (rest : Octets) → fore s ≡ Some (frame, rest) → (moves_on t.story).early ≡ early_left s
moved_records s t k frame rest e =
    let layout : Layout = expecting s.start in
    let at : ℕ = length k.before in
    let here : Located = turns.located layout at (inbox s) frame rest in
    let later : List Located = located_of layout (at + (length (inbox s) - length rest)) rest in
    let all : frames_in t.story ≡ k.located ++ here ∷ later =
    located_is s t k ∙ ap (λ z. k.located ++ z) (located_first layout at (inbox s) frame rest k.between (sym (front_is s t k) ∙ e)) in
    let beyond : past_last 0 (take (t.story.turns + 1) (frames_in t.story)) ≡ at + (length (inbox s) - length rest) =
    ap (past_last 0) ((λ i. take (turns_located s t k i + 1) (all i)) ∙ take_past k.located later here) ∙ past_last-push 0 k.located here in
    let place : place_past s (fore s) ≡ s.arrived.floor + (length (inbox s) - length rest) = ap (place_past s) e in
    let to : at + (length (inbox s) - length rest) ≡ place_past s (fore s) - first_place_in s.start = omega (arith, place, k.point, first_is s t k.intro k.begins) in
    λ i. kept_from ((beyond ∙ to) i) (k.early.records_are i)

-- to move on in two steps is to move on at once
twice : (a : Arrived) (m n : ℕ) → a.floor ≡ 0 → m ≤ n → advanced (advanced a m) n ≡ advanced a n
unfolding advanced
twice a m n zero_is le = λ i. record { floor = floors i; cells = cells i }
  where
    floors : max (max a.floor m) n ≡ max a.floor n
    floors = omega arith

    cells : drop (n - max a.floor m) (drop (m - a.floor) a.cells) ≡ drop (n - a.floor) a.cells
    cells = drop-drop (n - max a.floor m) (m - a.floor) a.cells ∙ ap (λ z. drop z a.cells) (omega (arith, zero_is, le))

-- what a state and a tale keep of their start-up
pub record SameStart (s s' : StreamState) (t t' : Tale) : Type 0 where
  pub start : s'.start ≡ s.start
  pub tale_start : t'.story.start ≡ t.story.start

same_begins : (s s' : StreamState) (t t' : Tale) (intro : Octets) → SameStart s s' t t' → Begins s t intro → Begins s' t' intro
same_begins s s' t t' intro same b = record {
  start = same.tale_start ∙ b.start ∙ sym same.start;
  reached = subst (OnStart IsReached) (sym same.start) b.reached;
  fresh = subst IsFresh (sym same.start) b.fresh;
  octets = b.octets ∙ ap start_octets (sym same.start);
}

same_open : (s s' : StreamState) (t t' : Tale) → SameStart s s' t t' → is_open s'.start ≡ is_open s.start
same_open s s' t t' same = ap is_open same.start

same_expecting : (s s' : StreamState) (t t' : Tale) → SameStart s s' t t' → expecting s'.start ≡ expecting s.start
same_expecting s s' t t' same = ap expecting same.start

-- what was placed, but for the frames that are still judged before their turn
pub record TurnCounts (s : StreamState) (t : Tale) (shown : List Placing) : Type 0 where
  pub written_are : (c : Cell) → count_writes c (written_of t.placings) ≡ count_writes c (written_of shown) + count_segments c (segments_early (scene s) (early_left s))
  pub sunk_are : (c : Cell) → count_writes c (sunk t.placings) ≡ count_writes c (sunk shown) + count_responses c (segments_early (scene s) (early_left s))

-- the frames that are still judged before their turn, where the in-order point lies behind the front
pub segments_left : (s s' : StreamState) (t : Tale) → s'.start ≡ s.start → s'.arrived ≡ past_front s → s'.early ≡ early_left s → s.arrived.floor ≤ place_past s (fore s) → Track s t
    → segments_early (scene s') s'.early ≡ segments_early (scene s) (early_left s)
segments_left s s' t start arrived kept on k =
    let moved = moves_to (scene s) (place_past s (fore s)) (omega (arith, k.point, first_is s t k.intro k.begins)) on k.early.judged in
    let scenes : scene s' ≡ scene_of (expecting s.start) (first_place_in s.start) (advanced s.arrived (place_past s (fore s))) (early_left s) = λ i. scene_of (expecting (start i)) (first_place_in (start i)) (arrived i) (kept i) in
    (λ i. segments_early (scenes i) (kept i)) ∙ moved.1

-- the records that stay
early_turned : (s s' : StreamState) (t t' : Tale) (frame : Carried) (rest : Octets) (shown : List Placing) → fore s ≡ Some (frame, rest) → is_open s.start ≡ true → SameStart s s' t t' → s'.arrived ≡ past_front s → s'.front ≡ None
    → s'.early ≡ early_left s → t'.story.early ≡ (moves_on t.story).early → s.arrived.floor ≤ place_past s (fore s) → TurnCounts s t' shown → (k : Track s t) → Early s' t' shown
early_turned s s' t t' frame rest shown e started same arrived empty kept records on counts k =
    let to : ℕ = place_past s (fore s) in
    let moved = moves_to (scene s) to (omega (arith, k.point, first_is s t k.intro k.begins)) on k.early.judged in
    let scenes : scene s' ≡ scene_of (expecting s.start) (first_place_in s.start) (advanced s.arrived to) (early_left s) = λ i. scene_of (expecting (same.start i)) (first_place_in (same.start i)) (arrived i) (kept i) in
    let left = segments_left s s' t same.start arrived kept on k in
    record {
      records_are = records ∙ moved_records s t k frame rest e ∙ sym kept;
      unopened = λ h. absurd (true≢false (sym started ∙ sym (same_open s s' t t' same) ∙ h));
      judged = subst AreJudged (sym scenes) moved.0;
      clear = λ f h. absurd (none-some _ (sym empty ∙ h));
      written_are = λ c. counts.written_are c ∙ ap (λ xs. count_writes c (written_of shown) + count_segments c xs) (sym left);
      sunk_are = λ c. counts.sunk_are c ∙ ap (λ xs. count_writes c (sunk shown) + count_responses c xs) (sym left);
    }

-- the frame at the in-order point has its turn
turned : (s s' : StreamState) (t t' : Tale) (frame : Carried) (rest : Octets) (segment : Segment Octets) → fore s ≡ Some (frame, rest) → segment_in frame ≡ Some segment → is_open s.start ≡ true → SameStart s s' t t'
    → s'.arrived ≡ past_front s → s'.front ≡ None → s'.early ≡ early_left s
    → t'.story.came ≡ t.story.came → t'.story.turns ≡ t.story.turns + 1 → t'.story.placed ≡ false → t'.story.early ≡ (moves_on t.story).early → t'.story.receiving ≡ s'.receiving → (k : Track s t)
    → (shown : List Placing) → TurnCounts s t' shown → Joins (k.segments ++ segment ∷ []) s'.receiving (is_some s'.front) (ended s') (segment_at (fore s')) t'.received shown
    → Tells t'.story.answered (asked_of t'.story) (k.segments ++ segment ∷ []) → Track s' t'
turned s s' t t' frame rest segment e carries started same arrived empty kept came turns told records receiving k shown counts joins tells =
    let layout : Layout = expecting s.start in
    let at : ℕ = length k.before in
    let m : ℕ = length k.intro in
    let first : first_frame layout at (inbox s) ≡ Some (frame, rest) = sym (front_is s t k) ∙ e in
    let one : Alone layout at (inbox s) frame rest = first_alone layout at (inbox s) frame rest k.between first in
    let before : Octets = k.before ++ one.one in
    let size : length before ≡ at + length one.one = length-append k.before one.one in
    let all : length one.one + length rest ≡ length (inbox s) = omega (arith, ap length one.split, length-append one.one rest) in
    let to : place_past s (fore s) ≡ m + length before = ap (place_past s) e ∙ omega (arith, k.point, size, all) in
    let moved : s'.arrived ≡ advanced t.story.came (m + length before) =
    arrived ∙ (λ i. advanced (k.arrived i) (to i)) ∙ twice t.story.came (m + at) (m + length before) k.from_start (omega (arith, size)) in
    let point : s'.arrived.floor ≡ m + length before = ap (λ (a : Arrived). a.floor) moved ∙ floor_moves t.story.came (m + length before) ∙ omega (arith, k.from_start) in
    let whole : in_order t.story.came ≡ k.intro ++ (before ++ rest) =
    k.came ∙ ap (λ z. k.intro ++ z) (ap (λ z. k.before ++ z) (sym one.split) ∙ sym (append_assoc k.before one.one rest)) in
    let grouped : in_order t.story.came ≡ (k.intro ++ before) ++ rest = whole ∙ sym (append_assoc k.intro before rest) in
    let left : inbox s' ≡ rest =
    ap in_order moved
    ∙ moves t.story.came (m + length before) (omega (arith, k.from_start)) (omega (arith, ap length grouped, length-append (k.intro ++ before) rest, length-append k.intro before, k.from_start))
    ∙ (λ i. drop (m + length before - k.from_start i) (grouped i))
    ∙ drop_at (k.intro ++ before) rest (m + length before - 0) (omega (arith, length-append k.intro before)) in
    let few : length (inbox s) ≤ 262144 = omega (arith, short s.arrived, k.window) in
    let here : Located = record { frame = standing_at (frame_start layout.markers at) frame; beyond = length before } in
    record {
      intro = k.intro;
      begins = same_begins s s' t t' k.intro same k.begins;
      frames = k.frames ++ frame ∷ [];
      before = before;
      shut = λ h. absurd (true≢false (sym started ∙ sym (same_open s s' t t' same) ∙ h));
      from_start = ap (λ (a : Arrived). a.floor) came ∙ k.from_start;
      came = ap in_order came ∙ whole ∙ ap (λ z. k.intro ++ (before ++ z)) (sym left);
      arrived = moved ∙ ap (λ a. advanced a (m + length before)) (sym came);
      point = point;
      between = subst (λ (l : Layout). IsBetween l.markers (length before)) (sym (same_expecting s s' t t' same)) (subst (IsBetween layout.markers) (omega (arith, size, all)) (first_takes layout at (inbox s) frame rest k.between first).next);
      located = k.located ++ here ∷ [];
      named = map-append (λ (f : Located). carried_by f.frame) k.located (here ∷ []) ∙ ap (λ z. z ++ frame ∷ []) k.named;
      ends = past_last-push 0 k.located here;
      split = λ more.
          let again : first_frame layout at (one.one ++ more) ≡ Some (frame, more) = one.again more in
          subst (λ (l : Layout). located_of l 0 (before ++ more) ≡ (k.located ++ here ∷ []) ++ located_of l (length before) more) (sym (same_expecting s s' t t' same))
          (ap (located_of layout 0) (append_assoc k.before one.one more)
          ∙ k.split (one.one ++ more)
          ∙ ap (λ z. k.located ++ z) (located_first layout at (one.one ++ more) frame more k.between again)
          ∙ ap (λ n. k.located ++ record { frame = standing_at (frame_start layout.markers at) frame; beyond = n } ∷ located_of layout n more) (omega (arith, size, length-append one.one more))
          ∙ sym (append_assoc k.located (here ∷ []) (located_of layout (length before) more)));
      turns = turns ∙ ap (λ n. n + 1) k.turns ∙ omega (arith, length-append k.frames (frame ∷ []));
      placed = told ∙ sym (ap is_some empty);
      fore_is = λ f h. absurd (none-some _ (sym empty ∙ h));
      held = subst IsHeld (sym arrived) (held_moves s.arrived (place_past s (fore s)) k.held);
      receiving = receiving;
      window = subst IsInWindow (sym arrived) (window_moves s.arrived (place_past s (fore s)) k.window);
      near = omega (arith, k.near, few, all, size, length-append k.frames (frame ∷ []));
      far = omega (arith, k.far, all, size, length-append k.frames (frame ∷ []), (first_takes layout at (inbox s) frame rest k.between first).shorter);
      soon = k.soon;
      segments = k.segments ++ segment ∷ [];
      carried = map-append segment_in k.frames (frame ∷ []) ∙ (λ i. k.carried i ++ carries i ∷ []) ∙ sym (map-append Some k.segments (segment ∷ []));
      shown = shown;
      early = early_turned s s' t t' frame rest shown e started same arrived empty kept records (omega (arith, to, k.point, size)) counts k;
      sent_ones = λ us short of.
          subst (λ rs. AreSent (expecting s'.start) us rs) (sym kept)
          (fewer_sent (expecting s'.start) us (place_past s (fore s) - first_place_in s.start) s.early
          (same_sent s (record s { start = s'.start }) t.story t'.story k.intro same.start refl came k.sent_ones us short of));
      joins = joins;
      tells = tells;
    }

-- where the frame at the in-order point and the records stay
still_clear : (s s' : StreamState) → s'.start ≡ s.start → s'.front ≡ s.front → s'.early ≡ s.early → ((f : PlacedFrame) → s.front ≡ Some f → IsClearOf s f) → (f : PlacedFrame) → s'.front ≡ Some f → IsClearOf s' f
still_clear s s' start front early clear f is r within placed =
    subst (λ (z : StartState). end_of_frame (expecting z).markers f.start f.len ≤ from_of r) (sym start) (clear f (sym front ∙ is) r (subst (λ rs. Contains rs r) early within) placed)

-- nothing of the frames changes that were judged before their turn
pub same_early : (s s' : StreamState) (t t' : Tale) (shown : List Placing) → s'.start ≡ s.start → s'.arrived ≡ s.arrived → s'.early ≡ s.early → t'.story.early ≡ t.story.early → t'.placings ≡ t.placings
    → ((f : PlacedFrame) → s'.front ≡ Some f → IsClearOf s' f) → Early s t shown → Early s' t' shown
same_early s s' t t' shown start arrived early told placings clear k =
    let scenes : scene s' ≡ scene s = λ i. scene_of (expecting (start i)) (first_place_in (start i)) (arrived i) (early i) in
    let segments : segments_early (scene s') s'.early ≡ segments_early (scene s) s.early = λ i. segments_early (scenes i) (early i) in
    record {
      records_are = told ∙ k.records_are ∙ sym early;
      unopened = λ h. early ∙ k.unopened (sym (ap is_open start) ∙ h);
      judged = subst AreJudged (sym scenes) k.judged;
      clear = clear;
      written_are = λ c. (λ i. count_writes c (written_of (placings i))) ∙ k.written_are c ∙ (λ i. count_writes c (written_of shown) + count_segments c (sym segments i));
      sunk_are = λ c. (λ i. count_writes c (sunk (placings i))) ∙ k.sunk_are c ∙ (λ i. count_writes c (sunk shown) + count_responses c (sym segments i));
    }

-- of a stream that isn't open there are none
bare_early : (s s' : StreamState) (t t' : Tale) (shown : List Placing) → is_open s.start ≡ false → s'.early ≡ s.early → t'.story.early ≡ t.story.early → t'.placings ≡ t.placings → Early s t shown → Early s' t' shown
bare_early s s' t t' shown shut early told placings k =
    let none : s.early ≡ [] = k.unopened shut in
    let now : s'.early ≡ [] = early ∙ none in
    let before : segments_early (scene s) s.early ≡ [] = ap (segments_early (scene s)) none in
    let after : segments_early (scene s') s'.early ≡ [] = ap (segments_early (scene s')) now in
    record {
      records_are = told ∙ k.records_are ∙ sym early;
      unopened = λ h. now;
      judged = none_judged (scene s') now;
      clear = λ f is r within. absurd (none_in s'.early now r within);
      written_are = λ c. (λ i. count_writes c (written_of (placings i))) ∙ k.written_are c ∙ (λ i. count_writes c (written_of shown) + count_segments c ((before ∙ sym after) i));
      sunk_are = λ c. (λ i. count_writes c (sunk (placings i))) ∙ k.sunk_are c ∙ (λ i. count_writes c (sunk shown) + count_responses c ((before ∙ sym after) i));
    }

-- nothing of it changes but the buffers
pub same_track : (s s' : StreamState) (t t' : Tale) → SameStart s s' t t' → s'.arrived ≡ s.arrived → t'.story.came ≡ t.story.came → t'.story.turns ≡ t.story.turns → t'.story.placed ≡ (is_some s'.front)
    → t'.story.receiving ≡ s'.receiving → (is_open s.start ≡ false → (is_some s'.front) ≡ (is_some s.front)) → ((f : PlacedFrame) → s'.front ≡ Some f → IsFore s' f) → (k : Track s t) → (shown : List Placing) → Early s' t' shown → AreOfSent s' t'.story k.intro → Joins k.segments s'.receiving (is_some s'.front) (ended s') (segment_at (fore s')) t'.received shown
    → Tells t'.story.answered (asked_of t'.story) k.segments → Track s' t'
same_track s s' t t' same arrived came turns placed receiving still fore_is k shown early sent_ones joins tells = record {
  intro = k.intro;
  begins = same_begins s s' t t' k.intro same k.begins;
  frames = k.frames;
  before = k.before;
  shut = λ h. let none : is_open s.start ≡ false = sym (same_open s s' t t' same) ∙ h in let bare = k.shut none in record { frames = bare.frames; before = bare.before; placed = still none ∙ bare.placed };
  from_start = ap (λ (a : Arrived). a.floor) came ∙ k.from_start;
  came = ap in_order came ∙ k.came ∙ ap (λ a. k.intro ++ (k.before ++ in_order a)) (sym arrived);
  arrived = arrived ∙ k.arrived ∙ ap (λ a. advanced a (length k.intro + length k.before)) (sym came);
  point = ap (λ (a : Arrived). a.floor) arrived ∙ k.point;
  between = subst (λ (l : Layout). IsBetween l.markers (length k.before)) (sym (same_expecting s s' t t' same)) k.between;
  located = k.located;
  named = k.named;
  ends = k.ends;
  split = λ more. subst (λ (l : Layout). located_of l 0 (k.before ++ more) ≡ k.located ++ located_of l (length k.before) more) (sym (same_expecting s s' t t' same)) (k.split more);
  turns = turns ∙ k.turns;
  placed = placed;
  fore_is = fore_is;
  held = subst IsHeld (sym arrived) k.held;
  receiving = receiving;
  window = subst IsInWindow (sym arrived) k.window;
  near = k.near;
  far = k.far;
  soon = k.soon;
  segments = k.segments;
  carried = k.carried;
  shown = shown;
  early = early;
  sent_ones = sent_ones;
  joins = joins;
  tells = tells;
}

-- octets that are kept are so by what came before, on a stream that has not ended
kept_is : (s : StreamState) (from n : ℕ) → Kept ≡ cond (ended s) Dropped (delivery s.arrived from n) → (ended s ≡ false) × (delivery s.arrived from n ≡ Kept)
kept_is s from n e = go (ended s) refl e
  where
    go : (over : Bool) → ended s ≡ over → Kept ≡ cond over Dropped (delivery s.arrived from n) → (ended s ≡ false) × (delivery s.arrived from n ≡ Kept)
    go true is h = cc
    go false is h = (is, sym h)

-- more octets leave the frame that waits
stays : (s s' : StreamState) (t : Tale) (more : Octets) (k : Track s t) → ended s ≡ false → fore s' ≡ first_frame (expecting s.start) (length k.before) (inbox s ++ more) → (is_some s.front) ≡ true → segment_at (fore s') ≡ segment_at (fore s)
stays s s' t more k running next placed = go (fore s) refl (k.joins.waits running placed)
  where
    go : (o : Front) → fore s ≡ o → Waits (segment_at o) → segment_at (fore s') ≡ segment_at o
    go None e w = absurd w
    go (Some (frame, rest)) e w = ap segment_at (next ∙ first_stays (expecting s.start) (length k.before) (inbox s) more frame rest k.between (sym (front_is s t k) ∙ e))

-- octets come
pub comes : (s s' : StreamState) (t t' : Tale) (from : ℕ) (octets : Octets) → Kept ≡ cond (ended s) Dropped (delivery s.arrived from (length octets))
    → SameStart s s' t t' → s'.arrived ≡ taken_in s.arrived from octets → s'.front ≡ s.front → s'.early ≡ s.early → ended s' ≡ ended s → s'.receiving ≡ s.receiving
    → t'.story.came ≡ taken_in t.story.came from octets → t'.story.turns ≡ t.story.turns → t'.story.placed ≡ t.story.placed → t'.story.early ≡ t.story.early → t'.story.receiving ≡ t.story.receiving → t'.received ≡ t.received → t'.placings ≡ t.placings
    → (k : Track s t) → Tells t'.story.answered (asked_of t'.story) k.segments → Track s' t'
comes s s' t t' from octets kept same arrived front records over receiving came turns told told_records tale_receiving received placements k tells =
    let m : ℕ = length k.intro in
    let at : ℕ = length k.before in
    let new : Arrived = taken_in t.story.came from octets in
    let zero_is : new.floor ≡ 0 = floor_takes t.story.came from octets ∙ k.from_start in
    let long : length (in_order t.story.came) ≡ m + (at + length (inbox s)) = ap length k.came ∙ length-append k.intro (k.before ++ inbox s) ∙ ap (λ n. m + n) (length-append k.before (inbox s)) in
    let commutes : taken_in s.arrived from octets ≡ advanced new (m + at) =
    ap (λ a. taken_in a from octets) k.arrived ∙ sym (moves_takes t.story.came from octets (m + at) (omega (arith, k.from_start)) (omega (arith, long, k.from_start))) in
    let more = takes t.story.came from octets in
    let whole : in_order new ≡ k.intro ++ (k.before ++ (inbox s ++ more.0)) =
    more.1 ∙ ap (λ z. z ++ more.0) k.came ∙ append_assoc k.intro (k.before ++ inbox s) more.0 ∙ ap (λ z. k.intro ++ z) (append_assoc k.before (inbox s) more.0) in
    let grouped : in_order new ≡ (k.intro ++ k.before) ++ (inbox s ++ more.0) = whole ∙ sym (append_assoc k.intro k.before (inbox s ++ more.0)) in
    let left : inbox s' ≡ inbox s ++ more.0 =
    ap in_order (arrived ∙ commutes)
    ∙ moves new (m + at) (omega (arith, zero_is)) (omega (arith, ap length grouped, length-append (k.intro ++ k.before) (inbox s ++ more.0), length-append k.intro k.before, zero_is))
    ∙ (λ i. drop (m + at - zero_is i) (grouped i))
    ∙ drop_at (k.intro ++ k.before) (inbox s ++ more.0) (m + at - 0) (omega (arith, length-append k.intro k.before)) in
    let point : s'.arrived.floor ≡ m + at = ap (λ (a : Arrived). a.floor) arrived ∙ floor_takes s.arrived from octets ∙ k.point in
    let begins : Begins s' t' k.intro = same_begins s s' t t' k.intro same k.begins in
    let place : place_in s' ≡ at = omega (arith, point, first_is s' t' k.intro begins) in
    let placed : is_some s'.front ≡ is_some s.front = ap is_some front in
    let next : fore s' ≡ first_frame (expecting s.start) at (inbox s ++ more.0) = λ i. first_frame (same_expecting s s' t t' same i) (place i) (left i) in
    let ok = kept_is s from (length octets) kept in
    let stand = more_come (scene s) from octets k.early.judged in
    let scenes : scene s' ≡ scene_of (expecting s.start) (first_place_in s.start) (taken_in s.arrived from octets) s.early = λ i. scene_of (expecting (same.start i)) (first_place_in (same.start i)) (arrived i) (records i) in
    let segments : segments_early (scene s') s'.early ≡ segments_early (scene s) s.early = (λ i. segments_early (scenes i) (records i)) ∙ stand.1 in
    record {
      intro = k.intro;
      begins = begins;
      frames = k.frames;
      before = k.before;
      shut = λ h. let bare = k.shut (sym (same_open s s' t t' same) ∙ h) in record { frames = bare.frames; before = bare.before; placed = placed ∙ bare.placed };
      from_start = ap (λ (a : Arrived). a.floor) came ∙ zero_is;
      came = ap in_order came ∙ whole ∙ ap (λ z. k.intro ++ (k.before ++ z)) (sym left);
      arrived = arrived ∙ commutes ∙ ap (λ a. advanced a (m + at)) (sym came);
      point = point;
      between = subst (λ (l : Layout). IsBetween l.markers at) (sym (same_expecting s s' t t' same)) k.between;
      located = k.located;
      named = k.named;
      ends = k.ends;
      split = λ rest. subst (λ (l : Layout). located_of l 0 (k.before ++ rest) ≡ k.located ++ located_of l at rest) (sym (same_expecting s s' t t' same)) (k.split rest);
      turns = turns ∙ k.turns;
      placed = told ∙ k.placed ∙ sym placed;
      fore_is = λ f h.
          let w = k.fore_is f (sym front ∙ h) in
          record {
            frame = w.frame;
            rest = w.rest ++ more.0;
            whole = next ∙ first_stays (expecting s.start) at (inbox s) more.0 w.frame w.rest k.between (sym (front_is s t k) ∙ w.whole);
            is = w.is ∙ (λ i. placed_of (standing_at (frame_start (sym (same_expecting s s' t t' same) i).markers ((place_is s t k ∙ sym place) i)) w.frame));
            segment = w.segment;
            carries = w.carries;
          };
      held = subst IsHeld (sym arrived) (held_takes s.arrived from octets k.held);
      receiving = tale_receiving ∙ k.receiving ∙ sym receiving;
      window = subst IsInWindow (sym arrived) (window_takes s.arrived from octets ok.1 k.window);
      near = k.near;
      far = k.far;
      soon = k.soon;
      segments = k.segments;
      carried = k.carried;
      shown = k.shown;
      early = record {
        records_are = told_records ∙ k.early.records_are ∙ sym records;
        unopened = λ h. records ∙ k.early.unopened (sym (same_open s s' t t' same) ∙ h);
        judged = subst AreJudged (sym scenes) stand.0;
        clear = still_clear s s' same.start front records k.early.clear;
        written_are = λ c. (λ i. count_writes c (written_of (placements i))) ∙ k.early.written_are c ∙ (λ i. count_writes c (written_of k.shown) + count_segments c (sym segments i));
        sunk_are = λ c. (λ i. count_writes c (sunk (placements i))) ∙ k.early.sunk_are c ∙ (λ i. count_writes c (sunk k.shown) + count_responses c (sym segments i));
      };
      sent_ones = λ us short of.
          same_sent s s' t.story (record t.story { start = t'.story.start }) k.intro same.start records refl k.sent_ones us short
          (of_earlier t.story.came from octets (k.intro ++ sequence (expecting s'.start) 0 us) (subst (λ a. IsOf a (k.intro ++ sequence (expecting s'.start) 0 us)) came of));
      joins = reshape (sym receiving) (sym placed) (sym over) refl (sym received) refl
          (joins_front k.segments s.receiving (is_some s.front) (ended s) (segment_at (fore s)) (segment_at (fore s')) t.received k.shown (stays s s' t more.0 k ok.0 next) k.joins);
      tells = tells;
    }

-- ---- start-up

no_octets : (xs : Octets) → length xs ≡ 0 → xs ≡ []
no_octets [] h = refl
no_octets (x ∷ xs) h = absurd (omega (arith, h))

-- a stream on which nothing of frames has happened takes any layout
bare_between : (frames : List Carried) (before : Octets) (placed : Bool) (l : Layout) → IsBare frames before placed → IsBetween l.markers (length before)
bare_between frames before placed l b = subst (λ (xs : Octets). IsBetween l.markers (length xs)) (sym b.before) (frames_follow.first l.markers)

bare_located : (frames : List Carried) (before : Octets) (placed : Bool) (fs : List Located) → frames_at fs ≡ frames → IsBare frames before placed → fs ≡ []
bare_located frames before placed [] named b = refl
bare_located frames before placed (f ∷ fs) named b = absurd (omega (arith, ap length (named ∙ b.frames)))

bare_split : (frames : List Carried) (before : Octets) (placed : Bool) (fs : List Located) → frames_at fs ≡ frames → (l : Layout) → IsBare frames before placed → (more : Octets) → located_of l 0 (before ++ more) ≡ fs ++ located_of l (length before) more
bare_split frames before placed fs named l b more =
    subst (λ gs. located_of l 0 (before ++ more) ≡ gs ++ located_of l (length before) more) (sym (bare_located frames before placed fs named b))
    (subst (λ (xs : Octets). located_of l 0 (xs ++ more) ≡ [] ++ located_of l (length xs) more) (sym b.before) refl)

-- a stream that has not read the peer's start-up frame has read nothing
pub record IsUnread (s : StreamState) (t : Tale) (u : StartupState) (k : Track s t) : Type 0 where
  pub intro : k.intro ≡ []
  pub octets : u.octets ≡ []
  pub bare : IsBare k.frames k.before (is_some s.front)

pub unread : (s : StreamState) (t : Tale) (u : StartupState) (k : Track s t) → s.start ≡ Unheard u → IsUnread s t u k
unread s t u k is = record {
  intro = k.begins.octets ∙ ap start_octets is;
  octets = (subst IsFresh is k.begins.fresh).0;
  bare = k.shut (ap is_open is);
}

part_of : (est : Establishment) (side : Side) (xs : Octets) → frame_end est side xs ≤ length xs → (length (frame_part est side xs) ≡ frame_end est side xs) × (frame_part est side xs ++ drop (frame_end est side xs) xs ≡ xs)
unfolding frame_part
part_of est side xs whole = (omega (arith, length-take (frame_end est side xs) xs, whole), take-append-drop (frame_end est side xs) xs)

-- what a story keeps of what came, beside how it began
pub record StaysRead (t t' : Story) : Type 0 where
  pub came : t'.came ≡ t.came
  pub turns : t'.turns ≡ t.turns
  pub placed : t'.placed ≡ t.placed
  pub early : t'.early ≡ t.early
  pub receiving : t'.receiving ≡ t.receiving
  pub answered : t'.answered ≡ t.answered
  pub asked : asked_of t' ≡ asked_of t

same_tells : {us : List (Segment Octets)} {a a' : ℕ} {rs rs' : List ReadRequest} → a' ≡ a → rs' ≡ rs → Tells a rs us → Tells a' rs' us
same_tells e f k = record { answered_are = e ∙ k.answered_are; asked_are = f ∙ k.asked_are }

-- the peer's start-up frame is read
record Reads (s s' : StreamState) (t t' : Tale) (u : StartupState) : Type 0 where
  pub is : s.start ≡ Unheard u
  pub whole : frame_end u.config.establishment u.side (inbox s) ≤ length (inbox s)
  pub start : s'.start ≡ heard s.start (inbox s)
  pub arrived : s'.arrived ≡ advanced s.arrived (first_place_in (heard s.start (inbox s)))
  pub front : s'.front ≡ s.front
  pub early : s'.early ≡ s.early
  pub receiving : s'.receiving ≡ s.receiving
  pub told : t'.story.start ≡ (hears t.story).start
  pub story : StaysRead t.story t'.story

reads : (s s' : StreamState) (t t' : Tale) (u : StartupState) → Reads s s' t t' u → (k : Track s t)
    → Joins k.segments s'.receiving (is_some s'.front) (ended s') (segment_at (fore s)) t'.received k.shown → t'.placings ≡ t.placings → Track s' t'
reads s s' t t' u r k joins placings =
    let n = unread s t u k r.is in
    let part : Octets = frame_part u.config.establishment u.side (inbox s) in
    let split = part_of u.config.establishment u.side (inbox s) r.whole in
    let rest : Octets = drop (frame_end u.config.establishment u.side (inbox s)) (inbox s) in
    let came : in_order t.story.came ≡ inbox s = k.came ∙ (λ i. n.intro i ++ (n.bare.before i ++ inbox s)) in
    let here : s.arrived ≡ advanced t.story.came 0 = k.arrived ∙ (λ i. advanced t.story.came (length (n.intro i) + length (n.bare.before i))) in
    let start : s'.start ≡ Heard (pushed u (inbox s)) = r.start ∙ ap (λ z. heard z (inbox s)) r.is in
    let octets : (pushed u (inbox s)).octets ≡ part = octets-pushed u (inbox s) n.octets in
    let to : first_place_in (heard s.start (inbox s)) ≡ length part = ap (λ z. first_place_in (heard z (inbox s))) r.is ∙ ap length octets in
    let moved : s'.arrived ≡ advanced t.story.came (length part) = r.arrived ∙ (λ i. advanced (here i) (to i)) ∙ twice t.story.came 0 (length part) k.from_start (omega arith) in
    let whole : in_order t.story.came ≡ part ++ rest = came ∙ sym split.1 in
    let left : inbox s' ≡ rest =
    ap in_order moved
    ∙ moves t.story.came (length part) (omega (arith, k.from_start)) (omega (arith, ap length whole, length-append part rest, k.from_start))
    ∙ (λ i. drop (length part - k.from_start i) (whole i))
    ∙ drop_at part rest (length part - 0) (omega arith) in
    let told : t'.story.start ≡ Heard (pushed u (inbox s)) =
    r.told ∙ (λ i. heard ((k.begins.start ∙ r.is) i) (came i)) in
    let same_came : t'.story.came ≡ t.story.came = r.story.came in
    let bare : IsBare k.frames k.before (is_some s'.front) = record { frames = n.bare.frames; before = n.bare.before; placed = ap is_some r.front ∙ n.bare.placed } in
    let few : length (inbox s) ≤ 262144 = omega (arith, short s.arrived, k.window) in
    let zero : length k.before ≡ 0 = ap length n.bare.before in
    record {
      intro = part;
      begins = record {
        start = told ∙ sym start;
        reached = subst (OnStart IsReached) (sym start) (reached-pushed u (inbox s) (subst (OnStart IsReached) r.is k.begins.reached));
        fresh = subst IsFresh (sym start) tt;
        octets = sym octets ∙ ap start_octets (sym start);
      };
      frames = k.frames;
      before = k.before;
      shut = λ h. bare;
      from_start = ap (λ (a : Arrived). a.floor) same_came ∙ k.from_start;
      came = ap in_order same_came ∙ whole ∙ (λ i. part ++ (sym n.bare.before i ++ sym left i));
      arrived = moved ∙ ap (advanced t.story.came) (omega (arith, zero)) ∙ ap (λ a. advanced a (length part + length k.before)) (sym same_came);
      point = ap (λ (a : Arrived). a.floor) moved ∙ floor_moves t.story.came (length part) ∙ omega (arith, k.from_start, zero);
      between = bare_between k.frames k.before (is_some s'.front) (expecting s'.start) bare;
      located = k.located;
      named = k.named;
      ends = k.ends;
      split = bare_split k.frames k.before (is_some s'.front) k.located k.named (expecting s'.start) bare;
      turns = r.story.turns ∙ k.turns;
      placed = r.story.placed ∙ k.placed ∙ sym (ap is_some r.front);
      fore_is = λ f h. absurd (true≢false (sym (ap is_some h) ∙ bare.placed));
      held = subst IsHeld (sym r.arrived) (held_moves s.arrived (first_place_in (heard s.start (inbox s))) k.held);
      receiving = r.story.receiving ∙ k.receiving ∙ sym r.receiving;
      window = subst IsInWindow (sym r.arrived) (window_moves s.arrived (first_place_in (heard s.start (inbox s))) k.window);
      near = k.near;
      far = k.far;
      soon = omega (arith, few, ap length split.1, length-append part rest);
      segments = k.segments;
      carried = k.carried;
      shown = k.shown;
      early = bare_early s s' t t' k.shown (ap is_open r.is) r.early r.story.early placings k.early;
      sent_ones = bare_sent s' t'.story part (r.early ∙ k.early.unopened (ap is_open r.is));
      joins = joins_front k.segments s'.receiving (is_some s'.front) (ended s') (segment_at (fore s)) (segment_at (fore s')) t'.received k.shown (λ p. absurd (false≢true (sym bare.placed ∙ p))) joins;
      tells = same_tells r.story.answered r.story.asked k.tells;
    }

-- nothing is received, and nothing placed: what is joined stays
quiet : (s : StreamState) (t : Tale) (k : Track s t) → Joins k.segments s.receiving (is_some s.front) (ended s) (segment_at (fore s)) (t.received ++ []) k.shown
quiet s t k = reshape refl refl refl refl (sym (append-nil t.received)) refl k.joins

-- a frame that stands at the in-order point and was not placed, with its segment
fronted : (s : StreamState) (t : Tale) (k : Track s t) (segment : Segment Octets) → Fronts s false segment → Joins k.segments s.receiving false false (Some segment) t.received k.shown
fronted s t k segment f = reshape refl (ap is_some (nothing_waits s f.placed)) f.running (ap segment_at f.whole ∙ f.carries) refl refl k.joins

-- no placed record begins before its end
pub ends_there : (s : StreamState) (t : Tale) (k : Track s t) (frame : Carried) (rest : Octets) → fore s ≡ Some (frame, rest) → place_past s (fore s) - first_place_in s.start ≡ end_of_frame (expecting s.start).markers (standing s frame).start (length frame.ulpdu)
ends_there s t k frame rest e = let b : first_place_in s.start + end_of_frame (expecting s.start).markers (standing s frame).start (length frame.ulpdu) ≡ place_past s (fore s) = past_is (bare_state s) frame rest (bare_sound s t k) e in omega (arith, b)

pub unclashed : (s : StreamState) (t : Tale) (k : Track s t) (frame : Carried) → clashes s (standing s frame) ≡ false → IsClearOf s (placed_of (standing s frame))
unclashed s t k frame clear r within placed =
    let end : ℕ = end_of_frame (expecting s.start).markers (standing s frame).start (length frame.ulpdu) in
    let stands = k.early.judged.stand r within in
    let from : span_start true (standing s frame).start ≡ place_in s = (λ i. span_start (sym stands.marked i) (standing s frame).start) ∙ (between_is s t k).span in
    elim (cases_lt (from_of r) end) [
      | inl over ↦
          absurd (true≢false (sym ((overlaps_are_told s.early (standing s frame).start end).1 (r, within, placed, (over, omega (arith, from, stands.past, some r within, span_low true r.start)))) ∙ clear))
      | inr past ↦ past
    ]
  where
    some : (r : EarlyRecord) → Contains s.early r → r.start < r.end
    some r (j, lt, is) = omega (arith, k.early.judged.apart.some j r lt, ap (λ (x : EarlyRecord). x.start) is, ap (λ (x : EarlyRecord). x.end) is)

-- so none goes with it
pub none_left : (s : StreamState) (t : Tale) (k : Track s t) (frame : Carried) (rest : Octets) → fore s ≡ Some (frame, rest) → IsClearOf s (placed_of (standing s frame)) → segments_early (scene s) (early_left s) ≡ segments_early (scene s) s.early
none_left s t k frame rest e clear =
    none_goes (scene s) (place_past s (fore s) - first_place_in s.start) s.early (λ r within placed. subst (λ n. n ≤ from_of r) (sym (ends_there s t k frame rest e)) (clear r within placed))

-- the frame at the in-order point was not placed, and has its turn as it is judged
same_counts : (s : StreamState) (t t' : Tale) (k : Track s t) (segment : Segment Octets) → Fronts s false segment → t'.placings ≡ t.placings → TurnCounts s t' k.shown
same_counts s t t' k segment f placings =
    let left = none_left s t k f.frame f.rest f.whole (unclashed s t k f.frame (f.clear refl)) in
    record {
      written_are = λ c. (λ i. count_writes c (written_of (placings i))) ∙ k.early.written_are c ∙ (λ i. count_writes c (written_of k.shown) + count_segments c (sym left i));
      sunk_are = λ c. (λ i. count_writes c (sunk (placings i))) ∙ k.early.sunk_are c ∙ (λ i. count_writes c (sunk k.shown) + count_responses c (sym left i));
    }

-- whether a frame was placed at the in-order point
abbrev pub waiting_count : Option PlacedFrame → ℕ
waiting_count None = 0
waiting_count (Some f) = 1

-- the frame that has its turn was placed, there or before: all is as if it had been there
pub record Turning (s : StreamState) (t : Tale) (k : Track s t) (segment : Segment Octets) : Type 0 where
  pub shown : List Placing
  pub joins : Joins k.segments s.receiving true false (Some segment) t.received shown
  pub counts : TurnCounts s t shown
  pub fewer : waiting_count s.front + length (segments_early (scene s) s.early) ≡ 1 + length (segments_early (scene s) (early_left s))

pub turning : (s : StreamState) (t : Tale) (k : Track s t) (segment : Segment Octets) → Fronts s true segment → Turning s t k segment
turning s t k segment f = go s.front refl
  where
    at : segment_at (fore s) ≡ Some segment
    at = ap segment_at f.whole ∙ f.carries

    -- it has the first record
    early : (p : PlacedFrame) → s.front ≡ None → IsFirstRecord (scene s) p → Turning s t k segment
    early p none w = by segment (subst IsPlaceable carried w.placeable) carried at
      where
        v : View
        v = scene s

        here : IsFirstHere (bare_state s) (frame_in (scene s) (front_of (scene s)))
        here = early_here s t k p w

        carried : frames.segment_in (frame_in (scene s) (front_of (scene s))) ≡ Some segment
        carried = sym (ap segment_at here.whole) ∙ at

        end : end_of_frame (expecting s.start).markers p.start p.len ≡ place_past s (fore s) - first_place_in s.start
        end =
            ap (λ (z : PlacedFrame). end_of_frame (expecting s.start).markers z.start z.len) (w.is ∙ ap placed_of here.is)
            ∙ sym (ends_there s t k (carried_by (frame_in (scene s) (front_of (scene s)))) here.rest here.whole)

        left : w.others ≡ early_left s
        left = sym w.left ∙ ap (λ n. kept_from n s.early) end

        all : (g : Segment Octets) → frames.segment_in (frame_in (scene s) (front_of (scene s))) ≡ Some g → segments_early (scene s) s.early ≡ g ∷ segments_early (scene s) (early_left s)
        all g is =
            ap (segments_early (scene s)) w.records
            ∙ (λ i. judged.placed_by (frame_in (scene s) (w.at i)) (w.state i) ++ segments_early (scene s) (left i))
            ∙ ap (λ o. listed o ++ segments_early (scene s) (early_left s)) is

        base : (g : Segment Octets) → segment_at (fore s) ≡ Some g → Joins k.segments s.receiving false false (Some g) t.received k.shown
        base g is = reshape refl (ap is_some none) f.running is refl refl k.joins

        -- placed now, it would be counted as it was before
        now : (g : Segment Octets) (shown : List Placing) → frames.segment_in (frame_in (scene s) (front_of (scene s))) ≡ Some g → segment_at (fore s) ≡ Some g → Joins k.segments s.receiving true false (Some g) t.received shown → Turning s t k g
        now g shown is at j = record {
          shown = shown;
          joins = j;
          counts = record {
            written_are = λ c. omega (arith, k.early.written_are c, j.counted c, (base g at).counted c, ap (count_segments c) (all g is), count-append c (g ∷ []) (segments_early (scene s) (early_left s)));
            sunk_are = λ c. omega (arith, k.early.sunk_are c, j.sunk_are c, (base g at).sunk_are c, ap (count_responses c) (all g is), responses-append c (g ∷ []) (segments_early (scene s) (early_left s)));
          };
          fewer = omega (arith, ap waiting_count none, ap length (all g is));
        }

        by : (g : Segment Octets) → IsPlaceable (Some g) → frames.segment_in (frame_in (scene s) (front_of (scene s))) ≡ Some g → segment_at (fore s) ≡ Some g → Turning s t k g
        by (Tagged head payload) (inl op) is at =
            now (Tagged head payload) (k.shown ++ record { right = rights.Write; stag = head.stag; to = head.to; octets = payload } ∷ []) is at
            (joins_write k.segments s.receiving head payload t.received k.shown op (base (Tagged head payload) at))
        by (Tagged head payload) (inr op) is at =
            now (Tagged head payload) (k.shown ++ record { right = rights.Sink; stag = head.stag; to = head.to; octets = payload } ∷ []) is at
            (joins_response k.segments s.receiving head payload t.received k.shown op (base (Tagged head payload) at))
        by (Untagged head payload) queue is at = now (Untagged head payload) k.shown is at (joins_send k.segments s.receiving head payload t.received k.shown queue (base (Untagged head payload) at))

    before : (o : Option PlacedFrame) → waiting s ≡ o → is_some o ≡ true → s.front ≡ None → Turning s t k segment
    before None is e none = absurd (false≢true e)
    before (Some p) is e none = early p none (first_early s t k p none is)

    go : (o : Option PlacedFrame) → s.front ≡ o → Turning s t k segment
    go (Some p) is =
        let w = k.fore_is p is in
        let same : w.frame ≡ f.frame = ap (λ (x : Carried × Octets). x.0) (same_Some _ _ (sym w.whole ∙ f.whole)) in
        let left = none_left s t k f.frame f.rest f.whole (subst (IsClearOf s) (w.is ∙ ap (λ z. placed_of (standing s z)) same) (k.early.clear p is)) in
        record {
          shown = k.shown;
          joins = reshape refl (ap is_some is) f.running at refl refl k.joins;
          counts = record {
            written_are = λ c. k.early.written_are c ∙ (λ i. count_writes c (written_of k.shown) + count_segments c (sym left i));
            sunk_are = λ c. k.early.sunk_are c ∙ (λ i. count_writes c (sunk k.shown) + count_responses c (sym left i));
          };
          fewer = omega (arith, ap waiting_count is, ap length left);
        }
    go None is = before (waiting s) refl f.placed is

-- the stream ends, or had ended
over_joins : {segments : List (Segment Octets)} {r : Receiving} {placed over over' : Bool} {o : Option (Segment Octets)} {received : List Sent} {placements : List Placing}
    → over' ≡ true → Joins segments r placed over o received placements → Joins segments r placed over' o received placements
over_joins {segments} {r} {placed} {over} {over'} {o} {received} {placements} is j = reshape refl refl (sym is) refl refl refl (joins_end segments r placed over o received placements j)

-- so it does by a fault
pub by_ended : (s : StreamState) (payload : Octets) → ended (ends_by s payload) ≡ true
by_ended s payload = go (keeps_silent s)
  where
    go : (b : Bool) → has_ended (cond b (Over None) (with_last_word payload)) ≡ true
    go true = refl
    go false = refl

-- the acts said no more of placements
same_placings : (s : StreamState) (t t' : Tale) (shown : List Placing) → t'.placings ≡ t.placings → TurnCounts s t shown → TurnCounts s t' shown
same_placings s t t' shown same k = record {
  written_are = λ c. (λ i. count_writes c (written_of (same i))) ∙ k.written_are c;
  sunk_are = λ c. (λ i. count_writes c (sunk (same i))) ∙ k.sunk_are c;
}

-- a tagged segment is placed
places : (table : Table) (s : StreamState) (t : Tale) (right : Right) (stag : Stag) (to : ℕ) (octets : Octets) → SeesPlaced table s right stag to octets → (k : Track s t)
    → Joins k.segments s.receiving true (ended s) (segment_at (fore s)) (t.received ++ []) (k.shown ++ placed_by (Work (seen.Placed right stag to octets)))
places table s t right stag to octets p k =
    let at : segment_at (fore s) ≡ Some (Tagged p.head octets) = ap segment_at p.fronts.whole ∙ p.fronts.carries in
    let shown : (by : Right) → right ≡ by → record { right = by; stag = p.head.stag; to = p.head.to; octets = octets } ∷ [] ≡ placed_by (Work (seen.Placed right stag to octets)) =
    λ by e. λ i. placed_by (Work (seen.Placed (sym e i) (sym p.stag_is i) (sym p.to_is i) octets)) in
    elim p.kind [
      | inl w ↦
          reshape refl refl (sym p.fronts.running) (sym at) (sym (append-nil t.received)) (ap (λ z. k.shown ++ z) (shown rights.Write w.0))
          (joins_write k.segments s.receiving p.head octets t.received k.shown w.1 (fronted s t k (Tagged p.head octets) p.fronts))
      | inr w ↦
          reshape refl refl (sym p.fronts.running) (sym at) (sym (append-nil t.received)) (ap (λ z. k.shown ++ z) (shown rights.Sink w.0))
          (joins_response k.segments s.receiving p.head octets t.received k.shown w.1 (fronted s t k (Tagged p.head octets) p.fronts))
    ]

-- a Read Request has its turn
requests : (s : StreamState) (t : Tale) (size : ℕ) (stag : Stag) (to : ℕ) (o' : Option (Segment Octets)) → (w : SeesRequest s size stag to) → (k : Track s t)
    → Joins (k.segments ++ Untagged w.head w.payload ∷ []) s.receiving false (ended s) o' (t.received ++ []) k.shown
requests s t size stag to o' w k =
    reshape refl refl (sym w.fronts.running) refl (sym (append-nil t.received)) refl
    (joins_other k.segments s.receiving w.head w.payload o' t.received k.shown (ap (λ n. nat_eq n 0) w.queue) (fronted s t k (Untagged w.head w.payload) w.fronts))

-- and the peer's Terminate, which ends the stream
terminates : (s : StreamState) (t : Tale) (o' : Option (Segment Octets)) → (w : SeesTerminate s) → (k : Track s t)
    → Joins (k.segments ++ Untagged w.head w.payload ∷ []) s.receiving false true o' (t.received ++ []) k.shown
terminates s t o' w k =
    over_joins refl
    (reshape refl refl (sym w.fronts.running) refl (sym (append-nil t.received)) refl
    (joins_other k.segments s.receiving w.head w.payload o' t.received k.shown (ap (λ n. nat_eq n 0) w.queue) (fronted s t k (Untagged w.head w.payload) w.fronts)))

-- a Send's segment is placed
buffers : (s : StreamState) (t : Tale) (msn mo len : ℕ) → SeesSend s msn mo len → (k : Track s t)
    → Joins k.segments (written s.receiving msn mo (told_of.judged_payload s)) true (ended s) (segment_at (fore s)) (t.received ++ []) k.shown
buffers s t msn mo len p k =
    let at : segment_at (fore s) ≡ Some (Untagged p.head p.payload) = ap segment_at p.fronts.whole ∙ p.fronts.carries in
    joins_written k.segments s.receiving msn mo (told_of.judged_payload s) true (ended s) (segment_at (fore s)) (t.received ++ []) k.shown
    (reshape refl refl (sym p.fronts.running) (sym at) (sym (append-nil t.received)) refl
    (joins_send k.segments s.receiving p.head p.payload t.received k.shown p.queue (fronted s t k (Untagged p.head p.payload) p.fronts)))

-- a segment has its turn that completes nothing
passes : (s : StreamState) (t : Tale) (segment : Segment Octets) (o' : Option (Segment Octets)) → Fronts s true segment → IsPassing s segment → (k : Track s t) → (w : Turning s t k segment)
    → Joins (k.segments ++ segment ∷ []) (turned_by s.receiving (segment_at (fore s))) false (ended s) o' (t.received ++ []) w.shown
passes s t (Tagged head payload) o' f passing k w =
    reshape (ap (turned_by s.receiving) (sym (ap segment_at f.whole ∙ f.carries))) refl (sym f.running) refl (sym (append-nil t.received)) refl
    (joins_tagged k.segments s.receiving head payload o' t.received w.shown w.joins)
passes s t (Untagged head payload) o' f passing k w =
    reshape (ap (turned_by s.receiving) (sym (ap segment_at f.whole ∙ f.carries))) refl (sym f.running) refl (sym (append-nil t.received)) refl
    (joins_part k.segments s.receiving head payload o' t.received w.shown passing.1 w.joins)

-- a Send is complete
receives : (s : StreamState) (t : Tale) (octets : Octets) (solicited : Bool) (invalidate : Option Stag) (o' : Option (Segment Octets)) → (c : SeesReceive s octets solicited invalidate) → (k : Track s t) → (w : Turning s t k (Untagged c.head c.payload))
    → Joins (k.segments ++ Untagged c.head c.payload ∷ []) (finished s.receiving) false (ended s) o' (t.received ++ record { octets = octets; solicited = solicited; invalidate = invalidate } ∷ []) w.shown
receives s t octets solicited invalidate o' c k w =
    reshape refl refl (sym c.fronts.running) refl refl refl
    (joins_last k.segments s.receiving c.head c.payload o' t.received (record { octets = octets; solicited = solicited; invalidate = invalidate }) w.shown c.last w.joins)

kept_start : (s s' : StreamState) (t t' : Tale) → s'.start ≡ s.start → t'.story.start ≡ t.story.start → SameStart s s' t t'
kept_start s s' t t' a b = record { start = a; tale_start = b }

same_fore : (s s' : StreamState) → s'.start ≡ s.start → s'.arrived ≡ s.arrived → (f : PlacedFrame) → IsFore s f → IsFore s' f
same_fore s s' start arrived f w = record {
  frame = w.frame;
  rest = w.rest;
  whole = (λ i. first_frame (expecting (start i)) ((arrived i).floor - first_place_in (start i)) (in_order (arrived i))) ∙ w.whole;
  is = w.is ∙ (λ i. placed_of (standing_at (frame_start (expecting (sym start i)).markers ((sym arrived i).floor - first_place_in (sym start i))) w.frame));
  segment = w.segment;
  carries = w.carries;
}

same : (s s' : StreamState) (t t' : Tale) → s'.start ≡ s.start → s'.arrived ≡ s.arrived → s'.front ≡ s.front → s'.early ≡ s.early → s'.receiving ≡ s.receiving
    → t'.story ≡ t.story → t'.placings ≡ t.placings → (k : Track s t) → Joins k.segments s'.receiving (is_some s'.front) (ended s') (segment_at (fore s')) t'.received k.shown → Track s' t'
same s s' t t' start arrived front early receiving story placings k joins =
    same_track s s' t t' (kept_start s s' t t' start (ap (λ (z : Story). z.start) story)) arrived
    (ap (λ (z : Story). z.came) story) (ap (λ (z : Story). z.turns) story) (ap (λ (z : Story). z.placed) story ∙ k.placed ∙ sym (ap is_some front)) (ap (λ (z : Story). z.receiving) story ∙ k.receiving ∙ sym receiving) (λ h. ap is_some front)
    (λ f h. same_fore s s' start arrived f (k.fore_is f (sym front ∙ h))) k k.shown
    (same_early s s' t t' k.shown start arrived early (ap (λ (z : Story). z.early) story) placings (still_clear s s' start front early k.early.clear) k.early) (same_sent s s' t.story t'.story k.intro start early (ap (λ (z : Story). z.came) story) k.sent_ones) joins
    (subst (λ (z : Story). Tells z.answered (asked_of z) k.segments) (sym story) k.tells)

-- a responder's user answers: no frame was read before
record Answers (s s' : StreamState) (t t' : Tale) (u : StartupState) (reply : Reply) : Type 0 where
  pub is : s.start ≡ Heard u
  pub asked : awaits_answer u ≡ true
  pub room : length (private_in reply).items ≤ answer_room u
  pub start : s'.start ≡ Heard (answered u reply)
  pub arrived : s'.arrived ≡ s.arrived
  pub front : s'.front ≡ s.front
  pub early : s'.early ≡ s.early
  pub receiving : s'.receiving ≡ s.receiving
  pub told : t'.story.start ≡ answered_with t.story.start reply
  pub story : StaysRead t.story t'.story

pub unanswered : (u : StartupState) → awaits_answer u ≡ true → u.side ≡ Responder None
unanswered u h = go u.side refl h
  where
    go : (side : Side) → u.side ≡ side → (is_unanswered side && is_asked (progress u)) ≡ true → u.side ≡ Responder None
    go Initiator is e = absurd (false≢true e)
    go (Responder None) is e = is
    go (Responder (Some reply)) is e = absurd (false≢true e)

answers : (s s' : StreamState) (t t' : Tale) (u : StartupState) (reply : Reply) → Answers s s' t t' u reply → (k : Track s t)
    → Joins k.segments s'.receiving (is_some s'.front) (ended s') (segment_at (fore s)) t'.received k.shown → t'.placings ≡ t.placings → Track s' t'
answers s s' t t' u reply r k joins placings =
    let none : agreed_of u ≡ None = unanswered_not_agreed u (unanswered u r.asked) in
    let bare : IsBare k.frames k.before (is_some s.front) = k.shut (ap is_open r.is ∙ ap is_some none) in
    let still : IsBare k.frames k.before (is_some s'.front) = record { frames = bare.frames; before = bare.before; placed = ap is_some r.front ∙ bare.placed } in
    let told : t'.story.start ≡ Heard (answered u reply) = r.told ∙ ap (λ z. answered_with z reply) (k.begins.start ∙ r.is) in
    let same_came : t'.story.came ≡ t.story.came = r.story.came in
    record {
      intro = k.intro;
      begins = record {
        start = told ∙ sym r.start;
        reached = subst (OnStart IsReached) (sym r.start) (reached-answered u reply r.asked r.room (subst (OnStart IsReached) r.is k.begins.reached));
        fresh = subst IsFresh (sym r.start) tt;
        octets = k.begins.octets ∙ ap start_octets r.is ∙ ap start_octets (sym r.start);
      };
      frames = k.frames;
      before = k.before;
      shut = λ h. still;
      from_start = ap (λ (a : Arrived). a.floor) same_came ∙ k.from_start;
      came = ap in_order same_came ∙ k.came ∙ ap (λ a. k.intro ++ (k.before ++ in_order a)) (sym r.arrived);
      arrived = r.arrived ∙ k.arrived ∙ ap (λ a. advanced a (length k.intro + length k.before)) (sym same_came);
      point = ap (λ (a : Arrived). a.floor) r.arrived ∙ k.point;
      between = bare_between k.frames k.before (is_some s'.front) (expecting s'.start) still;
      located = k.located;
      named = k.named;
      ends = k.ends;
      split = bare_split k.frames k.before (is_some s'.front) k.located k.named (expecting s'.start) still;
      turns = r.story.turns ∙ k.turns;
      placed = r.story.placed ∙ k.placed ∙ sym (ap is_some r.front);
      fore_is = λ f h. absurd (true≢false (sym (ap is_some h) ∙ still.placed));
      held = subst IsHeld (sym r.arrived) k.held;
      receiving = r.story.receiving ∙ k.receiving ∙ sym r.receiving;
      window = subst IsInWindow (sym r.arrived) k.window;
      near = k.near;
      far = k.far;
      soon = k.soon;
      segments = k.segments;
      carried = k.carried;
      shown = k.shown;
      early = bare_early s s' t t' k.shown (ap is_open r.is ∙ ap is_some none) r.early r.story.early placings k.early;
      sent_ones = bare_sent s' t'.story k.intro (r.early ∙ k.early.unopened (ap is_open r.is ∙ ap is_some none));
      joins = joins_front k.segments s'.receiving (is_some s'.front) (ended s') (segment_at (fore s)) (segment_at (fore s')) t'.received k.shown (λ p. absurd (false≢true (sym still.placed ∙ p))) joins;
      tells = same_tells r.story.answered r.story.asked k.tells;
    }

-- what the peer's start-up frame comes to, by its side
pub comes_to : (s : StreamState) (p : Progress) (h : Hears s p) → progress_of h.startup.config.establishment h.startup.side (inbox s) ≡ p
comes_to s p h = sym (ap (λ z. progress_in z (inbox s)) h.is) ∙ h.comes

asks : (s : StreamState) (t : Tale) (word : Option EnhancedData) (private : Octets) → Hears s progresses.Asked → Track s t → Track (after_act s (Work (seen.Asked word private))) (tale_after t (Work (seen.Asked word private)))
asks s t word private h k =
    reads s (after_act s (Work (seen.Asked word private))) t (tale_after t (Work (seen.Asked word private))) h.startup
    (record { is = h.is; whole = told_whole h.startup.config.establishment h.startup.side (inbox s) progresses.Asked (comes_to s progresses.Asked h) (λ e. cc); start = refl; arrived = refl; front = refl; early = refl; receiving = refl; told = refl; story = record { came = refl; turns = refl; placed = refl; early = refl; receiving = refl; answered = refl; asked = refl } })
    k (quiet s t k) (append-nil t.placings)

closes : (s : StreamState) (t : Tale) (fault : StartupFault) → Hears s (progresses.Faulted fault) → Track s t → Track (after_act s (Work (seen.Closed fault))) (tale_after t (Work (seen.Closed fault)))
closes s t fault h k =
    reads s (after_act s (Work (seen.Closed fault))) t (tale_after t (Work (seen.Closed fault))) h.startup
    (record { is = h.is; whole = told_whole h.startup.config.establishment h.startup.side (inbox s) (progresses.Faulted fault) (comes_to s (progresses.Faulted fault) h) (λ e. cc); start = refl; arrived = refl; front = refl; early = refl; receiving = refl; told = refl; story = record { came = refl; turns = refl; placed = refl; early = refl; receiving = refl; answered = refl; asked = refl } })
    k (joins_end k.segments s.receiving (is_some s.front) (ended s) (segment_at (fore s)) (t.received ++ []) k.shown (quiet s t k)) (append-nil t.placings)

opens : (s : StreamState) (t : Tale) (agreed : Agreed) (word : Option EnhancedData) (private : Octets) → Hears s progresses.Agreed → Track s t → Track (after_act s (Work (seen.Opened agreed word private))) (tale_after t (Work (seen.Opened agreed word private)))
opens s t agreed word private h k =
    reads s (after_act s (Work (seen.Opened agreed word private))) t (tale_after t (Work (seen.Opened agreed word private))) h.startup
    (record { is = h.is; whole = told_whole h.startup.config.establishment h.startup.side (inbox s) progresses.Agreed (comes_to s progresses.Agreed h) (λ e. cc); start = refl; arrived = refl; front = refl; early = refl; receiving = refl; told = refl; story = record { came = refl; turns = refl; placed = refl; early = refl; receiving = refl; answered = refl; asked = refl } })
    k (quiet s t k) (append-nil t.placings)

-- it wants what this end does not have: the stream ends
pub fault_heard : (s : StreamState) (t : Tale) (fault : Fault) → HearsMismatch s fault → Track s t → Track (after_act s (Work (seen.Fault fault))) (tale_after t (Work (seen.Fault fault)))
fault_heard s t fault m k =
    let h = m.hears_it in
    let awaits : awaits_frame s.start ≡ true = ap awaits_frame h.is in
    reads s (after_act s (Work (seen.Fault fault))) t (tale_after t (Work (seen.Fault fault))) h.startup
    (record { is = h.is; whole = told_whole h.startup.config.establishment h.startup.side (inbox s) progresses.Agreed (comes_to s progresses.Agreed h) (λ e. cc); start = refl; arrived = arrived_unheard s awaits; front = refl; early = refl; receiving = refl; told = refl; story = record { came = refl; turns = refl; placed = refl; early = refl; receiving = refl; answered = refl; asked = refl } })
    k (over_joins (by_ended (hears_due s) (fault_for s fault)) (quiet s t k)) (append-nil t.placings)

-- the user may answer
pub record MayAnswer (s : StreamState) : Type 0 where
  pub running : ended s ≡ false
  pub startup : StartupState
  pub is : s.start ≡ Heard startup
  pub asked : awaits_answer startup ≡ true

pub may : (s : StreamState) → may_answer s ≡ true → MayAnswer s
may s e = go (ended s) s.start refl refl e
  where
    go : (over : Bool) (start : StartState) → ended s ≡ over → s.start ≡ start → (not over && starting.is_asked start) ≡ true → MayAnswer s
    go true start a b h = absurd (false≢true h)
    go false (AtOnce layout) a b h = absurd (false≢true h)
    go false (Unheard u) a b h = absurd (false≢true h)
    go false (Heard u) a b h = record { running = a; startup = u; is = b; asked = h }

-- the answer has room for the private data
fits_answer : (s : StreamState) (private : Octets) (m : MayAnswer s) → None ≡ answer_refusal s private → length private ≤ 512 → length private ≤ answer_room m.startup
fits_answer s private m e few = answer_fits m.startup private few (ap (λ z. starting.exceeds_answer z private) (sym m.is) ∙ go (ended s) (starting.is_asked s.start) (starting.exceeds_answer s.start private) e)
  where
    go : (over asked exceeds : Bool) → None ≡ cond over (Some NotAsked) (cond (not asked) (Some NotAsked) (cond exceeds (Some PrivateTooLong) None)) → exceeds ≡ false
    go true asked exceeds h = absurd (none-some _ h)
    go false false exceeds h = absurd (none-some _ h)
    go false true true h = absurd (none-some _ h)
    go false true false h = refl

pub refusing : (s : StreamState) (private : Octets) → None ≡ answer_refusal s private → may_answer s ≡ true
refusing s private e = go (ended s) (starting.is_asked s.start) e
  where
    go : (over asked : Bool) → None ≡ cond over (Some NotAsked) (cond (not asked) (Some NotAsked) (cond (starting.exceeds_answer s.start private) (Some PrivateTooLong) None)) → (not over && asked) ≡ true
    go true asked h = absurd (none-some _ h)
    go false false h = absurd (none-some _ h)
    go false true h = refl

pub accepting : (s : StreamState) (private : Octets) (agreed : Agreed) → Ok agreed ≡ answer_or (answer_refusal s private) (agreement_in s.start) → may_answer s ≡ true
accepting s private agreed e = refusing s private (granted (answer_refusal s private) agreed (agreement_in s.start) e).0

accepts : (s : StreamState) (t : Tale) (private : Octets) (agreed : Agreed) → None ≡ answer_refusal s (private_data private).items → Track s t → Track (after_act s (Accept private (Ok agreed))) (tale_after t (Accept private (Ok agreed)))
accepts s t private agreed e k =
    let m = may s (refusing s (private_data private).items e) in
    let reply : Reply = replies.Accept (private_data private) in
    answers s (after_act s (Accept private (Ok agreed))) t (tale_after t (Accept private (Ok agreed))) m.startup reply
    (record { is = m.is; asked = m.asked; room = fits_answer s (private_data private).items m e (omega (arith, length-take 512 private)); start = ap (λ z. answered_with z reply) m.is; arrived = refl; front = refl; early = refl; receiving = refl; told = refl; story = record { came = refl; turns = refl; placed = refl; early = refl; receiving = refl; answered = refl; asked = refl } })
    k (quiet s t k) (append-nil t.placings)

rejects : (s : StreamState) (t : Tale) (private : Octets) → None ≡ answer_refusal s (private_data private).items → Track s t → Track (after_act s (Reject private None)) (tale_after t (Reject private None))
rejects s t private e k =
    let m = may s (refusing s (private_data private).items e) in
    let reply : Reply = replies.Reject (private_data private) in
    answers s (after_act s (Reject private None)) t (tale_after t (Reject private None)) m.startup reply
    (record { is = m.is; asked = m.asked; room = fits_answer s (private_data private).items m e (omega (arith, length-take 512 private)); start = ap (λ z. answered_with z reply) m.is; arrived = refl; front = refl; early = refl; receiving = refl; told = refl; story = record { came = refl; turns = refl; placed = refl; early = refl; receiving = refl; answered = refl; asked = refl } })
    k (joins_end k.segments s.receiving (is_some s.front) (ended s) (segment_at (fore s)) (t.received ++ []) k.shown (quiet s t k)) (append-nil t.placings)

-- what goes out changes nothing of what came
pub record StaysHeard (t t' : Story) : Type 0 where
  pub came : t'.came ≡ t.came
  pub first : t'.first ≡ t.first
  pub was_delivered : t'.was_delivered ≡ t.was_delivered
  pub strays : t'.strays ≡ t.strays
  pub start : t'.start ≡ t.start
  pub turns : t'.turns ≡ t.turns
  pub placed : t'.placed ≡ t.placed
  pub early : t'.early ≡ t.early
  pub receiving : t'.receiving ≡ t.receiving
  pub answered : t'.answered ≡ t.answered
  pub asked : asked_of t' ≡ asked_of t

pub shown_stays : (t : Story) (shown : Shown Octets) → StaysHeard t (story_shown t shown)
shown_stays t (shows.Frame from octets) = go (nat_lt from (first_place_out t.start)) (last_word t.ending) (segment_out t from octets) (is_rtr t from)
  where
    go : (first : Bool) (w : Option Octets) (o : Option (Segment Octets)) (ready : Bool) → StaysHeard t (cond first t (option_map_or (says_farewell t) w (option_map_or (sends_frame t ready) o t)))
    go true w o ready = record { came = refl; first = refl; was_delivered = refl; strays = refl; start = refl; turns = refl; placed = refl; early = refl; receiving = refl; answered = refl; asked = refl }
    go false (Some payload) o ready = record { came = refl; first = refl; was_delivered = refl; strays = refl; start = refl; turns = refl; placed = refl; early = refl; receiving = refl; answered = refl; asked = refl }
    go false None None ready = record { came = refl; first = refl; was_delivered = refl; strays = refl; start = refl; turns = refl; placed = refl; early = refl; receiving = refl; answered = refl; asked = refl }
    go false None (Some segment) true = record { came = refl; first = refl; was_delivered = refl; strays = refl; start = refl; turns = refl; placed = refl; early = refl; receiving = refl; answered = refl; asked = refl }
    go false None (Some segment) false = record { came = refl; first = refl; was_delivered = refl; strays = refl; start = refl; turns = refl; placed = refl; early = refl; receiving = refl; answered = refl; asked = refl }
shown_stays t (shows.Fetched from frame stag to octets) = go t.asked.unanswered refl
  where
    go : (waiting : List Asked) → t.asked.unanswered ≡ waiting → StaysHeard t (fetches_for t waiting octets)
    go [] is = record { came = refl; first = refl; was_delivered = refl; strays = refl; start = refl; turns = refl; placed = refl; early = refl; receiving = refl; answered = refl; asked = refl }
    go (oldest ∷ others) is = by (nat_eq (length t.begun + length octets) oldest.request.size)
      where
        by : (b : Bool) → StaysHeard t (cond b (record t {
          asked = record t.asked { unanswered = others; fetched = 0 };
          answers = t.answers ++ record { request = oldest.request; octets = t.begun ++ octets } ∷ [];
          begun = [];
        }) (record t { asked = record t.asked { fetched = length t.begun + length octets }; begun = t.begun ++ octets }))
        by true = record {
          came = refl;
          first = refl;
          was_delivered = refl;
          strays = refl;
          start = refl;
          turns = refl;
          placed = refl;
          early = refl;
          receiving = refl;
          answered = refl;
          asked = ap (λ z. z ++ map (λ (x : Asked). x.request) others) (map-append (λ (x : Answer). x.request) t.answers (record { request = oldest.request; octets = t.begun ++ octets } ∷ []))
              ∙ append_assoc (map (λ (x : Answer). x.request) t.answers) (oldest.request ∷ []) (map (λ (x : Asked). x.request) others)
              ∙ ap (λ z. map (λ (x : Answer). x.request) t.answers ++ map (λ (x : Asked). x.request) z) (sym is);
        }
        by false = record { came = refl; first = refl; was_delivered = refl; strays = refl; start = refl; turns = refl; placed = refl; early = refl; receiving = refl; answered = refl; asked = refl }
shown_stays t (shows.Fault fault) = record { came = refl; first = refl; was_delivered = refl; strays = refl; start = refl; turns = refl; placed = refl; early = refl; receiving = refl; answered = refl; asked = refl }
shown_stays t shows.Nothing = record { came = refl; first = refl; was_delivered = refl; strays = refl; start = refl; turns = refl; placed = refl; early = refl; receiving = refl; answered = refl; asked = refl }

goes_out : (s s' : StreamState) (t t' : Tale) → s'.start ≡ s.start → s'.arrived ≡ s.arrived → s'.front ≡ s.front → s'.early ≡ s.early → s'.receiving ≡ s.receiving
    → StaysHeard t.story t'.story → t'.placings ≡ t.placings → (k : Track s t) → Joins k.segments s'.receiving (is_some s'.front) (ended s') (segment_at (fore s')) t'.received k.shown → Track s' t'
goes_out s s' t t' start arrived front early receiving story placings k joins =
    same_track s s' t t' (kept_start s s' t t' start story.start) arrived
    story.came story.turns (story.placed ∙ k.placed ∙ sym (ap is_some front)) (story.receiving ∙ k.receiving ∙ sym receiving) (λ h. ap is_some front)
    (λ f h. same_fore s s' start arrived f (k.fore_is f (sym front ∙ h))) k k.shown
    (same_early s s' t t' k.shown start arrived early story.early placings (still_clear s s' start front early k.early.clear) k.early) (same_sent s s' t.story t'.story k.intro start early story.came k.sent_ones) joins
    (record { answered_are = story.answered ∙ k.tells.answered_are; asked_are = story.asked ∙ k.tells.asked_are })

emits_any : (s : StreamState) (t : Tale) (shown : Shown Octets) → Track s t → Track (after_act s (Emit shown)) (tale_after t (Emit shown))
emits_any s t (shows.Frame from octets) k = go (due s)
  where
    go : (d : Due) → Track (left_frame s d) (tale_after t (Emit (shows.Frame from octets)))
    go StartUp = goes_out s (left_frame s StartUp) t (tale_after t (Emit (shows.Frame from octets))) refl refl refl refl refl (shown_stays t.story (shows.Frame from octets)) (append-nil t.placings) k (quiet s t k)
    go (LastWord payload) =
        goes_out s (left_frame s (LastWord payload)) t (tale_after t (Emit (shows.Frame from octets))) refl refl refl refl refl (shown_stays t.story (shows.Frame from octets)) (append-nil t.placings) k (over_joins refl (quiet s t k))
    go (NextPart part) = goes_out s (left_frame s (NextPart part)) t (tale_after t (Emit (shows.Frame from octets))) refl refl refl refl refl (shown_stays t.story (shows.Frame from octets)) (append-nil t.placings) k (quiet s t k)
    go (Ready rtr) = goes_out s (left_frame s (Ready rtr)) t (tale_after t (Emit (shows.Frame from octets))) refl refl refl refl refl (shown_stays t.story (shows.Frame from octets)) (append-nil t.placings) k (quiet s t k)
    go (Response part) = goes_out s s t (tale_after t (Emit (shows.Frame from octets))) refl refl refl refl refl (shown_stays t.story (shows.Frame from octets)) (append-nil t.placings) k (quiet s t k)
    go NoneDue = goes_out s s t (tale_after t (Emit (shows.Frame from octets))) refl refl refl refl refl (shown_stays t.story (shows.Frame from octets)) (append-nil t.placings) k (quiet s t k)
emits_any s t (shows.Fetched from frame stag to octets) k =
    goes_out s (after_act s (Emit (shows.Fetched from frame stag to octets))) t (tale_after t (Emit (shows.Fetched from frame stag to octets))) refl refl refl refl refl (shown_stays t.story (shows.Fetched from frame stag to octets)) (append-nil t.placings) k (quiet s t k)
emits_any s t (shows.Fault fault) k =
    goes_out s (after_act s (Emit (shows.Fault fault))) t (tale_after t (Emit (shows.Fault fault))) refl refl refl refl refl (shown_stays t.story (shows.Fault fault)) (append-nil t.placings) k
    (over_joins (by_ended s (terminate_fetched s.asked fault)) (quiet s t k))
emits_any s t shows.Nothing k = goes_out s s t (tale_after t (Emit shows.Nothing)) refl refl refl refl refl (shown_stays t.story shows.Nothing) (append-nil t.placings) k (quiet s t k)

-- a fault of the peer's start-up frame is none of an open stream
pub told_open : (t : Story) (fault : Fault) → is_open t.start ≡ true → turns.ends_by (turns.hears t) (terminate_for t fault) ≡ turns.ends_by t (terminate_next t fault)
told_open t fault started =
    λ i. turns.ends_by (record t { start = heard_open t.start (in_order t.came) started i }) (cond (open_heard t.start started i) (terminate_alone fault) (terminate_next t fault))

-- a frame has a fault: the stream ends
fault_there : (s : StreamState) (t : Tale) (fault : Fault) → is_open s.start ≡ true → Track s t → Track (after_act s (Work (seen.Fault fault))) (tale_after t (Work (seen.Fault fault)))
fault_there s t fault started k =
    let told : is_open t.story.start ≡ true = ap is_open k.begins.start ∙ started in
    let start = sym (heard_open s.start (inbox s) started) in
    let arrived = sym (arrived_open s started) in
    let front : segment_at (fore s) ≡ segment_at (fore (after_act s (Work (seen.Fault fault)))) =
    λ i. segment_at (first_frame (expecting (start i)) ((arrived i).floor - first_place_in (start i)) (in_order (arrived i))) in
    goes_out s (after_act s (Work (seen.Fault fault))) t (tale_after t (Work (seen.Fault fault))) (heard_open s.start (inbox s) started)
    (arrived_open s started) refl refl refl
    (record { came = refl; first = refl; was_delivered = refl; strays = refl; start = heard_open t.story.start (in_order t.story.came) told; turns = refl; placed = refl; early = refl; receiving = refl; answered = refl; asked = refl })
    (append-nil t.placings) k (reshape refl refl refl front refl refl (over_joins (by_ended (hears_due s) (fault_for s fault)) (quiet s t k)))

-- what is kept of the frame that is placed
pub kept_whole : (s : StreamState) (was : Bool) (segment : Segment Octets) (w : Fronts s was segment) → kept_of s ≡ Some (placed_of (standing s w.frame))
kept_whole s was segment w = ap (option_map (λ (x : Carried × Octets). placed_of (standing s x.0))) w.whole

kept_fore : (s s' : StreamState) (was : Bool) (segment : Segment Octets) → Fronts s was segment → s'.start ≡ s.start → s'.arrived ≡ s.arrived → (f : PlacedFrame) → kept_of s ≡ Some f → IsFore s' f
kept_fore s s' was segment w start arrived f e =
    same_fore s s' start arrived f
    (record { frame = w.frame; rest = w.rest; whole = w.whole; is = same_Some _ _ (sym e ∙ kept_whole s was segment w); segment = segment; carries = w.carries })

-- what the turn of the frame that is next leaves of the message that is due
next_turns : (s : StreamState) (t : Tale) (was : Bool) (segment : Segment Octets) → Fronts s was segment → Track s t → next_turned t.story ≡ turned_by s.receiving (segment_at (fore s))
next_turns s t was segment f k =
    ap (λ z. option_map_or (λ x. receiving_turned t.story.receiving (placed_of x)) z t.story.receiving) (next_whole s t f.frame f.rest k f.whole)
    ∙ ap (λ r. receiving_turned r (placed_of (standing s f.frame))) k.receiving
    ∙ turned_kept s.receiving (standing s f.frame) segment f.carries
    ∙ ap (turned_by s.receiving) (sym (ap segment_at f.whole ∙ f.carries))

-- a responder keeps silent as long as no frame had its turn
same_test : (floor place turns : ℕ) → (floor ≡ place → turns ≡ 0) → (turns ≡ 0 → floor ≡ place) → nat_eq floor place ≡ nat_eq turns 0
same_test floor place turns to from = go (nat_eq floor place) (nat_eq turns 0) refl refl
  where
    go : (a b : Bool) → nat_eq floor place ≡ a → nat_eq turns 0 ≡ b → nat_eq floor place ≡ nat_eq turns 0
    go true true e h = e ∙ sym h
    go false false e h = e ∙ sym h
    go true false e h =
        let same : floor ≡ place = grind (arith, nat_tests) in
        let none : turns ≡ 0 = to same in
        absurd (let no : ⊥ = grind (arith, nat_tests) in no)
    go false true e h =
        let none : turns ≡ 0 = grind (arith, nat_tests) in
        let same : floor ≡ place = from none in
        absurd (let no : ⊥ = grind (arith, nat_tests) in no)

pub silent_is : (s : StreamState) (t : Tale) → Track s t → keeps_silent s ≡ is_silent t.story
silent_is s t k =
    let first = first_is s t k.intro k.begins in
    let at_first : nat_eq s.arrived.floor (first_place_in s.start) ≡ nat_eq t.story.turns 0 =
    same_test s.arrived.floor (first_place_in s.start) t.story.turns
    (λ e. let none : length k.frames ≤ 0 = omega (arith, e, first, k.point, k.far) in omega (arith, none, k.turns))
    (λ e. let none : length k.before ≤ 0 = omega (arith, e, k.turns, k.near) in omega (arith, none, k.point, first)) in
    (λ i. is_responder (sym k.begins.start i) && at_first i)

-- ---- Reads

-- the Reads that are outstanding behind the frame that has its turn
pub next_reads_are : (s : StreamState) (t : Tale) (was : Bool) (segment : Segment Octets) → Fronts s was segment → Track s t → t.story.reads ≡ s.reads → next_reads t.story ≡ reads_front s
next_reads_are s t was segment f k reads =
    ap (λ z. option_map_or (λ x. reads_left t.story.reads (placed_of x)) z t.story.reads) (next_whole s t f.frame f.rest k f.whole)
    ∙ ap (λ r. reads_left r (placed_of (standing s f.frame))) reads
    ∙ left_kept s.reads (standing s f.frame) segment f.carries
    ∙ ap (λ o. left_by_turn s.reads (length (payload_of o)) o) (sym (ap segment_at f.whole ∙ f.carries))

response_is : (head : TaggedHead) → is_response head ≡ nat_eq (opcode_of head.control) 2
response_is head = go (nat_eq (opcode_of head.control) 0) (nat_eq (opcode_of head.control) 2) refl refl
  where
    go : (w r : Bool) → nat_eq (opcode_of head.control) 0 ≡ w → nat_eq (opcode_of head.control) 2 ≡ r → is_read_response (cond w (Some tagged.Write) (cond r (Some tagged.ReadResponse) None)) ≡ r
    go false true a b = refl
    go false false a b = refl
    go true false a b = refl
    go true true a b = absurd (let no : ⊥ = grind (arith, nat_tests) in no)

-- a Read was answered where the last segment of a response passed its turn
one_answered : (reads : List Outstanding) (head : TaggedHead) (n : ℕ) → (is_response head ≡ true → response_turn_fault reads head n ≡ None)
    → length reads - length (tagged_left reads head n) ≡ cond (nat_eq (opcode_of head.control) 2) (cond head.last 1 0) 0
one_answered reads head n h = by (is_response head) refl ∙ ap (λ b. cond b (cond head.last 1 0) 0) (response_is head)
  where
    some : (rs : List Outstanding) → response_turn_fault rs head n ≡ None → length rs - length (reads_turned rs head n) ≡ cond head.last 1 0
    some [] e = absurd (none-some _ (sym e))
    some (r ∷ rs) e = go head.last
      where
        go : (last : Bool) → suc (length rs) - length (cond last rs (record r { turned = r.turned + n } ∷ rs)) ≡ cond last 1 0
        go true = omega arith
        go false = omega arith

    by : (b : Bool) → is_response head ≡ b → length reads - length (cond b (reads_turned reads head n) reads) ≡ cond b (cond head.last 1 0) 0
    by true is = some reads (h is)
    by false is = omega arith

-- a segment that completes no Send tells what is answered
passing_tells : (s : StreamState) (t : Tale) (segment : Segment Octets) → Fronts s true segment → IsPassing s segment → t.story.reads ≡ s.reads → (k : Track s t)
    → Tells (t.story.answered + (length t.story.reads - length (next_reads t.story))) (asked_of t.story) (k.segments ++ segment ∷ [])
passing_tells s t segment f passing same k =
    let left : next_reads t.story ≡ left_by_turn s.reads (length (payload_of (Some segment))) (Some segment) =
    next_reads_are s t true segment f k same ∙ ap (λ o. left_by_turn s.reads (length (payload_of o)) o) (ap segment_at f.whole ∙ f.carries) in
    go segment f passing (λ i. length (same i) - length (left i))
  where
    go : (segment : Segment Octets) → Fronts s true segment → IsPassing s segment
        → length t.story.reads - length (next_reads t.story) ≡ length s.reads - length (left_by_turn s.reads (length (payload_of (Some segment))) (Some segment))
        → Tells (t.story.answered + (length t.story.reads - length (next_reads t.story))) (asked_of t.story) (k.segments ++ segment ∷ [])
    go (Tagged head payload) f passing few = record {
      answered_are = omega (arith, k.tells.answered_are, few, one_answered s.reads head (length payload) passing, ended-append k.segments (Tagged head payload ∷ []));
      asked_are = k.tells.asked_are ∙ sym (append-nil (requests_in k.segments)) ∙ sym (requests-append k.segments (Tagged head payload ∷ []));
    }
    go (Untagged head payload) f passing few =
        let plain = plain_tells k.segments head payload ((turning s t k (Untagged head payload) f).joins.waits refl refl) k.tells in
        record { answered_are = omega (arith, plain.answered_are, few); asked_are = plain.asked_are }

-- a Read Request that had its turn tells what is asked
request_tells : (s : StreamState) (t : Tale) (size : ℕ) (stag : Stag) (to : ℕ) → (w : SeesRequest s size stag to) → (k : Track s t)
    → Tells t.story.answered (map (λ (x : Answer). x.request) t.story.answers ++ map (λ (x : Asked). x.request) (next_asked t.story).unanswered) (k.segments ++ Untagged w.head w.payload ∷ [])
request_tells s t size stag to w k =
    let x : Asked = asked_in (standing s w.fronts.frame) in
    let answered : List ReadRequest = map (λ (x : Answer). x.request) t.story.answers in
    let story : next_asked t.story ≡ taken_up t.story.asked x =
    ap (λ z. option_map_or (λ f. taken_up t.story.asked (asked_in f)) z t.story.asked) (next_whole s t w.fronts.frame w.fronts.rest k w.fronts.whole) in
    let same : x.request ≡ request_fields w.payload = ap (λ o. request_fields (payload_of o)) w.fronts.carries in
    record {
      answered_are = omega (arith, k.tells.answered_are, ended-append k.segments (Untagged w.head w.payload ∷ []));
      asked_are = ap (λ (z : Requested). answered ++ map (λ (x : Asked). x.request) z.unanswered) story
          ∙ ap (λ z. answered ++ z) (map-append (λ (x : Asked). x.request) t.story.asked.unanswered (x ∷ []))
          ∙ sym (append_assoc answered (map (λ (x : Asked). x.request) t.story.asked.unanswered) (x.request ∷ []))
          ∙ (λ i. k.tells.asked_are i ++ same i ∷ [])
          ∙ sym (requests_more k.segments w.head w.payload w.queue);
    }

-- ---- placements

-- a placement counts as its segment
shown_written : (c : Cell) (head : TaggedHead) (right : Right) (stag : Stag) (to : ℕ) (octets : Octets) → IsPlacedBy head right → stag ≡ head.stag → to ≡ head.to
    → count_writes c (written_by right (as_write (record { right = right; stag = stag; to = to; octets = octets }))) ≡ count_segments c (Tagged head octets ∷ [])
shown_written c head right stag to octets kind stag_is to_is =
    (λ i. count_writes c (written_by right (as_write (record { right = right; stag = stag_is i; to = to_is i; octets = octets })))) ∙ elim kind [
      | inl (by, op) ↦
          ap (λ z. count_writes c (written_by z (as_write (record { right = right; stag = head.stag; to = head.to; octets = octets })))) by
          ∙ ap (λ n. cond (nat_eq n 0) (count_in c head.stag head.to octets) 0 + 0) (sym op)
      | inr (by, op) ↦
          ap (λ z. count_writes c (written_by z (as_write (record { right = right; stag = head.stag; to = head.to; octets = octets })))) by
          ∙ ap (λ n. cond (nat_eq n 0) (count_in c head.stag head.to octets) 0 + 0) (sym op)
    ]

shown_sunk : (c : Cell) (head : TaggedHead) (right : Right) (stag : Stag) (to : ℕ) (octets : Octets) → IsPlacedBy head right → stag ≡ head.stag → to ≡ head.to
    → count_writes c (sunk_by right (as_write (record { right = right; stag = stag; to = to; octets = octets }))) ≡ count_responses c (Tagged head octets ∷ [])
shown_sunk c head right stag to octets kind stag_is to_is =
    (λ i. count_writes c (sunk_by right (as_write (record { right = right; stag = stag_is i; to = to_is i; octets = octets })))) ∙ elim kind [
      | inl (by, op) ↦
          ap (λ z. count_writes c (sunk_by z (as_write (record { right = right; stag = head.stag; to = head.to; octets = octets })))) by
          ∙ ap (λ n. cond (nat_eq n 2) (count_in c head.stag head.to octets) 0 + 0) (sym op)
      | inr (by, op) ↦
          ap (λ z. count_writes c (sunk_by z (as_write (record { right = right; stag = head.stag; to = head.to; octets = octets })))) by
          ∙ ap (λ n. cond (nat_eq n 2) (count_in c head.stag head.to octets) 0 + 0) (sym op)
    ]

-- what the acts say of a frame that was placed at the in-order point
told_there : (s : StreamState) (t : Tale) (was : Bool) (segment : Segment Octets) → Fronts s was segment → Track s t → turns.places t.story ≡ record t.story { placed = true }
told_there s t was segment f k = ap (λ (o : Option Frame). record t.story { placed = is_some o; early = cond (is_some o) t.story.early (turns.early_with t.story (λ f. states.Placed (placed_of f).header)) }) (next_whole s t f.frame f.rest k f.whole)

pub left_there : (s : StreamState) (was : Bool) (segment : Segment Octets) → Fronts s was segment → told_of.places s ≡ record s { front = kept_of s }
left_there s was segment f = ap (λ (o : Front). record s { front = kept_of s; early = cond (is_some o) s.early (told_of.early_with s (λ f. states.Placed (placed_of f).header)) }) f.whole

-- no record begins before the end of the frame that is placed
clear_there : (s : StreamState) (t : Tale) (k : Track s t) (segment : Segment Octets) → (w : Fronts s false segment) → (f : PlacedFrame) → kept_of s ≡ Some f → IsClearOf s f
clear_there s t k segment w f e = subst (IsClearOf s) (same_Some _ _ (sym (kept_whole s false segment w) ∙ e)) (unclashed s t k w.frame (w.clear refl))

placed_there : (table : Table) (s : StreamState) (t : Tale) (right : Right) (stag : Stag) (to : ℕ) (octets : Octets) → SeesPlaced table s right stag to octets → Track s t
    → Track (after_act s (Work (seen.Placed right stag to octets))) (tale_after t (Work (seen.Placed right stag to octets)))
placed_there table s t right stag to octets w k =
    let act : StreamAct Octets = Work (seen.Placed right stag to octets) in
    let s' : StreamState = record s { front = kept_of s } in
    let t' : Tale = record (tale_after t act) { story = record t.story { placed = true } } in
    let some : is_some (kept_of s) ≡ true = ap is_some (kept_whole s false (Tagged w.head octets) w.fronts) in
    let one : Placing = record { right = right; stag = stag; to = to; octets = octets } in
    let track : Track s' t' =
    same_track s s' t t' (kept_start s s' t t' refl refl) refl refl refl (sym some) k.receiving (λ h. absurd (false≢true (sym h ∙ w.fronts.started))) (λ f h. kept_fore s s' false (Tagged w.head octets) w.fronts refl refl f h) k
    (k.shown ++ one ∷ [])
    (record {
      records_are = k.early.records_are;
      unopened = k.early.unopened;
      judged = k.early.judged;
      clear = λ f h. clear_there s t k (Tagged w.head octets) w.fronts f h;
      written_are = λ c. omega (arith, written-push c t.placings one, written-push c k.shown one, k.early.written_are c);
      sunk_are = λ c. omega (arith, sunk-push c t.placings one, sunk-push c k.shown one, k.early.sunk_are c);
    }) k.sent_ones
    (reshape refl (sym some) refl refl refl refl (places table s t right stag to octets w k)) k.tells in
    subst (λ z. Track z (tale_after t act)) (sym (left_there s false (Tagged w.head octets) w.fronts))
    (subst (λ y. Track s' (record (tale_after t act) { story = y })) (sym (told_there s t false (Tagged w.head octets) w.fronts k)) track)

buffered_there : (s : StreamState) (t : Tale) (msn mo len : ℕ) → SeesSend s msn mo len → Track s t → Track (after_act s (Work (seen.Buffered msn mo len))) (tale_after t (Work (seen.Buffered msn mo len)))
buffered_there s t msn mo len w k =
    let act : StreamAct Octets = Work (seen.Buffered msn mo len) in
    let r : Receiving = written s.receiving msn mo (told_of.judged_payload s) in
    let s' : StreamState = record s { front = kept_of s; receiving = r } in
    let story : Story = record t.story { placed = true; receiving = written t.story.receiving msn mo (judged_payload t.story) } in
    let t' : Tale = record (tale_after t act) { story = story } in
    let told : (tale_after t act).story ≡ story = ap (λ (y : Story). record y { receiving = written t.story.receiving msn mo (judged_payload t.story) }) (told_there s t false (Untagged w.head w.payload) w.fronts k) in
    let left : after_act s act ≡ s' = ap (λ (z : StreamState). record z { receiving = r }) (left_there s false (Untagged w.head w.payload) w.fronts) in
    let some : is_some (kept_of s) ≡ true = ap is_some (kept_whole s false (Untagged w.head w.payload) w.fronts) in
    let track : Track s' t' =
    same_track s s' t t' (kept_start s s' t t' refl refl) refl refl refl (sym some) (λ i. written (k.receiving i) msn mo (judged_carries s t k i)) (λ h. absurd (false≢true (sym h ∙ w.fronts.started)))
    (λ f h. kept_fore s s' false (Untagged w.head w.payload) w.fronts refl refl f h) k
    k.shown (same_early s s' t t' k.shown refl refl refl refl (append-nil t.placings) (λ f h. clear_there s t k (Untagged w.head w.payload) w.fronts f h) k.early) k.sent_ones
    (reshape refl (sym some) refl refl refl refl (buffers s t msn mo len w k)) k.tells in
    subst (λ z. Track z (tale_after t act)) (sym left) (subst (λ y. Track s' (record (tale_after t act) { story = y })) (sym told) track)

-- a frame is judged before its turn
judges_early : {A : Type 0} (table : Table) (s : StreamState) (t t' : Tale) (step : Seen Octets) (frame : Frame) (at : Option A) → JudgedEarly table s step → work.early_frame s ≡ Some frame → (IsPlaced (state_tried frame at) → IsPlaceable (frames.segment_in frame))
    → t'.story ≡ record t.story { early = added t.story.early (record_tried frame at) } → t'.received ≡ t.received
    → ((c : Cell) → count_writes c (written_of t'.placings) ≡ count_writes c (written_of t.placings) + count_segments c (judged.placed_by frame (state_tried frame at)))
    → ((c : Cell) → count_writes c (sunk t'.placings) ≡ count_writes c (sunk t.placings) + count_responses c (judged.placed_by frame (state_tried frame at)))
    → Track s t → Track (record s { early = added s.early (record_tried frame at) }) t'
judges_early table s t t' step frame at j found placeable story received written sunk_so k =
    let r : EarlyRecord = record_tried frame at in
    let s' : StreamState = record s { early = added s.early r } in
    let low : first_place_in s.start ≤ s.arrived.floor = omega (arith, k.point, first_is s t k.intro k.begins) in
    let open_here = open_at (scene s) frame low found in
    let front : s.front ≡ None = nothing_waits s (ap is_some j.unplaced) in
    same_track s s' t t' (kept_start s s' t t' refl (ap (λ (z : Story). z.start) story)) refl (ap (λ (z : Story). z.came) story) (ap (λ (z : Story). z.turns) story) (ap (λ (z : Story). z.placed) story ∙ k.placed)
    (ap (λ (z : Story). z.receiving) story ∙ k.receiving) (λ h. refl) (λ f h. same_fore s s' refl refl f (k.fore_is f h)) k k.shown
    (record {
      records_are = ap (λ (z : Story). z.early) story ∙ ap (λ rs. added rs r) k.early.records_are;
      unopened = λ h. absurd (false≢true (sym h ∙ j.runs.started));
      judged = judges_one (scene s) frame at open_here placeable k.early.judged;
      clear = λ f h. absurd (none-some _ (sym front ∙ h));
      written_are = λ c. omega (arith, written c, k.early.written_are c, ap (count_segments c) (same_segments (scene s) (added s.early r) (added s.early r)), one_counts (scene s) frame (state_tried frame at) (count_segments c) (record { both = count-append c }) open_here);
      sunk_are = λ c. omega (arith, sunk_so c, k.early.sunk_are c, ap (count_responses c) (same_segments (scene s) (added s.early r) (added s.early r)), one_counts (scene s) frame (state_tried frame at) (count_responses c) (record { both = responses-append c }) open_here);
    })
    (λ us short of.
    let came : t'.story.came ≡ t.story.came = ap (λ (z : Story). z.came) story in
    let was : IsOf t.story.came (k.intro ++ sequence (expecting s.start) 0 us) = subst (λ a. IsOf a (k.intro ++ sequence (expecting s.start) 0 us)) came of in
    one_more_sent (scene s) us open_here.marked short (scene_sent (scene s) t.story.came k.intro (sequence (expecting s.start) 0 us) (length k.intro + length k.before) (first_is s t k.intro k.begins) k.arrived k.held was)
    k.early.judged (k.sent_ones us short was) r open_here.free)
    (reshape refl refl refl refl (sym received) refl k.joins)
    (subst (λ (z : Story). Tells z.answered (asked_of z) k.segments) (sym story) k.tells)

-- what is left where one was placed, or was not
pub left_early : (table : Table) (s : StreamState) (step : Seen Octets) (frame : Frame) → JudgedEarly table s step → work.early_frame s ≡ Some frame → told_of.places s ≡ record s { early = added s.early (record_of frame (states.Placed (placed_of frame).header)) }
left_early table s step frame j found =
    let state : Frame → State (ArrayVec ℕ) = λ f. states.Placed (placed_of f).header in
    let front : kept_of s ≡ s.front = ap (option_map (λ (x : Carried × Octets). placed_of (standing s x.0))) j.none ∙ sym (nothing_waits s (ap is_some j.unplaced)) in
    let records : cond (is_some (fore s)) s.early (told_of.early_with s state) ≡ added s.early (record_of frame (state frame)) =
    ap (λ (o : Front). cond (is_some o) s.early (told_of.early_with s state)) j.none ∙ ap (λ (o : Option Frame). option_map_or (λ f. added s.early (record_of f (state f))) o s.early) found in
    λ i. record s { front = front i; early = records i }

pub left_tried : (s : StreamState) (place : ℕ) (frame : Frame) → work.early_frame s ≡ Some frame → after_act s (Work (seen.Tried place)) ≡ record s { early = added s.early (record_of frame states.Tried) }
left_tried s place frame found = ap (λ (o : Option Frame). record s { early = option_map_or (λ f. added s.early (record_of f states.Tried)) o s.early }) found

-- what the acts say of a frame that was placed before its turn
told_early : (table : Table) (s : StreamState) (t : Tale) (step : Seen Octets) (frame : Frame) → JudgedEarly table s step → work.early_frame s ≡ Some frame → Track s t
    → turns.places t.story ≡ record t.story { early = added t.story.early (record_of frame (states.Placed (placed_of frame).header)) }
told_early table s t step frame j found k =
    let state : Frame → State (ArrayVec ℕ) = λ f. states.Placed (placed_of f).header in
    let next : next_frame t.story ≡ None = next_none s t k j.none in
    let placed : is_some (next_frame t.story) ≡ t.story.placed = ap is_some next ∙ sym (k.placed ∙ ap is_some (nothing_waits s (ap is_some j.unplaced))) in
    let told_records : cond (is_some (next_frame t.story)) t.story.early (turns.early_with t.story state) ≡ added t.story.early (record_of frame (state frame)) =
    ap (λ (o : Option Frame). cond (is_some o) t.story.early (turns.early_with t.story state)) next ∙ ap (λ (o : Option Frame). option_map_or (λ f. added t.story.early (record_of f (state f))) o t.story.early) (early_frame_is s t k ∙ found) in
    λ i. record t.story { placed = placed i; early = told_records i }

placed_early : (table : Table) (s : StreamState) (t : Tale) (right : Right) (stag : Stag) (to : ℕ) (octets : Octets) → JudgedEarly table s (seen.Placed right stag to octets) → SeesEarly table s right stag to octets → Track s t
    → Track (after_act s (Work (seen.Placed right stag to octets))) (tale_after t (Work (seen.Placed right stag to octets)))
placed_early table s t right stag to octets j w k =
    let act : StreamAct Octets = Work (seen.Placed right stag to octets) in
    let one : Placing = record { right = right; stag = stag; to = to; octets = octets } in
    let left = left_early table s (seen.Placed right stag to octets) w.frame j w.is_early in
    let told = told_early table s t (seen.Placed right stag to octets) w.frame j w.is_early k in
    subst (λ z. Track z (tale_after t act)) (sym left)
    (judges_early table s t (tale_after t act) (seen.Placed right stag to octets) w.frame (Some s) j w.is_early (λ p. subst IsPlaceable (sym w.carries) (elim w.kind [ inl z ↦ inl z.1 | inr z ↦ inr z.1 ]))
    told (append-nil t.received)
    (λ c. written-push c t.placings one ∙ ap (λ n. count_writes c (written_of t.placings) + n) (shown_written c w.head right stag to octets w.kind w.stag_is w.to_is ∙ ap (λ o. count_segments c (listed o)) (sym w.carries)))
    (λ c. sunk-push c t.placings one ∙ ap (λ n. count_writes c (sunk t.placings) + n) (shown_sunk c w.head right stag to octets w.kind w.stag_is w.to_is ∙ ap (λ o. count_responses c (listed o)) (sym w.carries)))
    k)

-- a receive buffer is written into
writes_track : (s : StreamState) (t : Tale) (msn mo : ℕ) (octets told : Octets) → told ≡ octets → Track s t
    → Track (record s { receiving = written s.receiving msn mo octets }) (record t { story = record t.story { receiving = written t.story.receiving msn mo told } })
writes_track s t msn mo octets told same k =
    let s' : StreamState = record s { receiving = written s.receiving msn mo octets } in
    let t' : Tale = record t { story = record t.story { receiving = written t.story.receiving msn mo told } } in
    same_track s s' t t' (kept_start s s' t t' refl refl) refl refl refl k.placed (λ i. written (k.receiving i) msn mo (same i)) (λ h. refl) (λ f h. same_fore s s' refl refl f (k.fore_is f h)) k
    k.shown (same_early s s' t t' k.shown refl refl refl refl refl k.early.clear k.early) k.sent_ones
    (joins_written k.segments s.receiving msn mo octets (is_some s.front) (ended s) (segment_at (fore s)) t.received k.shown k.joins) k.tells

buffered_early : (table : Table) (s : StreamState) (t : Tale) (msn mo len : ℕ) → JudgedEarly table s (seen.Buffered msn mo len) → SeesEarlySend s msn mo len → Track s t
    → Track (after_act s (Work (seen.Buffered msn mo len))) (tale_after t (Work (seen.Buffered msn mo len)))
buffered_early table s t msn mo len j w k =
    let act : StreamAct Octets = Work (seen.Buffered msn mo len) in
    let s' : StreamState = record s { early = added s.early (record_of w.frame (states.Placed (placed_of w.frame).header)) } in
    let story : Story = record t.story { early = added t.story.early (record_of w.frame (states.Placed (placed_of w.frame).header)) } in
    let left : told_of.places s ≡ s' = left_early table s (seen.Buffered msn mo len) w.frame j w.is_early in
    let told : turns.places t.story ≡ story = told_early table s t (seen.Buffered msn mo len) w.frame j w.is_early k in
    let t' : Tale = record (tale_after t act) { story = story } in
    let none : (count : List (Segment Octets) → ℕ) → count (Untagged w.head w.payload ∷ []) ≡ 0 → count (listed (frames.segment_in w.frame)) ≡ 0 = λ count e. ap (λ o. count (listed o)) w.carries ∙ e in
    let track : Track s' t' =
    judges_early table s t t' (seen.Buffered msn mo len) w.frame (Some s) j w.is_early (λ p. subst IsPlaceable (sym w.carries) w.queue) refl (append-nil t.received)
    (λ c. let same : count_writes c (written_of (t.placings ++ [])) ≡ count_writes c (written_of t.placings) = ap (λ z. count_writes c (written_of z)) (append-nil t.placings) in omega (arith, same, none (count_segments c) refl))
    (λ c. let same : count_writes c (sunk (t.placings ++ [])) ≡ count_writes c (sunk t.placings) = ap (λ z. count_writes c (sunk z)) (append-nil t.placings) in omega (arith, same, none (count_responses c) refl))
    k in
    let both = writes_track s' t' msn mo (told_of.judged_payload s) (judged_payload t.story) (judged_carries s t k) track in
    subst (λ z. Track (record z { receiving = written s.receiving msn mo (told_of.judged_payload s) }) (tale_after t act)) (sym left)
    (subst (λ y. Track (record s' { receiving = written s.receiving msn mo (told_of.judged_payload s) }) (record (tale_after t act) { story = record y { receiving = written t.story.receiving msn mo (judged_payload t.story) } })) (sym told) both)

tried : (table : Table) (s : StreamState) (t : Tale) (place : ℕ) → JudgedEarly table s (seen.Tried place) → Track s t → Track (after_act s (Work (seen.Tried place))) (tale_after t (Work (seen.Tried place)))
tried table s t place j k =
    let act : StreamAct Octets = Work (seen.Tried place) in
    let left = left_tried s place j.frame j.is_early in
    let told : story_after t.story act ≡ record t.story { early = added t.story.early (record_of j.frame states.Tried) } =
    ap (λ (o : Option Frame). record t.story { early = option_map_or (λ f. added t.story.early (record_of f states.Tried)) o t.story.early }) (early_frame_is s t k ∙ j.is_early) in
    subst (λ z. Track z (tale_after t act)) (sym left)
    (judges_early {A = Landing} table s t (tale_after t act) (seen.Tried place) j.frame None j j.is_early (λ p. absurd p) told (append-nil t.received)
    (λ c. let same : count_writes c (written_of (t.placings ++ [])) ≡ count_writes c (written_of t.placings) = ap (λ z. count_writes c (written_of z)) (append-nil t.placings) in omega (arith, same))
    (λ c. let same : count_writes c (sunk (t.placings ++ [])) ≡ count_writes c (sunk t.placings) = ap (λ z. count_writes c (sunk z)) (append-nil t.placings) in omega (arith, same))
    k)

-- octets land where the acts say
module _ (s : StreamState) (t : Tale) (number : ℕ) (first : t.story.first ≡ s.first) (k : Track s t) where
  here_is : in_order_point t.story ≡ s.arrived.floor
  here_is = point_is s t k ∙ sym k.point

  place_told : place_near number t.story.first (in_order_point t.story) ≡ place_of s number
  place_told = λ i. place_near number (first i) (here_is i)

  out_told : before_start number t.story.first (in_order_point t.story) ≡ left_out s number
  out_told = λ i. before_start number (first i) (here_is i)

kept_left : (s : StreamState) (number : ℕ) (octets : Octets) → Kept ≡ delivery_of s number (length octets) → Kept ≡ cond (ended s) Dropped (delivery s.arrived (place_of s number) (length (drop (left_out s number) octets)))
kept_left s number octets e = e ∙ ap (λ n. cond (ended s) Dropped (delivery s.arrived (place_of s number) n)) (sym (length-drop (left_out s number) octets))

-- what the turns, the placings and the responses go by stays
stays_put : (s s' : StreamState) (t t' : Tale) → s'.start ≡ s.start → s'.arrived ≡ s.arrived → s'.front ≡ s.front → s'.early ≡ s.early → s'.receiving ≡ s.receiving
    → t'.story.start ≡ t.story.start → t'.story.came ≡ t.story.came → t'.story.turns ≡ t.story.turns → t'.story.placed ≡ t.story.placed → t'.story.early ≡ t.story.early → t'.story.receiving ≡ t.story.receiving
    → t'.story.answered ≡ t.story.answered → asked_of t'.story ≡ asked_of t.story → t'.placings ≡ t.placings
    → (k : Track s t) → Joins k.segments s'.receiving (is_some s'.front) (ended s') (segment_at (fore s')) t'.received k.shown → Track s' t'
stays_put s s' t t' start arrived front early receiving start_told came turns placed early_told receiving_told answered asked placings k joins =
    same_track s s' t t' (kept_start s s' t t' start start_told) arrived
    came turns (placed ∙ k.placed ∙ sym (ap is_some front)) (receiving_told ∙ k.receiving ∙ sym receiving) (λ h. ap is_some front)
    (λ f h. same_fore s s' start arrived f (k.fore_is f (sym front ∙ h))) k k.shown
    (same_early s s' t t' k.shown start arrived early early_told placings (still_clear s s' start front early k.early.clear) k.early) (same_sent s s' t.story t'.story k.intro start early came k.sent_ones) joins
    (record { answered_are = answered ∙ k.tells.answered_are; asked_are = asked ∙ k.tells.asked_are })

pub tracking : (table : Table) (s : StreamState) (t : Tale) (act : StreamAct Octets) → Told table s act → t.story.reads ≡ s.reads → OnSome (λ c. t.story.first ≡ s.first) (deed act).coming → Track s t → Track (after_act s act) (tale_after t act)
tracking table s t (Deliver from number octets Kept) rule r f k =
    comes s (after_act s (Deliver from number octets Kept)) t (tale_after t (Deliver from number octets Kept)) (place_of s number) (drop (left_out s number) octets) (kept_left s number octets rule.1) (kept_start s (after_act s (Deliver from number octets Kept)) t (tale_after t (Deliver from number octets Kept)) refl refl) refl refl refl refl refl
    (λ i. taken_in t.story.came (place_told s t number f k i) (drop (out_told s t number f k i) octets)) refl refl refl refl (append-nil t.received) (append-nil t.placings) k k.tells
tracking table s t (Raw number octets Kept) rule r f k =
    comes s (after_act s (Raw number octets Kept)) t (tale_after t (Raw number octets Kept)) (place_of s number) (drop (left_out s number) octets) (kept_left s number octets rule) (kept_start s (after_act s (Raw number octets Kept)) t (tale_after t (Raw number octets Kept)) refl refl) refl refl refl refl refl
    (λ i. taken_in t.story.came (place_told s t number f k i) (drop (out_told s t number f k i) octets)) refl refl refl refl (append-nil t.received) (append-nil t.placings) k k.tells
tracking table s t (Deliver from number octets Dropped) rule r f k = stays_put s (after_act s (Deliver from number octets Dropped)) t (tale_after t (Deliver from number octets Dropped)) refl refl refl refl refl refl refl refl refl refl refl refl refl (append-nil t.placings) k (quiet s t k)
tracking table s t (Raw number octets Dropped) rule r f k = stays_put s (after_act s (Raw number octets Dropped)) t (tale_after t (Raw number octets Dropped)) refl refl refl refl refl refl refl refl refl refl refl refl refl (append-nil t.placings) k (quiet s t k)
tracking table s t (First number (Some refusal)) rule r f k = same s s t (tale_after t (First number (Some refusal))) refl refl refl refl refl refl (append-nil t.placings) k (quiet s t k)
tracking table s t (Mulpdu size (Some refusal)) rule r f k = same s s t (tale_after t (Mulpdu size (Some refusal))) refl refl refl refl refl refl (append-nil t.placings) k (quiet s t k)
tracking table s t (Accept private (Err refusal)) rule r f k = same s s t (tale_after t (Accept private (Err refusal))) refl refl refl refl refl refl (append-nil t.placings) k (quiet s t k)
tracking table s t (Reject private (Some refusal)) rule r f k = same s s t (tale_after t (Reject private (Some refusal))) refl refl refl refl refl refl (append-nil t.placings) k (quiet s t k)
tracking table s t (Recv len (Some refusal)) rule r f k = same s s t (tale_after t (Recv len (Some refusal))) refl refl refl refl refl refl (append-nil t.placings) k (quiet s t k)
tracking table s t (Post m (Some refusal)) rule r f k = same s s t (tale_after t (Post m (Some refusal))) refl refl refl refl refl refl (append-nil t.placings) k (quiet s t k)
tracking table s t (Work seen.Idle) rule r f k = same s s t (tale_after t (Work seen.Idle)) refl refl refl refl refl refl (append-nil t.placings) k (quiet s t k)
tracking table s t (First number None) rule r f k = stays_put s (after_act s (First number None)) t (tale_after t (First number None)) refl refl refl refl refl refl refl refl refl refl refl refl refl (append-nil t.placings) k (quiet s t k)
tracking table s t (Mulpdu size None) rule r f k = same s (after_act s (Mulpdu size None)) t (tale_after t (Mulpdu size None)) refl refl refl refl refl refl (append-nil t.placings) k (quiet s t k)
tracking table s t (Post m None) rule r f k = same s (after_act s (Post m None)) t (tale_after t (Post m None)) refl refl refl refl refl refl (append-nil t.placings) k (quiet s t k)
tracking table s t (Work (seen.Done kind)) rule r f k = same s (after_act s (Work (seen.Done kind))) t (tale_after t (Work (seen.Done kind))) refl refl refl refl refl refl (append-nil t.placings) k (quiet s t k)
tracking table s t (Emit shown) rule r f k = emits_any s t shown k
tracking table s t (Accept private (Ok agreed)) rule r f k = accepts s t private agreed (granted (answer_refusal s (private_data private).items) agreed (agreement_in s.start) rule).0 k
tracking table s t (Reject private None) rule r f k = rejects s t private rule k
tracking table s t (Work (seen.Asked word private)) rule r f k = asks s t word private rule.0 k
tracking table s t (Work (seen.Opened agreed word private)) rule r f k = opens s t agreed word private rule.0.hears_it k
tracking table s t (Work (seen.Closed fault)) rule r f k = closes s t fault rule k
tracking table s t (Recv len None) rule r f k =
    let s' : StreamState = after_act s (Recv len None) in
    let t' : Tale = tale_after t (Recv len None) in
    same_track s s' t t' (kept_start s s' t t' refl refl) refl refl refl k.placed (ap (λ (r : Receiving). with_buffer r (replicate len 0)) k.receiving) (λ h. refl) (λ f h. same_fore s s' refl refl f (k.fore_is f h)) k
    k.shown (same_early s s' t t' k.shown refl refl refl refl (append-nil t.placings) k.early.clear k.early) k.sent_ones
    (joins_buffer k.segments s.receiving (is_some s.front) (ended s) (segment_at (fore s)) (t.received ++ []) k.shown (replicate len 0) (quiet s t k)) k.tells
tracking table s t (Work (seen.Placed right stag to octets)) rule r f k = elim rule [
  | inl (judged, w) ↦ placed_there table s t right stag to octets w k
  | inr (judged, w) ↦ placed_early table s t right stag to octets judged w k
]
tracking table s t (Work (seen.Tried place)) rule r f k = tried table s t place rule k
tracking table s t (Work (seen.Buffered msn mo len)) rule r f k = elim rule [
  | inl (judged, w) ↦ buffered_there s t msn mo len w k
  | inr (judged, w) ↦ buffered_early table s t msn mo len judged w k
]
tracking table s t (Work (seen.Requested size stag to)) rule r f k =
    let w = rule.1 in
    let s' : StreamState = after_act s (Work (seen.Requested size stag to)) in
    let t' : Tale = tale_after t (Work (seen.Requested size stag to)) in
    turned s s' t t' w.fronts.frame w.fronts.rest (Untagged w.head w.payload) w.fronts.whole w.fronts.carries w.fronts.started (kept_start s s' t t' refl refl) refl refl refl refl refl refl refl
    k.receiving k k.shown (same_counts s t t' k (Untagged w.head w.payload) w.fronts (append-nil t.placings)) (requests s t size stag to (segment_at (fore s')) w k) (request_tells s t size stag to w k)
tracking table s t (Work seen.Passed) rule r f k =
    let w = rule.1 in
    let s' : StreamState = after_act s (Work seen.Passed) in
    let t' : Tale = tale_after t (Work seen.Passed) in
    let now = turning s t k w.segment w.fronts in
    turned s s' t t' w.fronts.frame w.fronts.rest w.segment w.fronts.whole w.fronts.carries w.fronts.started (kept_start s s' t t' refl refl) refl refl refl refl refl refl refl
    (next_turns s t true w.segment w.fronts k) k now.shown (same_placings s t t' now.shown (append-nil t.placings) now.counts) (passes s t w.segment (segment_at (fore s')) w.fronts w.passing k now)
    (passing_tells s t w.segment w.fronts w.passing r k)
tracking table s t (Work (seen.Received octets solicited invalidate)) rule r f k =
    let c = rule.1 in
    let s' : StreamState = after_act s (Work (seen.Received octets solicited invalidate)) in
    let t' : Tale = tale_after t (Work (seen.Received octets solicited invalidate)) in
    let now = turning s t k (Untagged c.head c.payload) c.fronts in
    turned s s' t t' c.fronts.frame c.fronts.rest (Untagged c.head c.payload) c.fronts.whole c.fronts.carries c.fronts.started (kept_start s s' t t' refl refl) refl refl refl refl refl refl refl
    (ap finished k.receiving) k now.shown (same_placings s t t' now.shown (append-nil t.placings) now.counts) (receives s t octets solicited invalidate (segment_at (fore s')) c k now)
    (plain_tells k.segments c.head c.payload (now.joins.waits refl refl) k.tells)
tracking table s t (Work (seen.Terminated fault)) rule r f k =
    let w = rule.1 in
    let s' : StreamState = after_act s (Work (seen.Terminated fault)) in
    let t' : Tale = tale_after t (Work (seen.Terminated fault)) in
    turned s s' t t' w.fronts.frame w.fronts.rest (Untagged w.head w.payload) w.fronts.whole w.fronts.carries w.fronts.started (kept_start s s' t t' refl refl) refl refl refl refl refl refl refl
    k.receiving k k.shown (same_counts s t t' k (Untagged w.head w.payload) w.fronts (append-nil t.placings)) (terminates s t (segment_at (fore s')) w k) (last_tells k.segments w.head w.payload w.queue k.tells)
tracking table s t (Work (seen.Fault fault)) (inl m) r f k = fault_heard s t fault m k
tracking table s t (Work (seen.Fault fault)) (inr j) r f k = fault_there s t fault (fault_open table s fault j) k
tracking table s t Break rule r f k =
    goes_out s (after_act s Break) t (tale_after t Break) refl refl refl refl refl (record { came = refl; first = refl; was_delivered = refl; strays = refl; start = refl; turns = refl; placed = refl; early = refl; receiving = refl; answered = refl; asked = refl }) (append-nil t.placings) k (over_joins refl (quiet s t k))
tracking table s t (Work (seen.Flushed kind)) rule r f k = same s (after_act s (Work (seen.Flushed kind))) t (tale_after t (Work (seen.Flushed kind))) refl refl refl refl refl refl (append-nil t.placings) k (quiet s t k)
tracking table s t (Work (seen.FlushedRecv octets)) rule r f k =
    let s' : StreamState = after_act s (Work (seen.FlushedRecv octets)) in
    let t' : Tale = tale_after t (Work (seen.FlushedRecv octets)) in
    same_track s s' t t' (kept_start s s' t t' refl refl) refl refl refl k.placed (ap flushed k.receiving) (λ h. refl) (λ f h. same_fore s s' refl refl f (k.fore_is f h)) k
    k.shown (same_early s s' t t' k.shown refl refl refl refl (append-nil t.placings) k.early.clear k.early) k.sent_ones
    (reshape refl refl (sym rule.over) refl refl refl
    (joins_over k.segments s.receiving (flushed s.receiving) (is_some s.front) (segment_at (fore s)) (t.received ++ []) k.shown (reshape refl refl rule.over refl refl refl (quiet s t k)))) k.tells
