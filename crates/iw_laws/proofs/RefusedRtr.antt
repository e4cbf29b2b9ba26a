-- Each wrong run with an RTR breaks its law.
use Rattle.std.proofs.Common.{◌≡◌, ℕ, suc, ◌+◌, ◌-◌, ◌≤◌, List, [], ◌∷◌, ◌++◌, length, map, take, Option, Some, None, Bool, true, false, cond, refl, sym, ap, ◌∙◌, subst, arith, length-append, inl, inr}
use Rattle.std.specs.Option.{option_map_or}
use Rattle.std.proofs.lemmas.Bool.{false≢true, true≢false}
use Rattle.std.proofs.lemmas.List.{append-nil, append_cancel_left}
use Rattle.std.proofs.lemmas.Option.{none-some, same_Some, some_pair_parts}
use Rattle.iw_octets.specs.declared.head.TaggedHead.{TaggedHead}
use Rattle.iw_octets.specs.declared.message.Message.TheVariants as messages
use Rattle.iw_octets.specs.declared.segment.Segment.{Segment}
use Rattle.iw_octets.specs.declared.segment.Segment.TheVariants.{Tagged, Untagged}
use Rattle.iw_octets.specs.Segment.{segment_octets}
use Rattle.iw_octets.specs.Head.{tagged_octets}
use Rattle.iw_ranges.specs.Arrived.{taken_in, held}
use Rattle.iw_ranges.specs.Nearest.{numbers_ahead, place_near, before_start}
use Rattle.iw_fpdu.specs.Frame.{frame_octets, frame_end}
use Rattle.iw_fpdu.specs.Sequence.{Carried, intact, sequence, first_frame}
use Rattle.iw_fpdu.proofs.Follows.{frames_follow}
use Rattle.iw_fpdu.proofs.Sequences.{written_is_first}
use Rattle.iw_queues.specs.declared.request.Kind.TheVariants as kinds
use Rattle.iw_queues.specs.declared.request.Request.{Request}
use Rattle.iw_queues.specs.declared.request.Request.TheVariants.{Message as Posted, Read}
use Rattle.iw_queues.specs.Segments.{first_numbers, request_segment, AreSegments}
use Rattle.iw_reads.specs.declared.reads.Outstanding.{Outstanding}
use Rattle.iw_reads.specs.Outstanding.{reads_turned}
use Rattle.iw_startup.specs.declared.enhanced.Rtr.TheVariants as rtrs
use Rattle.iw_startup.specs.Frame.{start_frame, request_key}
use Rattle.iw_startup.specs.Peer.{progress_of, frame_end as startup_end, frame_part, fixed_fault}
use Rattle.iw_startup.specs.State.{agreed_of, pushed}
use Rattle.iw_stream.specs.Ending.{last_word}
use Rattle.iw_stream.specs.Frames.{Frame, placed, payload_len, head_in}
use Rattle.iw_stream.specs.Judging.{is_response, left_by_turn, reads_left}
use Rattle.iw_stream.specs.Rtr.{rtr_message, rtr_segment}
use Rattle.iw_stream.specs.Starting.{plain, is_open, sending, own_frame, rtr_in}
use Rattle.iw_events.specs.declared.call.End.TheVariants.{A}
use Rattle.iw_events.specs.declared.act.Shown.TheVariants as shows
use Rattle.iw_events.specs.declared.act.Seen.TheVariants as seen
use Rattle.iw_laws.specs.Words.{Octets, acts, stream_acts, openings, ended, sent, posted, handed_kinds}
use Rattle.iw_laws.specs.Turns.{Answer, Story, story, story_of, is_silent, next_frame, next_reads}
use Rattle.iw_laws.specs.Merged.{Item, Post, Response, posts_in, answers_in, AreMerged}
use Rattle.iw_laws.specs.Sends.{AreFirstFrames, AreAllFrames, IsAnswered, asked_of, count_reads, farewells, ready_of, Over, Closed, Silent, AllSent, ReadWaits}
use Rattle.iw_laws.specs.WrongRuns.{a, works, read_one, send_frame, emits_nothing}
use Rattle.iw_laws.specs.EnhancedRuns.{frame_of_peer, owes_write, owes_read, overtakes_rtr, responds_first, responds_before_rtr, withholds_rtr, done_by_rtr}
use Rattle.iw_laws.specs.EnhancedRuns.{RefusesRtrOvertaken, RefusesResponseBeforeRtr, RefusesRtrWithheld, RefusesDoneByRtr}
use Rattle.iw_laws.proofs.Counts.{count_last, merged_last, merged_told, front_last}
use Rattle.iw_laws.proofs.Messages.{no_frames}
use Rattle.iw_laws.proofs.Ready.{ready_in}
use Rattle.iw_laws.proofs.Sending.{rtr_small}
use Rattle.iw_laws.proofs.Tracks.{shown_stays}
use Rattle.iw_laws.proofs.Refused.{send_one, send_size, framed}
use Rattle.iw_laws.proofs.RefusedSent.{no_farewell}

-- ---- where the RTR, a Write, is due

due : Story
due = story_of 0 (acts A owes_write)

rtr_write : rtr_in due.start ≡ Some rtrs.Write
unfolding due acts stream_acts openings story agreed_of pushed progress_of startup_end frame_part fixed_fault start_frame taken_in held numbers_ahead place_near before_start
rtr_write = refl

ready_write : ready_in due.start ≡ rtr_message rtrs.Write ∷ []
unfolding due acts stream_acts openings story agreed_of pushed progress_of startup_end frame_part fixed_fault start_frame taken_in held numbers_ahead place_near before_start
ready_write = refl

opened : is_open due.start ≡ true
unfolding due acts stream_acts openings story agreed_of pushed progress_of startup_end frame_part fixed_fault start_frame taken_in held numbers_ahead place_near before_start
opened = refl

sends_plain : sending due.start ≡ plain
unfolding due acts stream_acts openings story agreed_of pushed progress_of startup_end frame_part fixed_fault start_frame taken_in held numbers_ahead place_near before_start
sends_plain = refl

none_asked : asked_of due ≡ []
unfolding due acts stream_acts openings story agreed_of pushed progress_of startup_end frame_part fixed_fault start_frame taken_in held numbers_ahead place_near before_start
none_asked = refl

speaks : is_silent due ≡ false
unfolding due acts stream_acts openings story agreed_of pushed progress_of startup_end frame_part fixed_fault start_frame taken_in held numbers_ahead place_near before_start
speaks = refl

quiet : last_word due.ending ≡ None
unfolding due acts stream_acts openings story agreed_of pushed progress_of startup_end frame_part fixed_fault start_frame taken_in held numbers_ahead place_near before_start
quiet = refl

no_word : due.farewell ≡ None
unfolding due acts stream_acts openings story agreed_of pushed progress_of startup_end frame_part fixed_fault start_frame taken_in held numbers_ahead place_near before_start
no_word = refl

request : Octets
request = frame_of_peer request_key 0xc0

asks : own_frame due.start ≡ request
unfolding due request acts stream_acts openings story pushed startup_end frame_part fixed_fault start_frame taken_in held numbers_ahead place_near before_start
asks = refl

-- ---- a Send before it

-- an RTR that is a Write has one segment
one_segment : (ss : List (Segment Octets)) → AreSegments first_numbers (rtr_message rtrs.Write) 0 ss → ss ≡ rtr_segment first_numbers rtrs.Write ∷ []
one_segment [] cut = absurd cut
one_segment (s ∷ []) cut = ap (λ z. z ∷ []) cut.1
one_segment (s ∷ t ∷ ss) cut = absurd (let none : 0 ≡ length (cut.0 ++ cut.1) = ap length cut.2.cut in omega (arith, none, cut.2.filled, length-append cut.0 cut.1))

-- which goes before all others
begins_with : (items : List Item) (ms : List (Request Octets)) (ss : List (Segment Octets)) → posts_in items ≡ rtr_message rtrs.Write ∷ ms → map (λ (a : Answer). a.request) (answers_in items) ≡ [] → AreMerged first_numbers 0 items ss
    → (later : List (Segment Octets)) × (ss ≡ rtr_segment first_numbers rtrs.Write ∷ later)
begins_with [] ms ss posts answers carry = absurd (omega (arith, ap length posts))
begins_with (Response answer ∷ items) ms ss posts answers carry = absurd (omega (arith, ap length answers))
begins_with (Post m ∷ items) ms ss posts answers (mine, later, is, one, rest) =
    (later, is ∙ ap (λ z. z ++ later) (one_segment mine (subst (λ z. AreSegments first_numbers z 0 mine) (first m (posts_in items) posts) one)))
  where
    head_or : Request Octets → List (Request Octets) → Request Octets
    head_or d [] = d
    head_or d (x ∷ xs) = x

    first : (m : Request Octets) (xs : List (Request Octets)) → m ∷ xs ≡ rtr_message rtrs.Write ∷ ms → m ≡ rtr_message rtrs.Write
    first m xs e = ap (head_or m) e

write_size : length (segment_octets (rtr_segment first_numbers rtrs.Write)) ≡ 14
unfolding segment_octets tagged_octets
write_size = refl

-- frames whose first is its are none that begin with the Send's
never_send : (us vs later : List (Segment Octets)) → us ++ vs ≡ rtr_segment first_numbers rtrs.Write ∷ later → sequence plain 0 (map segment_octets us) ≡ send_frame → ⊥
unfolding sequence
never_send [] vs later is e = omega (arith, ap length e)
never_send (u ∷ us) vs later is e =
    let same : u ≡ rtr_segment first_numbers rtrs.Write = head_is u (us ++ vs) is in
    let rest : Octets = sequence plain (frame_end false 0 (length (segment_octets u))) (map segment_octets us) in
    let small : length (segment_octets u) ≤ 46 = subst (λ z. length (segment_octets z) ≤ 46) (sym same) (rtr_small first_numbers rtrs.Write) in
    let size : length (segment_octets send_one) ≡ 19 = send_size in
    let firsts : Some (intact (segment_octets u), rest) ≡ Some (intact (segment_octets send_one), []) =
    sym (written_is_first plain 0 (segment_octets u) rest (frames_follow.first false) (omega (arith, small))) ∙ ap (first_frame plain 0) (e ∙ sym framed)
    ∙ written_is_first plain 0 (segment_octets send_one) [] (frames_follow.first false) (omega (arith, size)) in
    let octets : segment_octets u ≡ segment_octets send_one = ap (λ (c : Carried). c.ulpdu) (some_pair_parts _ _ _ _ firsts).0 in
    let long : length (segment_octets u) ≡ 14 = ap (λ z. length (segment_octets z)) same ∙ write_size in
    omega (arith, ap length octets, size, long)
  where
    head_or : Segment Octets → List (Segment Octets) → Segment Octets
    head_or d [] = d
    head_or d (x ∷ xs) = x

    head_is : (u : Segment Octets) (xs : List (Segment Octets)) → u ∷ xs ≡ rtr_segment first_numbers rtrs.Write ∷ later → u ≡ rtr_segment first_numbers rtrs.Write
    head_is u xs e = ap (head_or u) e

pub refuses_rtr_overtaken : RefusesRtrOvertaken
unfolding due request acts stream_acts openings story sent posted numbers_ahead place_near before_start
refuses_rtr_overtaken h =
    let t : Story = story_of 0 (acts A overtakes_rtr) in
    let kept = shown_stays due (shows.Frame 24 send_frame) in
    let e : AreFirstFrames t (request ++ send_frame) (Posted (messages.Send (0x68 ∷ []) false None) ∷ []) = h overtakes_rtr [] (sym (append-nil overtakes_rtr)) A 0 in
    let posts : posts_in e.items ≡ rtr_message rtrs.Write ∷ Posted (messages.Send (0x68 ∷ []) false None) ∷ [] =
    e.posts ∙ ap (λ z. z ++ Posted (messages.Send (0x68 ∷ []) false None) ∷ []) (ap ready_in kept.start ∙ ready_write) in
    let begins = begins_with e.items (Posted (messages.Send (0x68 ∷ []) false None) ∷ []) (e.begun ++ e.later) posts (e.answers ∙ kept.asked ∙ none_asked) e.carry in
    let parted : t.farewell ≡ None = no_farewell due 24 send_frame quiet ∙ no_word in
    elim e.framed [
      | inl nothing ↦ omega (arith, ap length nothing.0, length-append request send_frame)
      | inr whole ↦
          let frames : request ++ send_frame ≡ request ++ sequence plain 0 (map segment_octets e.begun) =
          whole ∙ (λ i. own_frame (kept.start i) ++ sequence (sending (kept.start i)) 0 (map segment_octets (e.begun ++ farewells (parted i))))
          ∙ (λ i. asks i ++ sequence (sends_plain i) 0 (map segment_octets (append-nil e.begun i))) in
          never_send e.begun e.later begins.0 begins.1 (sym (append_cancel_left request send_frame (sequence plain 0 (map segment_octets e.begun)) frames))
    ]

-- ---- a response before it

pub refuses_response_before_rtr : RefusesResponseBeforeRtr
unfolding acts stream_acts openings ended story sent agreed_of pushed progress_of startup_end frame_part fixed_fault start_frame taken_in held numbers_ahead place_near before_start
refuses_response_before_rtr h = true≢false (h (take 5 responds_before_rtr) (a responds_first) [] refl).1

-- ---- nothing

-- not all frames of the RTR are none
some_frames : (t : Story) → t.start ≡ due.start → AreAllFrames t request [] → ⊥
some_frames t start e =
    let posts : posts_in e.items ≡ rtr_message rtrs.Write ∷ [] = e.posts ∙ ap (λ z. z ++ []) (ap ready_in start ∙ ready_write) in
    let frames : request ++ [] ≡ request ++ sequence plain 0 (map segment_octets e.frames.segments) =
    append-nil request ∙ e.frames.framed ∙ (λ i. own_frame (start i) ++ sequence (sending (start i)) 0 (map segment_octets e.frames.segments))
    ∙ (λ i. asks i ++ sequence (sends_plain i) 0 (map segment_octets e.frames.segments)) in
    let none : sequence plain 0 (map segment_octets e.frames.segments) ≡ [] = sym (append_cancel_left request [] (sequence plain 0 (map segment_octets e.frames.segments)) frames) in
    let few : count_last e.frames.segments ≤ 0 =
    front_last plain 0 e.frames.segments [] [] (frames_follow.first false) (merged_told first_numbers e.items e.frames.segments e.frames.carry) tt (append-nil (sequence plain 0 (map segment_octets e.frames.segments)) ∙ none ∙ sym (no_frames plain)) in
    omega (arith, few, merged_last first_numbers e.items e.frames.segments e.frames.carry, ap length posts)

pub refuses_rtr_withheld : RefusesRtrWithheld
unfolding due request acts stream_acts openings ended story sent posted numbers_ahead place_near before_start
refuses_rtr_withheld h =
    elim (h (take 5 withholds_rtr) (a emits_nothing) [] refl).2 [
      | Over over ↦ false≢true over
      | Closed closed ↦ true≢false (sym opened ∙ closed)
      | Silent silent ↦ false≢true (sym speaks ∙ silent)
      | AllSent all ↦ some_frames due refl all
      | ReadWaits k request is full frames ↦ none-some _ is
    ]

-- ---- a Read that is done when the RTR was answered

asks_read : Story
asks_read = story_of 0 (acts A owes_read)

ready_read : ready_in asks_read.start ≡ rtr_message rtrs.Read ∷ []
unfolding asks_read acts stream_acts openings story agreed_of pushed progress_of startup_end frame_part fixed_fault start_frame taken_in held numbers_ahead place_near before_start
ready_read = refl

none_answered : asks_read.answered ≡ 0
unfolding asks_read acts stream_acts openings story agreed_of pushed progress_of startup_end frame_part fixed_fault start_frame taken_in held numbers_ahead place_near before_start
none_answered = refl

-- a turn answers one Read at most
one_left : (t : Story) → length t.reads - length (next_reads t) ≤ 1
one_left t = go (next_frame t)
  where
    turned : (reads : List Outstanding) (head : TaggedHead) (n : ℕ) → length reads - length (reads_turned reads head n) ≤ 1
    turned [] head n = omega arith
    turned (read ∷ reads) head n = last head.last
      where
        last : (b : Bool) → suc (length reads) - length (cond b reads (record read { turned = read.turned + n } ∷ reads)) ≤ 1
        last true = omega arith
        last false = omega arith

    by : (reads : List Outstanding) (n : ℕ) (o : Option (Segment Octets)) → length reads - length (left_by_turn reads n o) ≤ 1
    by reads n None = omega arith
    by reads n (Some (Untagged head payload)) = omega arith
    by reads n (Some (Tagged head payload)) = response (is_response head)
      where
        response : (b : Bool) → length reads - length (cond b (reads_turned reads head n) reads) ≤ 1
        response true = turned reads head n
        response false = omega arith

    go : (o : Option Frame) → length t.reads - length (option_map_or (λ f. reads_left t.reads (placed f)) o t.reads) ≤ 1
    go None = omega arith
    go (Some f) = by t.reads (payload_len (placed f)) (head_in (placed f))

pub refuses_done_by_rtr : RefusesDoneByRtr
unfolding asks_read acts stream_acts openings story posted handed_kinds numbers_ahead place_near before_start
refuses_done_by_rtr h =
    let r = h (take 10 done_by_rtr) (a (works (seen.Done kinds.Read))) [] refl in
    let t : Story = story_of 0 (acts A (take 10 done_by_rtr)) in
    let turns : Story = story_of 0 (acts A (take 9 done_by_rtr)) in
    let posts : Story = story_of 0 (acts A (take 7 done_by_rtr)) in
    let first = shown_stays asks_read (shows.Frame 24 (frame_octets plain 0 (segment_octets (rtr_segment first_numbers rtrs.Read)))) in
    let second = shown_stays posts (shows.Frame 76 (frame_octets plain 52 (segment_octets (request_segment 2 read_one)))) in
    let ready : ready_of t ≡ rtr_message rtrs.Read ∷ [] = ap ready_in (second.start ∙ first.start) ∙ ready_read in
    let answered : count_reads (ready_of t ++ Read read_one ∷ []) ≤ t.answered = subst (IsAnswered t (Read read_one ∷ [])) (sym (same_Some _ _ r.is)) r.answered in
    omega (arith, answered, ap (λ z. count_reads (z ++ Read read_one ∷ [])) ready, second.answered, first.answered, none_answered, one_left turns)
