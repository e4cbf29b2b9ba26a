-- Each wrong run breaks its law.
use Rattle.iw_ranges.specs.Nearest.{numbers_ahead, place_near, before_start}
use Rattle.std.proofs.Common.{◌≡◌, ℕ, zero, suc, ◌<◌, ◌≤◌, [], ◌∷◌, ◌++◌, length, map, subst, take, replicate, Some, None, Ok, Err, true, false, refl, sym, ap, ◌∙◌, arith, inl, inr, get_or}
use Rattle.std.specs.Option.{option_map_or}
use Rattle.std.proofs.lemmas.Bool.{false≢true, true≢false}
use Rattle.std.proofs.lemmas.Option.{none-some, same_Some, some_pair_parts}
use Rattle.iw_octets.specs.declared.message.Message.TheVariants as messages
use Rattle.iw_octets.specs.declared.segment.Segment.{Segment}
use Rattle.iw_octets.specs.Head.{untagged_octets}
use Rattle.iw_octets.specs.declared.segment.Segment.TheVariants.{Tagged, Untagged}
use Rattle.iw_octets.specs.Segment.{segment_octets, FitsSegment}
use Rattle.iw_memory.specs.Table.{empty}
use Rattle.iw_memory.specs.declared.refusal.DomainRefusal.TheVariants.{DomainTaken}
use Rattle.iw_ranges.specs.declared.Delivery.TheVariants.{Kept, Dropped}
use Rattle.iw_ranges.specs.Arrived.{taken_in, held}
use Rattle.iw_fpdu.specs.Places.{data_place, data_index, in_marker, place_after, span_start}
use Rattle.iw_fpdu.specs.Frame.{max_sent, frame_octets, frame_size, laid, octet_at, marker_value}
use Rattle.iw_fpdu.specs.Sequence.{Carried, intact, first_frame, sequence}
use Rattle.iw_fpdu.proofs.Written.{frame_is}
use Rattle.iw_fpdu.proofs.Sequences.{length_written, written_is_first}
use Rattle.iw_fpdu.proofs.Follows.{frames_follow}
use Rattle.iw_queues.specs.declared.request.Kind.TheVariants as kinds
use Rattle.iw_queues.specs.declared.request.Request.TheVariants.{Message as Posted, Read}
use Rattle.iw_queues.specs.Request.{kind_of}
use Rattle.iw_queues.specs.Segments.{send_segment}
use Rattle.iw_startup.specs.declared.progress.Progress.TheVariants as progress
use Rattle.iw_startup.specs.Peer.{progress_of, frame_end as startup_end, fixed_fault}
use Rattle.iw_startup.specs.State.{agreed_of, pushed}
use Rattle.std.specs.Prelude.{Result}
use Rattle.iw_startup.specs.declared.config.Agreed.{Agreed}
use Rattle.iw_stream.specs.declared.answer.AnswerRefusal.{AnswerRefusal}
use Rattle.iw_stream.specs.declared.answer.AnswerRefusal.TheVariants.{NotAsked}
use Rattle.iw_stream.specs.Starting.{AtOnce, plain, sending, own_frame}
use Rattle.iw_laws.proofs.Tracks.{shown_stays}
use Rattle.iw_events.specs.declared.call.End.TheVariants.{A}
use Rattle.iw_events.specs.declared.act.Act.TheVariants.{Domain}
use Rattle.iw_events.specs.declared.act.Seen.TheVariants as seen
use Rattle.iw_events.specs.declared.act.StreamAct.TheVariants.{Emit, Deliver, Accept}
use Rattle.iw_events.specs.declared.act.Shown.TheVariants.{Frame}
use Rattle.iw_laws.specs.Words.{Octets, acts, stream_acts, openings, ended, sent, size_set, posted, handed_kinds, table_after}
use Rattle.iw_laws.specs.Turns.{Story, story, story_of}
use Rattle.std.proofs.lemmas.List.{append-nil}
use Rattle.iw_events.specs.declared.act.Shown.TheVariants as shows
use Rattle.iw_laws.specs.Rest.{Over, AwaitsFrame, AwaitsAnswer, NoFrame}
use Rattle.iw_laws.specs.Turns.{is_last}
use Rattle.iw_laws.specs.Merged.{Post}
use Rattle.iw_laws.specs.Sends.{terminate_segment, IsAnswered, IsSentMessage, ready_of, count_reads}
use Rattle.iw_laws.proofs.Counts.{count_reads-append}
use Rattle.iw_laws.proofs.Ready.{ready_in}
use Rattle.iw_laws.specs.WrongRuns.{a, b, on, raw, works, places, registers, emits, send_frame, reads_past_fault, reads_unopened, rests_with_reply, never_finished, finished_unsent, finished_as_write, sends_too_large, cut_frame, cuts_short, sends_elsewhere, sends_past_end, delivers_others, keeps_past_end, accepts_unasked, answers_stag_again, fetches_last, fetches_invalid, request_frame, read_one, reads_unanswered}
use Rattle.iw_laws.specs.WrongRuns.{RefusesFramesBehindFault, RefusesFramesUnopened, RefusesRestWithReply, RefusesNeverFinished, RefusesFinishedUnsent, RefusesFinishedAsWrite, RefusesTooLarge, RefusesCutShort, RefusesElsewhere, RefusesBehindEnd, RefusesOtherOctets, RefusesKeptBehindEnd, RefusesUnaskedAccept, RefusesWrongRefusal, RefusesSameStag, RefusesFetchInvalid, RefusesReadUnanswered}
use Rattle.iw_laws.proofs.Messages.{nothing_sent}
use Rattle.iw_laws.proofs.Counts.{last_in, tagged_told}
use Rattle.iw_laws.proofs.Sending.{version_of}
use Rattle.iw_laws.specs.WrongRuns.{delivers_nothing, delivers_unopened, sends_empty, places_readable, buffers_one, buffers_past}
use Rattle.iw_laws.specs.WrongRuns.{RefusesActUnopened, RefusesDeliveryUnopened, RefusesEmptyFrame, RefusesPlacedUnwritable, RefusesBufferedPast}

pub refuses_act_unopened : RefusesActUnopened
unfolding acts openings
refuses_act_unopened h = false≢true (h [] (a (works seen.Idle)) [] refl).0

pub refuses_delivery_unopened : RefusesDeliveryUnopened
unfolding acts openings
refuses_delivery_unopened h = false≢true (h (take 2 delivers_unopened) (a delivers_nothing) [] refl).1

pub refuses_frames_past_fault : RefusesFramesBehindFault
unfolding acts stream_acts ended
refuses_frames_past_fault h = true≢false (h (take 5 reads_past_fault) (b (works places)) [] refl).0.running

pub refuses_frames_unopened : RefusesFramesUnopened
unfolding acts stream_acts openings story agreed_of pushed numbers_ahead place_near before_start
refuses_frames_unopened h = false≢true (h (take 5 reads_unopened) (b (works places)) [] refl).0.open_now

pub refuses_rest_with_reply : RefusesRestWithReply
unfolding acts stream_acts openings ended story agreed_of progress_of startup_end fixed_fault taken_in held numbers_ahead place_near before_start
refuses_rest_with_reply h = elim (h (take 3 rests_with_reply) (a (works seen.Idle)) [] refl).reason [
  | Over e ↦ false≢true e
  | AwaitsFrame f ↦ let none : progress.Agreed ≡ progress.More = f.comes in cc
  | AwaitsAnswer o e ↦ true≢false e
  | NoFrame e o i ↦ false≢true e
]

-- the frame of the Send of one octet
pub send_one : Segment Octets
send_one = send_segment 1 false None 0 true (0x68 ∷ [])

send_header : Octets
send_header = (0x41 ∷ 0x43 ∷ []) ++ replicate 11 0 ++ (1 ∷ 0 ∷ 0 ∷ 0 ∷ 0 ∷ 0x68 ∷ [])

send_octets : segment_octets send_one ≡ send_header
unfolding send_one send_header segment_octets untagged_octets
send_octets = refl

pub send_size : length (segment_octets send_one) ≡ 19
unfolding send_header
send_size = ap length send_octets

pub framed : sequence plain 0 (segment_octets send_one ∷ []) ≡ send_frame
unfolding send_header sequence data_place data_index in_marker place_after marker_value span_start octet_at laid
framed =
    ap (λ u. frame_octets plain 0 u ++ []) send_octets
    ∙ ap (λ z. z ++ []) (frame_is plain 0 send_header refl)

-- it was sent whole
pub sent_whole : (t : Story) → t.start ≡ AtOnce plain → IsSentMessage t send_frame (Posted (messages.Send (0x68 ∷ []) false None) ∷ []) 0 kinds.Send
unfolding send_one
sent_whole t start = record {
  message = Posted (messages.Send (0x68 ∷ []) false None);
  is = refl;
  kind_is = refl;
  sent = record {
    items = Post (Posted (messages.Send (0x68 ∷ []) false None)) ∷ [];
    posts = ap (λ z. ready_in z ++ Posted (messages.Send (0x68 ∷ []) false None) ∷ []) (sym start);
    first = send_frame;
    frames = record { segments = send_one ∷ []; carry = (send_one ∷ [], [], refl, (omega arith, refl), refl); framed = subst (λ z. send_frame ≡ own_frame z ++ sequence (sending z) 0 (map segment_octets (send_one ∷ []))) (sym start) (sym framed) };
    begins = ([], refl);
  };
  answered = tt;
}

sent_one : IsSentMessage (story_of 0 (acts A (take 4 never_finished))) (sent (stream_acts 0 (acts A (take 4 never_finished)))) (posted (stream_acts 0 (acts A (take 4 never_finished)))) (length (handed_kinds (stream_acts 0 (acts A (take 4 never_finished))))) kinds.Send
unfolding acts stream_acts openings story posted handed_kinds sent numbers_ahead place_near before_start
sent_one = sent_whole (story_of 0 (acts A (take 4 never_finished))) (shown_stays (story_of 0 (acts A (take 3 never_finished))) (Frame 0 send_frame)).start

pub refuses_never_finished : RefusesNeverFinished
refuses_never_finished h = (h (take 4 never_finished) (a (works seen.Idle)) [] refl).unfinished kinds.Send sent_one

pub refuses_finished_unsent : RefusesFinishedUnsent
unfolding acts stream_acts posted handed_kinds sent
refuses_finished_unsent h = nothing_sent _ _ _ _ (h (take 3 finished_unsent) (a (works (seen.Done kinds.Send))) [] refl)

pub refuses_finished_as_write : RefusesFinishedAsWrite
unfolding acts stream_acts posted handed_kinds
refuses_finished_as_write h =
    let r = h (take 4 finished_as_write) (a (works (seen.Done kinds.Write))) [] refl in
    let same : kinds.Write ≡ kinds.Send = r.kind_is ∙ ap (λ o. option_map_or kind_of o kinds.Write) (sym r.is) in
    cc

-- without markers a frame has no octets but its own
plain_after : (n : ℕ) → place_after false 0 n ≤ n
unfolding place_after data_place data_index
plain_after zero = omega arith
plain_after (suc n) = omega arith

low_after : (n : ℕ) → n ≤ place_after false 0 n
unfolding place_after data_place data_index
low_after zero = omega arith
low_after (suc n) = omega arith

large_octets : Octets
large_octets = (0 ∷ 222 ∷ 0x41 ∷ 0x43 ∷ []) ++ replicate 11 0 ++ (1 ∷ 0 ∷ 0 ∷ 0 ∷ 0 ∷ []) ++ replicate 204 0x22 ++ replicate 4 0

large_size : length large_octets ≡ 228
unfolding large_octets
large_size = refl

not_large : (u : Octets) → large_octets ≡ frame_octets plain 0 u → length u ≤ 128 → ⊥
not_large u e few = omega (arith, few, large_size, ap length e, length_written plain 0 u, plain_after (frame_size (length u)))

pub refuses_too_large : RefusesTooLarge
unfolding acts stream_acts openings story sent size_set large_octets numbers_ahead place_near before_start
refuses_too_large h = elim (h (take 4 sends_too_large) (a (emits large_octets)) [] refl).1 [
  | inl s ↦ absurd (omega (arith, large_size, ap length s.1))
  | inr f ↦ not_large (segment_octets f.segment) f.is f.fits
]

-- a frame has octets
not_empty : (u : Octets) → [] ≡ frame_octets plain 0 u → ⊥
not_empty u e = omega (arith, ap length e, length_written plain 0 u, low_after (frame_size (length u)))

pub refuses_empty_frame : RefusesEmptyFrame
unfolding acts stream_acts openings story sent size_set numbers_ahead place_near before_start
refuses_empty_frame h = elim (h (take 3 sends_empty) (a (emits [])) [] refl).1 [
  | inl s ↦ s.2 refl
  | inr f ↦ not_empty (segment_octets f.segment) f.is
]

cut_ulpdu : Octets
cut_ulpdu = (0x81 ∷ 0x40 ∷ 1 ∷ 0 ∷ 0 ∷ 0 ∷ []) ++ replicate 8 0 ++ (0xaa ∷ [])

cut_framed : cut_frame ≡ frame_octets plain 0 cut_ulpdu
unfolding cut_ulpdu data_place data_index in_marker place_after marker_value span_start octet_at laid
cut_framed = sym (frame_is plain 0 cut_ulpdu refl)

cut_size : (length cut_ulpdu ≡ 15) × (last_in cut_ulpdu ≡ false)
unfolding cut_ulpdu
cut_size = (refl, refl)

versioned : (segment : Segment Octets) → FitsSegment segment → version_of segment < 4
versioned (Tagged head payload) h = h.ddp_version
versioned (Untagged head payload) h = h.ddp_version

-- a frame is of one ULPDU
same_ulpdu : (u v : Octets) → length u ≤ max_sent → length v ≤ max_sent → frame_octets plain 0 u ≡ frame_octets plain 0 v → u ≡ v
same_ulpdu u v hu hv e =
    let firsts : Some (intact u, []) ≡ Some (intact v, []) =
    sym (written_is_first plain 0 u [] (frames_follow.first false) hu) ∙ ap (λ z. first_frame plain 0 (z ++ [])) e ∙ written_is_first plain 0 v [] (frames_follow.first false) hv in
    ap (λ (c : Carried). c.ulpdu) (some_pair_parts _ _ _ _ firsts).0

not_cut : (segment : Segment Octets) → FitsSegment segment → cut_frame ≡ frame_octets plain 0 (segment_octets segment) → length (segment_octets segment) ≤ 1400
    → (is_last segment ≡ false → length (segment_octets segment) ≡ 1400) → ⊥
not_cut segment known e few full =
    let same : cut_ulpdu ≡ segment_octets segment = same_ulpdu cut_ulpdu (segment_octets segment) (omega (arith, cut_size.0)) (omega (arith, few)) (sym cut_framed ∙ e) in
    let more : is_last segment ≡ false = sym (tagged_told segment (versioned segment known) (omega (arith, few))).last ∙ ap last_in (sym same) ∙ cut_size.1 in
    omega (arith, full more, ap length same, cut_size.0)

pub refuses_cut_short : RefusesCutShort
unfolding acts stream_acts openings story sent size_set numbers_ahead place_near before_start
refuses_cut_short h = elim (h (take 3 cuts_short) (a (emits cut_frame)) [] refl).1 [
  | inl s ↦ absurd (omega (arith, ap length s.1))
  | inr f ↦ not_cut f.segment f.known f.is f.fits f.full
]

pub refuses_elsewhere : RefusesElsewhere
unfolding acts stream_acts sent
refuses_elsewhere h = let r = (h (take 3 sends_elsewhere) (a (on (Emit (Frame 7 send_frame)))) [] refl).0 in omega (arith, r)

-- the frame of a Send is no Terminate's
not_terminate : (payload : Octets) → send_frame ≡ frame_octets plain 0 (segment_octets (terminate_segment payload)) → ⊥
unfolding send_one send_header segment_octets untagged_octets sequence
not_terminate payload e =
    let u : Octets = segment_octets (terminate_segment payload) in
    let few : length u ≤ 28 = omega (arith, ap length e, length_written plain 0 u, low_after (frame_size (length u))) in
    let mine : frame_octets plain 0 send_header ≡ send_frame = sym (append-nil (frame_octets plain 0 send_header)) ∙ ap (λ z. frame_octets plain 0 z ++ []) (sym send_octets) ∙ framed in
    let same : send_header ≡ u = same_ulpdu send_header u (omega arith) (omega (arith, few)) (mine ∙ e) in
    let other : 0x43 ≡ 0x47 = ap (λ (xs : Octets). get_or xs 1 0) same in
    omega (arith, other)

pub refuses_past_end : RefusesBehindEnd
unfolding acts stream_acts openings story sent ended numbers_ahead place_near before_start
refuses_past_end h = elim (h (take 5 sends_past_end) (a (emits send_frame)) [] refl) [
  | inl s ↦ absurd (omega (arith, ap length s.1))
  | inr (inl w) ↦ not_terminate w.payload w.is
  | inr (inr m) ↦ true≢false m.running
]

pub refuses_other_octets : RefusesOtherOctets
unfolding acts stream_acts sent
refuses_other_octets h =
    let r = h (take 6 delivers_others) (b (on (Deliver 0 0 (9 ∷ []) Kept))) [] refl in
    let other : 9 ≡ 0 = ap (λ (xs : Octets). get_or xs 0 0) r.stand.are in
    omega (arith, other)

pub refuses_kept_past_end : RefusesKeptBehindEnd
unfolding acts stream_acts ended
refuses_kept_past_end h = let r = h (take 4 keeps_past_end) (b (raw 8 (0 ∷ []))) [] refl in let other : Kept ≡ Dropped = r in cc

pub refuses_unasked_accept : RefusesUnaskedAccept
unfolding acts stream_acts openings story ended progress_of startup_end numbers_ahead place_near before_start
refuses_unasked_accept h =
    let agreed : Agreed = record { send_markers = false; expect_markers = false; crc = false; ord = 16; rtr = None } in
    let wrong : ◌≡◌ {A = Result Agreed AnswerRefusal} (Ok agreed) (Err NotAsked) = h (take 2 accepts_unasked) (b (on (Accept [] (Ok agreed)))) [] refl in
    cc

pub refuses_wrong_refusal : RefusesWrongRefusal
unfolding acts table_after empty
refuses_wrong_refusal h = none-some _ (sym (h [] (b (Domain 1 (Some DomainTaken))) [] refl))

pub refuses_same_stag : RefusesSameStag
unfolding acts table_after empty
refuses_same_stag h = none-some _ (sym (h (take 2 answers_stag_again) (b registers) [] refl).1.fresh)

pub refuses_fetch_invalid : RefusesFetchInvalid
unfolding acts stream_acts openings table_after empty
refuses_fetch_invalid h = elim (h (take 8 fetches_invalid) (b fetches_last) [] refl).allowed [
  | inl none ↦ absurd (omega (arith, none))
  | inr there ↦ absurd (false≢true there.1.valid)
]

pub refuses_read_unanswered : RefusesReadUnanswered
unfolding acts stream_acts openings story posted handed_kinds numbers_ahead place_near before_start
refuses_read_unanswered h =
    let t : Story = story_of 0 (acts A (take 4 reads_unanswered)) in
    let r = h (take 4 reads_unanswered) (a (works (seen.Done kinds.Read))) [] refl in
    let answered : count_reads (ready_of t ++ Read read_one ∷ []) ≤ t.answered = subst (IsAnswered t (Read read_one ∷ [])) (sym (same_Some _ _ r.is)) r.answered in
    omega (arith, answered, count_reads-append (ready_of t) (Read read_one ∷ []), (shown_stays (story_of 0 (acts A (take 3 reads_unanswered))) (shows.Frame 0 request_frame)).answered)

pub refuses_placed_unwritable : RefusesPlacedUnwritable
unfolding acts stream_acts openings table_after empty
refuses_placed_unwritable h = elim (h (take 4 places_readable) (b (works places)) [] refl).0 [
  | inl none ↦ absurd (omega (arith, none))
  | inr there ↦ absurd (false≢true there.1.granted)
]

pub refuses_buffered_past : RefusesBufferedPast
unfolding acts stream_acts openings story numbers_ahead place_near before_start
refuses_buffered_past h =
    let r = (h (take 4 buffers_past) (b buffers_one) [] refl).1 in
    let none : [] ≡ r.buffer = same_Some _ _ r.is in
    omega (arith, ap length none, r.lie)
