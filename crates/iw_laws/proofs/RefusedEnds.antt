-- Each wrong run of a stream that ends breaks its law.
use Rattle.iw_ranges.specs.Nearest.{numbers_ahead, place_near, before_start}
use Rattle.std.proofs.Common.{◌≡◌, ℕ, List, [], ◌∷◌, length, take, None, Some, Option, Bool, true, false, cond, refl, sym, ap, ◌∙◌, arith, inl, inr, get_or, Result, Ok, Err}
use Rattle.std.proofs.lemmas.Option.{none-some}
use Rattle.iw_octets.specs.declared.fault.Fault.{Fault}
use Rattle.iw_octets.specs.declared.stag.Stag.{Stag}
use Rattle.iw_memory.specs.declared.rights.Right.{Right}
use Rattle.iw_memory.specs.declared.rights.Right.TheVariants as rights
use Rattle.iw_memory.specs.Table.{empty, denial_for}
use Rattle.iw_queues.specs.declared.request.Kind.TheVariants as kinds
use Rattle.iw_tagged.specs.declared.placing.Placed.{Placed}
use Rattle.iw_stream.specs.declared.landing.Landing.{Landing}
use Rattle.iw_stream.specs.declared.landing.Landing.TheVariants as landing
use Rattle.iw_stream.specs.Frames.{Frame, segment_in, payload_of}
use Rattle.iw_fpdu.specs.Frame.{frame_end}
use Rattle.iw_locate.specs.Lowest.{overlaps_placed}
use Rattle.iw_stream.specs.Starting.{expecting, first_place_in}
use Rattle.iw_stream.specs.Work.{clash_fault}
use Rattle.iw_stream.specs.Judging.{Standing, verdict, early_verdict}
use Rattle.iw_events.specs.declared.call.End.{End}
use Rattle.iw_events.specs.declared.call.End.TheVariants.{A, B}
use Rattle.iw_events.specs.declared.act.Seen.TheVariants as seen
use Rattle.iw_events.specs.declared.act.Shown.TheVariants as shows
use Rattle.iw_laws.specs.Words.{Octets, Sent, acts, stream_acts, openings, ended, sent, posted, handed_kinds, received, table_after}
use Rattle.iw_laws.specs.Turns.{Story, story, story_of, standing, seen_judged, seen_tried}
use Rattle.iw_laws.specs.WrongRuns.{a, b, works, places, stag, send_frame, terminates_again, skips_faulted, terminates_twice, forgets_posted, gives_up_sent, returns_buffer_first, places_invalidated}
use Rattle.iw_laws.specs.WrongRuns.{RefusesSkippedSend, RefusesSecondTerminate, RefusesForgottenMessage, RefusesFinishedFlushed, RefusesBufferFirst, RefusesPlacedInvalidated}
use Rattle.iw_laws.proofs.Seeing.{LandsTagged, LandsAs, lands_as, early_lands}
use Rattle.iw_laws.proofs.Refused.{sent_whole}
use Rattle.iw_laws.proofs.RefusedReads.{opened_at_once, honest}
use Rattle.iw_laws.proofs.Tracks.{shown_stays}

pub refuses_skipped_send : RefusesSkippedSend
unfolding acts stream_acts openings story posted received opened_at_once numbers_ahead place_near before_start
refuses_skipped_send h =
    let r = h skips_faulted [] refl A 0 (honest skips_faulted opened calm) in
    let other : 0x69 ≡ 0x68 = ap (λ (xs : List Sent). get_or (first_octets xs) 0 0) r.1 in
    omega (arith, other)
  where
    first_octets : List Sent → Octets
    first_octets [] = []
    first_octets (x ∷ xs) = x.octets

    opened : (x : End) → openings 0 (acts x skips_faulted) ≡ opened_at_once ∷ []
    opened A = refl
    opened B = refl

    calm : (x : End) → (story_of 0 (acts x skips_faulted)).strays ≡ false
    calm A = refl
    calm B = refl

pub refuses_second_terminate : RefusesSecondTerminate
unfolding acts stream_acts openings story sent ended numbers_ahead place_near before_start
refuses_second_terminate h = elim ((h (take 5 terminates_twice) (b terminates_again) [] refl).1 refl) [
  | inl s ↦ absurd (omega (arith, ap length s.is.0))
  | inr w ↦ none-some _ w.is_due
]

pub refuses_forgotten_message : RefusesForgottenMessage
unfolding acts stream_acts posted handed_kinds ended
refuses_forgotten_message h =
    let few = ((h (take 4 forgets_posted) (a (works seen.Idle)) [] refl).0 refl).messages in
    omega (arith, few)

pub refuses_finished_flushed : RefusesFinishedFlushed
unfolding acts stream_acts openings story posted handed_kinds sent numbers_ahead place_near before_start
refuses_finished_flushed h =
    let t = story_of 0 (acts A (take 5 gives_up_sent)) in
    (h (take 5 gives_up_sent) (a (works (seen.Flushed kinds.Send))) [] refl).0.unfinished kinds.Send
    (sent_whole t (shown_stays (story_of 0 (acts A (take 3 gives_up_sent))) (shows.Frame 0 send_frame)).start)

pub refuses_buffer_first : RefusesBufferFirst
unfolding acts stream_acts posted handed_kinds
refuses_buffer_first h =
    let few = (h (take 5 returns_buffer_first) (a (works (seen.FlushedRecv (0 ∷ [])))) [] refl).0.messages in
    omega (arith, few)

-- a frame that is placed passed all its checks
by_verdict : (s : Standing) (frame : Frame) (right : Right) (stag : Stag) (to : ℕ) (octets : Octets) (over : Bool) → seen.Placed right stag to octets ≡ seen_judged frame (cond over (Err clash_fault) (verdict s frame)) → seen.Placed right stag to octets ≡ seen_judged frame (verdict s frame)
by_verdict s frame right stag to octets false e = e
by_verdict s frame right stag to octets true e = cc

by_early : (s : Standing) (base : ℕ) (frame : Frame) (right : Right) (stag : Stag) (to : ℕ) (octets : Octets) (o : Option Landing) → early_verdict s frame ≡ o → seen.Placed right stag to octets ≡ seen_tried base frame o → seen.Placed right stag to octets ≡ seen_judged frame (verdict s frame)
by_early s base frame right stag to octets None is e = cc
by_early s base frame right stag to octets (Some at) is e = e ∙ ap (seen_judged frame) (sym (early_lands s frame at is).0)

-- what is placed was allowed
placed_admitted : (s : Standing) (frame : Frame) (right : Right) (stag : Stag) (to : ℕ) (octets : Octets) → seen.Placed right stag to octets ≡ seen_judged frame (verdict s frame) → denial_for s.table s.peer stag to (length octets) right ≡ None
placed_admitted s frame right stag to octets = go (verdict s frame) (lands_as s frame)
  where
    tagged : (opcode : ℕ) (by : Right) (p : Placed) → LandsTagged s frame opcode by p → right ≡ by → stag ≡ p.stag → to ≡ p.to → octets ≡ payload_of (segment_in frame) → denial_for s.table s.peer stag to (length octets) right ≡ None
    tagged opcode by p w a b c d =
        (λ i. denial_for s.table s.peer ((b ∙ ap (λ (q : Placed). q.stag) w.place) i) ((c ∙ ap (λ (q : Placed). q.to) w.place) i) (length ((d ∙ ap payload_of w.carries) i)) (a i)) ∙ w.admitted

    go : (r : Result Landing Fault) → LandsAs s frame r → seen.Placed right stag to octets ≡ seen_judged frame r → denial_for s.table s.peer stag to (length octets) right ≡ None
    go (Err fault) w e = cc
    go (Ok (landing.Write p)) w e =
        let at : stag ≡ p.stag = cc in
        let from : to ≡ p.to = cc in
        let same : octets ≡ payload_of (segment_in frame) = cc in
        let by : right ≡ rights.Write = cc in
        tagged 0 rights.Write p w by at from same
    go (Ok (landing.Response p)) w e =
        let at : stag ≡ p.stag = cc in
        let from : to ≡ p.to = cc in
        let same : octets ≡ payload_of (segment_in frame) = cc in
        let by : right ≡ rights.Sink = cc in
        tagged 2 rights.Sink p w by at from same
    go (Ok (landing.Send msn mo len)) w e = cc
    go (Ok (landing.Request request)) w e = cc
    go (Ok (landing.Terminate fault)) w e = cc

pub refuses_placed_invalidated : RefusesPlacedInvalidated
unfolding acts stream_acts openings table_after empty
refuses_placed_invalidated h =
    let t : Story = story_of 0 (acts B (take 7 places_invalidated)) in
    let s : Standing = standing 0 (acts B (take 7 places_invalidated)) in
    elim (h (take 7 places_invalidated) (b (works places)) [] refl).1 [
      | inl r ↦
          none-some _ (sym (placed_admitted s r.frame rights.Write stag 0 (0xaa ∷ [])
          (by_verdict s r.frame rights.Write stag 0 (0xaa ∷ []) (overlaps_placed t.early r.frame.start (frame_end (expecting t.start).markers r.frame.start (length r.frame.ulpdu))) r.answer)))
      | inr r ↦ none-some _ (sym (placed_admitted s r.frame rights.Write stag 0 (0xaa ∷ []) (by_early s (first_place_in t.start) r.frame rights.Write stag 0 (0xaa ∷ []) (early_verdict s r.frame) refl r.answer)))
    ]
