-- Each wrong run of streams that share a pool breaks its law.
use Rattle.iw_startup.specs.declared.config.Establishment.TheVariants as establishments
use Rattle.std.proofs.Common.{◌≡◌, ◌⊎◌, ℕ, ◌+◌, Bool, List, [], ◌∷◌, ◌++◌, length, take, replicate, Option, Some, None, Result, Ok, Err, true, false, refl, sym, ap, ◌∙◌, arith, inl, inr, get_or}
use Rattle.std.specs.Prelude.{◌⊎◌, ◌||◌, is_some}
use Rattle.std.specs.Option.{option_map, option_map_or, option_or}
use Rattle.std.proofs.lemmas.Bool.{false≢true, true≢false}
use Rattle.std.proofs.lemmas.List.{append-nil}
use Rattle.std.proofs.lemmas.Option.{none-some, same_Some}
use Rattle.iw_octets.specs.declared.fault.Fault.{Fault}
use Rattle.iw_octets.specs.declared.fault.TheConstants.Fault as faults
use Rattle.iw_octets.specs.Stag.{number_of}
use Rattle.iw_octets.specs.declared.segment.Segment.{Segment}
use Rattle.iw_octets.specs.declared.segment.Segment.TheVariants.{Tagged, Untagged}
use Rattle.iw_octets.specs.Head.{read_untagged}
use Rattle.iw_octets.specs.Octets.{splice}
use Rattle.iw_octets.specs.Segment.{read_segment}
use Rattle.iw_memory.specs.Table.{empty}
use Rattle.iw_ranges.specs.Arrived.{nothing, in_order, taken_in, held, advanced}
use Rattle.iw_ranges.specs.Nearest.{numbers_ahead, place_near, before_start}
use Rattle.iw_fpdu.specs.Places.{data_place, data_index, in_marker, place_after, span_start, frame_start}
use Rattle.iw_fpdu.specs.Frame.{frame_octets, laid, octet_at, marker_value}
use Rattle.iw_fpdu.specs.Sequence.{intact}
use Rattle.iw_fpdu.proofs.Written.{frame_is}
use Rattle.iw_locate.specs.Free.{front_of, scene_of}
use Rattle.arrayvec.specs.ArrayVec.{ArrayVec}
use Rattle.iw_untagged.specs.Receiving.{Receiving, lent, sharing, ahead_of, buffer_for, buffer_fault, turn_fault}
use Rattle.iw_stream.specs.declared.answer.RecvRefusal.{RecvRefusal}
use Rattle.iw_stream.specs.declared.answer.RecvRefusal.TheVariants.{Ended, Shared}
use Rattle.iw_stream.specs.declared.answer.Role.TheVariants.{Preset}
use Rattle.iw_stream.specs.declared.landing.Landing.{Landing}
use Rattle.iw_stream.specs.declared.landing.Landing.TheVariants as landing
use Rattle.iw_stream.specs.declared.landing.Turning.TheVariants as turning
use Rattle.iw_stream.specs.Frames.{Frame, standing_at, placed, placed_at, head_in, payload_len, payload_of, segment_in}
use Rattle.iw_stream.specs.Judging.{Standing, verdict, fault_or, or_else, turn_of, turned_by, receiving_turned}
use Rattle.iw_stream.specs.Starting.{AtOnce, plain, awaits_frame, expecting}
use Rattle.iw_endpoint.specs.declared.refusal.TakeRefusal.{TakeRefusal}
use Rattle.iw_endpoint.specs.Endpoint.{no_streams, no_closed, no_pools}
use Rattle.iw_events.specs.declared.call.End.{End}
use Rattle.iw_events.specs.declared.call.End.TheVariants.{A, B}
use Rattle.iw_events.specs.declared.act.Act.{Act}
use Rattle.iw_events.specs.declared.act.Seen.{Seen}
use Rattle.iw_events.specs.declared.act.Seen.TheVariants as seen
use Rattle.iw_laws.specs.Words.{Octets, Opening, Sent, other, acts, stream_acts, openings, opening_of, ended, posted, received, placings, table_after}
use Rattle.iw_laws.specs.Turns.{Story, story, pooling, pool_by, pool_back, taken_back, lent_in, story_of, standing, next_frame, early_frame, was_placed, judged_payload, front_verdict, seen_judged, seen_turned, IsJudged, HasTurn, TurnsSeen}
use Rattle.iw_laws.specs.Turns as turns
use Rattle.iw_laws.specs.Rest.{Over, AwaitsFrame, AwaitsAnswer, NoFrame}
use Rattle.iw_laws.specs.Once.{Span, judged_span, spans_placed, span_of}
use Rattle.iw_laws.specs.Isolated.{AsksOwn, calls_made}
use Rattle.iw_laws.specs.Safe.{Fits, IsHonest}
use Rattle.iw_laws.specs.WrongRuns.{Run, b, stag, works, send_frame, buffers_one}
use Rattle.iw_laws.specs.PoolRuns.{pools, binds_youngest, binds_taken, binds_foreign, binds_unshared, binds_elsewhere, binds_past, binds_later, buffers_last, buffers_second, part_frame, takes_oldest, leaves_oldest, takes_youngest, takes_youngest_back, takes_none, binds_tried, binds_faulted, binds_twice, takes_received, pools_received, drops_unbound, shares_again, shares_twice, pools_unshared, full_pool, opens_unshared, opens_shared, opens_again, takes_number, idles_unopened, posts_own, owns_buffers, names_end, names_end_first, takes_foreign, denies, denies_pooled, denies_short, rests_pooled, tries_pooled, asks_pool_again, places_again, receives_other, hands_out_other, receives_others, receives_uncovered, returns_unbound, keeps_bound, returns_later_first}
use Rattle.iw_laws.specs.PoolRuns.{RefusesYoungestBound, RefusesTakenBound, RefusesForeignBound, RefusesUnsharedBound, RefusesBoundElsewhere, RefusesPastBound, RefusesLaterBound, RefusesOldestLeft, RefusesYoungestTaken, RefusesTriedBound, RefusesFaultedBound, RefusesBoundTwice, RefusesReceivedPooled, RefusesUnboundDropped, RefusesSharedAgain, RefusesPooledUnshared, RefusesPooledOver, RefusesOpenedUnshared, RefusesNumberTaken, RefusesIdleUnopened, RefusesOwnBuffers, RefusesEndFirst, RefusesForeignTaken, RefusesDeniedPooled, RefusesDeniedShort, RefusesRestPooled, RefusesTriedPooled, RefusesPoolAskedAgain, RefusesPlacedAgain, RefusesOtherHandedOut, RefusesOtherReceived, RefusesUncovered, RefusesUnboundReturned, RefusesBoundKept, RefusesLaterFirst}
use Rattle.iw_laws.proofs.RefusedReads.{comes_next}
use Rattle.iw_laws.proofs.RefusedEarly.{overlaps_itself, layout_marked, send_came, send_ulpdu, send_judged, send_lands, never_tried}

-- ---- which buffer a message gets

pub refuses_youngest_bound : RefusesYoungestBound
unfolding acts stream_acts openings story pooling numbers_ahead place_near before_start
refuses_youngest_bound h =
    let r = (h (take 6 binds_youngest) (b buffers_one) [] refl).1 in
    let none : [] ≡ r.buffer = same_Some _ _ r.is in
    omega (arith, ap length none, r.lie)

pub refuses_taken_bound : RefusesTakenBound
unfolding acts stream_acts openings story pooling numbers_ahead place_near before_start
refuses_taken_bound h = none-some _ (h (take 6 binds_taken) (b buffers_one) [] refl).1.is

pub refuses_foreign_bound : RefusesForeignBound
unfolding acts stream_acts openings story pooling numbers_ahead place_near before_start
refuses_foreign_bound h = none-some _ (h (take 7 binds_foreign) (b buffers_one) [] refl).1.is

pub refuses_unshared_bound : RefusesUnsharedBound
unfolding acts stream_acts openings story pooling numbers_ahead place_near before_start
refuses_unshared_bound h = none-some _ (h (take 5 binds_unshared) (b buffers_one) [] refl).1.is

pub refuses_bound_elsewhere : RefusesBoundElsewhere
unfolding acts stream_acts openings story pooling numbers_ahead place_near before_start
refuses_bound_elsewhere h = none-some _ (h (take 8 binds_elsewhere) (b buffers_second) [] refl).1.is

pub refuses_later_bound : RefusesLaterBound
unfolding acts stream_acts openings story pooling numbers_ahead place_near before_start
refuses_later_bound h =
    let r = (h (take 8 binds_later) (b buffers_one) [] refl).1 in
    let none : [] ≡ r.buffer = same_Some _ _ r.is in
    omega (arith, ap length none, r.lie)

-- ---- what is left in the pool

-- an answer of `unpool`, as a number: 0 for no buffer, else one more than its length
abbrev count_taken : Result (Option Octets) TakeRefusal → ℕ
count_taken (Err refusal) = 0
count_taken (Ok None) = 0
count_taken (Ok (Some buffer)) = length buffer + 1

pub refuses_oldest_left : RefusesOldestLeft
unfolding acts stream_acts openings story pooling table_after empty numbers_ahead place_near before_start
refuses_oldest_left h = let e : 2 ≡ 3 = ap count_taken (h (take 7 leaves_oldest) (b takes_oldest) [] refl) in omega (arith, e)

pub refuses_youngest_taken : RefusesYoungestTaken
unfolding acts stream_acts openings story pooling table_after empty numbers_ahead place_near before_start
refuses_youngest_taken h = let e : 3 ≡ 2 = ap count_taken (h (take 5 takes_youngest_back) (b takes_youngest) [] refl) in omega (arith, e)

pub refuses_tried_bound : RefusesTriedBound
unfolding acts stream_acts openings story pooling table_after empty numbers_ahead place_near before_start
refuses_tried_bound h = let e : 0 ≡ 1 = ap count_taken (h (take 6 binds_tried) (b takes_none) [] refl) in omega (arith, e)

pub refuses_faulted_bound : RefusesFaultedBound
unfolding acts stream_acts openings story pooling table_after empty numbers_ahead place_near before_start
refuses_faulted_bound h = let e : 0 ≡ 1 = ap count_taken (h (take 6 binds_faulted) (b takes_none) [] refl) in omega (arith, e)

pub refuses_bound_twice : RefusesBoundTwice
unfolding acts stream_acts openings story pooling table_after empty numbers_ahead place_near before_start
refuses_bound_twice h = let e : 0 ≡ 3 = ap count_taken (h (take 8 binds_twice) (b takes_none) [] refl) in omega (arith, e)

pub refuses_received_pooled : RefusesReceivedPooled
unfolding acts stream_acts openings story pooling table_after empty numbers_ahead place_near before_start
refuses_received_pooled h = let e : 2 ≡ 0 = ap count_taken (h (take 7 pools_received) (b takes_received) [] refl) in omega (arith, e)

pub refuses_unbound_dropped : RefusesUnboundDropped
unfolding acts stream_acts openings story pooling table_after empty numbers_ahead place_near before_start
refuses_unbound_dropped h = let e : 0 ≡ 2 = ap count_taken (h (take 5 drops_unbound) (b takes_none) [] refl) in omega (arith, e)

-- ---- calls

pub refuses_shared_again : RefusesSharedAgain
unfolding acts pooling table_after empty
refuses_shared_again h = none-some _ (h (take 2 shares_twice) (b shares_again) [] refl)

pub refuses_pooled_unshared : RefusesPooledUnshared
unfolding acts pooling table_after empty
refuses_pooled_unshared h = none-some _ (h (take 1 pools_unshared) (b (pools 1 1)) [] refl)

pub refuses_pooled_over : RefusesPooledOver
unfolding acts pooling table_after empty
refuses_pooled_over h = none-some _ (h full_pool (b (pools 1 1)) [] refl)

pub refuses_opened_unshared : RefusesOpenedUnshared
unfolding acts openings pooling table_after empty
refuses_opened_unshared h = none-some _ (h (take 1 opens_unshared) (b (opens_shared 0 1)) [] refl)

pub refuses_number_taken : RefusesNumberTaken
unfolding acts openings table_after empty
refuses_number_taken h = none-some _ (h (take 3 takes_number) (b opens_again) [] refl)

pub refuses_idle_unopened : RefusesIdleUnopened
unfolding acts openings
refuses_idle_unopened h = false≢true (h (take 2 idles_unopened) (b (works seen.Idle)) [] refl).0

pub refuses_own_buffers : RefusesOwnBuffers
unfolding acts stream_acts openings story pooling
refuses_own_buffers h = none-some _ (h (take 3 owns_buffers) (b posts_own) [] refl)

never_both : {x y : RecvRefusal} → x ≡ Ended → y ≡ Shared → Some x ≡ Some y → ⊥
never_both one two e = cc

pub refuses_end_first : RefusesEndFirst
unfolding acts stream_acts openings ended story pooling
refuses_end_first h = never_both refl refl (h (take 4 names_end_first) (b names_end) [] refl)

foreign_own : AsksOwn (λ n. 0) (calls_made (acts B takes_foreign))
unfolding acts
foreign_own = (λ n d h. absurd h, (λ n d h. absurd h, (λ n d h. absurd h, (λ n d h. absurd h, (λ n d h. absurd h, (λ n d h. absurd h, tt))))))

pub refuses_foreign_taken : RefusesForeignTaken
unfolding acts empty no_streams no_closed no_pools
refuses_foreign_taken h =
    let e : 2 ≡ 0 = ap count_taken (h takes_foreign [] (sym (append-nil takes_foreign)) B (λ n. 0) foreign_own 2).1.1.0 in
    omega (arith, e)

-- ---- frames of Sends

the_send : Frame
the_send = standing_at (frame_start false 0) (intact send_ulpdu)

pub send_framed : frame_octets plain 0 send_ulpdu ≡ send_frame
unfolding send_ulpdu data_place data_index in_marker place_after marker_value span_start octet_at laid
send_framed = frame_is plain 0 send_ulpdu refl

pub send_size : length send_ulpdu ≡ 19
unfolding send_ulpdu
send_size = refl

pub front_came : in_order (taken_in nothing 0 send_frame) ≡ send_frame
unfolding taken_in held
front_came = refl

-- it is next where it came first
send_next : (t : Story) → t.start ≡ AtOnce plain → t.turns ≡ 0 → t.came ≡ taken_in nothing 0 send_frame → next_frame t ≡ Some the_send
unfolding the_send
send_next t start at_first came = comes_next t send_ulpdu start at_first (ap in_order came ∙ front_came ∙ sym send_framed) (omega (arith, send_size))

-- the first of two segments likewise
part_ulpdu : Octets
part_ulpdu = (0x01 ∷ 0x43 ∷ []) ++ replicate 11 0 ++ (1 ∷ 0 ∷ 0 ∷ 0 ∷ 0 ∷ 0x68 ∷ [])

the_part : Frame
the_part = standing_at (frame_start false 0) (intact part_ulpdu)

part_framed : frame_octets plain 0 part_ulpdu ≡ part_frame
unfolding part_ulpdu data_place data_index in_marker place_after marker_value span_start octet_at laid
part_framed = frame_is plain 0 part_ulpdu refl

part_size : length part_ulpdu ≡ 19
unfolding part_ulpdu
part_size = refl

part_came : in_order (taken_in nothing 0 part_frame) ≡ part_frame
unfolding taken_in held
part_came = refl

part_next : (t : Story) → t.start ≡ AtOnce plain → t.turns ≡ 0 → t.came ≡ taken_in nothing 0 part_frame → next_frame t ≡ Some the_part
unfolding the_part
part_next t start at_first came = comes_next t part_ulpdu start at_first (ap in_order came ∙ part_came ∙ sym part_framed) (omega (arith, part_size))

part_payload : payload_of (segment_in the_part) ≡ 0x68 ∷ []
unfolding the_part part_ulpdu read_segment read_untagged
part_payload = refl

-- the buffer of the first message once a frame had its turn, at a queue that a pool is lent to: a turn that completes no message leaves it
abbrev buffer_left : Option (List Octets) → Receiving → Receiving → Option Frame → Option Octets
buffer_left pool queue r o =
    let left : Receiving = option_map_or (λ f. receiving_turned r (placed f)) o r in
    let next : Receiving = lent_in (pool_back pool queue left) (taken_back pool queue left) in
    buffer_for next.source (ahead_of next.due 1)

stays_bound : (pool : Option (List Octets)) (queue r : Receiving) (o : Option Frame) → buffer_left pool queue r o ≡ buffer_left pool queue r None
stays_bound pool queue r None = refl
stays_bound pool queue r (Some f) = go (payload_len (placed f)) (head_in (placed f))
  where
    kept : Receiving → Option Octets
    kept left = let next : Receiving = lent_in (pool_back pool queue left) (taken_back pool queue left) in buffer_for next.source (ahead_of next.due 1)

    go : (n : ℕ) (head : Option (Segment Octets)) → kept (turned_by r n head) ≡ kept r
    go n None = refl
    go n (Some (Tagged head payload)) = refl
    go n (Some (Untagged head payload)) = refl

pub refuses_past_bound : RefusesPastBound
unfolding acts stream_acts openings story pooling numbers_ahead place_near before_start
refuses_past_bound h =
    let placing : Story = story_of 0 (acts B (take 6 binds_past)) in
    let before : List (Act Octets) = acts B (take 7 binds_past) in
    let r = (h (take 9 binds_past) (b buffers_last) [] refl).1 in
    let payload : judged_payload placing ≡ 0x68 ∷ [] =
    ap (λ o. option_map_or (λ f. payload_of (segment_in f)) (option_or o (early_frame placing)) []) (part_next placing refl refl refl) ∙ part_payload in
    let bound : Some (splice (0 ∷ []) 0 (judged_payload placing)) ≡ Some r.buffer =
    sym (stays_bound (pool_by 1 before) ((pooling before).queues 0) (story_of 0 before).receiving (next_frame (story_of 0 before))) ∙ r.is in
    let size : 1 ≡ length r.buffer = sym (ap (λ p. length (splice (0 ∷ []) 0 p)) payload) ∙ ap length (same_Some _ _ bound) in
    omega (arith, size, r.lie)

-- a pool of one buffer of one octet
abbrev pooled_one : Receiving
pooled_one = lent sharing ((0 ∷ []) ∷ [])

fits_one : buffer_fault pooled_one 1 0 1 ≡ None
fits_one = refl

placed_front : (s : Standing) → s.receiving ≡ pooled_one → verdict s the_send ≡ Ok (landing.Send 1 0 1)
unfolding the_send
placed_front s there = send_lands s pooled_one (frame_start false 0) there fits_one

judged_front : (s : Standing) → verdict s the_send ≡ fault_or (buffer_fault s.receiving 1 0 1) (landing.Send 1 0 1)
unfolding the_send
judged_front s = send_judged s (frame_start false 0)

completes : (s : Standing) → turn_fault s.receiving 1 0 ≡ None → turn_of s (placed the_send) ≡ Ok (turning.Completed false None)
unfolding the_send send_ulpdu read_segment read_untagged
completes s free = ap (λ o. fault_or (or_else o None) (turning.Completed false None)) free

-- it is next and was not placed: it is judged
module _ (t : Story) (s : Standing) (next : next_frame t ≡ Some the_send) (unplaced : was_placed t ≡ false) (early : t.early ≡ []) (step : Seen Octets) where
  judged_next : (at : Result Landing Fault) → verdict s the_send ≡ at → IsJudged t s step ⊎ HasTurn t s step → step ≡ seen_judged the_send at
  judged_next at is (inl r) =
      let same : r.frame ≡ the_send = same_Some _ _ (sym r.is_next ∙ next) in
      r.answer ∙ (λ i. seen_judged (same i) (front_verdict (early i) (expecting t.start) s (same i))) ∙ ap (seen_judged the_send) is
  judged_next at is (inr r) = absurd (false≢true (sym unplaced ∙ r.waited))

-- a fault of a stream whose peer's start-up frame was read is a frame's
fault_judged : (over : Bool) (t : Story) (s : Standing) (fault : Fault) → TurnsSeen over t s (seen.Fault fault) → awaits_frame t.start ≡ false → IsJudged t s (seen.Fault fault) ⊎ HasTurn t s (seen.Fault fault)
fault_judged over t s fault (inl m) heard = absurd (false≢true (sym heard ∙ m.hears_it.awaited))
fault_judged over t s fault (inr r) heard = r.1

never_denied : (step : Seen Octets) → step ≡ seen.Buffered 1 0 1 → step ≡ seen.Fault faults.UNTAGGED_NO_BUFFER → ⊥
never_denied step placed denied = cc

pub refuses_denied_pooled : RefusesDeniedPooled
unfolding acts stream_acts openings story pooling numbers_ahead place_near before_start
refuses_denied_pooled h =
    let t : Story = story_of 0 (acts B (take 5 denies_pooled)) in
    let s : Standing = standing 0 (acts B (take 5 denies_pooled)) in
    never_denied _ (judged_next t s (send_next t refl refl refl) refl refl _ _ (placed_front s refl) (fault_judged _ t s faults.UNTAGGED_NO_BUFFER (h (take 5 denies_pooled) (b denies) [] refl) refl)) refl

abbrev fault_code : Seen Octets → ℕ
fault_code (seen.Fault fault) = fault.code
fault_code other = 0

pub refuses_denied_short : RefusesDeniedShort
unfolding acts stream_acts openings story pooling numbers_ahead place_near before_start
refuses_denied_short h =
    let t : Story = story_of 0 (acts B (take 5 denies_short)) in
    let s : Standing = standing 0 (acts B (take 5 denies_short)) in
    let too_long : verdict s the_send ≡ Err faults.UNTAGGED_TOO_LONG = judged_front s in
    let wrong : 2 ≡ 5 = ap fault_code (judged_next t s (send_next t refl refl refl) refl refl _ _ too_long (fault_judged _ t s faults.UNTAGGED_NO_BUFFER (h (take 5 denies_short) (b denies) [] refl) refl)) in
    omega (arith, wrong)

pub refuses_rest_pooled : RefusesRestPooled
unfolding acts stream_acts openings ended story pooling numbers_ahead place_near before_start
refuses_rest_pooled h = elim (h (take 5 rests_pooled) (b (works seen.Idle)) [] refl).reason [
  | Over e ↦ false≢true e
  | AwaitsFrame f ↦ false≢true f.awaited
  | AwaitsAnswer o e ↦ true≢false o
  | NoFrame o next early ↦ none-some _ (sym next ∙ send_next (story_of 0 (acts B (take 5 rests_pooled))) refl refl refl)
]

early_scene : turns.scene (story_of 0 (acts B (take 5 tries_pooled))) ≡ scene_of {T = ArrayVec ℕ} layout_marked 0 send_came []
unfolding send_came layout_marked acts stream_acts openings story taken_in advanced numbers_ahead place_near before_start
early_scene = refl

pub refuses_tried_pooled : RefusesTriedPooled
unfolding acts stream_acts openings story pooling numbers_ahead place_near before_start
refuses_tried_pooled h =
    never_tried (story_of 0 (acts B (take 5 tries_pooled))) (standing 0 (acts B (take 5 tries_pooled))) pooled_one early_scene refl refl fits_one
    (h (take 5 tries_pooled) (b (works (seen.Tried 516))) [] refl)

never_received : (octets : Octets) → seen.Fault faults.UNTAGGED_NO_BUFFER ≡ seen.Received octets false None → ⊥
never_received octets e = cc

pub refuses_pool_asked_again : RefusesPoolAskedAgain
unfolding acts stream_acts openings story pooling numbers_ahead place_near before_start
refuses_pool_asked_again h =
    let before : Story = story_of 0 (acts B (take 5 asks_pool_again)) in
    let t : Story = story_of 0 (acts B (take 6 asks_pool_again)) in
    let s : Standing = standing 0 (acts B (take 6 asks_pool_again)) in
    let was : was_placed t ≡ true = ap (λ o. is_some o || is_some (placed_at t.early (front_of (turns.scene t)))) (send_next before refl refl refl) in
    let r = h (take 6 asks_pool_again) (b denies) [] refl was the_send (send_next t refl refl refl) in
    never_received _ (r.answer ∙ ap (seen_turned s.receiving (placed the_send)) (completes s refl))

the_span : Span
the_span = record { from = 0; to = 28 }

span_is : span_of plain the_send ≡ the_span
unfolding the_send the_span send_ulpdu span_start place_after data_place data_index
span_is = refl

judged_there : (t : Story) → t.start ≡ AtOnce plain → t.turns ≡ 0 → t.came ≡ taken_in nothing 0 send_frame → judged_span t ≡ Some the_span
judged_there t start at_first came =
    ap (λ o. option_map (span_of (expecting t.start)) (option_or o (early_frame t))) (send_next t start at_first came) ∙ ap (λ z. Some (span_of (expecting z) the_send)) start ∙ ap Some span_is

spans_are : spans_placed (opening_of 0 (acts B places_again)) (stream_acts 0 (acts B places_again)) ≡ Some the_span ∷ Some the_span ∷ []
unfolding acts stream_acts openings story pooling spans_placed numbers_ahead place_near before_start
spans_are =
    let t : Story = turns.story_alone 0 (acts B (take 6 places_again)) in
    let u : Story = turns.story_alone 0 (acts B (take 7 places_again)) in
    λ i. judged_there t refl refl refl i ∷ judged_there u refl refl refl i ∷ []

pub refuses_placed_again : RefusesPlacedAgain
unfolding the_span
refuses_placed_again h =
    let w = h.once places_again [] (sym (append-nil places_again)) B 0 in
    overlaps_itself the_span w.known (omega arith) (sym spans_are ∙ w.are) w.apart

-- ---- a buffer that is bound to another stream

payload_there : payload_of (segment_in the_send) ≡ 0x68 ∷ []
unfolding the_send send_ulpdu read_segment read_untagged
payload_there = refl

send_payload : payload_len (placed the_send) ≡ 1
unfolding the_send send_ulpdu
send_payload = refl

abbrev receives : Octets → Seen Octets
receives octets = seen.Received octets false None

same_octets : (xs ys : Octets) → receives xs ≡ receives ys → xs ≡ ys
same_octets xs ys e = cc

never_other : receives (0x69 ∷ []) ≡ receives (0x68 ∷ []) → ⊥
never_other e = let wrong : 0x69 ≡ 0x68 = ap (λ (xs : Octets). get_or xs 0 0) (same_octets _ _ e) in omega (arith, wrong)

pub refuses_other_handed_out : RefusesOtherHandedOut
unfolding acts stream_acts openings story pooling numbers_ahead place_near before_start
refuses_other_handed_out h =
    let placing : Story = story_of 0 (acts B (take 8 hands_out_other)) in
    let t : Story = story_of 0 (acts B (take 10 hands_out_other)) in
    let s : Standing = standing 0 (acts B (take 10 hands_out_other)) in
    let r = (h (take 10 hands_out_other) (b receives_other) [] refl).1 in
    let same : r.frame ≡ the_send = same_Some _ _ (sym r.is_next ∙ send_next t refl refl refl) in
    let payload : judged_payload placing ≡ 0x68 ∷ [] =
    ap (λ o. option_map_or (λ f. payload_of (segment_in f)) (option_or o (early_frame placing)) []) (send_next placing refl refl refl) ∙ payload_there in
    let answer : receives (0x69 ∷ []) ≡ receives (take (0 + payload_len (placed the_send)) (splice (0 ∷ []) 0 (judged_payload placing))) =
    r.answer ∙ ap (λ f. seen_turned s.receiving (placed f) (turn_of s (placed f))) same ∙ ap (seen_turned s.receiving (placed the_send)) (completes s refl) in
    never_other (answer ∙ (λ i. receives (take (0 + send_payload i) (splice (0 ∷ []) 0 (payload i)))))

-- ---- an honest stream

opened_by : End → Opening
opened_by A = record { domain = 1; role = Preset; config = record { markers = false; crc = false; establishment = establishments.Plain; private = record { items = [] } }; shared = false }
opened_by B = record { domain = 1; role = Preset; config = record { markers = false; crc = false; establishment = establishments.Plain; private = record { items = [] } }; shared = true }

honest : (run : Run) → ((x : End) → openings 0 (acts x run) ≡ opened_by x ∷ []) → ((x : End) → (story_of 0 (acts x run)).strays ≡ false) → IsHonest 0 run
unfolding opened_by
honest run opened calm = record { opening = opened_by; opened = opened; fits = fits; calm = calm }
  where
    fits : (x : End) → Fits (opened_by x) (opened_by (other x))
    fits A = inl (refl, refl, refl, refl)
    fits B = inl (refl, refl, refl, refl)

first_octets : List Sent → Octets
first_octets [] = []
first_octets (x ∷ xs) = x.octets

pub refuses_other_received : RefusesOtherReceived
unfolding acts stream_acts openings story posted received opened_by first_octets
refuses_other_received h =
    let r = h receives_others [] refl A 0 (honest receives_others opened calm) in
    let other : 0x69 ≡ 0x68 = ap (λ (xs : List Sent). get_or (first_octets xs) 0 0) r.1 in
    omega (arith, other)
  where
    opened : (x : End) → openings 0 (acts x receives_others) ≡ opened_by x ∷ []
    opened A = refl
    opened B = refl

    calm : (x : End) → (story_of 0 (acts x receives_others)).strays ≡ false
    calm A = refl
    calm B = refl

pub refuses_uncovered : RefusesUncovered
unfolding acts stream_acts openings story posted placings received opened_by
refuses_uncovered h =
    let r = h receives_uncovered [] refl A 0 (honest receives_uncovered opened calm) (record { stag = number_of stag; to = 0; octet = 0xaa }) in
    omega (arith, r.before 0 (omega arith))
  where
    opened : (x : End) → openings 0 (acts x receives_uncovered) ≡ opened_by x ∷ []
    opened A = refl
    opened B = refl

    calm : (x : End) → (story_of 0 (acts x receives_uncovered)).strays ≡ false
    calm A = refl
    calm B = refl

-- ---- the end

pub refuses_unbound_returned : RefusesUnboundReturned
unfolding acts stream_acts openings story pooling
refuses_unbound_returned h = none-some _ (h (take 5 returns_unbound) (b (works (seen.FlushedRecv (0 ∷ [])))) [] refl).0.is

pub refuses_bound_kept : RefusesBoundKept
unfolding acts stream_acts openings ended story pooling numbers_ahead place_near before_start
refuses_bound_kept h = none-some _ (sym ((h (take 7 keeps_bound) (b (works seen.Idle)) [] refl).0 refl).buffers)

has_octets : (p : Octets) → splice (0 ∷ []) 0 p ≡ [] → ⊥
has_octets [] e = cc
has_octets (x ∷ xs) e = cc

pub refuses_later_first : RefusesLaterFirst
unfolding acts stream_acts openings ended story pooling numbers_ahead place_near before_start
refuses_later_first h = has_octets (judged_payload (story_of 0 (acts B (take 8 returns_later_first)))) (same_Some _ _ (h (take 10 returns_later_first) (b (works (seen.FlushedRecv []))) [] refl).0.is)
