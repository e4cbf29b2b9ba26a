-- Each wrong run with Reads breaks its law.
use Rattle.iw_startup.specs.declared.config.Establishment.TheVariants as establishments
use Rattle.iw_ranges.specs.Nearest.{numbers_ahead, place_near, before_start}
use Rattle.std.proofs.Common.{◌≡◌, ℕ, zero, suc, ◌+◌, ◌*◌, ◌%◌, ◌-◌, ◌^◌, ◌<◌, ◌≤◌, List, [], ◌∷◌, ◌++◌, length, take, drop, map, replicate, Option, Some, None, Err, Bool, true, false, cond, refl, sym, ap, ◌∙◌, subst, arith, inl, inr}
use Rattle.std.specs.Prelude.{fold, nat_eq, nat_lt, slice_get, is_some, ◌&&◌}
use Rattle.std.specs.Option.{option_map, option_map_or}
use Rattle.std.proofs.lemmas.Bool.{true≢false}
use Rattle.std.proofs.lemmas.Bool.Decides.{nat_tests}
use Rattle.std.proofs.lemmas.List.{append-nil, length_push}
use Rattle.std.proofs.lemmas.Option.{none-some, same_Some}
use Rattle.iw_octets.specs.declared.fault.TheConstants.Fault as faults
use Rattle.iw_octets.specs.declared.payload.ReadRequest.{ReadRequest}
use Rattle.iw_octets.specs.declared.segment.Segment.{Segment}
use Rattle.iw_octets.specs.Head.{tagged_octets, untagged_octets}
use Rattle.iw_octets.specs.Payload.{FitsRequest, request_octets, request_fields, read_request}
use Rattle.iw_octets.specs.Segment.{segment_octets, read_segment, FitsSegment}
use Rattle.iw_octets.specs.Stag.{number_of}
use Rattle.iw_octets.proofs.Segments.{read_segment-spelled, length-segment_octets_tagged, length-segment_octets_untagged}
use Rattle.iw_octets.proofs.Spelled.{length-request_octets, read_request-spelled}
use Rattle.iw_queues.specs.declared.request.Kind.TheVariants as kinds
use Rattle.iw_queues.specs.Joined.{Cell, count_writes}
use Rattle.iw_queues.specs.Segments.{request_segment, write_segment}
use Rattle.iw_memory.specs.declared.peer.Peer.{Peer}
use Rattle.iw_memory.specs.declared.rights.Right.TheVariants as rights
use Rattle.iw_memory.specs.Table.{Table, empty}
use Rattle.iw_rdmap.specs.Judging.{judged_segment}
use Rattle.iw_ranges.specs.Arrived.{nothing, in_order, taken_in, held}
use Rattle.iw_reads.specs.declared.reads.Outstanding.{Outstanding}
use Rattle.iw_reads.specs.declared.requests.Asked.{Asked}
use Rattle.iw_reads.specs.Outstanding.{asked_for}
use Rattle.iw_reads.specs.Requests.{Requested, nothing_asked, taken_up}
use Rattle.iw_reads.specs.Response.{response_head}
use Rattle.iw_reads.specs.Source.{reading_fault}
use Rattle.iw_fpdu.specs.Places.{data_place, data_index, in_marker, place_after, span_start, frame_start}
use Rattle.iw_fpdu.specs.Frame.{max_sent, frame_octets, laid, octet_at, marker_value}
use Rattle.iw_fpdu.specs.Laws.{IsBetween}
use Rattle.iw_fpdu.specs.Sequence.{Carried, intact, first_frame}
use Rattle.iw_fpdu.proofs.Written.{frame_is}
use Rattle.iw_fpdu.proofs.Sequences.{written_is_first}
use Rattle.iw_fpdu.proofs.Follows.{frames_follow}
use Rattle.iw_untagged.specs.Receiving.{Receiving}
use Rattle.iw_stream.specs.declared.answer.Role.TheVariants.{Preset}
use Rattle.iw_stream.specs.Frames.{Frame, standing_at, payload_of, segment_in, placed}
use Rattle.iw_stream.specs.Judging.{Standing, response_verdict, head_verdict, verdict, segment_turn, turn_of, reads_left}
use Rattle.iw_stream.specs.Starting.{AtOnce, plain, expecting, most_reads_in, rtr_in, sending, first_place_in, first_place_out}
use Rattle.iw_stream.proofs.Headers.{turn_kept, left_kept}
use Rattle.iw_events.specs.declared.call.End.{End}
use Rattle.iw_events.specs.declared.call.End.TheVariants.{A, B}
use Rattle.iw_events.specs.declared.act.Seen.TheVariants as seen
use Rattle.iw_events.specs.declared.act.Shown.{Shown}
use Rattle.iw_events.specs.declared.act.Shown.TheVariants as shows
use Rattle.iw_laws.specs.Words.{Octets, Opening, OnSome, acts, stream_acts, openings, opening_of, posted, received, finished_kinds, handed_kinds, placings, size_set, table_after}
use Rattle.iw_laws.specs.Turns.{Answer, in_order_point, past_last, fetches_for, Located, Story, located_of, frames_in, next_frame, next_reads, asked_in, next_asked, segment_out, read_out, sends_segment, sends_frame, is_rtr, says_farewell, story_shown, story_after, untold, story, story_of, standing, carries_response, seen_judged, seen_turned, front_verdict}
use Rattle.iw_laws.specs.Merged.{response_segment}
use Rattle.iw_laws.specs.Sends.{IsAnswered, ready_of, count_reads}
use Rattle.iw_laws.proofs.Counts.{count_reads-append}
use Rattle.iw_laws.proofs.Ready.{ready_in}
use Rattle.iw_stream.specs.Ending.{last_word}
use Rattle.iw_queues.specs.declared.request.Request.TheVariants.{Read}
use Rattle.iw_laws.specs.Faithful as faithful
use Rattle.iw_laws.specs.Safe.{IsHonest}
use Rattle.iw_laws.specs.WrongRuns.{Run, a, b, works, stag, read_one, read_two, asking_frame, emits_response, leaks_region, denies_first, denies_readable, writes_twice, receives_unwritten, request_frame, write_frame, fetches_others, fetches_elsewhere, five, long_response, places_past, three, short_response, ends_early, done_by_write, reads_out, seventeen_reads, sinks_unfetched, first_four, done_unplaced, done_unanswered}
use Rattle.iw_laws.specs.WrongRuns.{RefusesUntoldResponse, RefusesDeniedReadable, RefusesWriteTwice, RefusesSendBeforeWrite, RefusesFetchElsewhere, RefusesPlacesPast, RefusesEndsEarly, RefusesDoneByWrite, RefusesSeventeenReads, RefusesSinksUnfetched, RefusesDoneUnplaced, RefusesDoneUnanswered}
use Rattle.iw_laws.proofs.Located.{located_first}
use Rattle.iw_laws.proofs.Merges.{asked_or}
use Rattle.iw_laws.proofs.Responses.{fields_again}
use Rattle.iw_laws.proofs.Tracks.{shown_stays}

-- ---- frames of a stream that is open at once, with neither markers nor CRCs

plain_between : (at : ℕ) → at % 4 ≡ 0 → IsBetween false at
unfolding span_start data_place data_index
plain_between at aligned = record { aligned = aligned; span = refl }

-- a segment that goes out is told by its frame
pub goes_out : (t : Story) (from : ℕ) (segment : Segment Octets) → t.start ≡ AtOnce plain → from % 4 ≡ 0 → FitsSegment segment → length (segment_octets segment) ≤ max_sent
    → segment_out t from (frame_octets plain from (segment_octets segment)) ≡ Some segment
goes_out t from segment start aligned fits short =
    let octets : Octets = frame_octets plain from (segment_octets segment) in
    let place : from - 0 ≡ from = omega arith in
    let never : nat_lt from 0 ≡ false = grind (arith, nat_tests) in
    let first : first_frame plain (from - 0) octets ≡ Some (intact (segment_octets segment), []) =
    (λ i. first_frame plain (place i) (sym (append-nil octets) i)) ∙ written_is_first plain from (segment_octets segment) [] (plain_between from aligned) short in
    (λ i. cond (nat_lt from (first_place_out (start i))) None (option_map_or (λ (first : Carried × Octets). read_segment first.0.ulpdu) (first_frame (sending (start i)) (from - first_place_out (start i)) octets) None))
    ∙ ap (λ b. cond b None (option_map_or (λ (first : Carried × Octets). read_segment first.0.ulpdu) (first_frame plain (from - 0) octets) None)) never
    ∙ ap (λ o. option_map_or (λ (first : Carried × Octets). read_segment first.0.ulpdu) o None) first
    ∙ read_segment-spelled segment fits

-- the frame that came first is next
pub comes_next : (t : Story) (u : Octets) → t.start ≡ AtOnce plain → t.turns ≡ 0 → in_order t.came ≡ frame_octets plain 0 u → length u ≤ max_sent → next_frame t ≡ Some (standing_at (frame_start false 0) (intact u))
comes_next t u start turns came short =
    let octets : Octets = frame_octets plain 0 u ++ [] in
    let all : in_order t.came ≡ octets = came ∙ sym (append-nil (frame_octets plain 0 u)) in
    let frames : frames_in t ≡ located_of plain 0 octets = λ i. located_of (expecting (start i)) 0 (drop (first_place_in (start i)) (all i)) in
    let first = located_first plain 0 octets (intact u) [] (frames_follow.first false) (written_is_first plain 0 u [] (frames_follow.first false) short) in
    λ i. option_map (λ (f : Located). f.frame) (slice_get ((frames ∙ first) i) (turns i))

-- octets with the number 0 that come after a frame went out, where nothing had its turn
comes_first : (t : Story) (shown : Shown Octets) (octets : Octets) → t.first ≡ 0 → in_order_point t ≡ 0
    → in_order (taken_in (story_shown t shown).came (place_near 0 (story_shown t shown).first (in_order_point (story_shown t shown)))
    (drop (before_start 0 (story_shown t shown).first (in_order_point (story_shown t shown))) octets)) ≡ in_order (taken_in t.came 0 octets)
unfolding numbers_ahead place_near before_start
comes_first t shown octets first point =
    let kept = shown_stays t shown in
    let numbered : (story_shown t shown).first ≡ 0 = kept.first ∙ first in
    let here : in_order_point (story_shown t shown) ≡ 0 =
    (λ i. first_place_in (kept.start i) + past_last 0 (take (kept.turns i) (located_of (expecting (kept.start i)) 0 (drop (first_place_in (kept.start i)) (in_order (kept.came i)))))) ∙ point in
    λ i. in_order (taken_in (kept.came i) (place_near 0 (numbered i) (here i)) (drop (before_start 0 (numbered i) (here i)) octets))

-- ---- the Read of four octets

pub fits_one : FitsRequest read_one
fits_one = record {
  sink = record { domain = omega arith; slot = omega arith; key = omega arith };
  sink_to = omega arith;
  size = omega arith;
  source = record { domain = omega arith; slot = omega arith; key = omega arith };
  source_to = omega arith;
}

asking_fits : (read : ReadRequest) (msn : ℕ) → msn < 2 ^ 32 → FitsSegment (request_segment msn read)
asking_fits read msn low = record { ddp_version = omega arith; control = omega arith; tail = omega arith; queue = omega arith; msn = low; mo = omega arith }

asking_short : (read : ReadRequest) (msn : ℕ) → length (segment_octets (request_segment msn read)) ≤ max_sent
asking_short read msn = omega (arith, length-segment_octets_untagged (record { last = true; ddp_version = 1; control = 0x41; tail = 0; queue = 1; msn = msn; mo = 0 }) (request_octets read), length-request_octets read)

request_fits : (msn : ℕ) → msn < 2 ^ 32 → FitsSegment (request_segment msn read_one)
request_fits msn low = asking_fits read_one msn low

request_short : (msn : ℕ) → length (segment_octets (request_segment msn read_one)) ≤ max_sent
request_short msn = asking_short read_one msn

request_out : (msn : ℕ) → read_out (request_segment msn read_one) ≡ Some read_one
request_out msn =
    ap (option_map (λ (read : ReadRequest × Octets). read.0)) (ap read_request (sym (append-nil (request_octets read_one))) ∙ read_request-spelled read_one [] fits_one)

request_ulpdu : Octets
request_ulpdu = (0x41 ∷ 0x41 ∷ []) ++ replicate 7 0 ++ (1 ∷ []) ++ replicate 3 0 ++ (1 ∷ []) ++ replicate 4 0 ++ request_octets read_one

request_is : segment_octets (request_segment 1 read_one) ≡ request_ulpdu
unfolding request_ulpdu segment_octets untagged_octets request_octets
request_is = refl

request_framed : frame_octets plain 0 (segment_octets (request_segment 1 read_one)) ≡ request_frame
unfolding request_ulpdu request_octets data_place data_index in_marker place_after marker_value span_start octet_at laid
request_framed = ap (frame_octets plain 0) request_is ∙ frame_is plain 0 request_ulpdu refl

-- it goes out
pub asked_story : (t : Story) → t.start ≡ AtOnce plain → last_word t.ending ≡ None → story_shown t (shows.Frame 0 request_frame) ≡ sends_segment t (request_segment 1 read_one)
asked_story t start quiet =
    (λ i. cond (nat_lt 0 (first_place_out (start i))) t (option_map_or (says_farewell t) (quiet i) (option_map_or (sends_frame t (is_some (rtr_in (start i)) && nat_eq 0 (first_place_out (start i)))) (segment_out t 0 request_frame) t)))
    ∙ ap (λ o. option_map_or (sends_segment t) o t) (ap (segment_out t 0) (sym request_framed) ∙ goes_out t 0 (request_segment 1 read_one) start (omega arith) (request_fits 1 (omega arith)) (request_short 1))

asked_reads : (t : Story) (msn : ℕ) → (sends_segment t (request_segment msn read_one)).reads ≡ t.reads ++ record { ticket = Some (t.whole % 2 ^ 64); request = read_one; turned = 0 } ∷ []
asked_reads t msn = ap (λ o. option_map_or (asked_for t.reads (Some (t.whole % 2 ^ 64))) o t.reads) (request_out msn)

asked_more : (t : Story) (msn : ℕ) (ready : Bool) → length (sends_frame t ready (request_segment msn read_one)).reads ≡ length t.reads + 1
asked_more t msn false = ap length (asked_reads t msn) ∙ length_push t.reads (record { ticket = Some (t.whole % 2 ^ 64); request = read_one; turned = 0 })
asked_more t msn true = ap (λ o. length (option_map_or (asked_for t.reads None) o t.reads)) (request_out msn) ∙ length_push t.reads (record { ticket = None; request = read_one; turned = 0 })

-- it goes out behind a start-up frame
pub asked_out : (t : Story) (n : ℕ) → sending t.start ≡ plain → first_place_out t.start ≡ n → last_word t.ending ≡ None → length (story_shown t (shows.Frame n request_frame)).reads ≡ length t.reads + 1
asked_out t n sends first quiet =
    let segment : Segment Octets = request_segment 1 read_one in
    let octets : Octets = frame_octets plain 0 (segment_octets segment) in
    let never : nat_lt n n ≡ false = grind (arith, nat_tests) in
    let place : n - n ≡ 0 = omega arith in
    let whole : first_frame plain 0 octets ≡ Some (intact (segment_octets segment), []) =
    ap (first_frame plain 0) (sym (append-nil octets)) ∙ written_is_first plain 0 (segment_octets segment) [] (frames_follow.first false) (request_short 1) in
    let out : segment_out t n octets ≡ Some segment =
    (λ i. cond (nat_lt n (first i)) None (option_map_or (λ (first : Carried × Octets). read_segment first.0.ulpdu) (first_frame (sends i) (n - first i) octets) None))
    ∙ (λ i. cond (never i) None (option_map_or (λ (first : Carried × Octets). read_segment first.0.ulpdu) (first_frame plain (place i) octets) None))
    ∙ ap (λ o. option_map_or (λ (first : Carried × Octets). read_segment first.0.ulpdu) o None) whole
    ∙ read_segment-spelled segment (request_fits 1 (omega arith)) in
    let story : story_shown t (shows.Frame n request_frame) ≡ sends_frame t (is_rtr t n) segment =
    (λ i. cond (nat_lt n (first i)) t (option_map_or (says_farewell t) (quiet i) (option_map_or (sends_frame t (is_rtr t n)) (segment_out t n request_frame) t)))
    ∙ ap (λ b. cond b t (option_map_or (sends_frame t (is_rtr t n)) (segment_out t n request_frame) t)) never
    ∙ ap (λ o. option_map_or (sends_frame t (is_rtr t n)) o t) (ap (segment_out t n) (sym request_framed) ∙ out) in
    ap (λ (z : Story). length z.reads) story ∙ asked_more t 1 (is_rtr t n)

-- ---- sixteen Reads, and one more

out_reads : (n before : ℕ) (t : Story) → t.start ≡ AtOnce plain → last_word t.ending ≡ None → before + n ≤ 100 → length (fold story_after t (stream_acts 0 (acts A (reads_out n before)))).reads ≡ length t.reads + n
unfolding acts stream_acts reads_out
out_reads zero before t start quiet few = omega arith
out_reads (suc n) before t start quiet few =
    let segment : Segment Octets = request_segment (before + 1) read_one in
    let out = goes_out t (52 * before) segment start (omega arith) (request_fits (before + 1) (omega (arith, few))) (request_short (before + 1)) in
    let rest = out_reads n (before + 1) (sends_segment t segment) start quiet (omega (arith, few)) in
    let one : length (sends_segment t segment).reads ≡ length t.reads + 1 = asked_more t (before + 1) false in
    let past : nat_lt (52 * before) (first_place_out t.start) ≡ false = ap (λ z. nat_lt (52 * before) (first_place_out z)) start ∙ (let never : nat_lt (52 * before) 0 ≡ false = grind (arith, nat_tests) in never) in
    let unready : is_rtr t (52 * before) ≡ false = ap (λ z. is_some (rtr_in z) && nat_eq (52 * before) (first_place_out z)) start in
    (λ i. length (fold story_after (cond (past i) t (option_map_or (says_farewell t) (quiet i) (option_map_or (sends_frame t (unready i)) (out i) t))) (stream_acts 0 (acts A (reads_out n (before + 1))))).reads) ∙ omega (arith, rest, one)

-- the start-up stays
out_starts : (n before : ℕ) (t : Story) → (fold story_after t (stream_acts 0 (acts A (reads_out n before)))).start ≡ t.start
unfolding acts stream_acts reads_out
out_starts zero before t = refl
out_starts (suc n) before t =
    let shown = shows.Frame (52 * before) (frame_octets plain (52 * before) (segment_octets (request_segment (before + 1) read_one))) in
    out_starts n (before + 1) (story_shown t shown) ∙ (shown_stays t shown).start

pub refuses_seventeen_reads : RefusesSeventeenReads
unfolding acts stream_acts openings story numbers_ahead place_near before_start
refuses_seventeen_reads h =
    let few = h seventeen_reads [] (sym (append-nil seventeen_reads)) A 0 in
    let sixteen = ap most_reads_in (out_starts 17 0 (untold (opening_of 0 (acts A seventeen_reads)))) in
    omega (arith, few, sixteen, out_reads 17 0 (untold (opening_of 0 (acts A seventeen_reads))) refl refl (omega arith))

-- ---- another place than the one that was asked for

pub request_came : in_order (taken_in nothing 0 request_frame) ≡ request_frame
unfolding taken_in held request_octets
request_came = refl

-- the Read that is taken up
pub record Takes (t : Story) (read : ReadRequest) : Type 0 where
  pub asked : Asked
  pub is : (next_asked t).unanswered ≡ asked ∷ []
  pub request : asked.request ≡ read

takes_up : (read : ReadRequest) → FitsRequest read → frame_octets plain 0 (segment_octets (request_segment 1 read)) ≡ asking_frame read
    → (t : Story) → t.start ≡ AtOnce plain → t.turns ≡ 0 → t.asked ≡ nothing_asked → in_order t.came ≡ asking_frame read → Takes t read
takes_up read fits framed t start turns none came =
    let u : Octets = segment_octets (request_segment 1 read) in
    let frame : Frame = standing_at (frame_start false 0) (intact u) in
    let next : next_frame t ≡ Some frame = comes_next t u start turns (came ∙ sym framed) (asking_short read 1) in
    let carries : segment_in frame ≡ Some (request_segment 1 read) = read_segment-spelled (request_segment 1 read) (asking_fits read 1 (omega arith)) in
    record {
      asked = asked_in frame;
      is = ap (λ (z : Requested). z.unanswered) (ap (λ o. option_map_or (λ f. taken_up t.asked (asked_in f)) o t.asked) next ∙ ap (λ z. taken_up z (asked_in frame)) none);
      request = ap (λ o. request_fields (payload_of o)) carries ∙ fields_again read fits;
    }

pub takes : (t : Story) → t.start ≡ AtOnce plain → t.turns ≡ 0 → t.asked ≡ nothing_asked → in_order t.came ≡ request_frame → Takes t read_one
takes t start turns none came = takes_up read_one fits_one request_framed t start turns none came

pub refuses_fetch_elsewhere : RefusesFetchElsewhere
unfolding acts stream_acts openings story numbers_ahead place_near before_start
refuses_fetch_elsewhere h =
    let r = h (take 5 fetches_elsewhere) (b fetches_others) [] refl in
    let w = takes (story_of 0 (acts B (take 4 fetches_elsewhere))) refl refl refl request_came in
    let same : w.asked ≡ r.oldest = ap (asked_or w.asked) (sym w.is ∙ r.waits.is) in
    let first : r.oldest.request.source_to ≡ 0 = ap (λ (z : Asked). z.request.source_to) (sym same) ∙ ap (λ (z : ReadRequest). z.source_to) w.request in
    omega (arith, r.place, first)

-- ---- a denial of more than the part that is due

fits_two : FitsRequest read_two
fits_two = record { sink = fits_one.sink; sink_to = omega arith; size = omega arith; source = fits_one.source; source_to = omega arith }

two_ulpdu : Octets
two_ulpdu = (0x41 ∷ 0x41 ∷ []) ++ replicate 7 0 ++ (1 ∷ []) ++ replicate 3 0 ++ (1 ∷ []) ++ replicate 4 0 ++ request_octets read_two

two_is : segment_octets (request_segment 1 read_two) ≡ two_ulpdu
unfolding two_ulpdu segment_octets untagged_octets request_octets
two_is = refl

two_framed : frame_octets plain 0 (segment_octets (request_segment 1 read_two)) ≡ asking_frame read_two
unfolding two_ulpdu request_octets data_place data_index in_marker place_after marker_value span_start octet_at laid
two_framed = ap (frame_octets plain 0) two_is ∙ frame_is plain 0 two_ulpdu refl

two_came : in_order (taken_in nothing 0 (asking_frame read_two)) ≡ asking_frame read_two
unfolding taken_in held request_octets
two_came = refl

pub refuses_denied_readable : RefusesDeniedReadable
unfolding acts stream_acts openings story size_set table_after empty numbers_ahead place_near before_start
refuses_denied_readable h =
    let r = h (take 6 denies_readable) (b denies_first) [] refl in
    let t : Story = story_of 0 (acts B (take 6 denies_readable)) in
    let s : Standing = standing 0 (acts B (take 6 denies_readable)) in
    let asks : Story = story_of 0 (acts B (take 5 denies_readable)) in
    let w = takes_up read_two fits_two two_framed asks refl refl refl two_came in
    let same : w.asked ≡ r.oldest = ap (asked_or w.asked) (sym w.is ∙ r.waits.is) in
    let request : r.oldest.request ≡ read_two = ap (λ (z : Asked). z.request) (sym same) ∙ w.request in
    let allowed : reading_fault s.table s.peer read_two.source (read_two.source_to + length t.begun) (faithful.octets_due t 128 read_two) ≡ None = refl in
    none-some _ (sym (ap (λ (q : ReadRequest). reading_fault s.table s.peer q.source (q.source_to + length t.begun) (faithful.octets_due t 128 q)) request ∙ allowed) ∙ r.denied)

-- ---- responses that are too long, and too short

response_fits : (last : Bool) (octets : Octets) → FitsSegment (response_segment read_one 0 last octets)
response_fits last octets = record { ddp_version = omega arith; control = omega arith; stag = fits_one.sink; to = omega arith }

-- one goes out in a frame that is not shown as fetched
pub refuses_untold_response : RefusesUntoldResponse
unfolding acts stream_acts openings story numbers_ahead place_near before_start
refuses_untold_response h =
    let t : Story = story_of 0 (acts B (take 6 leaks_region)) in
    let answer : Segment Octets = response_segment read_one 0 true first_four in
    let size : length (segment_octets answer) ≡ 18 = length-segment_octets_tagged (response_head read_one 0 true) first_four in
    let out : segment_out t 0 (frame_octets plain 0 (segment_octets answer)) ≡ Some answer = goes_out t 0 answer refl (omega arith) (response_fits true first_four) (omega (arith, size)) in
    true≢false (subst (λ (o : Option (Segment Octets)). OnSome (λ segment. carries_response segment ≡ false) o) out (h (take 6 leaks_region) (b emits_response) [] refl))

-- the end that asked, behind its request
abbrev outstanding : ℕ → List Outstanding
outstanding ticket = record { ticket = Some ticket; request = read_one; turned = 0 } ∷ []

long_ulpdu : Octets
long_ulpdu = (0xc1 ∷ 0x42 ∷ 1 ∷ 0 ∷ 0 ∷ 0 ∷ []) ++ replicate 8 0 ++ five

long_is : segment_octets (response_segment read_one 0 true five) ≡ long_ulpdu
unfolding long_ulpdu segment_octets tagged_octets
long_is = refl

long_framed : frame_octets plain 0 long_ulpdu ≡ long_response
unfolding long_ulpdu data_place data_index in_marker place_after marker_value span_start octet_at laid
long_framed = frame_is plain 0 long_ulpdu refl

long_came : in_order (taken_in nothing 0 long_response) ≡ long_response
unfolding taken_in held
long_came = refl

long_carries : read_segment long_ulpdu ≡ Some (response_segment read_one 0 true five)
long_carries = ap read_segment (sym long_is) ∙ read_segment-spelled (response_segment read_one 0 true five) (response_fits true five)

long_size : length long_ulpdu ≡ 19
unfolding long_ulpdu
long_size = refl

-- it was not asked for
not_asked : (table : Table) (peer : Peer) (ticket : ℕ) → response_verdict table peer (outstanding ticket) (response_head read_one 0 true) 5 ≡ Err faults.OPERATION_UNEXPECTED
not_asked table peer ticket = refl

pub refuses_places_past : RefusesPlacesPast
unfolding acts stream_acts openings story numbers_ahead place_near before_start
refuses_places_past h =
    let asks : Story = story_of 0 (acts A (take 4 places_past)) in
    let t : Story = story_of 0 (acts A (take 6 places_past)) in
    let s : Standing = standing 0 (acts A (take 6 places_past)) in
    let kept = shown_stays asks (shows.Frame 0 request_frame) in
    let frame : Frame = standing_at (frame_start false 0) (intact long_ulpdu) in
    let next : next_frame t ≡ Some frame = comes_next t long_ulpdu kept.start kept.turns (comes_first asks (shows.Frame 0 request_frame) long_response refl refl ∙ long_came ∙ sym long_framed) (omega (arith, long_size)) in
    let reads : s.reads ≡ outstanding (asks.whole % 2 ^ 64) = ap (λ (z : Story). z.reads) (asked_story asks refl refl) ∙ asked_reads asks 1 in
    let judged : verdict s frame ≡ Err faults.OPERATION_UNEXPECTED =
    ap (λ o. head_verdict s (judged_segment o (length long_ulpdu) s.asked.next (length s.asked.unanswered)) (length (payload_of o))) long_carries
    ∙ ap (λ z. response_verdict s.table s.peer z (response_head read_one 0 true) 5) reads
    ∙ not_asked s.table s.peer (asks.whole % 2 ^ 64) in
    let early : t.early ≡ [] = kept.early in
    elim (h (take 6 places_past) (a (works (seen.Placed rights.Sink stag 0 five))) [] refl).1 [
      | inl r ↦
          let same : r.frame ≡ frame = same_Some _ _ (sym r.is_next ∙ next) in
          let wrong : seen.Placed rights.Sink stag 0 five ≡ seen.Fault faults.OPERATION_UNEXPECTED =
          r.answer ∙ (λ i. seen_judged (same i) (front_verdict (early i) (expecting t.start) s (same i))) ∙ ap (seen_judged frame) judged in
          cc
      | inr r ↦ none-some _ (sym r.no_next ∙ next)
    ]

short_ulpdu : Octets
short_ulpdu = (0xc1 ∷ 0x42 ∷ 1 ∷ 0 ∷ 0 ∷ 0 ∷ []) ++ replicate 8 0 ++ three

short_is : segment_octets (response_segment read_one 0 true three) ≡ short_ulpdu
unfolding short_ulpdu segment_octets tagged_octets
short_is = refl

short_framed : frame_octets plain 0 short_ulpdu ≡ short_response
unfolding short_ulpdu data_place data_index in_marker place_after marker_value span_start octet_at laid
short_framed = frame_is plain 0 short_ulpdu refl

short_came : in_order (taken_in nothing 0 short_response) ≡ short_response
unfolding taken_in held
short_came = refl

short_carries : read_segment short_ulpdu ≡ Some (response_segment read_one 0 true three)
short_carries = ap read_segment (sym short_is) ∙ read_segment-spelled (response_segment read_one 0 true three) (response_fits true three)

short_size : length short_ulpdu ≡ 17
unfolding short_ulpdu
short_size = refl

-- its turn is refused
ends_short : (table : Table) (peer : Peer) (r : Receiving) (ticket : ℕ) → segment_turn table peer r (outstanding ticket) 3 (Some (response_segment read_one 0 true three)) ≡ Err faults.PROTECTION_BOUNDS
ends_short table peer r ticket = refl

pub refuses_ends_early : RefusesEndsEarly
unfolding acts stream_acts openings story numbers_ahead place_near before_start
refuses_ends_early h =
    let r = (h (take 7 ends_early) (a (works seen.Passed)) [] refl).1 in
    let asks : Story = story_of 0 (acts A (take 4 ends_early)) in
    let t : Story = story_of 0 (acts A (take 7 ends_early)) in
    let s : Standing = standing 0 (acts A (take 7 ends_early)) in
    let kept = shown_stays asks (shows.Frame 0 request_frame) in
    let frame : Frame = standing_at (frame_start false 0) (intact short_ulpdu) in
    let next : next_frame t ≡ Some frame = comes_next t short_ulpdu kept.start kept.turns (comes_first asks (shows.Frame 0 request_frame) short_response refl refl ∙ short_came ∙ sym short_framed) (omega (arith, short_size)) in
    let same : r.frame ≡ frame = same_Some _ _ (sym r.is_next ∙ next) in
    let reads : s.reads ≡ outstanding (asks.whole % 2 ^ 64) = ap (λ (z : Story). z.reads) (asked_story asks refl refl) ∙ asked_reads asks 1 in
    let turn : turn_of s (placed frame) ≡ Err faults.PROTECTION_BOUNDS =
    turn_kept s frame (response_segment read_one 0 true three) short_carries ∙ ap (λ z. segment_turn s.table s.peer s.receiving z 3 (Some (response_segment read_one 0 true three))) reads ∙ ends_short s.table s.peer s.receiving (asks.whole % 2 ^ 64) in
    let wrong : seen.Passed ≡ seen.Fault faults.PROTECTION_BOUNDS = r.answer ∙ ap (λ f. seen_turned s.receiving (placed f) (turn_of s (placed f))) same ∙ ap (seen_turned s.receiving (placed frame)) turn in
    cc

-- ---- a Write's turn

pub write_ulpdu : Octets
write_ulpdu = (0xc1 ∷ 0x40 ∷ 1 ∷ 0 ∷ 0 ∷ 0 ∷ []) ++ replicate 8 0 ++ (0xaa ∷ [])

pub write_is : segment_octets (write_segment stag 0 0 true (0xaa ∷ [])) ≡ write_ulpdu
unfolding write_ulpdu segment_octets tagged_octets
write_is = refl

pub write_framed : frame_octets plain 0 write_ulpdu ≡ write_frame
unfolding write_ulpdu data_place data_index in_marker place_after marker_value span_start octet_at laid
write_framed = frame_is plain 0 write_ulpdu refl

pub write_came : in_order (taken_in nothing 0 write_frame) ≡ write_frame
unfolding taken_in held
write_came = refl

write_carries : read_segment write_ulpdu ≡ Some (write_segment stag 0 0 true (0xaa ∷ []))
write_carries = ap read_segment (sym write_is) ∙ read_segment-spelled (write_segment stag 0 0 true (0xaa ∷ [])) (record { ddp_version = omega arith; control = omega arith; stag = fits_one.sink; to = omega arith })

pub write_size : length write_ulpdu ≡ 15
unfolding write_ulpdu
write_size = refl

-- and is next where it came first
pub write_next : (t : Story) → t.start ≡ AtOnce plain → t.turns ≡ 0 → t.came ≡ taken_in nothing 0 write_frame → next_frame t ≡ Some (standing_at (frame_start false 0) (intact write_ulpdu))
write_next t start turns came = comes_next t write_ulpdu start turns (ap in_order came ∙ write_came ∙ sym write_framed) (omega (arith, write_size))

-- it leaves the Reads that are outstanding
leaves_reads : (t : Story) → t.start ≡ AtOnce plain → t.turns ≡ 0 → in_order t.came ≡ write_frame → next_reads t ≡ t.reads
leaves_reads t start turns came =
    let frame : Frame = standing_at (frame_start false 0) (intact write_ulpdu) in
    let next : next_frame t ≡ Some frame = comes_next t write_ulpdu start turns (came ∙ sym write_framed) (omega (arith, write_size)) in
    ap (λ o. option_map_or (λ f. reads_left t.reads (placed f)) o t.reads) next ∙ left_kept t.reads frame (write_segment stag 0 0 true (0xaa ∷ [])) write_carries

pub refuses_done_by_write : RefusesDoneByWrite
unfolding acts stream_acts openings story posted handed_kinds numbers_ahead place_near before_start
refuses_done_by_write h =
    let r = h (take 8 done_by_write) (a (works (seen.Done kinds.Read))) [] refl in
    let asks : Story = story_of 0 (acts A (take 4 done_by_write)) in
    let t : Story = story_of 0 (acts A (take 7 done_by_write)) in
    let kept = shown_stays asks (shows.Frame 0 request_frame) in
    let beyond : Story = story_of 0 (acts A (take 8 done_by_write)) in
    let answered : count_reads (ready_of beyond ++ Read read_one ∷ []) ≤ beyond.answered = subst (IsAnswered beyond (Read read_one ∷ [])) (sym (same_Some _ _ r.is)) r.answered in
    let left : next_reads t ≡ t.reads = leaves_reads t kept.start kept.turns (comes_first asks (shows.Frame 0 request_frame) write_frame refl refl ∙ write_came) in
    omega (arith, answered, count_reads-append (ready_of beyond) (Read read_one ∷ []), kept.answered, ap length left)

-- ---- Reads of an honest stream

unfoldable pub opened_at_once : Opening
opened_at_once = record { domain = 1; role = Preset; config = record { markers = false; crc = false; establishment = establishments.Plain; private = record { items = [] } }; shared = false }

pub honest : (run : Run) → ((x : End) → openings 0 (acts x run) ≡ opened_at_once ∷ []) → ((x : End) → (story_of 0 (acts x run)).strays ≡ false) → IsHonest 0 run
unfolding opened_at_once
honest run opened calm = record { opening = λ x. opened_at_once; opened = opened; fits = λ x. inl (refl, refl, refl, refl); calm = calm }

pub refuses_sinks_unfetched : RefusesSinksUnfetched
unfolding acts stream_acts openings story placings opened_at_once numbers_ahead place_near before_start
refuses_sinks_unfetched h =
    let r = h sinks_unfetched [] refl B 0 (honest sinks_unfetched opened calm) in
    omega (arith, (r.covers (record { stag = number_of stag; to = 0; octet = 0xaa })).most)
  where
    opened : (x : End) → openings 0 (acts x sinks_unfetched) ≡ opened_at_once ∷ []
    opened A = refl
    opened B = refl

    calm : (x : End) → (story_of 0 (acts x sinks_unfetched)).strays ≡ false
    calm A = refl
    calm B = refl

-- the answer to the Read of four octets
pub answered_whole : (t : Story) (w : Takes t read_one) → t.begun ≡ [] → t.answers ≡ []
    → (fetches_for (record t { turns = t.turns + 1; asked = next_asked t }) (next_asked t).unanswered first_four).answers ≡ record { request = read_one; octets = first_four } ∷ []
answered_whole t w none first =
    let next : Story = record t { turns = t.turns + 1; asked = next_asked t } in
    let whole : nat_eq (length t.begun + 4) w.asked.request.size ≡ true = λ i. nat_eq (length (none i) + 4) (w.request i).size in
    let answers : List Answer = t.answers ++ record { request = w.asked.request; octets = t.begun ++ first_four } ∷ [] in
    ap (λ z. (fetches_for next z first_four).answers) w.is
    ∙ ap (λ b. (cond b (record next { asked = record next.asked { unanswered = []; fetched = 0 }; answers = answers; begun = [] })
    (record next { asked = record next.asked { fetched = length t.begun + 4 }; begun = t.begun ++ first_four })).answers) whole
    ∙ (λ i. first i ++ record { request = w.request i; octets = none i ++ first_four } ∷ [])

pub refuses_done_unplaced : RefusesDoneUnplaced
unfolding acts stream_acts openings story finished_kinds placings opened_at_once numbers_ahead place_near before_start
refuses_done_unplaced h =
    let r = h done_unplaced [] refl B 0 (honest done_unplaced opened calm) in
    let cell : Cell = record { stag = number_of stag; to = 0; octet = 0x0a } in
    let answers = answered_whole (story_of 0 (acts B (take 8 done_unplaced))) (takes (story_of 0 (acts B (take 8 done_unplaced))) refl refl refl request_came) refl refl in
    let asks : Story = story_of 0 (acts A (take 3 done_unplaced)) in
    let unready : ready_of (story_of 0 (acts A done_unplaced)) ≡ [] = ap ready_in (shown_stays asks (shows.Frame 0 request_frame)).start in
    omega (
      arith,
      (r.covers cell).before,
      ap (λ z. count_writes cell (map faithful.laid (take (faithful.responses_done z 1) (story_of 0 (acts B done_unplaced)).answers))) unready,
      ap (λ z. count_writes cell (map faithful.laid (take 1 z))) answers,
    )
  where
    opened : (x : End) → openings 0 (acts x done_unplaced) ≡ opened_at_once ∷ []
    opened A = refl
    opened B = refl

    calm : (x : End) → (story_of 0 (acts x done_unplaced)).strays ≡ false
    calm A = (shown_stays (story_of 0 (acts A (take 3 done_unplaced))) (shows.Frame 0 request_frame)).strays
    calm B = (shown_stays (story_of 0 (acts B (take 9 done_unplaced))) (shows.Fetched 0 (frame_octets plain 0 (segment_octets (response_segment read_one 0 true first_four))) stag 0 first_four)).strays

pub refuses_done_unanswered : RefusesDoneUnanswered
unfolding acts stream_acts openings story finished_kinds opened_at_once numbers_ahead place_near before_start
refuses_done_unanswered h =
    let r = h done_unanswered [] refl B 0 (honest done_unanswered opened calm) in
    omega (arith, (r.covers (record { stag = 0; to = 0; octet = 0 })).answered)
  where
    opened : (x : End) → openings 0 (acts x done_unanswered) ≡ opened_at_once ∷ []
    opened A = refl
    opened B = refl

    calm : (x : End) → (story_of 0 (acts x done_unanswered)).strays ≡ false
    calm A = (shown_stays (story_of 0 (acts A (take 5 done_unanswered))) (shows.Frame 0 request_frame)).strays
    calm B = refl

-- ---- Writes of an honest stream

written_cell : Cell
written_cell = record { stag = number_of stag; to = 0; octet = 0xaa }

pub refuses_write_twice : RefusesWriteTwice
unfolding acts stream_acts openings story posted placings received opened_at_once written_cell numbers_ahead place_near before_start
refuses_write_twice h = let r = h writes_twice [] refl A 0 (honest writes_twice opened calm) written_cell in omega (arith, r.most)
  where
    opened : (x : End) → openings 0 (acts x writes_twice) ≡ opened_at_once ∷ []
    opened A = refl
    opened B = refl

    calm : (x : End) → (story_of 0 (acts x writes_twice)).strays ≡ false
    calm A = refl
    calm B = refl

pub refuses_send_before_write : RefusesSendBeforeWrite
unfolding acts stream_acts openings story posted placings received opened_at_once written_cell numbers_ahead place_near before_start
refuses_send_before_write h = let r = h receives_unwritten [] refl A 0 (honest receives_unwritten opened calm) written_cell in omega (arith, r.before 0 (omega arith))
  where
    opened : (x : End) → openings 0 (acts x receives_unwritten) ≡ opened_at_once ∷ []
    opened A = refl
    opened B = refl

    calm : (x : End) → (story_of 0 (acts x receives_unwritten)).strays ≡ false
    calm A = refl
    calm B = refl
