-- Each wrong run of a stream at rest breaks its law.
use Rattle.iw_ranges.specs.Nearest.{numbers_ahead, place_near, before_start}
use Rattle.std.proofs.Common.{inl, inr, subst, ◌≡◌, ℕ, zero, suc, ◌+◌, List, [], ◌∷◌, ◌++◌, length, take, cond, Some, None, true, false, refl, sym, ap, ◌∙◌, arith}
use Rattle.std.specs.Prelude.{◌&&◌, is_some, nat_eq, nat_lt}
use Rattle.std.specs.Option.{option_map_or}
use Rattle.iw_octets.specs.declared.message.Message.TheVariants as messages
use Rattle.iw_octets.specs.declared.segment.Segment.{Segment}
use Rattle.iw_octets.specs.Head.{untagged_octets}
use Rattle.iw_octets.specs.Stag.{number_of}
use Rattle.iw_octets.specs.Payload.{request_octets}
use Rattle.iw_octets.specs.Segment.{segment_octets, FitsSegment}
use Rattle.iw_fpdu.specs.Frame.{frame_octets}
use Rattle.iw_queues.specs.declared.request.Request.{Request}
use Rattle.iw_queues.specs.declared.request.Request.TheVariants.{Message as Posted, Read}
use Rattle.iw_queues.specs.Joined.{Cell, count_writes}
use Rattle.iw_queues.specs.Segments.{write_segment, send_segment}
use Rattle.iw_stream.specs.Ending.{last_word}
use Rattle.iw_stream.specs.Starting.{AtOnce, plain, rtr_in, first_place_out}
use Rattle.iw_events.specs.declared.call.End.{End}
use Rattle.iw_events.specs.declared.call.End.TheVariants.{A, B}
use Rattle.iw_events.specs.declared.act.Shown.TheVariants as shows
use Rattle.iw_laws.specs.Words.{Octets, acts, stream_acts, openings, ended, posted, received, sends, sent, placings}
use Rattle.iw_laws.specs.Turns.{Story, story, story_of, segment_out, sends_frame, is_last, says_farewell, story_shown}
use Rattle.std.proofs.lemmas.List.{append-nil}
use Rattle.iw_stream.specs.declared.answer.Role.TheVariants.{Preset}
use Rattle.iw_events.specs.declared.act.StreamAct.{StreamAct}
use Rattle.iw_events.specs.declared.act.StreamAct.TheVariants.{Work}
use Rattle.iw_events.specs.declared.act.Seen.TheVariants as seen
use Rattle.iw_laws.specs.Busy.{AreBusy}
use Rattle.iw_laws.specs.AtRest.{sent_whole}
use Rattle.iw_laws.specs.Sends.{ready_of}
use Rattle.iw_laws.specs.Faithful.{reads_among}
use Rattle.iw_laws.specs.WrongRuns.{Run, b, opens, stag, read_one, send_frame, write_frame, request_frame}
use Rattle.iw_laws.specs.RestRuns.{receives_nothing, receives_unsent, places_nothing, asks_nothing, RefusesNothingReceived, RefusesUnsentReceived, RefusesNothingPlaced, RefusesNothingAsked, KnowsSentWhole, passes, RefusesNoRest}
use Rattle.iw_laws.proofs.Ready.{ready_in}
use Rattle.iw_laws.proofs.Tracks.{shown_stays}
use Rattle.iw_laws.proofs.RefusedEarly.{send_ulpdu}
use Rattle.iw_laws.proofs.RefusedReads.{asked_story, request_came, goes_out, honest, opened_at_once, fits_one, write_is, write_framed, write_came, write_size}
use Rattle.iw_laws.proofs.RefusedPools.{send_framed, send_size, front_came}

-- ---- a frame that goes out first is the last of its message

whole_one : (t : Story) (octets : Octets) (segment : Segment Octets) → t.start ≡ AtOnce plain → last_word t.ending ≡ None → segment_out t 0 octets ≡ Some segment → is_last segment ≡ true → (story_shown t (shows.Frame 0 octets)).whole ≡ t.whole + 1
whole_one t octets segment start quiet out last =
    (λ i. (cond (nat_lt 0 (first_place_out (start i))) t (option_map_or (says_farewell t) (quiet i) (option_map_or (sends_frame t (is_some (rtr_in (start i)) && nat_eq 0 (first_place_out (start i)))) (out i) t))).whole)
    ∙ ap (λ b. cond b (t.whole + 1) t.whole) last

send_is : segment_octets (send_segment 1 false None 0 true (0x68 ∷ [])) ≡ send_ulpdu
unfolding send_ulpdu segment_octets untagged_octets
send_is = refl

send_out : (t : Story) → t.start ≡ AtOnce plain → segment_out t 0 send_frame ≡ Some (send_segment 1 false None 0 true (0x68 ∷ []))
send_out t start =
    let segment : Segment Octets = send_segment 1 false None 0 true (0x68 ∷ []) in
    let framed : frame_octets plain 0 (segment_octets segment) ≡ send_frame = ap (frame_octets plain 0) send_is ∙ send_framed in
    let fits : FitsSegment segment = record { ddp_version = omega arith; control = omega arith; tail = omega arith; queue = omega arith; msn = omega arith; mo = omega arith } in
    ap (segment_out t 0) (sym framed) ∙ goes_out t 0 segment start (omega arith) fits (omega (arith, ap length send_is, send_size))

write_out : (t : Story) → t.start ≡ AtOnce plain → segment_out t 0 write_frame ≡ Some (write_segment stag 0 0 true (0xaa ∷ []))
write_out t start =
    let segment : Segment Octets = write_segment stag 0 0 true (0xaa ∷ []) in
    let framed : frame_octets plain 0 (segment_octets segment) ≡ write_frame = ap (frame_octets plain 0) write_is ∙ write_framed in
    let fits : FitsSegment segment = record { ddp_version = omega arith; control = omega arith; stag = fits_one.sink; to = omega arith } in
    ap (segment_out t 0) (sym framed) ∙ goes_out t 0 segment start (omega arith) fits (omega (arith, ap length write_is, write_size))

-- ---- no Send is received

two_sends : List (Request Octets)
two_sends = Posted (messages.Send (0x68 ∷ []) false None) ∷ Posted (messages.Send (0x69 ∷ []) false None) ∷ []

pub refuses_nothing_received : RefusesNothingReceived
unfolding acts stream_acts openings story ended posted received sent placings opened_at_once numbers_ahead place_near before_start two_sends
refuses_nothing_received h =
    let past : Run = take 8 receives_nothing in
    let t : Story = story_of 0 (acts A (take 6 receives_nothing)) in
    let whole : (story_shown t (shows.Frame 0 send_frame)).whole ≡ 1 = whole_one t send_frame (send_segment 1 false None 0 true (0x68 ∷ [])) refl refl (send_out t refl) refl in
    let r = h past [] A 0 refl (honest past opened calm) (record { reads = record { running = refl; open_now = refl }; came = front_came }) in
    omega (arith, ap length r.sends_are, ap (λ n. length (sends (take n two_sends))) whole)
  where
    opened : (x : End) → openings 0 (acts x (take 8 receives_nothing)) ≡ opened_at_once ∷ []
    opened A = refl
    opened B = refl

    calm : (x : End) → (story_of 0 (acts x (take 8 receives_nothing))).strays ≡ false
    calm A = (shown_stays (story_of 0 (acts A (take 6 receives_nothing))) (shows.Frame 0 send_frame)).strays
    calm B = refl

pub knows_sent_whole : KnowsSentWhole
unfolding acts stream_acts openings story posted sent opened_at_once numbers_ahead place_near before_start two_sends
knows_sent_whole =
    let t : Story = story_of 0 (acts A (take 6 receives_nothing)) in
    let whole : (story_shown t (shows.Frame 0 send_frame)).whole ≡ 1 = whole_one t send_frame (send_segment 1 false None 0 true (0x68 ∷ [])) refl refl (send_out t refl) refl in
    record { whole = ap (λ n. take n two_sends) whole; came = record { reads = record { running = refl; open_now = refl }; came = front_came } }

-- ---- one is received that was not sent

pub refuses_unsent_received : RefusesUnsentReceived
unfolding acts stream_acts openings story ended posted received sent placings opened_at_once numbers_ahead place_near before_start two_sends
refuses_unsent_received h =
    let past : Run = take 10 receives_unsent in
    let t : Story = story_of 0 (acts A (take 6 receives_unsent)) in
    let whole : (story_shown t (shows.Frame 0 send_frame)).whole ≡ 1 = whole_one t send_frame (send_segment 1 false None 0 true (0x68 ∷ [])) refl refl (send_out t refl) refl in
    let r = h past [] A 0 refl (honest past opened calm) (record { reads = record { running = refl; open_now = refl }; came = front_came }) in
    omega (arith, ap length r.sends_are, ap (λ n. length (sends (take n two_sends))) whole)
  where
    opened : (x : End) → openings 0 (acts x (take 10 receives_unsent)) ≡ opened_at_once ∷ []
    opened A = refl
    opened B = refl

    calm : (x : End) → (story_of 0 (acts x (take 10 receives_unsent))).strays ≡ false
    calm A = (shown_stays (story_of 0 (acts A (take 6 receives_unsent))) (shows.Frame 0 send_frame)).strays
    calm B = refl

-- ---- a Write is not placed

the_cell : Cell
the_cell = record { stag = number_of stag; to = 0; octet = 0xaa }

pub refuses_nothing_placed : RefusesNothingPlaced
unfolding acts stream_acts openings story ended posted received sent placings opened_at_once numbers_ahead place_near before_start the_cell
refuses_nothing_placed h =
    let past : Run = take 7 places_nothing in
    let t : Story = story_of 0 (acts A (take 5 places_nothing)) in
    let whole : (story_shown t (shows.Frame 0 write_frame)).whole ≡ 1 = whole_one t write_frame (write_segment stag 0 0 true (0xaa ∷ [])) refl refl (write_out t refl) refl in
    let r = h past [] A 0 refl (honest past opened calm) (record { reads = record { running = refl; open_now = refl }; came = write_came }) in
    let one : List (Request Octets) = Posted (messages.Write stag 0 (0xaa ∷ [])) ∷ [] in
    omega (arith, r.writes the_cell, ap (λ n. count_writes the_cell (take n one)) whole)
  where
    opened : (x : End) → openings 0 (acts x (take 7 places_nothing)) ≡ opened_at_once ∷ []
    opened A = refl
    opened B = refl

    calm : (x : End) → (story_of 0 (acts x (take 7 places_nothing))).strays ≡ false
    calm A = (shown_stays (story_of 0 (acts A (take 5 places_nothing))) (shows.Frame 0 write_frame)).strays
    calm B = refl

-- ---- a request is not taken up

pub refuses_nothing_asked : RefusesNothingAsked
unfolding acts stream_acts openings story ended posted received sent placings opened_at_once numbers_ahead place_near before_start request_octets
refuses_nothing_asked h =
    let past : Run = take 7 asks_nothing in
    let t : Story = story_of 0 (acts A (take 5 asks_nothing)) in
    let whole : (story_shown t (shows.Frame 0 request_frame)).whole ≡ 1 = ap (λ (z : Story). z.whole) (asked_story t refl refl) in
    let unready : ready_of (story_shown t (shows.Frame 0 request_frame)) ≡ [] = ap ready_in (shown_stays t (shows.Frame 0 request_frame)).start in
    let messages : sent_whole (story_shown t (shows.Frame 0 request_frame)) (Read read_one ∷ []) ≡ Read read_one ∷ [] = ap (λ n. take n (Read read_one ∷ [])) whole in
    let r = h past [] A 0 refl (honest past opened calm) (record { reads = record { running = refl; open_now = refl }; came = request_came }) in
    elim r.asked [
      | inl asked ↦ omega (arith, ap length asked, ap length (λ i. reads_among (unready i ++ messages i)))
      | inr nothing ↦ omega (arith, ap length nothing.1, ap length messages)
    ]
  where
    opened : (x : End) → openings 0 (acts x (take 7 asks_nothing)) ≡ opened_at_once ∷ []
    opened A = refl
    opened B = refl

    calm : (x : End) → (story_of 0 (acts x (take 7 asks_nothing))).strays ≡ false
    calm A = (shown_stays (story_of 0 (acts A (take 5 asks_nothing))) (shows.Frame 0 request_frame)).strays
    calm B = refl

-- ---- work never comes to rest

passed : ℕ → List (StreamAct Octets)
passed zero = []
passed (suc k) = Work seen.Passed ∷ passed k

passes_are : (k : ℕ) → stream_acts 0 (acts B (passes k)) ≡ passed k
unfolding passes passed acts stream_acts
passes_are zero = refl
passes_are (suc k) = ap (λ z. Work seen.Passed ∷ z) (passes_are k)

length-passed : (k : ℕ) → length (passed k) ≡ k
unfolding passed
length-passed zero = refl
length-passed (suc k) = ap suc (length-passed k)

passed_busy : (k : ℕ) → AreBusy (passed k)
unfolding passed
passed_busy zero = tt
passed_busy (suc k) = (record { step = seen.Passed; is = refl; busy = λ e. cc; runs = refl }, passed_busy k)

pub refuses_no_rest : RefusesNoRest
unfolding acts stream_acts openings ended story posted
refuses_no_rest h =
    let r = h (opens b Preset) (passes 4098) [] (ap (λ z. opens b Preset ++ z) (sym (append-nil (passes 4098)))) B 0 refl refl (subst AreBusy (sym (passes_are 4098)) (passed_busy 4098)) in
    omega (arith, r.used, ap length (passes_are 4098), length-passed 4098)
