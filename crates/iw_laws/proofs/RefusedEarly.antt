-- The wrong runs of frames that are placed before their turn, or once, break their laws.
use Rattle.iw_ranges.specs.Nearest.{numbers_ahead, place_near, before_start}
use Rattle.std.proofs.Common.{◌≡◌, ℕ, ◌+◌, ◌<◌, List, [], ◌∷◌, ◌++◌, map, take, drop, replicate, Some, None, true, false, Ok, Err, refl, sym, ap, ◌∙◌, subst, arith, inl, inr}
use Rattle.std.specs.Prelude.{slice_get, ◌||◌, is_some, Result}
use Rattle.std.specs.List.{Contains, list_all, range_with_len}
use Rattle.std.specs.Option.{option_map, option_or}
use Rattle.std.proofs.lemmas.List.{append-nil}
use Rattle.std.proofs.lemmas.Option.{same_Some}
use Rattle.iw_octets.specs.declared.fault.Fault.{Fault}
use Rattle.iw_octets.specs.declared.fault.TheConstants.Fault as faults
use Rattle.iw_octets.specs.Head.{read_tagged, read_untagged}
use Rattle.iw_octets.specs.Segment.{read_segment}
use Rattle.iw_ranges.specs.Arrived.{Arrived, taken_in, advanced, held, in_order, has_come}
use Rattle.iw_fpdu.specs.Places.{data_place, data_index, in_marker, place_after, span_start, frame_start}
use Rattle.iw_fpdu.specs.Frame.{frame_octets, laid, octet_at, marker_value}
use Rattle.iw_fpdu.specs.declared.layout.Layout.{Layout}
use Rattle.iw_fpdu.specs.Reading.{data_at, mismatch_at, markers_agree, crc_agrees}
use Rattle.iw_fpdu.specs.Found.{is_whole}
use Rattle.iw_fpdu.specs.Sequence.{intact}
use Rattle.iw_fpdu.proofs.Came.{tells_whole}
use Rattle.iw_fpdu.proofs.Octets.{all_each}
use Rattle.iw_fpdu.proofs.Follows.{frames_follow}
use Rattle.iw_fpdu.proofs.Sequences.{written_is_first}
use Rattle.iw_fpdu.proofs.Written.{frame_is}
use Rattle.iw_locate.specs.Free.{Scene, scene_of, IsFree, front_of}
use Rattle.iw_stream.specs.declared.landing.Landing.{Landing}
use Rattle.iw_stream.specs.declared.landing.Landing.TheVariants as landing
use Rattle.iw_stream.specs.declared.landing.Turning.TheVariants as turning
use Rattle.arrayvec.specs.ArrayVec.{ArrayVec}
use Rattle.iw_stream.specs.Frames.{Frame, EarlyRecord, standing_at, placed, placed_at}
use Rattle.iw_untagged.specs.Receiving.{Receiving, nothing_received, with_buffer, buffer_fault}
use Rattle.iw_stream.specs.Judging.{Standing, verdict, fault_or, turn_of}
use Rattle.iw_stream.specs.Starting.{AtOnce, plain, expecting, first_place_in}
use Rattle.iw_events.specs.declared.call.End.TheVariants.{B}
use Rattle.iw_events.specs.declared.act.Seen.TheVariants as seen
use Rattle.iw_laws.specs.Words.{Octets, acts, stream_acts, openings, opening_of, ended}
use Rattle.iw_laws.specs.Turns.{Story, Located, story, story_of, was_placed, standing, next_frame, frames_in, located_of, judged_frame, early_frame, seen_turned}
use Rattle.iw_laws.specs.Turns as turns
use Rattle.iw_laws.specs.Early.{HasPlace, IsJudgedEarly}
use Rattle.iw_laws.specs.Once.{Span, NoneOverlap, judged_span, spans_placed, span_of}
use Rattle.iw_laws.specs.WrongRuns.{b, works, write_frame, send_frame}
use Rattle.iw_laws.specs.EarlyRuns.{idles_while_free, tries_send, checks_again, places_twice, RefusesIdleWhileFree, RefusesTriedSend, RefusesSecondCheck, RefusesSecondPlacement}
use Rattle.iw_laws.proofs.Judged.{frame_in, open_at}
use Rattle.iw_laws.proofs.Located.{located_first}

-- ---- the frame of the Write

write_ulpdu : Octets
write_ulpdu = (0xc1 ∷ 0x40 ∷ 1 ∷ 0 ∷ 0 ∷ 0 ∷ []) ++ replicate 8 0 ++ (0xaa ∷ [])

framed : frame_octets plain 0 write_ulpdu ≡ write_frame
unfolding write_ulpdu data_place data_index in_marker place_after marker_value span_start octet_at laid
framed = frame_is plain 0 write_ulpdu refl

the_frame : Frame
the_frame = standing_at (frame_start false 0) (intact write_ulpdu)

comes_next : (t : Story) → t.start ≡ AtOnce plain → t.turns ≡ 0 → in_order t.came ≡ write_frame → next_frame t ≡ Some the_frame
unfolding the_frame write_ulpdu
comes_next t start at_first came =
    let octets : Octets = frame_octets plain 0 write_ulpdu ++ [] in
    let all : in_order t.came ≡ octets = came ∙ sym framed ∙ sym (append-nil (frame_octets plain 0 write_ulpdu)) in
    let frames : frames_in t ≡ located_of plain 0 octets = λ i. located_of (expecting (start i)) 0 (drop (first_place_in (start i)) (all i)) in
    let first = located_first plain 0 octets (intact write_ulpdu) [] (frames_follow.first false) (written_is_first plain 0 write_ulpdu [] (frames_follow.first false) (omega arith)) in
    λ i. option_map (λ (f : Located). f.frame) (slice_get ((frames ∙ first) i) (at_first i))

write_came : in_order (taken_in (record { floor = 0; cells = [] }) 0 write_frame) ≡ write_frame
unfolding taken_in held
write_came = refl

-- ---- a second check

turns_freely : (s : Standing) → turn_of s (placed the_frame) ≡ Ok turning.Passed
unfolding the_frame write_ulpdu read_segment read_tagged
turns_freely s = refl

pub refuses_second_check : RefusesSecondCheck
unfolding acts stream_acts openings story numbers_ahead place_near before_start
refuses_second_check h =
    let before : Story = story_of 0 (acts B (take 4 checks_again)) in
    let t : Story = story_of 0 (acts B (take 6 checks_again)) in
    let s : Standing = standing 0 (acts B (take 6 checks_again)) in
    let was : was_placed t ≡ true = ap (λ o. is_some o || is_some (placed_at t.early (front_of (turns.scene t)))) (comes_next before refl refl write_came) in
    let r = h (take 6 checks_again) (b (works (seen.Fault faults.TAGGED_INVALID_STAG))) [] refl was the_frame (comes_next t refl refl write_came) in
    let wrong : seen.Fault faults.TAGGED_INVALID_STAG ≡ seen.Passed = r.answer ∙ ap (seen_turned s.receiving (placed the_frame)) (turns_freely s) in
    cc wrong

-- ---- a second placement

pub overlaps_itself : (x : Span) (known : List Span) → x.from < x.to → Some x ∷ Some x ∷ [] ≡ map Some known → NoneOverlap known → ⊥
overlaps_itself x [] some e apart = cc e
overlaps_itself x (y ∷ []) some e apart = cc e
overlaps_itself x (y ∷ z ∷ known) some e apart =
    let first : Some x ≡ Some y = cc e in
    let second : Some x ≡ Some z = cc e in
    let one : x ≡ y = same_Some x y first in
    let two : x ≡ z = same_Some x z second in
    let from_y = ap (λ (s : Span). s.from) one in
    let to_y = ap (λ (s : Span). s.to) one in
    let from_z = ap (λ (s : Span). s.from) two in
    let to_z = ap (λ (s : Span). s.to) two in
    elim (apart.0 z (0, omega arith, refl)) [ inl before ↦ omega (arith, before, from_z, to_y, some) | inr past ↦ omega (arith, past, from_y, to_z, some) ]

the_span : Span
the_span = record { from = 0; to = 24 }

span_is : span_of plain the_frame ≡ the_span
unfolding the_frame the_span write_ulpdu span_start place_after data_place data_index
span_is = refl

judged_there : (t : Story) → t.start ≡ AtOnce plain → t.turns ≡ 0 → in_order t.came ≡ write_frame → judged_span t ≡ Some the_span
judged_there t start at_first came =
    ap (λ o. option_map (span_of (expecting t.start)) (option_or o (early_frame t))) (comes_next t start at_first came) ∙ ap (λ z. Some (span_of (expecting z) the_frame)) start ∙ ap Some span_is

spans_are : spans_placed (opening_of 0 (acts B places_twice)) (stream_acts 0 (acts B places_twice)) ≡ Some the_span ∷ Some the_span ∷ []
unfolding acts stream_acts openings story spans_placed numbers_ahead place_near before_start
spans_are =
    let t : Story = story_of 0 (acts B (take 4 places_twice)) in
    let u : Story = story_of 0 (acts B (take 5 places_twice)) in
    λ i. judged_there t refl refl write_came i ∷ judged_there u refl refl write_came i ∷ []

pub refuses_second_placement : RefusesSecondPlacement
unfolding the_span
refuses_second_placement h =
    let w = h.once places_twice [] (sym (append-nil places_twice)) B 0 in
    overlaps_itself the_span w.known (omega arith) (sym spans_are ∙ w.are) w.apart

-- ---- idle, though a frame can be judged

the_came : Arrived
the_came = taken_in (record { floor = 0; cells = [] }) 512 ((0 ∷ 0 ∷ 0 ∷ 0 ∷ []) ++ write_frame)

marker_came : list_all (λ q. has_come the_came (0 + q)) (range_with_len 512 4) ≡ true
unfolding the_came taken_in
marker_came = refl

frame_came : is_whole the_came true 0 516 ≡ true
unfolding the_came taken_in is_whole span_start place_after data_place data_index
frame_came = refl

no_record : (rs : List EarlyRecord) → rs ≡ [] → (r : EarlyRecord) → Contains rs r → ⊥
no_record rs none r within = go (subst (λ xs. Contains xs r) none within)
  where
    go : Contains [] r → ⊥
    go (k, lt, is) = omega (arith, lt)

free_there : IsFree (scene_of {T = ArrayVec ℕ} (record { markers = true; crc = false }) 0 the_came []) 516
unfolding the_came taken_in is_whole span_start place_after data_place data_index in_marker
free_there = record {
  found = inl (
    512,
    record { marker = refl; came = λ q low high. all_each (λ p. has_come the_came (0 + p)) 512 4 q marker_came low (omega (arith, high)); outside = λ r within is_placed over. no_record [] refl r within },
    inl (refl, refl),
  );
  open_ = record {
    start = record { aligned = refl; outside = refl };
    whole = (tells_whole the_came true 0 516).0 frame_came;
    past = omega arith;
    other = λ e. omega (arith, e);
    clear = λ r within over. no_record [] refl r within;
  };
}

scene_there : turns.scene (story_of 0 (acts B (take 3 idles_while_free))) ≡ scene_of {T = ArrayVec ℕ} (record { markers = true; crc = false }) 0 the_came []
unfolding the_came acts stream_acts openings story taken_in advanced numbers_ahead place_near before_start
scene_there = refl

pub refuses_idle_while_free : RefusesIdleWhileFree
unfolding acts stream_acts openings ended story numbers_ahead place_near before_start
refuses_idle_while_free h =
    elim (h (take 3 idles_while_free) (b (works seen.Idle)) [] refl refl refl refl) [
      | inl none ↦ none 516 (subst (λ (v : Scene (ArrayVec ℕ)). IsFree v 516) (sym scene_there) free_there)
      | inr full ↦ omega (arith, full)
    ]

-- ---- a Send is left, though its buffer is posted

unfoldable pub layout_marked : Layout
layout_marked = record { markers = true; crc = false }

unfoldable pub send_came : Arrived
send_came = taken_in (record { floor = 0; cells = [] }) 512 ((0 ∷ 0 ∷ 0 ∷ 0 ∷ []) ++ send_frame)

unfoldable pub send_ulpdu : Octets
send_ulpdu = (0x41 ∷ 0x43 ∷ []) ++ replicate 11 0 ++ (1 ∷ 0 ∷ 0 ∷ 0 ∷ 0 ∷ 0x68 ∷ [])

the_send : Frame
the_send = record { start = 516; mismatch = None; ulpdu = send_ulpdu }

send_scene : turns.scene (story_of 0 (acts B (take 4 tries_send))) ≡ scene_of {T = ArrayVec ℕ} layout_marked 0 send_came []
unfolding send_came layout_marked acts stream_acts openings story taken_in advanced numbers_ahead place_near before_start
send_scene = refl

send_read : frame_in (scene_of {T = ArrayVec ℕ} layout_marked 0 send_came []) 516 ≡ the_send
unfolding the_send send_ulpdu send_came layout_marked taken_in data_at mismatch_at markers_agree crc_agrees marker_value span_start place_after data_place data_index
send_read = refl

pub send_judged : (s : Standing) (start : ℕ) → verdict s (record { start = start; mismatch = None; ulpdu = send_ulpdu }) ≡ fault_or (buffer_fault s.receiving 1 0 1) (landing.Send 1 0 1)
unfolding send_ulpdu read_segment read_untagged
send_judged s start = refl

pub send_lands : (s : Standing) (r : Receiving) (start : ℕ) → s.receiving ≡ r → buffer_fault r 1 0 1 ≡ None → verdict s (record { start = start; mismatch = None; ulpdu = send_ulpdu }) ≡ Ok (landing.Send 1 0 1)
send_lands s r start there room =
    send_judged s start ∙ ap (λ z. fault_or (buffer_fault z 1 0 1) (landing.Send 1 0 1)) there ∙ ap (λ o. fault_or o (landing.Send 1 0 1)) room

-- a frame that is tried stands where the step says
tried_at : (t : Story) (s : Standing) (place : ℕ) → (j : IsJudgedEarly t s (seen.Tried place)) → place ≡ first_place_in t.start + j.frame.start
tried_at t s place j = go (verdict s j.frame) refl
  where
    tried : ((at : Landing) → verdict s j.frame ≡ Ok at → HasPlace at → ⊥) → place ≡ first_place_in t.start + j.frame.start
    tried none = let e : seen.Tried place ≡ seen.Tried (first_place_in t.start + j.frame.start) = j.left (λ can. none can.0 can.1 can.2) in cc e

    go : (r : Result Landing Fault) → verdict s j.frame ≡ r → place ≡ first_place_in t.start + j.frame.start
    go (Err fault) e = tried (λ at is there. let no : Err fault ≡ Ok at = sym e ∙ is in cc no)
    go (Ok (landing.Write at)) e = absurd (cc (j.placed (landing.Write at) e tt))
    go (Ok (landing.Response at)) e = absurd (cc (j.placed (landing.Response at) e tt))
    go (Ok (landing.Send msn mo len)) e = absurd (cc (j.placed (landing.Send msn mo len) e tt))
    go (Ok (landing.Request request)) e =
        tried (λ at is there. let same : Ok at ≡ Ok (landing.Request request) = sym is ∙ e in let lands : at ≡ landing.Request request = cc same in subst HasPlace lands there)
    go (Ok (landing.Terminate fault)) e =
        tried (λ at is there. let same : Ok at ≡ Ok (landing.Terminate fault) = sym is ∙ e in let lands : at ≡ landing.Terminate fault = cc same in subst HasPlace lands there)

pub never_tried : (t : Story) (s : Standing) (r : Receiving) → turns.scene t ≡ scene_of {T = ArrayVec ℕ} layout_marked 0 send_came [] → first_place_in t.start ≡ 0 → s.receiving ≡ r → buffer_fault r 1 0 1 ≡ None → IsJudgedEarly t s (seen.Tried 516) → ⊥
unfolding the_send
never_tried t s r scene_is first there room j =
    let start : j.frame.start ≡ 516 = omega (arith, tried_at t s 516 j, first) in
    let o = open_at (turns.scene t) j.frame (omega arith) j.lowest in
    let frame : j.frame ≡ the_send = o.is ∙ (λ i. frame_in (scene_is i) (start i)) ∙ send_read in
    let lands : verdict s j.frame ≡ Ok (landing.Send 1 0 1) = ap (verdict s) frame ∙ send_lands s r 516 there room in
    let wrong : seen.Tried 516 ≡ seen.Buffered 1 0 1 = j.placed (landing.Send 1 0 1) lands tt in
    cc wrong

pub refuses_tried_send : RefusesTriedSend
unfolding acts stream_acts openings story numbers_ahead place_near before_start
refuses_tried_send h =
    never_tried (story_of 0 (acts B (take 4 tries_send))) (standing 0 (acts B (take 4 tries_send))) (with_buffer nothing_received (0 ∷ [])) send_scene refl refl refl
    (h (take 4 tries_send) (b (works (seen.Tried 516))) [] refl)
