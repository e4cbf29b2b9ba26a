-- Each wrong run of messages that go out breaks its law.
use Rattle.iw_ranges.specs.Nearest.{numbers_ahead, place_near, before_start}
use Rattle.std.proofs.Common.{◌≡◌, ℕ, Bool, List, [], ◌∷◌, ◌++◌, length, map, take, cond, Option, Some, None, true, false, refl, sym, ap, ◌∙◌, arith, inl, inr}
use Rattle.std.specs.Prelude.{nat_lt}
use Rattle.std.specs.Option.{option_map_or}
use Rattle.std.proofs.lemmas.Bool.{false≢true, true≢false}
use Rattle.std.proofs.lemmas.List.{append-nil}
use Rattle.std.proofs.lemmas.Option.{none-some}
use Rattle.iw_octets.specs.declared.message.Message.TheVariants as messages
use Rattle.iw_octets.specs.declared.segment.Segment.{Segment}
use Rattle.iw_octets.specs.Segment.{segment_octets}
use Rattle.iw_fpdu.specs.Sequence.{sequence}
use Rattle.iw_queues.specs.declared.request.Kind.TheVariants as kinds
use Rattle.iw_queues.specs.declared.request.Request.{Request}
use Rattle.iw_queues.specs.declared.request.Request.TheVariants.{Message as Posted}
use Rattle.iw_queues.specs.Segments.{first_numbers}
use Rattle.iw_stream.specs.Ending.{last_word}
use Rattle.iw_stream.specs.Starting.{AtOnce, plain, sending, own_frame, first_place_out}
use Rattle.iw_events.specs.declared.call.End.TheVariants.{A}
use Rattle.iw_events.specs.declared.act.Shown.TheVariants as shows
use Rattle.iw_laws.specs.Words.{Octets, acts, stream_acts, openings, ended, sent, posted}
use Rattle.iw_laws.specs.Turns.{Answer, Story, story, story_of, segment_out, sends_frame, is_rtr, says_farewell, story_shown}
use Rattle.iw_laws.specs.Merged.{Item, Post, Response, AreMerged, posts_in, answers_in}
use Rattle.iw_laws.proofs.Ready.{ready_in}
use Rattle.iw_laws.specs.Sends.{AreFirstFrames, AreAllFrames, asked_of, farewells, Over, Closed, Silent, AllSent, ReadWaits}
use Rattle.iw_laws.specs.WrongRuns.{a, send_frame, sends_unposted, emits_nothing, holds_back}
use Rattle.iw_laws.specs.WrongRuns.{RefusesUnpostedSend, RefusesHeldBack}
use Rattle.iw_laws.proofs.Messages.{nothing_sent, no_frames}
use Rattle.iw_laws.proofs.Tracks.{shown_stays}

-- ---- a Send that was not posted

-- with no message and no response there is no item
no_items : (items : List Item) → posts_in items ≡ [] → map (λ (a : Answer). a.request) (answers_in items) ≡ [] → items ≡ []
no_items [] posts answers = refl
no_items (Post message ∷ items) posts answers = absurd (omega (arith, ap length posts))
no_items (Response answer ∷ items) posts answers = absurd (omega (arith, ap length answers))

-- and no segment
no_segments : (items : List Item) (us vs : List (Segment Octets)) → AreMerged first_numbers 0 items (us ++ vs) → items ≡ [] → us ≡ []
no_segments [] [] vs carry none = refl
no_segments [] (u ∷ us) vs carry none = absurd (omega (arith, ap length carry))
no_segments (item ∷ items) us vs carry none = absurd (omega (arith, ap length none))

-- a frame that is no Terminate leaves none that went out
pub no_farewell : (t : Story) (from : ℕ) (octets : Octets) → last_word t.ending ≡ None → (story_shown t (shows.Frame from octets)).farewell ≡ t.farewell
no_farewell t from octets quiet = go (nat_lt from (first_place_out t.start)) (last_word t.ending) (segment_out t from octets) (is_rtr t from) quiet
  where
    go : (first : Bool) (w : Option Octets) (o : Option (Segment Octets)) (ready : Bool) → w ≡ None → (cond first t (option_map_or (says_farewell t) w (option_map_or (sends_frame t ready) o t))).farewell ≡ t.farewell
    go true w o ready h = refl
    go false (Some payload) o ready h = absurd (none-some _ (sym h))
    go false None None ready h = refl
    go false None (Some segment) true h = refl
    go false None (Some segment) false h = refl

-- where nothing was posted nor asked for, nothing goes out past the start-up frame
none_go_out : (t : Story) (octets : Octets) → t.start ≡ AtOnce plain → asked_of t ≡ [] → t.farewell ≡ None → AreFirstFrames t octets [] → octets ≡ []
none_go_out t octets start asks quiet e =
    let none : e.begun ≡ [] = no_segments e.items e.begun e.later e.carry (no_items e.items (e.posts ∙ ap (λ z. ready_in z ++ []) start) (e.answers ∙ asks)) in
    elim e.framed [
      | inl nothing ↦ nothing.0
      | inr framed ↦ framed ∙ (λ i. own_frame (start i) ++ sequence (sending (start i)) 0 (map segment_octets (none i ++ farewells (quiet i)))) ∙ no_frames plain
    ]

pub refuses_unposted_send : RefusesUnpostedSend
unfolding acts stream_acts openings story sent posted numbers_ahead place_near before_start
refuses_unposted_send h =
    let before : Story = story_of 0 (acts A (take 2 sends_unposted)) in
    let t : Story = story_of 0 (acts A sends_unposted) in
    let kept = shown_stays before (shows.Frame 0 send_frame) in
    let none : send_frame ≡ [] = none_go_out t send_frame kept.start kept.asked (no_farewell before 0 send_frame refl) (h sends_unposted [] (sym (append-nil sends_unposted)) A 0) in
    omega (arith, ap length none)

-- ---- a Send that is held back

send_posted : Request Octets
send_posted = Posted (messages.Send (0x68 ∷ []) false None)

-- not all frames of a message are none
some_frames : (t : Story) → AreAllFrames t [] (send_posted ∷ []) → ⊥
unfolding send_posted
some_frames t e = nothing_sent t (send_posted ∷ []) 0 kinds.Send (record {
  message = send_posted;
  is = refl;
  kind_is = refl;
  sent = record { items = e.items; posts = e.posts; first = []; frames = e.frames; begins = ([], refl) };
  answered = tt;
})

pub refuses_held_back : RefusesHeldBack
unfolding acts stream_acts openings ended story sent posted send_posted numbers_ahead place_near before_start
refuses_held_back h =
    let t : Story = story_of 0 (acts A (take 3 holds_back)) in
    elim (h (take 3 holds_back) (a emits_nothing) [] refl).2 [
      | Over over ↦ false≢true over
      | Closed closed ↦ true≢false closed
      | Silent silent ↦ false≢true silent
      | AllSent all ↦ some_frames t all
      | ReadWaits k request is full frames ↦ absurd (omega (arith, full))
    ]
