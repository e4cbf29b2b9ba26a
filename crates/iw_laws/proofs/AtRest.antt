-- Where all came that the other end sent, and there is nothing to do: each frame had its turn, and so all messages have arrived that were sent whole.
use Rattle.std.proofs.Common.{◌≡◌, ◌⊎◌, inl, inr, ℕ, ◌+◌, ◌≤◌, List, [], ◌∷◌, ◌++◌, length, map, take, drop, Bool, true, Option, Some, None, refl, sym, ap, ◌∙◌, subst, arith, length-append}
use Rattle.std.specs.Prelude.{All, slice_get}
use Rattle.std.specs.Option.{option_map}
use Rattle.std.proofs.lemmas.Bool.{true≢false}
use Rattle.std.proofs.lemmas.List.{append-nil, length-map, drop_at, take-append-drop}
use Rattle.std.proofs.lemmas.Option.{none-some, slice_get_cases}
use Rattle.std.proofs.Math.Seq.{take-append-add}
use Rattle.iw_octets.specs.declared.segment.Segment.{Segment}
use Rattle.iw_octets.specs.Segment.{read_segment, segment_octets}
use Rattle.iw_ranges.specs.Arrived.{in_order}
use Rattle.iw_ranges.specs.InOrder.{IsOf}
use Rattle.iw_fpdu.specs.declared.layout.Layout.{Layout}
use Rattle.iw_fpdu.specs.Frame.{max_sent}
use Rattle.iw_fpdu.specs.Sequence.{intact, sequence}
use Rattle.iw_fpdu.proofs.Follows.{frames_follow}
use Rattle.iw_fpdu.proofs.Sequences.{frames_written}
use Rattle.iw_queues.specs.declared.request.Request.{Request}
use Rattle.iw_queues.specs.Joined.{Cell, joined, count_writes, count_segments}
use Rattle.iw_queues.specs.Joined as queues
use Rattle.iw_queues.specs.Segments.{first_numbers}
use Rattle.iw_stream.specs.Starting.{StartState, AtOnce, Unheard, Heard, is_open, awaits_frame, expecting, first_place_in}
use Rattle.iw_stream.specs.Stream.{StreamState}
use Rattle.iw_events.specs.declared.act.StreamAct.{StreamAct}
use Rattle.iw_events.specs.declared.act.Entry.{Entry}
use Rattle.iw_laws.specs.Words.{Octets, other, acts, stream_acts, received, placings, written, sunk}
use Rattle.iw_laws.specs.Turns.{Story, Located, frames_in, located_of, next_frame, ReadsFrames}
use Rattle.iw_laws.specs.Merged.{posts_in}
use Rattle.iw_laws.specs.Sends.{asked_of, farewells, ready_of}
use Rattle.iw_laws.specs.Faithful.{reads_among}
use Rattle.iw_laws.specs.Rest.{HasRest, Over, AwaitsFrame, AwaitsAnswer, NoFrame}
use Rattle.iw_laws.specs.AtRest.{AreAsked, sent_whole, idles, HaveArrived, AllArrived}
use Rattle.iw_laws.specs.Rules.{FitsPosted}
use Rattle.iw_laws.proofs.States.{Connected}
use Rattle.iw_laws.proofs.Lists.{Each, each-both, each-first}
use Rattle.iw_laws.proofs.Tales.{Tale}
use Rattle.iw_laws.proofs.Located.{frames_at, located_are}
use Rattle.iw_laws.proofs.FirstSent.{read_intact}
use Rattle.iw_laws.proofs.Joins.{begun, told, joined-append, count-append, count_responses, responses-append, count_ended, ended-append, requests_in, requests-append}
use Rattle.iw_laws.proofs.Tracks.{Track, first_is}
use Rattle.iw_laws.proofs.Reached.{Firsts, firsts}
use Rattle.iw_laws.proofs.Ready.{ready_in}
use Rattle.iw_laws.proofs.Counts.{count_last}
use Rattle.iw_laws.proofs.Owned.{Emits, out_of}
use Rattle.iw_laws.proofs.Fills.{Fills}
use Rattle.iw_laws.proofs.Heard.{Clear, clears}
use Rattle.iw_laws.proofs.Responses.{AnswerFits, SinkFits, ready_fit, sent_ended, sent_fits, sent_responses}
use Rattle.iw_laws.proofs.SentWhole.{AreSentIn, are_sent_in}
use Rattle.iw_laws.proofs.Delivered.{reread, all_short, read_again, joined-plain, count-plain, plain-reread, ready_sends, ready_writes, sends_whole, whole_of, received_are}
use Rattle.iw_laws.proofs.Pools.{held, tale_seen as tale}
use Rattle.iw_laws.proofs.Whole.{Seen as BothSeen}
use Rattle.iw_laws.proofs.Runs.{Run, Moment, seen_then}
use Rattle.iw_laws.proofs.Placed.{requests-reread, sinks_fit, no_requests, no_responses, no_ended, farewell_fits, all_same}
use Rattle.iw_laws.proofs.Laws.{fitting, answering_all, idle_at_rest}

-- ---- frames

nothing : {A : Type 0} (xs : List A) → length xs ≡ 0 → xs ≡ []
nothing [] e = refl
nothing (x ∷ xs) e = absurd (omega (arith, e))

unmapped : {A B : Type 0} (f : A → B) (o : Option A) → option_map f o ≡ None → o ≡ None
unmapped f None e = refl
unmapped f (Some x) e = absurd (none-some _ (sym e))

past_all : (fs : List Located) (n : ℕ) → slice_get fs n ≡ None → length fs ≤ n
past_all fs n none = elim (slice_get_cases fs n).1 [
  | inl some ↦ absurd (none-some _ (sym none ∙ some.2))
  | inr past ↦ past.0
]

-- where the frames that came are all that were sent, and none is next, each had its turn
all_turned : (s : StreamState) (t : Tale) (k : Track s t) (us : List Octets) (ss : List (Segment Octets)) → All (λ u. length u ≤ max_sent) us → map read_segment us ≡ map Some ss → in_order t.story.came ≡ k.intro ++ sequence (expecting s.start) 0 us
    → IsOf t.story.came (k.intro ++ sequence (expecting s.start) 0 us) → next_frame t.story ≡ None → k.segments ≡ ss
all_turned s t k us ss short reads came of none =
    let layout : Layout = expecting s.start in
    let f : Firsts s t k us ss = firsts s t k us ss short reads of in
    let place : length k.intro ≡ first_place_in t.story.start = first_is s t k.intro k.begins ∙ ap first_place_in (sym k.begins.start) in
    let octets : drop (first_place_in t.story.start) (in_order t.story.came) ≡ sequence layout 0 us = ap (drop (first_place_in t.story.start)) came ∙ drop_at k.intro (sequence layout 0 us) (first_place_in t.story.start) place in
    let frames : frames_in t.story ≡ located_of layout 0 (sequence layout 0 us) = λ i. located_of (expecting (k.begins.start i)) 0 (octets i) in
    let are : frames_at (frames_in t.story) ≡ map intact us = ap frames_at frames ∙ located_are layout 0 (sequence layout 0 us) ∙ frames_written layout 0 us (frames_follow.first layout.markers) short in
    let many : length (frames_in t.story) ≤ t.story.turns = past_all (frames_in t.story) t.story.turns (unmapped (λ (f : Located). f.frame) (slice_get (frames_in t.story) t.story.turns) none) in
    let as_many : length (frames_in t.story) ≡ length us = sym (length-map (frames_in t.story) _) ∙ ap length are ∙ length-map us intact in
    let same : length us ≡ length ss = sym (length-map us read_segment) ∙ ap length reads ∙ length-map ss Some in
    let later : f.later ≡ [] = nothing f.later (omega (arith, many, as_many, same, f.as_many, ap length f.segments, length-append k.segments f.later)) in
    sym (f.segments ∙ ap (λ z. k.segments ++ z) later ∙ append-nil k.segments)

-- ---- what was sent

-- a Terminate completes no Send
no_send : (sofar : Octets) (o : Option Octets) → joined sofar (farewells o) ≡ []
no_send sofar None = refl
no_send sofar (Some payload) = refl

-- the Sends that are complete, as they are read again
sends_out : (s : StreamState) (t : Tale) (e : Emits s t) → joined [] (map reread (out_of s t e)) ≡ joined [] e.segments
sends_out s t e =
    sym (joined-plain [] (map reread (out_of s t e))) ∙ ap (joined []) (plain-reread (out_of s t e)) ∙ joined-plain [] (out_of s t e) ∙ joined-append [] e.segments (farewells t.story.farewell)
    ∙ ap (λ z. joined [] e.segments ++ z) (no_send (begun [] e.segments) t.story.farewell) ∙ append-nil (joined [] e.segments)

writes_out : (s : StreamState) (t : Tale) (e : Emits s t) (cell : Cell) → count_segments cell e.segments ≤ count_segments cell (map reread (out_of s t e))
writes_out s t e cell =
    omega (arith, count-plain cell (map reread (out_of s t e)), ap (count_segments cell) (plain-reread (out_of s t e)), count-plain cell (out_of s t e), count-append cell e.segments (farewells t.story.farewell))

-- of the RTR and what was posted the messages that were sent whole: where the RTR was not, none
first_are : (s : StreamState) (t : Tale) (e : Emits s t)
    → (take (count_last e.segments) (ready_in s.start ++ t.posted) ≡ ready_in s.start ++ sent_whole t.story t.posted)
    ⊎ ((take (count_last e.segments) (ready_in s.start ++ t.posted) ≡ []) × (sent_whole t.story t.posted ≡ []))
first_are s t e = elim e.spoken [
  | inl gone ↦
      let count : count_last e.segments ≡ length (ready_in s.start) + t.story.whole = omega (arith, e.whole, ap length gone) in
      inl (ap (λ n. take n (ready_in s.start ++ t.posted)) count ∙ take-append-add (ready_in s.start) t.posted t.story.whole)
  | inr (none, all) ↦
      let unsent : count_last e.segments ≡ 0 = ap count_last none in
      let whole : t.story.whole ≡ 0 = omega (arith, e.whole, unsent, ap length all) in
      inr (ap (λ n. take n (ready_in s.start ++ t.posted)) unsent, ap (λ n. take n t.posted) whole)
]

sends_first : (s : StreamState) (t : Tale) (e : Emits s t) → queues.sends (take (count_last e.segments) (ready_in s.start ++ t.posted)) ≡ queues.sends (sent_whole t.story t.posted)
sends_first s t e = elim (first_are s t e) [
  | inl is ↦ ap queues.sends is ∙ ready_sends s.start (sent_whole t.story t.posted)
  | inr (none, nil) ↦ ap queues.sends none ∙ ap queues.sends (sym nil)
]

writes_first : (s : StreamState) (t : Tale) (e : Emits s t) (cell : Cell) → count_writes cell (take (count_last e.segments) (ready_in s.start ++ t.posted)) ≡ count_writes cell (sent_whole t.story t.posted)
writes_first s t e cell = elim (first_are s t e) [
  | inl is ↦ ap (count_writes cell) is ∙ ready_writes cell s.start (sent_whole t.story t.posted)
  | inr (none, nil) ↦ ap (count_writes cell) none ∙ ap (count_writes cell) (sym nil)
]

sent_in : (s : StreamState) (t : Tale) (e : Emits s t) → AreSentIn (ready_in s.start ++ t.posted) e.segments
sent_in s t e =
    let w = whole_of s t e in
    let fits : Each FitsPosted (posts_in w.items) = subst (Each FitsPosted) (sym w.posts) (ready_fit s.start t.posted e.fit) in
    subst (λ ms. AreSentIn ms e.segments) w.posts (are_sent_in first_numbers w.items e.segments w.later (e.segments ++ w.later) refl w.merged fits)

-- the Reads among them, with the RTR before them
reads_first : (s : StreamState) (t : Tale) (e : Emits s t) → AreAsked (ready_in s.start) (sent_whole t.story t.posted) (reads_among (take (count_last e.segments) (ready_in s.start ++ t.posted)))
reads_first s t e = elim (first_are s t e) [
  | inl is ↦ inl (ap reads_among is)
  | inr (none, nil) ↦ inr (ap reads_among none, nil)
]

requests_out : (s : StreamState) (t : Tale) (e : Emits s t) → requests_in (map reread (out_of s t e)) ≡ requests_in e.segments
requests_out s t e =
    requests-reread (out_of s t e) ∙ requests-append e.segments (farewells t.story.farewell) ∙ ap (λ z. requests_in e.segments ++ z) (no_requests t.story.farewell) ∙ append-nil (requests_in e.segments)

-- responses are read as they were written, where the sinks that were named fit their fields
answers_out : (s : StreamState) (t : Tale) (e : Emits s t) → Each SinkFits (asked_of t.story) → map reread (out_of s t e) ≡ out_of s t e
answers_out s t e fits = all_same (out_of s t e) e.good (each-both AnswerFits e.segments (farewells t.story.farewell) (sent_fits s t e fits) (farewell_fits t.story.farewell))

-- ---- what has arrived

arrived : (c : Connected) (t : Tale) (d : Connected) (u : Tale) (e : Emits c.stream t) (i : Track c.stream t) (k : Track d.stream u) (done : List (StreamAct Octets)) → u.received ≡ received done → u.placings ≡ placings done
    → t.sent ≡ k.intro ++ sequence (expecting d.stream.start) 0 (map segment_octets (out_of c.stream t e)) → IsOf u.story.came t.sent → Fills d.stream u
    → in_order u.story.came ≡ t.sent → next_frame u.story ≡ None → Each SinkFits (asked_of t.story) → HaveArrived t.story u.story (sent_whole t.story t.posted) done
arrived c t d u e i k done received_is placings_are clear of fills came none sinks =
    let out : List (Segment Octets) = out_of c.stream t e in
    let us : List Octets = map segment_octets out in
    let parted : List (Segment Octets) = farewells t.story.farewell in
    let turned : k.segments ≡ map reread out =
    all_turned d.stream u k us (map reread out) (all_short out e.good) (sym (read_intact us) ∙ read_again out e.good) (came ∙ clear) (subst (IsOf u.story.came) clear of) none in
    let all : AreSentIn (ready_in c.stream.start ++ t.posted) e.segments = sent_in c.stream t e in
    let whole : List (Request Octets) = sent_whole t.story t.posted in
    let fits : Each FitsPosted whole = each-first FitsPosted whole (drop t.story.whole t.posted) (subst (Each FitsPosted) (sym (take-append-drop t.story.whole t.posted)) e.fit) in
    let same : k.segments ≡ e.segments ++ parted = turned ∙ answers_out c.stream t e sinks in
    let asked_is : asked_of u.story ≡ reads_among (take (count_last e.segments) (ready_in c.stream.start ++ t.posted)) = k.tells.asked_are ∙ ap requests_in turned ∙ requests_out c.stream t e ∙ all.requests_are in
    record {
      sends_are = sym received_is ∙ received_are c t d u e k (Clear clear) of fills ∙ ap (map told) (ap (joined []) turned ∙ sends_out c.stream t e ∙ all.joined_are ∙ sends_first c.stream t e) ∙ sends_whole whole fits;
      writes = λ cell.
          omega (
            arith,
            writes_first c.stream t e cell,
            all.writes cell,
            writes_out c.stream t e cell,
            ap (count_segments cell) turned,
            k.joins.counted cell,
            k.early.written_are cell,
            ap (λ z. count_writes cell (written z)) placings_are,
          );
      asked = subst (λ z. AreAsked z whole (asked_of u.story)) (ap ready_in (sym i.begins.start)) (subst (AreAsked (ready_in c.stream.start) whole) (sym asked_is) (reads_first c.stream t e));
      answered = omega (arith, k.tells.answered_are, ap count_ended same, ended-append e.segments parted, no_ended t.story.farewell, sent_ended c.stream t e);
      fetched = λ cell.
          omega (
            arith,
            sent_responses cell c.stream t e,
            responses-append cell e.segments parted,
            no_responses cell t.story.farewell,
            ap (count_responses cell) same,
            k.joins.sunk_are cell,
            k.early.sunk_are cell,
            ap (λ z. count_writes cell (sunk z)) placings_are,
          );
    }

-- a stream that reads frames is at rest only without one
not_both : (z : StartState) → is_open z ≡ true → awaits_frame z ≡ true → ⊥
not_both (AtOnce layout) o w = true≢false (sym w)
not_both (Unheard u) o w = true≢false (sym o)
not_both (Heard u) o w = true≢false (sym w)

no_next : (over : Bool) (t : Story) → HasRest over t → ReadsFrames over t → next_frame t ≡ None
no_next over t (Over e) r = absurd (true≢false (sym e ∙ r.running))
no_next over t (AwaitsFrame f) r = absurd (not_both t.start r.open_now f.awaited)
no_next over t (AwaitsAnswer shut w) r = absurd (true≢false (sym r.open_now ∙ shut))
no_next over t (NoFrame now none early) r = none

pub all_arrived : (trace : List (Entry Octets)) → Run trace → AllArrived trace
all_arrived trace run past future x n is honest has =
    let at : Moment past (idles (other x) n ∷ future) = run past (idles (other x) n ∷ future) is in
    let k : BothSeen past at.state = seen_then past (idles (other x) n ∷ future) at in
    let p = k.pairs x n in
    let out = p.out (honest.calm (other x)) in
    let back = p.back (honest.calm x) in
    let rest = idle_at_rest trace run past (idles (other x) n) future is in
    let open_now : is_open (held p.own_peer).stream.start ≡ true = sym (ap is_open p.own_peer.own.track.begins.start) ∙ has.reads.open_now in
    let asked = (answering_all trace run past (idles (other x) n ∷ future) is x n honest).asked in
    let sinks : Each SinkFits (asked_of (tale n (acts x past)).story) =
    each-first SinkFits (asked_of (tale n (acts x past)).story) asked.0 (subst (Each SinkFits) (sym asked.1) (sinks_fit (ready_of (tale n (acts (other x) past)).story ++ (tale n (acts (other x) past)).posted)
    (ready_fit (tale n (acts (other x) past)).story.start (tale n (acts (other x) past)).posted p.own_peer.own.emits.fit))) in
    arrived (held p.own) (tale n (acts x past)) (held p.own_peer) (tale n (acts (other x) past)) p.own.own.emits p.own.own.track p.own_peer.own.track (stream_acts n (acts (other x) past)) refl refl
    (clears _ (held p.own) (tale n (acts x past)) p.own.own _ (held p.own_peer) (tale n (acts (other x) past)) p.own_peer.own (fitting n past honest x) out back open_now) out p.own_peer.own.fills
    has.came (no_next _ _ rest.reason has.reads) sinks
