-- On honest streams: what an end has placed for its Reads is what the other end has answered.
use Rattle.std.proofs.Common.{◌≡◌, ℕ, zero, suc, ◌+◌, ◌≤◌, List, [], ◌∷◌, ◌++◌, take, map, Option, Some, None, Bool, true, false, cond, refl, sym, ap, ◌∙◌, subst, arith, append_assoc}
use Rattle.std.specs.Prelude.{is_some, nat_eq}
use Rattle.std.proofs.lemmas.List.{append-nil}
use Rattle.std.proofs.lemmas.Option.{same_Some}
use Rattle.iw_octets.specs.declared.segment.Segment.{Segment}
use Rattle.iw_octets.specs.declared.segment.Segment.TheVariants.{Tagged, Untagged}
use Rattle.iw_octets.specs.Head.{tagged_fields, tagged_octets}
use Rattle.iw_octets.specs.Operation.{opcode_of}
use Rattle.iw_octets.specs.Payload.{request_fields}
use Rattle.iw_octets.specs.Segment.{FitsSegment}
use Rattle.iw_octets.proofs.Segments.{read_segment-spelled}
use Rattle.iw_ranges.specs.InOrder.{IsOf}
use Rattle.iw_fpdu.specs.Sequence.{Carried}
use Rattle.iw_queues.specs.declared.request.Request.{Request}
use Rattle.iw_queues.specs.declared.request.Request.TheVariants.{Message as Posted, Read}
use Rattle.iw_queues.specs.Joined.{IsPrefixOf, Cell, count_writes}
use Rattle.iw_laws.specs.Words.{Octets, sunk}
use Rattle.iw_laws.specs.Turns.{Answer, carries_response}
use Rattle.iw_laws.specs.Sends.{asked_of, farewells, ready_of}
use Rattle.std.proofs.lemmas.Bool.{false≢true}
use Rattle.iw_laws.specs.Rules.{FitsPosted}
use Rattle.iw_laws.proofs.States.{Connected}
use Rattle.iw_laws.specs.Faithful.{laid, responses, responses_done, count_done, reads_among, CoversReads, AnswersReads}
use Rattle.iw_laws.proofs.Lists.{Each, each-first, each-both}
use Rattle.iw_laws.proofs.Tales.{Tale}
use Rattle.iw_laws.proofs.Nexts.{Front, fore, segment_in, segment_at}
use Rattle.iw_laws.proofs.Joins.{count_responses, responses-append, sunk_waiting, count_ended, ended-append, requests_in, requests-append}
use Rattle.iw_laws.proofs.Sending.{IsSendable}
use Rattle.iw_laws.proofs.Tracks.{Track}
use Rattle.iw_laws.proofs.Owned.{Emits, out_of}
use Rattle.iw_laws.proofs.Heard.{IsHeard}
use Rattle.iw_laws.proofs.Responses.{AnswerFits, SinkFits, sent_responses, sent_ended, sent_before, sent_requests, sent_fits, ready_fit}
use Rattle.iw_laws.proofs.Ready.{ready_in}
use Rattle.iw_stream.specs.declared.landing.PlacedFrame.{PlacedFrame}
use Rattle.iw_stream.specs.Work.{scene}
use Rattle.iw_laws.proofs.Judged.{Adds, segments_early}
use Rattle.iw_laws.proofs.Delivered.{reread, again, delivered, fits, fits_waiting}

-- ---- requests

pub requests-reread : (ss : List (Segment Octets)) → requests_in (map reread ss) ≡ requests_in ss
unfolding reread
requests-reread [] = refl
requests-reread (Untagged head payload ∷ ss) = ap (λ z. cond (nat_eq head.queue 1) (request_fields payload ∷ []) [] ++ z) (requests-reread ss)
requests-reread (Tagged head payload ∷ ss) = go (nat_eq (opcode_of head.control) 2) ∙ requests-reread ss
  where
    go : (b : Bool) → requests_in (cond b (Tagged (tagged_fields (tagged_octets head)) payload) (Tagged head payload) ∷ map reread ss) ≡ requests_in (map reread ss)
    go true = refl
    go false = refl

pub sinks_fit : (ms : List (Request Octets)) → Each FitsPosted ms → Each SinkFits (reads_among ms)
sinks_fit [] h = tt
sinks_fit (Posted message ∷ ms) h = sinks_fit ms h.1
sinks_fit (Read request ∷ ms) h = (h.0.sink, sinks_fit ms h.1)

-- a Terminate asks for nothing, and answers nothing
pub no_requests : (o : Option Octets) → requests_in (farewells o) ≡ []
no_requests None = refl
no_requests (Some payload) = refl

pub no_responses : (c : Cell) (o : Option Octets) → count_responses c (farewells o) ≡ 0
no_responses c None = refl
no_responses c (Some payload) = refl

pub no_ended : (o : Option Octets) → count_ended (farewells o) ≡ 0
no_ended None = refl
no_ended (Some payload) = refl

pub farewell_fits : (o : Option Octets) → Each AnswerFits (farewells o)
farewell_fits None = tt
farewell_fits (Some payload) = ((λ h. absurd (false≢true h)), tt)

-- what an end was asked for is what the other end posted, as far as it was read
asked_first : (c : Connected) (t : Tale) (d : Connected) (u : Tale) (e : Emits d.stream u) (g : Track d.stream u) (k : Track c.stream t) → IsHeard d u c t (out_of d.stream u e) k → IsOf t.story.came u.sent → IsPrefixOf (asked_of t.story) (reads_among (ready_of u.story ++ u.posted))
asked_first c t d u e g k heard of =
    let x = delivered d u c t e k heard of in
    let a = sent_requests d.stream u e in (
      requests_in x.0 ++ a.rest,
      ap (λ z. z ++ (requests_in x.0 ++ a.rest)) k.tells.asked_are
          ∙ sym (append_assoc (requests_in k.segments) (requests_in x.0) a.rest)
          ∙ ap (λ z. z ++ a.rest) (sym (requests-append k.segments x.0) ∙ ap requests_in (sym x.1) ∙ requests-reread (out_of d.stream u e)
          ∙ requests-append e.segments (farewells u.story.farewell) ∙ ap (λ z. requests_in e.segments ++ z) (no_requests u.story.farewell) ∙ append-nil (requests_in e.segments))
          ∙ a.are ∙ ap (λ z. reads_among (ready_in z ++ u.posted)) (sym g.begins.start),
    )

-- so what it answers is read as it was written
reread_same : (s : Segment Octets) → IsSendable s → AnswerFits s → reread s ≡ s
reread_same s h fits = same_Some _ _ (sym (again s h) ∙ read_segment-spelled s (go (carries_response s) refl))
  where
    go : (b : Bool) → carries_response s ≡ b → FitsSegment s
    go true e = fits e
    go false e = h.fits e

pub all_same : (ss : List (Segment Octets)) → Each IsSendable ss → Each AnswerFits ss → map reread ss ≡ ss
all_same [] h k = refl
all_same (s ∷ ss) h k = λ i. reread_same s h.0 k.0 i ∷ all_same ss h.1 k.1 i

-- ---- both bounds

fewer_laid : (c : Cell) (m n : ℕ) (answers : List Answer) → m ≤ n → count_writes c (map laid (take m answers)) ≤ count_writes c (map laid (take n answers))
fewer_laid c zero n answers h = omega arith
fewer_laid c (suc m) zero answers h = absurd (omega (arith, h))
fewer_laid c (suc m) (suc n) [] h = omega arith
fewer_laid c (suc m) (suc n) (a ∷ answers) h = let rest = fewer_laid c m n answers (omega (arith, h)) in omega (arith, rest)

-- what was placed is not more than what was fetched
most : (c : Connected) (t : Tale) (d : Connected) (u : Tale) (e : Emits c.stream t) (k : Track d.stream u) → IsHeard c t d u (out_of c.stream t e) k → IsOf u.story.came t.sent → map reread (out_of c.stream t e) ≡ out_of c.stream t e → (cell : Cell)
    → count_writes cell (sunk u.placings) ≤ count_writes cell (responses t.story)
most c t d u e k heard of same cell =
    omega (arith, k.early.sunk_are cell, k.joins.sunk_are cell, sent_responses cell c.stream t e, responses-append cell e.segments (farewells t.story.farewell), no_responses cell t.story.farewell, ap (count_responses cell) same, go d.stream.front refl (fore d.stream) refl)
  where
    counts : Adds (count_responses cell)
    counts = record { both = responses-append cell }

    shown : (o : Option PlacedFrame) → d.stream.front ≡ o → (p : Option (Segment Octets)) (frame : Carried) (left : Octets) → fore d.stream ≡ Some (frame, left) → segment_in frame ≡ p
        → count_responses cell k.segments + sunk_waiting cell (is_some o) p + count_responses cell (segments_early (scene d.stream) d.stream.early) ≤ count_responses cell (map reread (out_of c.stream t e))
    shown None is p frame left whole carries = omega (arith, fits c t d u e k heard of (count_responses cell) counts)
    shown (Some f) is None frame left whole carries = omega (arith, fits c t d u e k heard of (count_responses cell) counts)
    shown (Some f) is (Some segment) frame left whole carries =
        omega (arith, fits_waiting c t d u e k heard of (count_responses cell) counts f is frame left segment whole carries, responses-append cell k.segments (segment ∷ []))

    go : (o : Option PlacedFrame) → d.stream.front ≡ o → (f : Front) → fore d.stream ≡ f
        → count_responses cell k.segments + sunk_waiting cell (is_some o) (segment_at f) + count_responses cell (segments_early (scene d.stream) d.stream.early) ≤ count_responses cell (map reread (out_of c.stream t e))
    go None is f whole = omega (arith, fits c t d u e k heard of (count_responses cell) counts)
    go (Some p) is None whole = omega (arith, fits c t d u e k heard of (count_responses cell) counts)
    go (Some p) is (Some (frame, left)) whole = shown (Some p) is (segment_in frame) frame left whole refl

reads_covered : (c : Connected) (t : Tale) (d : Connected) (u : Tale) (e : Emits c.stream t) (k : Track d.stream u) (n : ℕ) → n ≤ u.story.answered → IsHeard c t d u (out_of c.stream t e) k → IsOf u.story.came t.sent
    → map reread (out_of c.stream t e) ≡ out_of c.stream t e → (cell : Cell) → CoversReads t.story (sunk u.placings) n cell
reads_covered c t d u e k n few heard of same cell =
    let x = delivered c t d u e k heard of in
    let parted : List (Segment Octets) = farewells t.story.farewell in
    let is : out_of c.stream t e ≡ k.segments ++ x.0 = sym same ∙ x.1 in
    let done : n ≤ count_ended k.segments = omega (arith, few, k.tells.answered_are) in
    record {
      answered = omega (arith, done, sent_ended c.stream t e, ended-append e.segments parted, no_ended t.story.farewell, ap count_ended is, ended-append k.segments x.0);
      before = omega (arith, fewer_laid cell n (count_ended k.segments) t.story.answers done, sent_before cell c.stream t e k.segments x.0 is, k.early.sunk_are cell, k.joins.sunk_are cell);
      most = most c t d u e k heard of same cell;
    }

-- what an end has answered, and the other placed
pub reads_answered : (c : Connected) (t : Tale) (d : Connected) (u : Tale) (e : Emits c.stream t) (i : Track c.stream t) (g : Emits d.stream u) (k : Track d.stream u) → responses_done (ready_of u.story) (count_done u.finished) ≤ u.story.answered
    → IsHeard c t d u (out_of c.stream t e) k → IsHeard d u c t (out_of d.stream u g) i → IsOf u.story.came t.sent → IsOf t.story.came u.sent → AnswersReads t.story (ready_of u.story) u.posted (sunk u.placings) (count_done u.finished)
reads_answered c t d u e i g k few there back out home =
    let asked : IsPrefixOf (asked_of t.story) (reads_among (ready_of u.story ++ u.posted)) = asked_first c t d u g k i back home in
    let fits : Each SinkFits (asked_of t.story) = each-first SinkFits (asked_of t.story) asked.0 (subst (Each SinkFits) (sym asked.1) (sinks_fit (ready_of u.story ++ u.posted) (ready_fit u.story.start u.posted g.fit))) in
    let same : map reread (out_of c.stream t e) ≡ out_of c.stream t e =
    all_same (out_of c.stream t e) e.good (each-both AnswerFits e.segments (farewells t.story.farewell) (sent_fits c.stream t e fits) (farewell_fits t.story.farewell)) in
    record { asked = asked; covers = reads_covered c t d u e k (responses_done (ready_of u.story) (count_done u.finished)) few there out same }
