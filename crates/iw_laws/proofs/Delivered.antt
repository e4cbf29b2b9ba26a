-- Where what came is what the other end sent: the segments that had their turn are the first of those that were sent.
use Rattle.std.proofs.Common.{◌≡◌, ℕ, ◌+◌, ◌-◌, ◌%◌, ◌^◌, ◌≤◌, List, [], ◌∷◌, ◌++◌, length, map, take, Option, Some, None, Bool, true, false, cond, refl, sym, ap, ◌∙◌, subst, arith, append_assoc, length-append, get_or, ◌<◌, eqb}
use Rattle.std.specs.Prelude.{All, is_some, nat_eq}
use Rattle.std.specs.Option.{option_map}
use Rattle.std.proofs.lemmas.List.{append-nil, map-append, append_cancel_left}
use Rattle.std.proofs.lemmas.List.Elements.{All-cons}
use Rattle.std.proofs.lemmas.Option.{same_Some}
use Rattle.std.proofs.lemmas.Bool.{true≢false}
use Rattle.iw_queues.specs.declared.request.Request.{Request}
use Rattle.iw_queues.specs.declared.request.Request.TheVariants.{Message as Posted, Read}
use Rattle.iw_octets.specs.declared.message.Message.TheVariants.{Write, Send}
use Rattle.iw_octets.specs.declared.segment.Segment.{Segment}
use Rattle.iw_octets.specs.declared.stag.Stag.{Stag}
use Rattle.iw_octets.specs.Segment.{segment_octets}
use Rattle.iw_octets.specs.Stag.{number_of}
use Rattle.iw_octets.proofs.Segments.{read_segment-spelled}
use Rattle.iw_ranges.specs.InOrder.{IsOf}
use Rattle.iw_fpdu.specs.declared.layout.Layout.{Layout}
use Rattle.iw_fpdu.specs.Frame.{max_sent}
use Rattle.iw_fpdu.specs.Sequence.{Carried, intact, sequence, frames_of, first_frame}
use Rattle.iw_fpdu.proofs.Follows.{frames_follow}
use Rattle.iw_fpdu.proofs.Sequences.{first_stays, frames_written}
use Rattle.iw_queues.specs.Joined.{IsPrefixOf, Cell, completed, joined, sends, count_in, count_writes, count_before, count_segments}
use Rattle.iw_queues.specs.Segments.{Numbers, first_numbers, numbers_after, write_segment, send_segment, IsCut, AreSegments, AreSpelled}
use Rattle.iw_queues.specs.Laws.{IsCovered}
use Rattle.iw_queues.proofs.Cuts.{in_order as spelled_in_order, covered as spelled_covered}
use Rattle.iw_startup.specs.declared.enhanced.Rtr.{Rtr}
use Rattle.iw_startup.specs.declared.enhanced.Rtr.TheVariants as rtrs
use Rattle.iw_stream.specs.Rtr.{rtr_stag, rtr_message}
use Rattle.iw_stream.specs.Starting.{StartState, expecting, first_place_in, rtr_in}
use Rattle.iw_stream.specs.Stream.{StreamState}
use Rattle.iw_stream.specs.Work.{inbox, scene}
use Rattle.iw_laws.specs.Words.{Octets, Sent, written, listed}
use Rattle.iw_laws.specs.Words as words
use Rattle.iw_laws.proofs.States.{Connected}
use Rattle.iw_laws.specs.Safe.{CoversWrites}
use Rattle.iw_laws.proofs.Tales.{Tale}
use Rattle.std.specs.List.{Contains}
use Rattle.iw_fpdu.specs.Frame.{frame_end}
use Rattle.iw_locate.specs.Records.{from_of, IsPlaced}
use Rattle.iw_stream.specs.declared.landing.PlacedFrame.{PlacedFrame}
use Rattle.iw_stream.specs.Frames.{EarlyRecord, placed}
use Rattle.iw_stream.proofs.Fronts.{carried_by}
use Rattle.iw_laws.specs.Turns.{Located, located, located_of, past_last}
use Rattle.iw_laws.proofs.Located.{frames_at, located_first, past_last-push}
use Rattle.std.proofs.Math.Seq.{take-append_seam}
use Rattle.iw_laws.proofs.FirstSent.{read_intact}
use Rattle.iw_laws.proofs.EarlySent.{scene_sent, early_fits}
use Rattle.iw_laws.proofs.Judged.{Adds, segments_early}
use Rattle.iw_laws.proofs.Nexts.{Front, fore, place_past, standing, segment_in, segment_at}
use Rattle.iw_laws.proofs.Tracks.{Track, first_is, front_is, split_is, ends_there}
use Rattle.iw_laws.proofs.Joins.{told, begun, count_waiting, count-append}
use Rattle.iw_laws.proofs.Numbered.{Numbered, are_numbered}
use Rattle.iw_laws.proofs.Fills.{Fills}
use Rattle.iw_laws.specs.Sends.{farewells}
use Rattle.iw_laws.specs.Rules.{FitsPosted, FitsOptional}
use Rattle.iw_octets.specs.Stag.{FitsStag, stag_of}
use Rattle.iw_octets.specs.declared.head.TaggedHead.{TaggedHead}
use Rattle.iw_octets.specs.Head.{is_tagged, tagged_fields, tagged_octets}
use Rattle.iw_octets.specs.Segment.{read_segment}
use Rattle.iw_octets.proofs.Spelled.{length-tagged_octets, is_tagged-first_octet}
use Rattle.iw_octets.proofs.Front.{tagged_fields-append, read_segment-long_tagged}
use Rattle.std.proofs.lemmas.List.{drop_at}
use Rattle.iw_laws.proofs.Merges.{with_left, posts-append, answers-append, goes_to, some_merged}
use Rattle.iw_laws.specs.Merged.{Item, Post, Response, posts_in, answers_in, octets_of, responded, response_segment, AreMerged}
use Rattle.iw_laws.proofs.Responded.{sent_octets}
use Rattle.iw_laws.specs.Turns.{Answer}
use Rattle.iw_octets.specs.declared.segment.Segment.TheVariants.{Tagged, Untagged}
use Rattle.iw_octets.specs.declared.payload.ReadRequest.{ReadRequest}
use Rattle.iw_octets.specs.Operation.{opcode_of}
use Rattle.iw_reads.specs.declared.requests.Asked.{Asked}
use Rattle.std.proofs.lemmas.Bool.Decides.{nat_tests}
use Rattle.iw_laws.proofs.Lists.{Each}
use Rattle.iw_laws.proofs.Sending.{IsSendable}
use Rattle.iw_laws.proofs.Owned.{Emits, out_of, all_begun}
use Rattle.iw_laws.proofs.Ready.{ready_in}
use Rattle.iw_queues.specs.Queue.{Queue}
use Rattle.iw_laws.proofs.Heard.{IsHeard, Bare, Clear}
use Rattle.iw_laws.proofs.Reached.{reaches}

-- ---- frames that were written

pub all_short : (segments : List (Segment Octets)) → Each IsSendable segments → All (λ u. length u ≤ max_sent) (map segment_octets segments)
all_short [] h = λ k d lt. absurd (omega (arith, lt))
all_short (x ∷ xs) h = All-cons (λ u. length u ≤ max_sent) (segment_octets x) (map segment_octets xs) h.0.small (all_short xs h.1)

-- a segment as it is read again: the sink of a response by the octets of its number
first_tagged : (head : TaggedHead) (payload : Octets) → head.ddp_version < 4 → is_tagged (get_or (tagged_octets head ++ payload) 0 0) ≡ true
unfolding tagged_octets
first_tagged head payload version = is_tagged-first_octet true head.last head.ddp_version version

same_control : (head : TaggedHead) → (tagged_fields (tagged_octets head)).control ≡ head.control
unfolding tagged_octets
same_control head = refl

read_tagged_again : (head : TaggedHead) (payload : Octets) → head.ddp_version < 4 → read_segment (segment_octets (Tagged head payload)) ≡ Some (Tagged (tagged_fields (tagged_octets head)) payload)
unfolding segment_octets
read_tagged_again head payload version =
    let long : 14 ≤ length (tagged_octets head ++ payload) = omega (arith, length-append (tagged_octets head) payload, length-tagged_octets head) in
    read_segment-long_tagged (tagged_octets head ++ payload) long (first_tagged head payload version)
    ∙ (λ i. Some (Tagged (tagged_fields-append (tagged_octets head) payload (omega (arith, length-tagged_octets head)) i) (drop_at (tagged_octets head) payload 14 (length-tagged_octets head) i)))

unfoldable pub reread : Segment Octets → Segment Octets
reread (Tagged head payload) = cond (nat_eq (opcode_of head.control) 2) (Tagged (tagged_fields (tagged_octets head)) payload) (Tagged head payload)
reread (Untagged head payload) = Untagged head payload

pub again : (s : Segment Octets) → IsSendable s → read_segment (segment_octets s) ≡ Some (reread s)
unfolding reread
again (Untagged head payload) h = read_segment-spelled (Untagged head payload) (h.fits refl)
again (Tagged head payload) h = go (nat_eq (opcode_of head.control) 2) refl
  where
    go : (b : Bool) → nat_eq (opcode_of head.control) 2 ≡ b → read_segment (segment_octets (Tagged head payload)) ≡ Some (cond b (Tagged (tagged_fields (tagged_octets head)) payload) (Tagged head payload))
    go false e = read_segment-spelled (Tagged head payload) (h.fits e)
    go true e = read_tagged_again head payload h.version

pub read_again : (segments : List (Segment Octets)) → Each IsSendable segments → map segment_in (map intact (map segment_octets segments)) ≡ map Some (map reread segments)
read_again [] h = refl
read_again (x ∷ xs) h = λ i. again x h.0 i ∷ read_again xs h.1 i

-- a list whose first elements are known to be there
known_first : (xs ys : List (Segment Octets)) (zs : List (Option (Segment Octets))) → map Some xs ≡ map Some ys ++ zs → (later : List (Segment Octets)) × (xs ≡ ys ++ later)
known_first xs [] zs e = (xs, refl)
known_first [] (y ∷ ys) zs e = absurd (omega (arith, ap length e))
known_first (x ∷ xs) (y ∷ ys) zs e =
    let same : Some x ≡ Some y = ap (first_or (Some y)) e in
    let rest = known_first xs ys zs (ap beyond e) in
    (rest.0, λ i. same_Some _ _ same i ∷ rest.1 i)
  where
    first_or : Option (Segment Octets) → List (Option (Segment Octets)) → Option (Segment Octets)
    first_or d [] = d
    first_or d (o ∷ os) = o

    beyond : List (Option (Segment Octets)) → List (Option (Segment Octets))
    beyond [] = []
    beyond (o ∷ os) = os

no_segments : (xs : List (Segment Octets)) → map Some xs ≡ [] → xs ≡ []
no_segments [] e = refl
no_segments (x ∷ xs) e = absurd (omega (arith, ap length e))

-- frames at the front of what was sent carry the first segments
first_segments : (layout : Layout) (sent : Octets) (segments firsts : List (Segment Octets)) (frames later : List Carried) → Each IsSendable segments → sent ≡ sequence layout 0 (map segment_octets segments)
    → frames_of layout 0 sent ≡ frames ++ later → map segment_in frames ≡ map Some firsts → (rest : List (Segment Octets)) × (map reread segments ≡ firsts ++ rest)
first_segments layout sent segments firsts frames later good framed are carried =
    let us : List Octets = map segment_octets segments in
    let all : map intact us ≡ frames ++ later = sym (frames_written layout 0 us (frames_follow.first layout.markers) (all_short segments good)) ∙ ap (frames_of layout 0) (sym framed) ∙ are in
    known_first (map reread segments) firsts (map segment_in later)
    (sym (read_again segments good) ∙ ap (map segment_in) all ∙ map-append segment_in frames later ∙ ap (λ z. z ++ map segment_in later) carried)

-- ---- what came of what was sent

-- the segments that had their turn are the first of those that were sent
pub delivered : (c : Connected) (t : Tale) (d : Connected) (u : Tale) (e : Emits c.stream t) (k : Track d.stream u) → IsHeard c t d u (out_of c.stream t e) k → IsOf u.story.came t.sent → (later : List (Segment Octets)) × (map reread (out_of c.stream t e) ≡ k.segments ++ later)
delivered c t d u e k (Bare bare none) of = (map reread (out_of c.stream t e), ap (λ z. z ++ map reread (out_of c.stream t e)) (sym (no_segments k.segments (sym k.carried ∙ ap (map segment_in) bare.frames))))
delivered c t d u e k (Clear is) of =
    let layout : Layout = expecting d.stream.start in
    let r = reaches d.stream u k t.sent of in
    let all : Octets = inbox d.stream ++ r.rest in
    first_segments layout (k.before ++ all) (out_of c.stream t e) k.segments k.frames (frames_of layout (length k.before) all) e.good (append_cancel_left k.intro (k.before ++ all) (sequence layout 0 (map segment_octets (out_of c.stream t e))) (sym r.is ∙ is))
    (split_is d.stream u k all) k.carried

-- of all that was sent those that had their turn, with the one that waits for it, and those that were placed before count at most as much as all
abbrev pub FitsIn : (List (Segment Octets) → ℕ) → List (Segment Octets) → StreamState → List (Segment Octets) → Type 0
FitsIn count firsts s all = count firsts + count (segments_early (scene s) s.early) ≤ count all

fits_by : (c : Connected) (t : Tale) (d : Connected) (u : Tale) (e : Emits c.stream t) (k : Track d.stream u) → t.sent ≡ k.intro ++ sequence (expecting d.stream.start) 0 (map segment_octets (out_of c.stream t e)) → IsOf u.story.came t.sent
    → (fs others : List Located) → located_of (expecting d.stream.start) 0 (sequence (expecting d.stream.start) 0 (map segment_octets (out_of c.stream t e))) ≡ fs ++ others → length k.before ≤ past_last 0 fs
    → ((r : EarlyRecord) → Contains d.stream.early r → IsPlaced r.state → past_last 0 fs ≤ from_of r) → (firsts : List (Segment Octets)) → map segment_in (frames_at fs) ≡ map Some firsts
    → (count : List (Segment Octets) → ℕ) → Adds count → FitsIn count firsts d.stream (map reread (out_of c.stream t e))
fits_by c t d u e k is of fs others parts on past firsts carried count adds =
    let layout : Layout = expecting d.stream.start in
    let us : List Octets = map segment_octets (out_of c.stream t e) in
    let short = all_short (out_of c.stream t e) e.good in
    let came : IsOf u.story.came (k.intro ++ sequence layout 0 us) = subst (IsOf u.story.came) is of in
    let intro : length k.intro ≡ first_place_in d.stream.start = first_is d.stream u k.intro k.begins in
    early_fits (scene d.stream) us short
    (scene_sent (scene d.stream) u.story.came k.intro (sequence layout 0 us) (length k.intro + length k.before) intro k.arrived k.held came)
    k.early.judged (k.sent_ones us short came) fs others parts (omega (arith, on, k.point, intro)) past (map reread (out_of c.stream t e)) firsts (sym (read_intact us) ∙ read_again (out_of c.stream t e) e.good) carried count adds

-- where none waits
pub fits : (c : Connected) (t : Tale) (d : Connected) (u : Tale) (e : Emits c.stream t) (k : Track d.stream u) → IsHeard c t d u (out_of c.stream t e) k → IsOf u.story.came t.sent → (count : List (Segment Octets) → ℕ) → Adds count
    → FitsIn count k.segments d.stream (map reread (out_of c.stream t e))
fits c t d u e k (Bare bare none) of count adds =
    let all : List (Segment Octets) = map reread (out_of c.stream t e) in
    let first : count k.segments ≡ count [] = ap count (no_segments k.segments (sym k.carried ∙ ap (map segment_in) bare.frames)) in
    let early : count (segments_early (scene d.stream) d.stream.early) ≡ count [] = ap (λ rs. count (segments_early (scene d.stream) rs)) none in
    omega (arith, first, early, adds.both [] [])
fits c t d u e k (Clear is) of count adds =
    let layout : Layout = expecting d.stream.start in
    let r = reaches d.stream u k t.sent of in
    let all : Octets = inbox d.stream ++ r.rest in
    let same : k.before ++ all ≡ sequence layout 0 (map segment_octets (out_of c.stream t e)) = append_cancel_left k.intro (k.before ++ all) (sequence layout 0 (map segment_octets (out_of c.stream t e))) (sym r.is ∙ is) in
    let intro : length k.intro ≡ first_place_in d.stream.start = first_is d.stream u k.intro k.begins in
    fits_by c t d u e k is of k.located (located_of layout (length k.before) all) (ap (located_of layout 0) (sym same) ∙ k.split all) (omega (arith, k.ends))
    (λ x within placed. omega (arith, k.ends, (k.early.judged.stand x within).past, k.point, intro)) k.segments (ap (map segment_in) k.named ∙ k.carried) count adds

-- where a frame waits that was placed at the in-order point
pub fits_waiting : (c : Connected) (t : Tale) (d : Connected) (u : Tale) (e : Emits c.stream t) (k : Track d.stream u) → IsHeard c t d u (out_of c.stream t e) k → IsOf u.story.came t.sent → (count : List (Segment Octets) → ℕ) → Adds count
    → (f : PlacedFrame) → d.stream.front ≡ Some f → (frame : Carried) (left : Octets) (segment : Segment Octets) → fore d.stream ≡ Some (frame, left) → segment_in frame ≡ Some segment
    → FitsIn count (k.segments ++ segment ∷ []) d.stream (map reread (out_of c.stream t e))
fits_waiting c t d u e k (Bare bare none) of count adds f front frame left segment whole carries = absurd (true≢false (sym (ap is_some front) ∙ bare.placed))
fits_waiting c t d u e k (Clear is) of count adds f front frame left segment whole carries =
    let layout : Layout = expecting d.stream.start in
    let r = reaches d.stream u k t.sent of in
    let at : ℕ = length k.before in
    let all : Octets = inbox d.stream ++ r.rest in
    let same : k.before ++ all ≡ sequence layout 0 (map segment_octets (out_of c.stream t e)) = append_cancel_left k.intro (k.before ++ all) (sequence layout 0 (map segment_octets (out_of c.stream t e))) (sym r.is ∙ is) in
    let intro : length k.intro ≡ first_place_in d.stream.start = first_is d.stream u k.intro k.begins in
    let first : first_frame layout at all ≡ Some (frame, left ++ r.rest) = first_stays layout at (inbox d.stream) r.rest frame left k.between (sym (front_is d.stream u k) ∙ whole) in
    let here : Located = located layout at all frame (left ++ r.rest) in
    let others : List Located = located_of layout (at + (length all - length (left ++ r.rest))) (left ++ r.rest) in
    let parts : located_of layout 0 (sequence layout 0 (map segment_octets (out_of c.stream t e))) ≡ (k.located ++ here ∷ []) ++ others =
    ap (located_of layout 0) (sym same) ∙ k.split all ∙ ap (λ z. k.located ++ z) (located_first layout at all frame (left ++ r.rest) k.between first) ∙ sym (append_assoc k.located (here ∷ []) others) in
    let beyond : past_last 0 (k.located ++ here ∷ []) ≡ at + (length all - length (left ++ r.rest)) = past_last-push 0 k.located here in
    let place : place_past d.stream (fore d.stream) ≡ d.stream.arrived.floor + (length (inbox d.stream) - length left) = ap (place_past d.stream) whole in
    let end = ends_there d.stream u k frame left whole in
    let w = k.fore_is f front in
    let stands : f ≡ placed (standing d.stream frame) = w.is ∙ ap (λ (x : Carried × Octets). placed (standing d.stream x.0)) (same_Some _ _ (sym w.whole ∙ whole)) in
    let to : frame_end layout.markers f.start f.len ≡ past_last 0 (k.located ++ here ∷ []) =
    ap (λ (z : PlacedFrame). frame_end layout.markers z.start z.len) stands ∙ sym end ∙ omega (arith, beyond, place, k.point, intro, length-append (inbox d.stream) r.rest, length-append left r.rest) in
    fits_by c t d u e k is of (k.located ++ here ∷ []) others parts (omega (arith, beyond)) (λ x within here_placed. omega (arith, to, k.early.clear f front x within here_placed)) (k.segments ++ segment ∷ [])
    (ap (map segment_in) (map-append (λ (z : Located). carried_by z.frame) k.located (here ∷ []))
    ∙ map-append segment_in (frames_at k.located) (frame ∷ []) ∙ (λ i. map segment_in (k.named i) ++ segment_in frame ∷ []) ∙ (λ i. k.carried i ++ carries i ∷ []) ∙ sym (map-append Some k.segments (segment ∷ [])))
    count adds

-- ---- Sends

-- an STag is the one of its number
stag_again : (stag : Stag) → FitsStag stag → stag_of (number_of stag) ≡ stag
stag_again stag fits =
    let domain : (stag_of (number_of stag)).domain ≡ stag.domain = omega (arith, fits.domain, fits.slot, fits.key) in
    let slot : (stag_of (number_of stag)).slot ≡ stag.slot = omega (arith, fits.domain, fits.slot, fits.key) in
    let key : (stag_of (number_of stag)).key ≡ stag.key = omega (arith, fits.domain, fits.slot, fits.key) in
    λ i. record { domain = domain i; slot = slot i; key = key i }

pub sends_whole : (ms : List (Request Octets)) → Each FitsPosted ms → map told (sends ms) ≡ words.sends ms
sends_whole [] h = refl
sends_whole (Posted (Write stag to octets) ∷ ms) h = sends_whole ms h.1
sends_whole (Read request ∷ ms) h = sends_whole ms h.1
sends_whole (Posted (Send octets solicited invalidate) ∷ ms) h =
    λ i. record { octets = octets; solicited = solicited; invalidate = again_optional invalidate h.0 i } ∷ sends_whole ms h.1 i
  where
    again_optional : (o : Option Stag) → FitsOptional o → option_map stag_of (option_map number_of o) ≡ o
    again_optional None fits = refl
    again_optional (Some stag) fits = ap Some (stag_again stag fits)

-- ---- the segments of what was posted

-- a segment of no message that was posted: of the response to a Read of the peer, or a Terminate
abbrev is_extra : Segment Octets → Bool
is_extra (Tagged head payload) = nat_eq (opcode_of head.control) 2
is_extra (Untagged head payload) = nat_eq head.queue 2

pub plain : List (Segment Octets) → List (Segment Octets)
plain [] = []
plain (s ∷ ss) = cond (is_extra s) (plain ss) (s ∷ plain ss)

pub plain-append : (xs ys : List (Segment Octets)) → plain (xs ++ ys) ≡ plain xs ++ plain ys
unfolding plain
plain-append [] ys = refl
plain-append (x ∷ xs) ys = go (is_extra x) (plain-append xs ys)
  where
    go : (b : Bool) → plain (xs ++ ys) ≡ plain xs ++ plain ys → cond b (plain (xs ++ ys)) (x ∷ plain (xs ++ ys)) ≡ cond b (plain xs) (x ∷ plain xs) ++ plain ys
    go true e = e
    go false e = ap (λ z. x ∷ z) e

pub joined-plain : (sofar : List ℕ) (ss : List (Segment Octets)) → joined sofar (plain ss) ≡ joined sofar ss
unfolding plain
joined-plain sofar [] = refl
joined-plain sofar (Tagged head payload ∷ ss) = go (nat_eq (opcode_of head.control) 2) (joined-plain sofar ss)
  where
    go : (b : Bool) → joined sofar (plain ss) ≡ joined sofar ss → joined sofar (cond b (plain ss) (Tagged head payload ∷ plain ss)) ≡ joined sofar ss
    go true e = e
    go false e = e
joined-plain sofar (Untagged head payload ∷ ss) = by (λ z. joined-plain z ss) (nat_eq head.queue 2) refl
  where
    go : ((z : List ℕ) → joined z (plain ss) ≡ joined z ss) → (mine last : Bool)
        → cond mine (cond last (completed head (sofar ++ payload) ∷ joined [] (plain ss)) (joined (sofar ++ payload) (plain ss))) (joined sofar (plain ss))
        ≡ cond mine (cond last (completed head (sofar ++ payload) ∷ joined [] ss) (joined (sofar ++ payload) ss)) (joined sofar ss)
    go same true true = ap (λ z. completed head (sofar ++ payload) ∷ z) (same [])
    go same true false = same (sofar ++ payload)
    go same false last = same sofar

    by : ((z : List ℕ) → joined z (plain ss) ≡ joined z ss) → (b : Bool) → nat_eq head.queue 2 ≡ b → joined sofar (cond b (plain ss) (Untagged head payload ∷ plain ss)) ≡ joined sofar (Untagged head payload ∷ ss)
    by same false e = go same (nat_eq head.queue 0) head.last
    by same true e =
        let other : nat_eq head.queue 0 ≡ false = grind (arith, nat_tests) in
        same sofar ∙ ap (λ mine. cond mine (cond head.last (completed head (sofar ++ payload) ∷ joined [] ss) (joined (sofar ++ payload) ss)) (joined sofar ss)) (sym other)

pub count-plain : (c : Cell) (ss : List (Segment Octets)) → count_segments c (plain ss) ≡ count_segments c ss
unfolding plain
count-plain c [] = refl
count-plain c (Tagged head payload ∷ ss) = go (nat_eq (opcode_of head.control) 2) refl (count-plain c ss)
  where
    go : (b : Bool) → nat_eq (opcode_of head.control) 2 ≡ b → count_segments c (plain ss) ≡ count_segments c ss
        → count_segments c (cond b (plain ss) (Tagged head payload ∷ plain ss)) ≡ cond (nat_eq (opcode_of head.control) 0) (count_in c head.stag head.to payload) 0 + count_segments c ss
    go true b e =
        let other : nat_eq (opcode_of head.control) 0 ≡ false = grind (arith, nat_tests) in
        omega (arith, e, ap (λ z. cond z (count_in c head.stag head.to payload) 0) other)
    go false b e = omega (arith, e)
count-plain c (Untagged head payload ∷ ss) = go (nat_eq head.queue 2) (count-plain c ss)
  where
    go : (b : Bool) → count_segments c (plain ss) ≡ count_segments c ss → count_segments c (cond b (plain ss) (Untagged head payload ∷ plain ss)) ≡ count_segments c ss
    go true e = e
    go false e = e

plain_cut : (room : ℕ) (segment : ℕ → Bool → Octets → Segment Octets) → ((o : ℕ) (l : Bool) (x : Octets) → is_extra (segment o l x) ≡ false)
    → (offset : ℕ) (octets : Octets) (ss : List (Segment Octets)) → IsCut room segment offset octets ss → plain ss ≡ ss
unfolding plain
plain_cut room segment told offset octets [] cut = absurd cut
plain_cut room segment told offset octets (s ∷ []) cut = ap (λ b. cond b [] (s ∷ [])) (ap is_extra cut.1 ∙ told offset true octets)
plain_cut room segment told offset octets (s ∷ x ∷ ss) cut =
    ap (λ b. cond b (plain (x ∷ ss)) (s ∷ plain (x ∷ ss))) (ap is_extra cut.2.is ∙ told offset false cut.0)
    ∙ ap (λ z. s ∷ z) (plain_cut room segment told (offset + length cut.0) cut.1 (x ∷ ss) cut.3)

plain_message : (numbers : Numbers) (m : Request Octets) (ss : List (Segment Octets)) → AreSegments numbers m 0 ss → plain ss ≡ ss
unfolding plain
plain_message numbers (Posted (Write stag to octets)) ss cut = plain_cut _ (write_segment stag to) (λ o l x. refl) 0 octets ss cut
plain_message numbers (Posted (Send octets solicited invalidate)) ss cut = plain_cut _ (send_segment numbers.send solicited invalidate) (λ o l x. refl) 0 octets ss cut
plain_message numbers (Read request) ss cut = ap plain cut ∙ sym cut

none_plain : (room : ℕ) (request : ReadRequest) (offset : ℕ) (octets : Octets) (ss : List (Segment Octets)) → IsCut room (response_segment request) offset octets ss → plain ss ≡ []
unfolding plain
none_plain room request offset octets [] cut = absurd cut
none_plain room request offset octets (s ∷ []) cut = ap (λ b. cond b [] (s ∷ [])) (ap is_extra cut.1)
none_plain room request offset octets (s ∷ x ∷ ss) cut =
    ap (λ b. cond b (plain (x ∷ ss)) (s ∷ plain (x ∷ ss))) (ap is_extra cut.2.is) ∙ none_plain room request (offset + length cut.0) cut.1 (x ∷ ss) cut.3

pub plain_spelled : (numbers : Numbers) (items : List Item) (ss : List (Segment Octets)) → AreMerged numbers 0 items ss → AreSpelled numbers 0 (posts_in items) (plain ss)
unfolding plain
plain_spelled numbers [] ss h = ap plain h
plain_spelled numbers (Post m ∷ items) ss (mine, later, is, one, rest) =
    (mine, plain later, ap plain is ∙ plain-append mine later ∙ ap (λ z. z ++ plain later) (plain_message numbers m mine one), one, plain_spelled (numbers_after numbers m) items later rest)
plain_spelled numbers (Response a ∷ items) ss (mine, later, is, one, rest) =
    subst (AreSpelled numbers 0 (posts_in items)) (sym (ap plain is ∙ plain-append mine later ∙ ap (λ z. z ++ plain later) (none_plain (64512 - 14) a.request 0 a.octets mine one.1)))
    (plain_spelled numbers items later rest)

-- the RTR is no Send, and has no octets
nothing_in : (c : Cell) (stag : Stag) (to : ℕ) → count_in c stag to [] ≡ 0
nothing_in c stag to = go (eqb (number_of stag) c.stag)
  where
    go : (b : Bool) → ◌≡◌ {A = ℕ} (cond b 0 0) 0
    go true = refl
    go false = refl

pub ready_sends : (start : StartState) (ms : List (Request Octets)) → sends (ready_in start ++ ms) ≡ sends ms
ready_sends start ms = go (rtr_in start)
  where
    go : (o : Option Rtr) → sends (listed (option_map rtr_message o) ++ ms) ≡ sends ms
    go None = refl
    go (Some rtrs.Write) = refl
    go (Some rtrs.Read) = refl

pub ready_writes : (c : Cell) (start : StartState) (ms : List (Request Octets)) → count_writes c (ready_in start ++ ms) ≡ count_writes c ms
ready_writes c start ms = go (rtr_in start)
  where
    go : (o : Option Rtr) → count_writes c (listed (option_map rtr_message o) ++ ms) ≡ count_writes c ms
    go None = refl
    go (Some rtrs.Write) = omega (arith, nothing_in c rtr_stag 0)
    go (Some rtrs.Read) = refl

ready_before : (c : Cell) (k : ℕ) (start : StartState) (ms : List (Request Octets)) → count_before c k (ready_in start ++ ms) ≡ count_before c k ms
ready_before c k start ms = go (rtr_in start)
  where
    go : (o : Option Rtr) → count_before c k (listed (option_map rtr_message o) ++ ms) ≡ count_before c k ms
    go None = refl
    go (Some rtrs.Write) = omega (arith, nothing_in c rtr_stag 0)
    go (Some rtrs.Read) = refl

-- what was sent goes on to all that was posted and asked for
pub record Whole (ready : List (Request Octets)) (t : Tale) (segments : List (Segment Octets)) (asked : List ReadRequest) (fetched : Octets) : Type 0 where
  pub items : List Item
  pub later : List (Segment Octets)
  pub merged : AreMerged first_numbers 0 items (segments ++ later)
  pub posts : posts_in items ≡ ready ++ t.posted
  pub requests : map (λ (a : Answer). a.request) (answers_in items) ≡ asked
  pub octets : responded segments ≡ fetched

pub whole_of : (s : StreamState) (t : Tale) (e : Emits s t) → Whole (ready_in s.start) t e.segments (map (λ (a : Answer). a.request) t.story.answers ++ map (λ (a : Asked). a.request) s.asked.unanswered) (octets_of t.story.answers ++ t.story.begun)
whole_of s t e =
    let k = e.merges in
    let q : Queue = with_left e.left e.kept in
    let g = goes_to q s.numbers s.asked.unanswered t.story.begun s.asked.fetched e.asks.fetched e.asks.begun k.apart (all_begun e) in
    let m = some_merged s.numbers (e.kept.offset + length t.story.begun) g.items g.whole in
    record {
      items = k.items ++ g.items;
      later = m.0;
      merged = k.goes_on g.items m.0 g.goes m.1;
      posts = posts-append k.items g.items ∙ ap (λ z. posts_in k.items ++ z) g.posts ∙ k.posts;
      requests = ap (map (λ (a : Answer). a.request)) (answers-append k.items g.items) ∙ map-append (λ (a : Answer). a.request) (answers_in k.items) (answers_in g.items)
          ∙ (λ i. map (λ (a : Answer). a.request) (k.are i) ++ g.requests i);
      octets = sent_octets q s.numbers s.asked.unanswered t.story.begun k.items g.items e.segments m.0 g.goes k.apart m.1 (k.goes_on g.items m.0 g.goes m.1)
          ∙ ap (λ z. octets_of z ++ t.story.begun) k.are;
    }

-- the segments that were sent go on to all that was posted
record GoesOn (ready : List (Request Octets)) (t : Tale) (first : List (Segment Octets)) : Type 0 where
  pub later : List (Segment Octets)
  pub spelled : AreSpelled first_numbers 0 (ready ++ t.posted) (plain first ++ later)

-- a Terminate is none of them
plain-farewells : (o : Option Octets) → plain (farewells o) ≡ []
unfolding plain
plain-farewells None = refl
plain-farewells (Some payload) = refl

-- the same, as it is read again
pub plain-reread : (ss : List (Segment Octets)) → plain (map reread ss) ≡ plain ss
unfolding plain reread
plain-reread [] = refl
plain-reread (Untagged head payload ∷ ss) = ap (λ z. cond (nat_eq head.queue 2) z (Untagged head payload ∷ z)) (plain-reread ss)
plain-reread (Tagged head payload ∷ ss) = go (nat_eq (opcode_of head.control) 2) refl (plain-reread ss)
  where
    go : (b : Bool) → nat_eq (opcode_of head.control) 2 ≡ b → plain (map reread ss) ≡ plain ss
        → plain (cond b (Tagged (tagged_fields (tagged_octets head)) payload) (Tagged head payload) ∷ map reread ss) ≡ cond b (plain ss) (Tagged head payload ∷ plain ss)
    go true e h = ap (λ b. cond b (plain (map reread ss)) (Tagged (tagged_fields (tagged_octets head)) payload ∷ plain (map reread ss))) (ap (λ c. nat_eq (opcode_of c) 2) (same_control head) ∙ e) ∙ h
    go false e h = ap (λ b. cond b (plain (map reread ss)) (Tagged head payload ∷ plain (map reread ss))) e ∙ ap (λ z. Tagged head payload ∷ z) h

goes_on : (s : StreamState) (t : Tale) (e : Emits s t) (first later : List (Segment Octets)) → map reread (out_of s t e) ≡ first ++ later → GoesOn (ready_in s.start) t first
goes_on s t e first later is =
    let w = whole_of s t e in
    let parted : List (Segment Octets) = farewells t.story.farewell in
    let alone : plain (out_of s t e) ≡ plain e.segments = plain-append e.segments parted ∙ ap (λ z. plain e.segments ++ z) (plain-farewells t.story.farewell) ∙ append-nil (plain e.segments) in
    let mine : plain e.segments ≡ plain first ++ plain later = sym alone ∙ sym (plain-reread (out_of s t e)) ∙ ap plain is ∙ plain-append first later in
    record {
      later = plain later ++ plain w.later;
      spelled = subst (λ z. AreSpelled first_numbers 0 z (plain first ++ (plain later ++ plain w.later))) w.posts
          (subst (AreSpelled first_numbers 0 (posts_in w.items)) (plain-append e.segments w.later ∙ ap (λ z. z ++ plain w.later) mine ∙ append_assoc (plain first) (plain later) (plain w.later)) (plain_spelled first_numbers w.items (e.segments ++ w.later) w.merged));
    }

-- what is left out of the segments is none of a Send
begun-plain : (sofar : List ℕ) (ss : List (Segment Octets)) → begun sofar (plain ss) ≡ begun sofar ss
unfolding plain
begun-plain sofar [] = refl
begun-plain sofar (Tagged head payload ∷ ss) = go (nat_eq (opcode_of head.control) 2) (begun-plain sofar ss)
  where
    go : (b : Bool) → begun sofar (plain ss) ≡ begun sofar ss → begun sofar (cond b (plain ss) (Tagged head payload ∷ plain ss)) ≡ begun sofar ss
    go true e = e
    go false e = e
begun-plain sofar (Untagged head payload ∷ ss) = by (λ z. begun-plain z ss) (nat_eq head.queue 2) refl
  where
    go : ((z : List ℕ) → begun z (plain ss) ≡ begun z ss) → (mine last : Bool)
        → cond mine (cond last (begun [] (plain ss)) (begun (sofar ++ payload) (plain ss))) (begun sofar (plain ss)) ≡ cond mine (cond last (begun [] ss) (begun (sofar ++ payload) ss)) (begun sofar ss)
    go same true true = same []
    go same true false = same (sofar ++ payload)
    go same false last = same sofar

    by : ((z : List ℕ) → begun z (plain ss) ≡ begun z ss) → (b : Bool) → nat_eq head.queue 2 ≡ b → begun sofar (cond b (plain ss) (Untagged head payload ∷ plain ss)) ≡ begun sofar (Untagged head payload ∷ ss)
    by same false e = go same (nat_eq head.queue 0) head.last
    by same true e =
        let other : nat_eq head.queue 0 ≡ false = grind (arith, nat_tests) in
        same sofar ∙ ap (λ mine. cond mine (cond head.last (begun [] ss) (begun (sofar ++ payload) ss)) (begun sofar ss)) (sym other)

-- so the Sends among all are numbered as those among the others are
numbered_plain : (ss later : List (Segment Octets)) → Numbered (plain ss ++ later) → Numbered ss
unfolding plain
numbered_plain ss later k a b head payload is queue =
    let mine : nat_eq head.queue 2 ≡ false = grind (arith, nat_tests) in
    let parts : plain ss ++ later ≡ plain a ++ Untagged head payload ∷ (plain b ++ later) =
    ap (λ z. z ++ later) (ap plain is ∙ plain-append a (Untagged head payload ∷ b) ∙ ap (λ c. plain a ++ cond c (plain b) (Untagged head payload ∷ plain b)) mine) ∙ append_assoc (plain a) (Untagged head payload ∷ plain b) later in
    let w = k (plain a) (plain b ++ later) head payload parts queue in
    (w.0 ∙ ap (λ z. (1 + length z) % 2 ^ 32) (joined-plain [] a), w.1 ∙ ap length (begun-plain [] a))

-- what was received are the Sends that the segments complete
pub received_are : (c : Connected) (t : Tale) (d : Connected) (u : Tale) (e : Emits c.stream t) (k : Track d.stream u) → IsHeard c t d u (out_of c.stream t e) k → IsOf u.story.came t.sent → Fills d.stream u → u.received ≡ map told (joined [] k.segments)
received_are c t d u e k (Bare bare none) of fills =
    let firsts : k.segments ≡ [] = no_segments k.segments (sym k.carried ∙ ap (map segment_in) bare.frames) in
    nothing u.received (omega (arith, k.joins.completed_are, ap (λ z. length (joined [] z)) firsts)) ∙ ap (λ z. map told (joined [] z)) (sym firsts)
  where
    nothing : {A : Type 0} (xs : List A) → length xs ≡ 0 → xs ≡ []
    nothing [] e = refl
    nothing (x ∷ xs) e = absurd (omega (arith, e))
received_are c t d u e k (Clear is) of fills =
    let out : List (Segment Octets) = out_of c.stream t e in
    let us : List Octets = map segment_octets out in
    let all : List (Segment Octets) = map reread out in
    let g = goes_on c.stream t e all [] (sym (append-nil all)) in
    let x = delivered c t d u e k (Clear is) of in
    let turns : u.story.turns ≡ length k.segments = omega (arith, k.turns, same_count k.frames k.segments k.carried) in
    let o = fills us all (all_short out e.good) (sym (read_intact us) ∙ read_again out e.good) (numbered_plain all g.later (are_numbered first_numbers (ready_in c.stream.start ++ t.posted) (plain all ++ g.later) g.spelled refl))
    (subst (λ z. IsOf u.story.came (z ++ sequence (expecting d.stream.start) 0 us)) k.begins.octets (subst (IsOf u.story.came) is of)) in
    o.received_are ∙ ap (λ z. map told (joined [] z)) ((λ i. take (turns i) (x.1 i)) ∙ take-append_seam k.segments x.0)
  where
    same_count : (fs : List Carried) (xs : List (Segment Octets)) → map segment_in fs ≡ map Some xs → length fs ≡ length xs
    same_count [] [] e = refl
    same_count [] (x ∷ xs) e = absurd (omega (arith, ap length e))
    same_count (f ∷ fs) [] e = absurd (omega (arith, ap length e))
    same_count (f ∷ fs) (x ∷ xs) e = let tail : map segment_in fs ≡ map Some xs = cc e in omega (arith, same_count fs xs tail)

-- what was received is a prefix of the Sends posted
pub received_prefix : (c : Connected) (t : Tale) (d : Connected) (u : Tale) (e : Emits c.stream t) (k : Track d.stream u) → IsHeard c t d u (out_of c.stream t e) k → IsOf u.story.came t.sent → Fills d.stream u → IsPrefixOf u.received (words.sends t.posted)
received_prefix c t d u e k heard of fills =
    let x = delivered c t d u e k heard of in
    let g = goes_on c.stream t e k.segments x.0 x.1 in
    let p = spelled_in_order first_numbers (ready_in c.stream.start ++ t.posted) (plain k.segments) g.later g.spelled in (
      map told p.0,
      ap (λ z. z ++ map told p.0) (received_are c t d u e k heard of fills ∙ ap (map told) (sym (joined-plain [] k.segments)))
          ∙ sym (map-append told (joined [] (plain k.segments)) p.0) ∙ ap (map told) (p.1 ∙ ready_sends c.stream.start t.posted) ∙ sends_whole t.posted e.fit,
    )

-- ---- Writes

covers_plain : (cell : Cell) (ss : List (Segment Octets)) {n : ℕ} → count_segments cell (plain ss) ≤ n → count_segments cell ss ≤ n
covers_plain cell ss h = omega (arith, h, count-plain cell ss)

-- what was sent is not more than what was posted
all_few : (s : StreamState) (t : Tale) (e : Emits s t) (cell : Cell) → count_segments cell (map reread (out_of s t e)) ≤ count_writes cell t.posted
all_few s t e cell =
    let all : List (Segment Octets) = map reread (out_of s t e) in
    let g = goes_on s t e all [] (sym (append-nil all)) in
    let covered : IsCovered cell (ready_in s.start ++ t.posted) (plain all) = spelled_covered first_numbers (ready_in s.start ++ t.posted) (plain all) g.later g.spelled cell in
    covers_plain cell all (subst (λ n. count_segments cell (plain all) ≤ n) (ready_writes cell s.start t.posted) covered.most)

-- what was placed is not more than what was posted
most : (c : Connected) (t : Tale) (d : Connected) (u : Tale) (e : Emits c.stream t) (k : Track d.stream u) → IsHeard c t d u (out_of c.stream t e) k → IsOf u.story.came t.sent → (cell : Cell) → count_writes cell (written u.placings) ≤ count_writes cell t.posted
most c t d u e k heard of cell =
    omega (arith, k.early.written_are cell, k.joins.counted cell, all_few c.stream t e cell, go d.stream.front refl (fore d.stream) refl)
  where
    counts : Adds (count_segments cell)
    counts = record { both = count-append cell }

    shown : (o : Option PlacedFrame) → d.stream.front ≡ o → (p : Option (Segment Octets)) (frame : Carried) (left : Octets) → fore d.stream ≡ Some (frame, left) → segment_in frame ≡ p
        → count_segments cell k.segments + count_waiting cell (is_some o) p + count_segments cell (segments_early (scene d.stream) d.stream.early) ≤ count_segments cell (map reread (out_of c.stream t e))
    shown None is p frame left whole carries = omega (arith, fits c t d u e k heard of (count_segments cell) counts)
    shown (Some f) is None frame left whole carries = omega (arith, fits c t d u e k heard of (count_segments cell) counts)
    shown (Some f) is (Some segment) frame left whole carries =
        omega (arith, fits_waiting c t d u e k heard of (count_segments cell) counts f is frame left segment whole carries, count-append cell k.segments (segment ∷ []))

    go : (o : Option PlacedFrame) → d.stream.front ≡ o → (f : Front) → fore d.stream ≡ f
        → count_segments cell k.segments + count_waiting cell (is_some o) (segment_at f) + count_segments cell (segments_early (scene d.stream) d.stream.early) ≤ count_segments cell (map reread (out_of c.stream t e))
    go None is f whole = omega (arith, fits c t d u e k heard of (count_segments cell) counts)
    go (Some p) is None whole = omega (arith, fits c t d u e k heard of (count_segments cell) counts)
    go (Some p) is (Some (frame, left)) whole = shown (Some p) is (segment_in frame) frame left whole refl

pub writes_covered : (c : Connected) (t : Tale) (d : Connected) (u : Tale) (e : Emits c.stream t) (k : Track d.stream u) → IsHeard c t d u (out_of c.stream t e) k → IsOf u.story.came t.sent → (cell : Cell) → CoversWrites t.posted (written u.placings) (length u.received) cell
writes_covered c t d u e k heard of cell =
    let x = delivered c t d u e k heard of in
    let g = goes_on c.stream t e k.segments x.0 x.1 in
    let covered : IsCovered cell (ready_in c.stream.start ++ t.posted) (plain k.segments) = spelled_covered first_numbers (ready_in c.stream.start ++ t.posted) (plain k.segments) g.later g.spelled cell in
    let few : length u.received ≡ length (joined [] (plain k.segments)) = k.joins.completed_are ∙ ap length (sym (joined-plain [] k.segments)) in
    record {
      before = λ n lt. omega (arith, covered.before n (omega (arith, lt, few)), ready_before cell n c.stream.start t.posted, k.early.written_are cell, k.joins.counted cell, count-plain cell k.segments);
      most = most c t d u e k heard of cell;
    }
