-- Where what came is what was sent, in frames whose Sends are numbered: what was received is what was sent, and of the messages that are not complete what was placed stands in their buffers; at each act.
use Rattle.std.proofs.Common.{◌≡◌, ◌⊎◌, inl, inr, ℕ, suc, ◌+◌, ◌-◌, ◌%◌, ◌^◌, ◌<◌, ◌≤◌, List, [], ◌∷◌, ◌++◌, length, map, take, drop, replicate, Option, Some, None, Ok, Err, Bool, true, false, cond, refl, sym, ap, ◌∙◌, subst, arith, append_assoc, length-append}
use Rattle.std.specs.Prelude.{All, is_some, nat_eq, slice_index_or}
use Rattle.std.specs.List.{Contains}
use Rattle.std.proofs.lemmas.Bool.{cases_lt, true≢false, false≢true}
use Rattle.std.proofs.lemmas.Bool.Decides.{nat_tests}
use Rattle.std.proofs.lemmas.List.{append-nil, map-append}
use Rattle.std.proofs.lemmas.Option.{same_Some}
use Rattle.std.proofs.Math.Seq.{take-append_seam}
use Rattle.arrayvec.specs.ArrayVec.{ArrayVec}
use Rattle.iw_ranges.specs.Nearest.{place_near, before_start}
use Rattle.iw_octets.specs.declared.head.UntaggedHead.{UntaggedHead}
use Rattle.iw_octets.specs.declared.head.TaggedHead.{TaggedHead}
use Rattle.iw_octets.specs.declared.segment.Segment.{Segment}
use Rattle.iw_octets.specs.declared.segment.Segment.TheVariants.{Tagged, Untagged}
use Rattle.iw_octets.specs.Segment.{read_segment}
use Rattle.iw_memory.specs.Table.{Table}
use Rattle.iw_ranges.specs.declared.Delivery.TheVariants.{Kept, Dropped}
use Rattle.iw_ranges.specs.InOrder.{IsOf}
use Rattle.iw_fpdu.specs.declared.layout.Layout.{Layout}
use Rattle.iw_fpdu.specs.Places.{frame_start, span_start, IsStart}
use Rattle.iw_fpdu.specs.Frame.{max_sent}
use Rattle.iw_fpdu.specs.Found.{IsWhole, ulpdu_len}
use Rattle.iw_fpdu.specs.Laws.{found_at}
use Rattle.iw_fpdu.specs.Sequence.{Carried, sequence, place_past}
use Rattle.iw_fpdu.proofs.Octets.{span_low, length_within}
use Rattle.iw_locate.specs.declared.judged.State.{State}
use Rattle.iw_locate.specs.declared.judged.State.TheVariants as states
use Rattle.iw_locate.specs.Records.{IsPlaced, added}
use Rattle.iw_locate.specs.Free.{point_of, front_of}
use Rattle.iw_locate.proofs.Holds.{adds_one, keeps_from}
use Rattle.iw_locate.proofs.Honest.{IsReadOf, of_earlier}
use Rattle.iw_locate.proofs.Sequenced.{IsOneOf, start_low}
use Rattle.iw_fpdu.proofs.Sequences.{between_past}
use Rattle.iw_fpdu.proofs.Follows.{frames_follow}
use Rattle.iw_queues.specs.Joined.{Whole, joined, completed}
use Rattle.iw_untagged.specs.Receiving.{Receiving, ahead_of, bound_to, buffer_fault, oldest, written, written_in}
use Rattle.iw_stream.specs.declared.landing.PlacedFrame.{PlacedFrame}
use Rattle.iw_stream.specs.Frames.{Frame, EarlyRecord, placed, placed_at, record_of, payload_of}
use Rattle.iw_stream.specs.Frames as frames
use Rattle.iw_octets.specs.Operation.{opcode_of, untagged_operation}
use Rattle.iw_stream.specs.Judging as judging
use Rattle.iw_stream.specs.Starting.{is_open, expecting, first_place_in}
use Rattle.iw_stream.specs.Stream.{StreamState, Due, StartUp, LastWord, Response, NextPart, NoneDue, due, ended, Ready}
use Rattle.iw_stream.specs.Work.{scene, waiting, inbox}
use Rattle.iw_laws.proofs.Rooms.{heard_open}
use Rattle.iw_stream.specs.Work as work
use Rattle.iw_startup.specs.declared.progress.Progress.TheVariants as progresses
use Rattle.iw_events.specs.declared.act.StreamAct.{StreamAct}
use Rattle.iw_events.specs.declared.act.StreamAct.TheVariants.{Recv, Post, Emit, First, Deliver, Raw, Mulpdu, Accept, Reject, Work, Break}
use Rattle.iw_events.specs.declared.act.Shown.{Shown}
use Rattle.iw_events.specs.declared.act.Shown.TheVariants as shows
use Rattle.iw_events.specs.declared.act.Seen.{Seen}
use Rattle.iw_events.specs.declared.act.Seen.TheVariants as seen
use Rattle.iw_laws.specs.Words.{Octets, Sent, deed, ended_after, received_by, private_data}
use Rattle.iw_laws.specs.Turns.{story_seen, in_order_point}
use Rattle.iw_laws.proofs.Checks.{GoesTo, checked_buffer, has_bound, places_in, places_more, places_next, places_oldest, places_written}
use Rattle.iw_laws.proofs.Joins.{Waits, begun, told, joined-append, joined_next, completed_told}
use Rattle.iw_laws.proofs.Buffers.{StandAt, reads_on}
use Rattle.iw_laws.proofs.Numbered.{Segments, Numbered, more_joined, same_there, queue_in}
use Rattle.iw_laws.proofs.Filled.{StandPlaced, fewer_placed, other_placed, one_placed, posted_placed, next_placed, reads_begun, bound_placed}
use Rattle.iw_laws.proofs.Judged.{IsOpenAt}
use Rattle.iw_laws.proofs.Judged.{open_at}
use Rattle.iw_laws.proofs.EarlySent.{WasSent, scene_sent, free_sent}
use Rattle.iw_laws.proofs.Nexts.{place_past as place_past_front}
use Rattle.iw_laws.proofs.Nexts.{fore, segment_in, segment_at, standing, turned_by}
use Rattle.iw_laws.proofs.Told.{Told, Fronts, IsPassing, early_left, fault_open, judged_payload, payload_there, payload_early, after_act, after_shown, left_frame}
use Rattle.iw_laws.proofs.Tales.{Tale, tale_after}
use Rattle.iw_laws.proofs.Tracks.{Track, start_octets, first_is, first_early, shown_stays, accepting, refusing, left_there, left_early, left_tried, turning}
use Rattle.iw_laws.proofs.Onces.{not_heard, not_answered}
use Rattle.iw_laws.proofs.Reached.{Firsts, firsts, next_segment, begins_before, front_of_longer, near_by, same_place, Carries, carries_at, come_near}

-- ---- which of the frames that were sent were placed

-- the frame of a record has so many before it
pub record IsAt (layout : Layout) (us : List Octets) (n : ℕ) (r : EarlyRecord) : Type 0 where
  pub ulpdu : Octets
  pub one : IsOneOf layout 0 us r.start ulpdu
  pub as_many : length one.before ≡ n

-- those that had their turn, the one at the in-order point, and those that have a record
abbrev pub WerePlaced : StreamState → ℕ → List Octets → ℕ → Type 0
WerePlaced s turns us n =
    (n < turns)
    ⊎ (((n ≡ turns) × (is_some s.front ≡ true)) ⊎ ((r : EarlyRecord) × Contains s.early r × IsPlaced r.state × IsAt (expecting s.start) us n r))

pub record AreFilled (s : StreamState) (t : Tale) (us : List Octets) (ss : Segments) : Type 0 where
  pub received_are : t.received ≡ map told (joined [] (take t.story.turns ss))
  pub stand : ended s ≡ false → StandPlaced ss (WerePlaced s t.story.turns us) (length t.received) (places_in s.receiving.source)

abbrev pub Fills : StreamState → Tale → Type 0
Fills s t =
    (us : List Octets) (ss : Segments) → All (λ u. length u ≤ max_sent) us → map read_segment us ≡ map Some ss → Numbered ss
    → IsOf t.story.came (start_octets s.start ++ sequence (expecting s.start) 0 us) → AreFilled s t us ss

-- ---- acts that place nothing

-- what is kept of the frames stays, or is less, and the buffers hold what they held
pub record StaysFilled (s s' : StreamState) (t t' : Tale) : Type 0 where
  pub start : s'.start ≡ s.start
  pub front : s'.front ≡ s.front
  pub early : s'.early ≡ s.early
  pub came : (octets : Octets) → IsOf t'.story.came octets → IsOf t.story.came octets
  pub turns : t'.story.turns ≡ t.story.turns
  pub received : t'.received ≡ t.received
  pub running : ended s' ≡ false → ended s ≡ false
  pub buffers : ended s' ≡ false → (more : List (List ℕ)) × ((places_in s'.receiving.source) ≡ (places_in s.receiving.source) ++ more)

stays_filled : (s s' : StreamState) (t t' : Tale) → StaysFilled s s' t t' → Fills s t → Fills s' t'
stays_filled s s' t t' w k us ss short reads numbered of =
    let o = k us ss short reads numbered (w.came (start_octets s.start ++ sequence (expecting s.start) 0 us) (subst (λ z. IsOf t'.story.came (start_octets z ++ sequence (expecting z) 0 us)) w.start of)) in
    record {
      received_are = w.received ∙ o.received_are ∙ ap (λ n. map told (joined [] (take n ss))) (sym w.turns);
      stand = λ runs.
          let more = w.buffers runs in
          subst (λ z. StandPlaced ss (WerePlaced s' t'.story.turns us) z (places_in s'.receiving.source)) (ap length (sym w.received))
          (subst (λ z. StandPlaced ss (WerePlaced s' t'.story.turns us) (length t.received) z) (sym more.1)
          (posted_placed ss (WerePlaced s' t'.story.turns us) (length t.received) (places_in s.receiving.source) more.0
          (fewer_placed ss (WerePlaced s t.story.turns us) (WerePlaced s' t'.story.turns us) (length t.received) (places_in s.receiving.source) same (o.stand (w.running runs)))));
    }
  where
    same : (j : ℕ) → WerePlaced s' t'.story.turns us j → WerePlaced s t.story.turns us j
    same j (inl before) = inl (omega (arith, before, w.turns))
    same j (inr (inl (here, some))) = inr (inl (here ∙ w.turns, sym (ap is_some w.front) ∙ some))
    same j (inr (inr (r, within, is_placed, at))) = inr (inr (r, subst (λ rs. Contains rs r) w.early within, is_placed, subst (λ z. IsAt (expecting z) us j r) w.start at))

-- of a stream that isn't open nothing had its turn, and nothing was placed
pub nothing_placed : (s' : StreamState) (t' : Tale) → t'.story.turns ≡ 0 → t'.received ≡ [] → s'.front ≡ None → s'.early ≡ [] → Fills s' t'
nothing_placed s' t' turns received front early us ss short reads numbered of = record {
  received_are = received ∙ ap (λ n. map told (joined [] (take n ss))) (sym turns);
  stand = λ runs a b head payload is queue p due. absurd (none (length a) p);
}
  where
    none : (j : ℕ) → WerePlaced s' t'.story.turns us j → ⊥
    none j (inl before) = omega (arith, before, turns)
    none j (inr (inl (here, some))) = false≢true (ap is_some (sym front) ∙ some)
    none j (inr (inr (r, within, is_placed, at))) = none_in (subst (λ rs. Contains rs r) early within)
      where
        none_in : {r : EarlyRecord} → Contains [] r → ⊥
        none_in (i, lt, is) = omega (arith, lt)

-- ---- numbers and buffers

-- how far the number of a message is past that of the one that is due
ahead_is : (d msn n c : ℕ) → d ≡ (1 + n) % 2 ^ 32 → msn ≡ (1 + c) % 2 ^ 32 → n ≤ c → c < n + 2 ^ 32 → ahead_of d msn ≡ c - n
ahead_is d msn n c due number low near = omega arith

-- the segment of a Send is written into the buffer that its number names
written_placed : (ss : Segments) (P Q : ℕ → Type 0) (r : Receiving) (n : ℕ) (a b : Segments) (head : UntaggedHead) (payload octets : Octets) (msn mo : ℕ) → Numbered ss → ss ≡ a ++ Untagged head payload ∷ b → head.queue ≡ 0
    → r.due ≡ (1 + n) % 2 ^ 32 → n ≤ length (joined [] a) → length (joined [] a) < n + 2 ^ 32 → buffer_fault r head.msn head.mo (length payload) ≡ None → msn ≡ head.msn → mo ≡ head.mo → octets ≡ payload
    → ((j : ℕ) → Q j → P j ⊎ (j ≡ length a)) → StandPlaced ss P n (places_in r.source) → StandPlaced ss Q n (places_in (written r msn mo octets).source)
written_placed ss P Q r n a b head payload octets msn mo numbered is queue due_is due near checked msn_is mo_is same more k =
    let number = numbered a b head payload is queue in
    let i : ℕ = length (joined [] a) - n in
    let at : ahead_of r.due head.msn ≡ i = ahead_is r.due head.msn n (length (joined [] a)) due_is number.0 due near in
    let goes : GoesTo r.source i (length (begun [] a) + length payload) =
    subst (λ m. GoesTo r.source m (length (begun [] a) + length payload)) at
    (subst (λ m. GoesTo r.source (ahead_of r.due head.msn) (m + length payload)) number.1 (checked_buffer r head (length payload) checked)) in
    subst (λ z. StandPlaced ss Q n z) (λ j. places_in (written r (sym msn_is j) (sym mo_is j) (sym same j)).source)
    (subst (λ z. StandPlaced ss Q n z) (λ j. places_in (written_in (bound_to r.source (sym at j)) (sym at j) (sym number.1 j) payload))
    (subst (λ z. StandPlaced ss Q n z) (sym (places_written r.source i (length (begun [] a) + length payload) (length (begun [] a)) payload goes))
    (one_placed ss n (places_in (bound_to r.source i)) a b head payload is queue due (has_bound r.source i (length (begun [] a) + length payload) goes) P Q more (bound_placed ss P n i r.source k))))

-- one segment completes one message at most
few_joined : (sofar : List ℕ) (ss : Segments) → length (joined sofar ss) ≤ length ss
few_joined sofar [] = omega arith
few_joined sofar (Tagged head payload ∷ ss) = omega (arith, few_joined sofar ss)
few_joined sofar (Untagged head payload ∷ ss) = go (λ z. few_joined z ss) (nat_eq head.queue 0) head.last
  where
    go : ((z : List ℕ) → length (joined z ss) ≤ length ss) → (mine last : Bool)
        → length (cond mine (cond last (completed head (sofar ++ payload) ∷ joined [] ss) (joined (sofar ++ payload) ss)) (joined sofar ss)) ≤ suc (length ss)
    go few true true = omega (arith, few [])
    go few true false = omega (arith, few (sofar ++ payload))
    go few false last = omega (arith, few sofar)

-- ---- where what came was sent

module _ (s : StreamState) (t : Tale) (k : Track s t) (us : List Octets) (ss : Segments) (short : All (λ u. length u ≤ max_sent) us) (reads : map read_segment us ≡ map Some ss)
    (numbered : Numbered ss) (of : IsOf t.story.came (start_octets s.start ++ sequence (expecting s.start) 0 us)) (o : AreFilled s t us ss) (due : s.receiving.due ≡ (1 + length t.received) % 2 ^ 32) where
  layout : Layout
  layout = expecting s.start

  n : ℕ
  n = length t.received

  of_intro : IsOf t.story.came (k.intro ++ sequence (expecting s.start) 0 us)
  of_intro = subst (λ z. IsOf t.story.came (z ++ sequence (expecting s.start) 0 us)) (sym k.begins.octets) of

  first : Firsts s t k us ss
  first = firsts s t k us ss short reads of_intro

  complete : length t.received ≡ length (joined [] k.segments)
  complete = k.joins.completed_are

  turned_are : take t.story.turns ss ≡ k.segments
  turned_are = (λ i. take (sym first.as_many i) (first.segments i)) ∙ take-append_seam k.segments first.later

  received_so : t.received ≡ map told (joined [] k.segments)
  received_so = o.received_are ∙ ap (λ z. map told (joined [] z)) turned_are

  point_is : point_of (scene s) ≡ place_past (expecting s.start) 0 first.done
  point_is = omega (arith, k.point, first_is s t k.intro k.begins, first.place)

  -- a frame at the in-order point or past it has no fewer before it than had their turn
  from_turns : (start : ℕ) (u : Octets) → (x : IsOneOf (expecting s.start) 0 us start u) → point_of (scene s) ≤ span_start true start → t.story.turns ≤ length x.before
  from_turns start u x past =
      elim (cases_lt (length x.before) t.story.turns) [
        | inl less ↦
            absurd (omega (arith, begins_before (expecting s.start) x.before x.after first.done first.rest u (sym x.is ∙ first.is) (omega (arith, less, first.count)), x.place, span_low true start, past, point_is))
        | inr no_less ↦ no_less
      ]

  -- and one that came has few more
  near_turns : (start : ℕ) (u : Octets) → (x : IsOneOf (expecting s.start) 0 us start u) → t.story.turns ≤ length x.before → IsWhole s.arrived (expecting s.start).markers (first_place_in s.start) start → IsStart (expecting s.start).markers start
      → length x.before ≤ t.story.turns + 2 ^ 18
  near_turns start u x low whole is_start =
      let near = near_by (expecting s.start) x.before x.after first.done first.rest u (sym x.is ∙ first.is) (omega (arith, low, first.count)) in
      let come = whole start (span_low (expecting s.start).markers start) (omega (arith, length_within (expecting s.start).markers start (ulpdu_len (found_at s.arrived (expecting s.start) (first_place_in s.start) start)) is_start)) in
      omega (arith, near, x.place, come_near s.arrived (first_place_in s.start + start) k.window come, point_is, first.count, k.point, first_is s t k.intro k.begins)

  -- the frame at the in-order point has as many
  front_turns : (start : ℕ) (u : Octets) → (x : IsOneOf (expecting s.start) 0 us start u) → start ≡ front_of (scene s) → length x.before ≡ t.story.turns
  front_turns start u x at =
      elim (cases_lt (length x.before) t.story.turns) [
        | inl less ↦
            absurd (omega (arith, begins_before (expecting s.start) x.before x.after first.done first.rest u (sym x.is ∙ first.is) (omega (arith, less, first.count)), x.place, here, low_done))
        | inr no_less ↦
            elim (cases_lt t.story.turns (length x.before)) [
              | inl more ↦ absurd (past first.rest first.is more)
              | inr no_more ↦ omega (arith, no_less, no_more)
            ]
      ]
    where
      here : start ≡ frame_start (expecting s.start).markers (place_past (expecting s.start) 0 first.done)
      here = at ∙ ap (frame_start (expecting s.start).markers) point_is

      low_done : place_past (expecting s.start) 0 first.done ≤ frame_start (expecting s.start).markers (place_past (expecting s.start) 0 first.done)
      low_done = start_low (expecting s.start) (place_past (expecting s.start) 0 first.done) (between_past (expecting s.start) 0 first.done (frames_follow.first (expecting s.start).markers))

      past : (rest : List Octets) → us ≡ first.done ++ rest → t.story.turns < length x.before → ⊥
      past [] e more = omega (arith, ap length (sym x.is ∙ e), length-append first.done [], length-append x.before (u ∷ x.after), first.count, more)
      past (w ∷ rest) e more =
          let before = begins_before (expecting s.start) first.done rest x.before (u ∷ x.after) w (sym e ∙ x.is) (omega (arith, more, first.count)) in
          omega (arith, before, here, x.place, start_low (expecting s.start) (place_past (expecting s.start) 0 x.before) (between_past (expecting s.start) 0 x.before (frames_follow.first (expecting s.start).markers)))

  -- where it waits for its turn, it was placed
  front_placed : (f : PlacedFrame) → waiting s ≡ Some f → WerePlaced s t.story.turns us t.story.turns
  front_placed f waits = go s.front refl
    where
      go : (front : Option PlacedFrame) → s.front ≡ front → WerePlaced s t.story.turns us t.story.turns
      go (Some g) is = inr (inl (refl, ap is_some is))
      go None is =
          let w = first_early s t k f is waits in
          let within : Contains s.early w.first = subst (λ rs. Contains rs w.first) (sym w.records) (0, omega arith, refl) in
          let sent : WasSent (expecting s.start) us w.first.start = k.sent_ones us short of_intro w.first within in
          inr (inr (w.first, within, subst IsPlaced (sym w.state) tt, record { ulpdu = sent.ulpdu; one = sent.one; as_many = front_turns w.first.start sent.ulpdu sent.one w.at }))

  -- ---- the frame at the in-order point is placed
  there_more : (s' : StreamState) → s'.start ≡ s.start → s'.early ≡ s.early → (j : ℕ) → WerePlaced s' t.story.turns us j → WerePlaced s t.story.turns us j ⊎ (j ≡ t.story.turns)
  there_more s' start early j (inl before) = inl (inl before)
  there_more s' start early j (inr (inl (here, some))) = inr here
  there_more s' start early j (inr (inr (r, within, is_placed, at))) = inl (inr (inr (r, subst (λ rs. Contains rs r) early within, is_placed, subst (λ z. IsAt (expecting z) us j r) start at)))

  -- the segment there, among those that were sent
  next : (segment : Segment Octets) → (was : Bool) → Fronts s was segment → (later : Segments) × (ss ≡ k.segments ++ segment ∷ later)
  next segment was w = next_segment s t k us ss short reads of_intro w.frame w.rest segment w.whole w.carries

  -- it is no Send's
  none_there : (segment : Segment Octets) (later : Segments) → ss ≡ k.segments ++ segment ∷ later → (queue_in segment ≡ 0 → ⊥) → (a b : Segments) (head : UntaggedHead) (payload : Octets) → ss ≡ a ++ Untagged head payload ∷ b → head.queue ≡ 0
      → length a ≡ t.story.turns → ⊥
  none_there segment later parts other a b head payload is queue here =
      let w = same_there a b k.segments later (Untagged head payload) segment (sym is ∙ parts) (omega (arith, here, first.as_many)) in
      other (sym (ap queue_in w.1) ∙ queue)

  -- ---- a frame is judged before its turn
  module _ (frame : Frame) (found : work.early_frame s ≡ Some frame) where
    low : first_place_in s.start ≤ s.arrived.floor
    low = omega (arith, k.point, first_is s t k.intro k.begins)

    opened : IsOpenAt (scene s) frame
    opened = open_at (scene s) frame low found

    read : IsReadOf s.arrived (expecting s.start) (first_place_in s.start) us frame.start
    read =
        free_sent (scene s) us opened.marked short (scene_sent (scene s) t.story.came k.intro (sequence (expecting s.start) 0 us) (length k.intro + length k.before) (first_is s t k.intro k.begins) k.arrived k.held of_intro)
        k.early.judged (k.sent_ones us short of_intro) frame.start opened.free

    carries : Carries us ss (length read.one.before) read.ulpdu
    carries = carries_at us ss read.one.before read.one.after read.ulpdu reads read.one.is

    carries_it : frames.segment_in frame ≡ Some carries.segment
    carries_it = ap (λ (f : Frame). read_segment f.ulpdu) opened.is ∙ ap read_segment read.again.ulpdu ∙ carries.reads

    past_turns : t.story.turns ≤ length read.one.before
    past_turns = from_turns frame.start read.ulpdu read.one (subst (λ m. point_of (scene s) ≤ span_start m frame.start) opened.marked opened.free.open_.past)

    near : length read.one.before ≤ t.story.turns + 2 ^ 18
    near = near_turns frame.start read.ulpdu read.one past_turns opened.free.open_.whole opened.free.open_.start

    early_more : (s' : StreamState) (state : State (ArrayVec ℕ)) → s'.start ≡ s.start → s'.front ≡ s.front → s'.early ≡ added s.early (record_of frame state) → (j : ℕ) → WerePlaced s' t.story.turns us j
        → WerePlaced s t.story.turns us j ⊎ (j ≡ length carries.before)
    early_more s' state start front early j (inl before) = inl (inl before)
    early_more s' state start front early j (inr (inl (here, some))) = inl (inr (inl (here, sym (ap is_some front) ∙ some)))
    early_more s' state start front early j (inr (inr (r, within, is_placed, at))) =
        elim ((adds_one s.early (record_of frame state) r).0 (subst (λ rs. Contains rs r) early within)) [
          | inl old ↦ inl (inr (inr (r, old, is_placed, subst (λ z. IsAt (expecting z) us j r) start at)))
          | inr new ↦ inr (same_index new (subst (λ z. IsAt (expecting z) us j r) start at))
        ]
      where
        same_index : record_of frame state ≡ r → IsAt (expecting s.start) us j r → j ≡ length carries.before
        same_index new at =
            let there : IsAt (expecting s.start) us j (record_of frame state) = subst (IsAt (expecting s.start) us j) (sym new) at in
            omega (arith, same_place (expecting s.start) us frame.start there.ulpdu read.ulpdu there.one read.one, there.as_many, carries.as_many)

    -- those before it complete no fewer messages than are complete, and few more
    past_firsts : (more : Segments) × (carries.before ≡ k.segments ++ more)
    past_firsts = front_of_longer k.segments first.later carries.before (carries.segment ∷ carries.later) (sym first.segments ∙ carries.is) (omega (arith, first.as_many, carries.as_many, past_turns))

    due_early : length t.received ≤ length (joined [] carries.before)
    due_early = omega (arith, complete, ap (λ z. length (joined [] z)) past_firsts.1, more_joined k.segments past_firsts.0)

    near_early : length (joined [] carries.before) < length t.received + 2 ^ 32
    near_early =
        let more : Segments = past_firsts.0 in
        omega (
          arith,
          complete,
          ap (λ z. length (joined [] z)) past_firsts.1,
          ap length (joined-append [] k.segments more),
          length-append (joined [] k.segments) (joined (begun [] k.segments) more),
          few_joined (begun [] k.segments) more,
          ap length past_firsts.1,
          length-append k.segments more,
          carries.as_many,
          first.as_many,
          near,
        )

    -- it is no Send's, and is placed
    other_early : (s' : StreamState) (t' : Tale) (state : State (ArrayVec ℕ)) (head : TaggedHead) (payload : Octets) → frames.segment_in frame ≡ Some (Tagged head payload) → s'.start ≡ s.start → s'.front ≡ s.front → s'.early ≡ added s.early (record_of frame state)
        → s'.receiving ≡ s.receiving → t'.story.turns ≡ t.story.turns → t'.received ≡ t.received → (ended s' ≡ false → ended s ≡ false) → AreFilled s' t' us ss
    other_early s' t' state head payload tagged start front early receiving turns received running = record {
      received_are = received ∙ o.received_are ∙ ap (λ m. map told (joined [] (take m ss))) (sym turns);
      stand = λ runs.
          subst (λ m. StandPlaced ss (WerePlaced s' m us) (length t'.received) (places_in s'.receiving.source)) (sym turns)
          (subst (λ z. StandPlaced ss (WerePlaced s' t.story.turns us) (length z) (places_in s'.receiving.source)) (sym received)
          (subst (λ (r : Receiving). StandPlaced ss (WerePlaced s' t.story.turns us) (length t.received) (places_in r.source)) (sym receiving)
          (other_placed ss (WerePlaced s t.story.turns us) (WerePlaced s' t.story.turns us) (length t.received) (length carries.before) (places_in s.receiving.source) (early_more s' state start front early)
          (λ a b other octets is queue here.
          let w = same_there a b carries.before carries.later (Untagged other octets) carries.segment (sym is ∙ carries.is) here in
          let same : Some (Untagged other octets) ≡ Some (Tagged head payload) = ap Some w.1 ∙ sym carries_it ∙ tagged in
          cc same)
          (o.stand (running runs)))));
    }

    -- it was not placed
    tried_early : (s' : StreamState) (t' : Tale) → s'.start ≡ s.start → s'.front ≡ s.front → s'.early ≡ added s.early (record_of frame states.Tried) → s'.receiving ≡ s.receiving → t'.story.turns ≡ t.story.turns → t'.received ≡ t.received
        → (ended s' ≡ false → ended s ≡ false) → AreFilled s' t' us ss
    tried_early s' t' start front early receiving turns received running = record {
      received_are = received ∙ o.received_are ∙ ap (λ m. map told (joined [] (take m ss))) (sym turns);
      stand = λ runs.
          subst (λ m. StandPlaced ss (WerePlaced s' m us) (length t'.received) (places_in s'.receiving.source)) (sym turns)
          (subst (λ z. StandPlaced ss (WerePlaced s' t.story.turns us) (length z) (places_in s'.receiving.source)) (sym received)
          (subst (λ (r : Receiving). StandPlaced ss (WerePlaced s' t.story.turns us) (length t.received) (places_in r.source)) (sym receiving)
          (fewer_placed ss (WerePlaced s t.story.turns us) (WerePlaced s' t.story.turns us) (length t.received) (places_in s.receiving.source) same (o.stand (running runs)))));
    }
      where
        same : (j : ℕ) → WerePlaced s' t.story.turns us j → WerePlaced s t.story.turns us j
        same j (inl before) = inl before
        same j (inr (inl (here, some))) = inr (inl (here, sym (ap is_some front) ∙ some))
        same j (inr (inr (r, within, is_placed, at))) =
            elim ((adds_one s.early (record_of frame states.Tried) r).0 (subst (λ rs. Contains rs r) early within)) [
              | inl old ↦ inr (inr (r, old, is_placed, subst (λ z. IsAt (expecting z) us j r) start at))
              | inr new ↦ absurd (subst (λ (x : EarlyRecord). IsPlaced x.state) (sym new) is_placed)
            ]

    -- it is a Send's, and is written into the buffer that its number names
    send_early : (s' : StreamState) (t' : Tale) (state : State (ArrayVec ℕ)) (head : UntaggedHead) (payload octets : Octets) (msn mo : ℕ) → frames.segment_in frame ≡ Some (Untagged head payload) → head.queue ≡ 0
        → buffer_fault s.receiving head.msn head.mo (length payload) ≡ None → msn ≡ head.msn → mo ≡ head.mo → octets ≡ payload
        → s'.start ≡ s.start → s'.front ≡ s.front → s'.early ≡ added s.early (record_of frame state) → s'.receiving ≡ written s.receiving msn mo octets → t'.story.turns ≡ t.story.turns → t'.received ≡ t.received
        → (ended s' ≡ false → ended s ≡ false) → AreFilled s' t' us ss
    send_early s' t' state head payload octets msn mo untagged queue checked msn_is mo_is same start front early receiving turns received running = record {
      received_are = received ∙ o.received_are ∙ ap (λ m. map told (joined [] (take m ss))) (sym turns);
      stand = λ runs.
          let segment_is : carries.segment ≡ Untagged head payload = same_Some _ _ (sym carries_it ∙ untagged) in
          let there : ss ≡ carries.before ++ Untagged head payload ∷ carries.later = carries.is ∙ ap (λ z. carries.before ++ z ∷ carries.later) segment_is in
          subst (λ m. StandPlaced ss (WerePlaced s' m us) (length t'.received) (places_in s'.receiving.source)) (sym turns)
          (subst (λ z. StandPlaced ss (WerePlaced s' t.story.turns us) (length z) (places_in s'.receiving.source)) (sym received)
          (subst (λ (r : Receiving). StandPlaced ss (WerePlaced s' t.story.turns us) (length t.received) (places_in r.source)) (sym receiving)
          (written_placed ss (WerePlaced s t.story.turns us) (WerePlaced s' t.story.turns us) s.receiving (length t.received) carries.before carries.later head payload octets msn mo numbered there queue due due_early near_early checked msn_is mo_is same
          (early_more s' state start front early) (o.stand (running runs)))));
    }

  -- ---- the frame at the in-order point

  -- it is no Send's, and is placed
  other_there : (s' : StreamState) (t' : Tale) (segment : Segment Octets) → Fronts s false segment → (queue_in segment ≡ 0 → ⊥) → s'.start ≡ s.start → s'.early ≡ s.early → s'.receiving ≡ s.receiving
      → t'.story.turns ≡ t.story.turns → t'.received ≡ t.received → (ended s' ≡ false → ended s ≡ false) → AreFilled s' t' us ss
  other_there s' t' segment w other start early receiving turns received running = record {
    received_are = received ∙ o.received_are ∙ ap (λ m. map told (joined [] (take m ss))) (sym turns);
    stand = λ runs.
        let x = next segment false w in
        subst (λ m. StandPlaced ss (WerePlaced s' m us) (length t'.received) (places_in s'.receiving.source)) (sym turns)
        (subst (λ z. StandPlaced ss (WerePlaced s' t.story.turns us) (length z) (places_in s'.receiving.source)) (sym received)
        (subst (λ (r : Receiving). StandPlaced ss (WerePlaced s' t.story.turns us) (length t.received) (places_in r.source)) (sym receiving)
        (other_placed ss (WerePlaced s t.story.turns us) (WerePlaced s' t.story.turns us) (length t.received) t.story.turns (places_in s.receiving.source) (there_more s' start early) (none_there segment x.0 x.1 other) (o.stand (running runs)))));
  }

  -- it is a Send's, and is written into the buffer that its number names
  send_there : (s' : StreamState) (t' : Tale) (head : UntaggedHead) (payload octets : Octets) (msn mo : ℕ) → Fronts s false (Untagged head payload) → head.queue ≡ 0 → buffer_fault s.receiving head.msn head.mo (length payload) ≡ None
      → msn ≡ head.msn → mo ≡ head.mo → octets ≡ payload → s'.start ≡ s.start → s'.early ≡ s.early → s'.receiving ≡ written s.receiving msn mo octets → t'.story.turns ≡ t.story.turns → t'.received ≡ t.received
      → (ended s' ≡ false → ended s ≡ false) → AreFilled s' t' us ss
  send_there s' t' head payload octets msn mo w queue checked msn_is mo_is same start early receiving turns received running = record {
    received_are = received ∙ o.received_are ∙ ap (λ m. map told (joined [] (take m ss))) (sym turns);
    stand = λ runs.
        let x = next (Untagged head payload) false w in
        let more : (j : ℕ) → WerePlaced s' t.story.turns us j → WerePlaced s t.story.turns us j ⊎ (j ≡ length k.segments) =
        λ j p. elim (there_more s' start early j p) [ inl old ↦ inl old | inr here ↦ inr (here ∙ sym first.as_many) ] in
        subst (λ m. StandPlaced ss (WerePlaced s' m us) (length t'.received) (places_in s'.receiving.source)) (sym turns)
        (subst (λ z. StandPlaced ss (WerePlaced s' t.story.turns us) (length z) (places_in s'.receiving.source)) (sym received)
        (subst (λ (r : Receiving). StandPlaced ss (WerePlaced s' t.story.turns us) (length t.received) (places_in r.source)) (sym receiving)
        (written_placed ss (WerePlaced s t.story.turns us) (WerePlaced s' t.story.turns us) s.receiving (length t.received) k.segments x.0 head payload octets msn mo numbered x.1 queue due
        (omega (arith, complete)) (omega (arith, complete)) checked msn_is mo_is same more (o.stand (running runs)))));
  }

  -- ---- its turn
  turn_more : (s' : StreamState) → s'.start ≡ s.start → s'.front ≡ None → s'.early ≡ early_left s → (j : ℕ) → WerePlaced s' (t.story.turns + 1) us j → WerePlaced s t.story.turns us j ⊎ (j ≡ t.story.turns)
  turn_more s' start front early j (inl before) = elim (cases_lt j t.story.turns) [ inl less ↦ inl (inl less) | inr no_less ↦ inr (omega (arith, before, no_less)) ]
  turn_more s' start front early j (inr (inl (here, some))) = absurd (false≢true (ap is_some (sym front) ∙ some))
  turn_more s' start front early j (inr (inr (r, within, is_placed, at))) =
      inl (inr (inr (r, ((keeps_from (place_past_front s (fore s) - first_place_in s.start) s.early r).0 (subst (λ rs. Contains rs r) early within)).0, is_placed, subst (λ z. IsAt (expecting z) us j r) start at)))

  turn_are : (segment : Segment Octets) (later : Segments) → ss ≡ k.segments ++ segment ∷ later → take (t.story.turns + 1) ss ≡ k.segments ++ segment ∷ []
  turn_are segment later is =
      (λ i. take (t.story.turns + 1) ((is ∙ sym (append_assoc k.segments (segment ∷ []) later)) i))
      ∙ ap (λ m. take m ((k.segments ++ segment ∷ []) ++ later)) (let size : t.story.turns + 1 ≡ length (k.segments ++ segment ∷ []) = omega (arith, first.as_many, length-append k.segments (segment ∷ [])) in size)
      ∙ take-append_seam (k.segments ++ segment ∷ []) later

  -- of a frame that was judged there, and whose segment completes nothing
  judged_turn : (s' : StreamState) (t' : Tale) (head : UntaggedHead) (payload : Octets) → Fronts s false (Untagged head payload) → (head.queue ≡ 0 → ⊥) → s'.start ≡ s.start → s'.front ≡ None → s'.early ≡ early_left s → s'.receiving ≡ s.receiving
      → t'.story.turns ≡ t.story.turns + 1 → t'.received ≡ t.received → (ended s' ≡ false → ended s ≡ false) → AreFilled s' t' us ss
  judged_turn s' t' head payload w other start front early receiving turns received running =
      let x = next (Untagged head payload) false w in
      let none : nat_eq head.queue 0 ≡ false = not_zero head.queue other in
      let same : joined [] (k.segments ++ Untagged head payload ∷ []) ≡ joined [] k.segments =
      joined-append [] k.segments (Untagged head payload ∷ []) ∙ ap (λ b. joined [] k.segments ++ cond b (cond head.last (completed head (begun [] k.segments ++ payload) ∷ []) []) []) none ∙ append-nil (joined [] k.segments) in
      record {
        received_are = received ∙ received_so ∙ ap (map told) (sym same) ∙ ap (λ z. map told (joined [] z)) (sym (turn_are (Untagged head payload) x.0 x.1)) ∙ ap (λ m. map told (joined [] (take m ss))) (sym turns);
        stand = λ runs.
            subst (λ m. StandPlaced ss (WerePlaced s' m us) (length t'.received) (places_in s'.receiving.source)) (sym turns)
            (subst (λ z. StandPlaced ss (WerePlaced s' (t.story.turns + 1) us) (length z) (places_in s'.receiving.source)) (sym received)
            (subst (λ (r : Receiving). StandPlaced ss (WerePlaced s' (t.story.turns + 1) us) (length t.received) (places_in r.source)) (sym receiving)
            (other_placed ss (WerePlaced s t.story.turns us) (WerePlaced s' (t.story.turns + 1) us) (length t.received) t.story.turns (places_in s.receiving.source) (turn_more s' start front early)
            (none_there (Untagged head payload) x.0 x.1 other) (o.stand (running runs)))));
      }
    where
      not_zero : (q : ℕ) → (q ≡ 0 → ⊥) → nat_eq q 0 ≡ false
      not_zero q h = go (nat_eq q 0) refl
        where
          go : (b : Bool) → nat_eq q 0 ≡ b → nat_eq q 0 ≡ false
          go false e = e
          go true e = absurd (h (grind (arith, nat_tests)))

  -- one that was placed
  module _ (f : PlacedFrame) (waits : waiting s ≡ Some f) where
    turn_fewer : (s' : StreamState) → s'.start ≡ s.start → s'.front ≡ None → s'.early ≡ early_left s → (j : ℕ) → WerePlaced s' (t.story.turns + 1) us j → WerePlaced s t.story.turns us j
    turn_fewer s' start front early j p = elim (turn_more s' start front early j p) [ inl old ↦ old | inr here ↦ subst (WerePlaced s t.story.turns us) (sym here) (front_placed f waits) ]

    -- it completes nothing
    passed_turn : (s' : StreamState) (t' : Tale) (segment : Segment Octets) → Fronts s true segment → joined [] (k.segments ++ segment ∷ []) ≡ joined [] k.segments → s'.start ≡ s.start → s'.front ≡ None → s'.early ≡ early_left s
        → (places_in s'.receiving.source) ≡ (places_in s.receiving.source) → t'.story.turns ≡ t.story.turns + 1 → t'.received ≡ t.received → (ended s' ≡ false → ended s ≡ false) → AreFilled s' t' us ss
    passed_turn s' t' segment w same start front early buffers turns received running =
        let x = next segment true w in
        record {
          received_are = received ∙ received_so ∙ ap (map told) (sym same) ∙ ap (λ z. map told (joined [] z)) (sym (turn_are segment x.0 x.1)) ∙ ap (λ m. map told (joined [] (take m ss))) (sym turns);
          stand = λ runs.
              subst (λ m. StandPlaced ss (WerePlaced s' m us) (length t'.received) (places_in s'.receiving.source)) (sym turns)
              (subst (λ z. StandPlaced ss (WerePlaced s' (t.story.turns + 1) us) (length z) (places_in s'.receiving.source)) (sym received)
              (subst (StandPlaced ss (WerePlaced s' (t.story.turns + 1) us) (length t.received)) (sym buffers)
              (fewer_placed ss (WerePlaced s t.story.turns us) (WerePlaced s' (t.story.turns + 1) us) (length t.received) (places_in s.receiving.source) (turn_fewer s' start front early) (o.stand (running runs)))));
        }

    -- it completes its Send, whose octets stand in the oldest buffer
    last_turn : (s' : StreamState) (t' : Tale) (head : UntaggedHead) (payload : Octets) (new : Sent) → Fronts s true (Untagged head payload) → head.queue ≡ 0 → head.last ≡ true
        → new ≡ record { octets = take (s.receiving.turned + length payload) (oldest s.receiving); solicited = judging.is_solicited (untagged_operation (opcode_of head.control)); invalidate = judging.stag_to_invalidate head }
        → s'.start ≡ s.start → s'.front ≡ None → s'.early ≡ early_left s → (more : List (List ℕ)) × (places_in s'.receiving.source ≡ drop 1 (places_in s.receiving.source) ++ more) → t'.story.turns ≡ t.story.turns + 1 → t'.received ≡ t.received ++ new ∷ [] → AreFilled s' t' us ss
    last_turn s' t' head payload new w queue last is start front early buffers turns received =
        let x = next (Untagged head payload) true w in
        let stands = o.stand w.running in
        let placed_here = front_placed f waits in
        let one : List Whole = completed head (begun [] k.segments ++ payload) ∷ [] in
        let all : joined [] (k.segments ++ Untagged head payload ∷ []) ≡ joined [] k.segments ++ one = joined_next k.segments head payload queue ∙ ap (λ b. joined [] k.segments ++ cond b one []) last in
        let read : take (length (begun [] k.segments)) (slice_index_or (places_in s.receiving.source) 0 []) ≡ begun [] k.segments =
        reads_begun ss (WerePlaced s t.story.turns us) (length t.received) (places_in s.receiving.source) stands k.segments first.later first.segments (λ j less. inl (omega (arith, less, first.as_many))) (sym complete) in
        let there : StandAt (places_in s.receiving.source) 0 (length (begun [] k.segments)) payload =
        subst (λ i. StandAt (places_in s.receiving.source) i (length (begun [] k.segments)) payload) (omega (arith, complete))
        (stands k.segments x.0 head payload x.1 queue (subst (WerePlaced s t.story.turns us) (sym first.as_many) placed_here) (omega (arith, complete))) in
        let octets : take (s.receiving.turned + length payload) (oldest s.receiving) ≡ begun [] k.segments ++ payload =
        (λ i. take (k.joins.begun_are w.running i + length payload) (places_oldest s.receiving.source i)) ∙ reads_on (places_in s.receiving.source) (begun [] k.segments) payload read there in
        let told_is : new ≡ told (completed head (begun [] k.segments ++ payload)) =
        is ∙ (λ i. record { octets = octets i; solicited = judging.is_solicited (untagged_operation (opcode_of head.control)); invalidate = judging.stag_to_invalidate head }) ∙ completed_told head (begun [] k.segments ++ payload) in
        record {
          received_are = received ∙ (λ i. received_so i ++ told_is i ∷ []) ∙ sym (map-append told (joined [] k.segments) one) ∙ ap (map told) (sym all)
              ∙ ap (λ z. map told (joined [] z)) (sym (turn_are (Untagged head payload) x.0 x.1)) ∙ ap (λ m. map told (joined [] (take m ss))) (sym turns);
          stand = λ runs.
              subst (λ m. StandPlaced ss (WerePlaced s' m us) (length t'.received) (places_in s'.receiving.source)) (sym turns)
              (subst (StandPlaced ss (WerePlaced s' (t.story.turns + 1) us) (length t'.received)) (sym buffers.1)
              (posted_placed ss (WerePlaced s' (t.story.turns + 1) us) (length t'.received) (drop 1 (places_in s.receiving.source)) buffers.0
              (next_placed ss (WerePlaced s' (t.story.turns + 1) us) (length t.received) (length t'.received) (places_in s.receiving.source) (omega (arith, ap length received, length-append t.received (new ∷ [])))
              (fewer_placed ss (WerePlaced s t.story.turns us) (WerePlaced s' (t.story.turns + 1) us) (length t.received) (places_in s.receiving.source) (turn_fewer s' start front early) stands))));
        }

-- ---- each act

-- a stream that runs after an act ran before it
ran : (over : Bool) (act : StreamAct Octets) → ended_after over act ≡ false → over ≡ false
ran over act e = go (deed act).ends e
  where
    go : (ends : Bool) → cond ends true over ≡ false → over ≡ false
    go true h = absurd (true≢false h)
    go false h = h

-- the peer's start-up frame is awaited, or the user's answer
shut_filled : (s s' : StreamState) (t t' : Tale) → is_open s.start ≡ false → s'.front ≡ s.front → s'.early ≡ s.early → t'.story.turns ≡ t.story.turns → t'.received ≡ t.received → Track s t → Fills s' t'
shut_filled s s' t t' shut front early turns received k =
    let bare = k.shut shut in
    let segments : length k.segments ≡ 0 = none k.frames k.segments bare.frames k.carried in
    nothing_placed s' t' (omega (arith, turns, k.turns, ap length bare.frames)) (received ∙ empty t.received (omega (arith, k.joins.completed_are, ap (λ z. length (joined [] z)) (empty k.segments segments))))
    (front ∙ no_front s.front bare.placed) (early ∙ k.early.unopened shut)
  where
    empty : {A : Type 0} (xs : List A) → length xs ≡ 0 → xs ≡ []
    empty [] e = refl
    empty (x ∷ xs) e = absurd (omega (arith, e))

    none : (fs : List Carried) (xs : Segments) → fs ≡ [] → map segment_in fs ≡ map Some xs → length xs ≡ 0
    none [] [] is e = refl
    none [] (x ∷ xs) is e = absurd (omega (arith, ap length e))
    none (f ∷ fs) xs is e = absurd (omega (arith, ap length is))

    no_front : (o : Option PlacedFrame) → is_some o ≡ false → o ≡ None
    no_front None e = refl
    no_front (Some f) e = absurd (true≢false e)

-- what goes out changes nothing of it
leaves : (s s' : StreamState) (t : Tale) (shown : Shown Octets) → s'.start ≡ s.start → s'.front ≡ s.front → s'.early ≡ s.early → s'.receiving ≡ s.receiving → (ended s' ≡ false → ended s ≡ false) → Fills s t → Fills s' (tale_after t (Emit shown))
leaves s s' t shown start front early receiving runs k =
    let w = shown_stays t.story shown in
    stays_filled s s' t (tale_after t (Emit shown)) (record {
      start = start;
      front = front;
      early = early;
      came = λ octets of. subst (λ a. IsOf a octets) w.came of;
      turns = w.turns;
      received = append-nil t.received;
      running = runs;
      buffers = λ h. ([], ap (λ (r : Receiving). places_in r.source) receiving ∙ sym (append-nil (places_in s.receiving.source)));
    }) k

shown_filled : (s : StreamState) (t : Tale) (shown : Shown Octets) → (ended (after_shown s shown) ≡ false → ended s ≡ false) → Fills s t → Fills (after_shown s shown) (tale_after t (Emit shown))
shown_filled s t (shows.Frame from octets) runs k = go (due s) runs
  where
    go : (d : Due) → (ended (left_frame s d) ≡ false → ended s ≡ false) → Fills (left_frame s d) (tale_after t (Emit (shows.Frame from octets)))
    go StartUp r = leaves s (left_frame s StartUp) t (shows.Frame from octets) refl refl refl refl r k
    go (LastWord payload) r = leaves s (left_frame s (LastWord payload)) t (shows.Frame from octets) refl refl refl refl r k
    go (NextPart part) r = leaves s (left_frame s (NextPart part)) t (shows.Frame from octets) refl refl refl refl r k
    go (Ready rtr) r = leaves s (left_frame s (Ready rtr)) t (shows.Frame from octets) refl refl refl refl r k
    go (Response part) r = leaves s s t (shows.Frame from octets) refl refl refl refl r k
    go NoneDue r = leaves s s t (shows.Frame from octets) refl refl refl refl r k
shown_filled s t (shows.Fetched from frame stag to octets) runs k = leaves s (after_shown s (shows.Fetched from frame stag to octets)) t (shows.Fetched from frame stag to octets) refl refl refl refl runs k
shown_filled s t (shows.Fault fault) runs k = leaves s (after_shown s (shows.Fault fault)) t (shows.Fault fault) refl refl refl refl runs k
shown_filled s t shows.Nothing runs k = leaves s s t shows.Nothing refl refl refl refl runs k

turned_buffers : (r : Receiving) (o : Option (Segment Octets)) → places_in (turned_by r o).source ≡ places_in r.source
turned_buffers r None = refl
turned_buffers r (Some (Tagged head payload)) = refl
turned_buffers r (Some (Untagged head payload)) = refl

-- a segment that is not the last of a Send completes none
passing_joined : (s : StreamState) (firsts : Segments) (segment : Segment Octets) → IsPassing s segment → Waits (Some segment) → joined [] (firsts ++ segment ∷ []) ≡ joined [] firsts
passing_joined s firsts (Tagged head payload) passing queue = joined-append [] firsts (Tagged head payload ∷ []) ∙ append-nil (joined [] firsts)
passing_joined s firsts (Untagged head payload) passing queue =
    joined_next firsts head payload queue ∙ ap (λ b. joined [] firsts ++ cond b (completed head (begun [] firsts ++ payload) ∷ []) []) passing.1 ∙ append-nil (joined [] firsts)

-- what stays of a step that speaks of no frame
steps : (s s' : StreamState) (t : Tale) (step : Seen Octets) → s'.start ≡ s.start → s'.front ≡ s.front → s'.early ≡ s.early → (story_seen t.story step).came ≡ t.story.came → (story_seen t.story step).turns ≡ t.story.turns
    → t.received ++ received_by (Work step) ≡ t.received → (ended s' ≡ false → ended s ≡ false) → (ended s' ≡ false → (more : List (List ℕ)) × ((places_in s'.receiving.source) ≡ (places_in s.receiving.source) ++ more)) → Fills s t → Fills s' (tale_after t (Work step))
steps s s' t step start front early came turns received runs buffers k =
    stays_filled s s' t (tale_after t (Work step))
    (record { start = start; front = front; early = early; came = λ octets of. subst (λ a. IsOf a octets) came of; turns = turns; received = received; running = runs; buffers = buffers }) k

pub fill_after : (table : Table) (s : StreamState) (t : Tale) (act : StreamAct Octets) → Told table s act → s.receiving.due ≡ (1 + length t.received) % 2 ^ 32 → ended (after_act s act) ≡ ended_after (ended s) act → Track s t → Fills s t
    → Fills (after_act s act) (tale_after t act)
fill_after table s t act rule due_is over k f = by act rule (λ h. ran (ended s) act (sym over ∙ h))
  where
    -- nothing but what came, or the buffers
    calls : (s' : StreamState) (act : StreamAct Octets) → s'.start ≡ s.start → s'.front ≡ s.front → s'.early ≡ s.early → ((octets : Octets) → IsOf (tale_after t act).story.came octets → IsOf t.story.came octets)
        → (tale_after t act).story.turns ≡ t.story.turns → t.received ++ received_by act ≡ t.received → (ended s' ≡ false → ended s ≡ false) → (more : List (List ℕ)) → (places_in s'.receiving.source) ≡ (places_in s.receiving.source) ++ more → Fills s' (tale_after t act)
    calls s' act start front early came turns received runs more buffers =
        stays_filled s s' t (tale_after t act) (record { start = start; front = front; early = early; came = came; turns = turns; received = received; running = runs; buffers = λ h. (more, buffers) }) f

    none : (places_in s.receiving.source) ≡ (places_in s.receiving.source) ++ []
    none = sym (append-nil (places_in s.receiving.source))

    by : (act : StreamAct Octets) → Told table s act → (ended (after_act s act) ≡ false → ended s ≡ false) → Fills (after_act s act) (tale_after t act)
    by (Deliver from number octets Kept) rule runs = calls (after_act s (Deliver from number octets Kept)) (Deliver from number octets Kept) refl refl refl (λ all of. of_earlier t.story.came (place_near number t.story.first (in_order_point t.story)) (drop (before_start number t.story.first (in_order_point t.story)) octets) all of) refl (append-nil t.received) runs [] none
    by (Raw number octets Kept) rule runs = calls (after_act s (Raw number octets Kept)) (Raw number octets Kept) refl refl refl (λ all of. of_earlier t.story.came (place_near number t.story.first (in_order_point t.story)) (drop (before_start number t.story.first (in_order_point t.story)) octets) all of) refl (append-nil t.received) runs [] none
    by (Deliver from number octets Dropped) rule runs = calls (after_act s (Deliver from number octets Dropped)) (Deliver from number octets Dropped) refl refl refl (λ all of. of) refl (append-nil t.received) runs [] none
    by (Raw number octets Dropped) rule runs = calls (after_act s (Raw number octets Dropped)) (Raw number octets Dropped) refl refl refl (λ all of. of) refl (append-nil t.received) runs [] none
    by (First number None) rule runs = calls (after_act s (First number None)) (First number None) refl refl refl (λ all of. of) refl (append-nil t.received) runs [] none
    by (Mulpdu size None) rule runs = calls (after_act s (Mulpdu size None)) (Mulpdu size None) refl refl refl (λ all of. of) refl (append-nil t.received) runs [] none
    by (First number (Some refusal)) rule runs = calls s (First number (Some refusal)) refl refl refl (λ all of. of) refl (append-nil t.received) runs [] none
    by (Mulpdu size (Some refusal)) rule runs = calls s (Mulpdu size (Some refusal)) refl refl refl (λ all of. of) refl (append-nil t.received) runs [] none
    by (Accept private (Ok agreed)) rule runs = shut_filled s (after_act s (Accept private (Ok agreed))) t (tale_after t (Accept private (Ok agreed))) (not_answered s (accepting s (private_data private).items agreed rule)) refl refl refl (append-nil t.received) k
    by (Accept private (Err refusal)) rule runs = calls s (Accept private (Err refusal)) refl refl refl (λ all of. of) refl (append-nil t.received) runs [] none
    by (Reject private None) rule runs = shut_filled s (after_act s (Reject private None)) t (tale_after t (Reject private None)) (not_answered s (refusing s (private_data private).items rule)) refl refl refl (append-nil t.received) k
    by (Reject private (Some refusal)) rule runs = calls s (Reject private (Some refusal)) refl refl refl (λ all of. of) refl (append-nil t.received) runs [] none
    by (Recv len None) rule runs = calls (after_act s (Recv len None)) (Recv len None) refl refl refl (λ all of. of) refl (append-nil t.received) runs (places_more s.receiving.source (replicate len 0)).0 (places_more s.receiving.source (replicate len 0)).1
    by (Recv len (Some refusal)) rule runs = calls s (Recv len (Some refusal)) refl refl refl (λ all of. of) refl (append-nil t.received) runs [] none
    by (Post m None) rule runs = calls (after_act s (Post m None)) (Post m None) refl refl refl (λ all of. of) refl (append-nil t.received) runs [] none
    by (Post m (Some refusal)) rule runs = calls s (Post m (Some refusal)) refl refl refl (λ all of. of) refl (append-nil t.received) runs [] none
    by (Emit shown) rule runs = shown_filled s t shown runs f
    by Break rule runs = calls (after_act s Break) Break refl refl refl (λ all of. of) refl (append-nil t.received) runs [] none
    by (Work (seen.Done kind)) rule runs = calls (after_act s (Work (seen.Done kind))) (Work (seen.Done kind)) refl refl refl (λ all of. of) refl (append-nil t.received) runs [] none
    by (Work (seen.Flushed kind)) rule runs = calls (after_act s (Work (seen.Flushed kind))) (Work (seen.Flushed kind)) refl refl refl (λ all of. of) refl (append-nil t.received) runs [] none
    by (Work seen.Idle) rule runs = calls s (Work seen.Idle) refl refl refl (λ all of. of) refl (append-nil t.received) runs [] none
    by (Work (seen.Fault fault)) (inl m) runs = shut_filled s (after_act s (Work (seen.Fault fault))) t (tale_after t (Work (seen.Fault fault))) (not_heard s progresses.Agreed m.hears_it) refl refl refl (append-nil t.received) k
    by (Work (seen.Fault fault)) (inr j) runs = calls (after_act s (Work (seen.Fault fault))) (Work (seen.Fault fault)) (heard_open s.start (inbox s) (fault_open table s fault j)) refl refl (λ all of. of) refl (append-nil t.received) runs [] none
    by (Work (seen.FlushedRecv octets)) rule runs =
        steps s (after_act s (Work (seen.FlushedRecv octets))) t (seen.FlushedRecv octets) refl refl refl refl refl (append-nil t.received) runs (λ h. absurd (true≢false (sym rule.over ∙ runs h))) f
    by (Work (seen.Asked word private)) rule runs = shut_filled s (after_act s (Work (seen.Asked word private))) t (tale_after t (Work (seen.Asked word private))) (not_heard s progresses.Asked rule.0) refl refl refl (append-nil t.received) k
    by (Work (seen.Opened agreed word private)) rule runs = shut_filled s (after_act s (Work (seen.Opened agreed word private))) t (tale_after t (Work (seen.Opened agreed word private))) (not_heard s progresses.Agreed rule.0.hears_it) refl refl refl (append-nil t.received) k
    by (Work (seen.Closed fault)) rule runs = shut_filled s (after_act s (Work (seen.Closed fault))) t (tale_after t (Work (seen.Closed fault))) (not_heard s (progresses.Faulted fault) rule) refl refl refl (append-nil t.received) k
    by (Work (seen.Placed right stag to octets)) rule runs = elim rule [
      | inl (judged, w) ↦ λ us ss short reads numbered of.
          other_there s t k us ss short reads numbered of (f us ss short reads numbered of) due_is (after_act s (Work (seen.Placed right stag to octets))) (tale_after t (Work (seen.Placed right stag to octets))) (Tagged w.head octets) w.fronts (λ e. omega (arith, e))
          refl (ap (λ (z : StreamState). z.early) (left_there s false (Tagged w.head octets) w.fronts)) refl refl (append-nil t.received) runs
      | inr (judged, w) ↦ λ us ss short reads numbered of.
          let left = left_early table s (seen.Placed right stag to octets) w.frame judged w.is_early in
          other_early s t k us ss short reads numbered of (f us ss short reads numbered of) due_is w.frame w.is_early (after_act s (Work (seen.Placed right stag to octets))) (tale_after t (Work (seen.Placed right stag to octets)))
          (states.Placed (placed w.frame).header) w.head octets w.carries refl (ap (λ (z : StreamState). z.front) left) (ap (λ (z : StreamState). z.early) left) refl refl (append-nil t.received) runs
    ]
    by (Work (seen.Buffered msn mo len)) rule runs = elim rule [
      | inl (judged, w) ↦ λ us ss short reads numbered of.
          send_there s t k us ss short reads numbered of (f us ss short reads numbered of) due_is (after_act s (Work (seen.Buffered msn mo len))) (tale_after t (Work (seen.Buffered msn mo len))) w.head w.payload (judged_payload s) msn mo w.fronts w.queue
          w.checked w.msn_is w.mo_is (payload_there s (Untagged w.head w.payload) w.fronts) refl (ap (λ (z : StreamState). z.early) (left_there s false (Untagged w.head w.payload) w.fronts)) refl refl (append-nil t.received) runs
      | inr (judged, w) ↦ λ us ss short reads numbered of.
          let left = left_early table s (seen.Buffered msn mo len) w.frame judged w.is_early in
          send_early s t k us ss short reads numbered of (f us ss short reads numbered of) due_is w.frame w.is_early (after_act s (Work (seen.Buffered msn mo len))) (tale_after t (Work (seen.Buffered msn mo len)))
          (states.Placed (placed w.frame).header) w.head w.payload (judged_payload s) msn mo w.carries w.queue w.checked w.msn_is w.mo_is (payload_early s w.frame (Untagged w.head w.payload) judged.none w.is_early w.carries)
          refl (ap (λ (z : StreamState). z.front) left) (ap (λ (z : StreamState). z.early) left) refl refl (append-nil t.received) runs
    ]
    by (Work (seen.Tried place)) rule runs = λ us ss short reads numbered of.
        tried_early s t k us ss short reads numbered of (f us ss short reads numbered of) due_is rule.frame rule.is_early (after_act s (Work (seen.Tried place))) (tale_after t (Work (seen.Tried place))) refl refl
        (ap (λ (z : StreamState). z.early) (left_tried s place rule.frame rule.is_early)) refl refl (append-nil t.received) runs
    by (Work (seen.Requested size stag to)) rule runs = λ us ss short reads numbered of.
        judged_turn s t k us ss short reads numbered of (f us ss short reads numbered of) due_is (after_act s (Work (seen.Requested size stag to))) (tale_after t (Work (seen.Requested size stag to))) rule.1.head rule.1.payload rule.1.fronts
        (λ e. omega (arith, e, rule.1.queue)) refl refl refl refl refl (append-nil t.received) runs
    by (Work (seen.Terminated fault)) rule runs = λ us ss short reads numbered of.
        judged_turn s t k us ss short reads numbered of (f us ss short reads numbered of) due_is (after_act s (Work (seen.Terminated fault))) (tale_after t (Work (seen.Terminated fault))) rule.1.head rule.1.payload rule.1.fronts
        (λ e. omega (arith, e, rule.1.queue)) refl refl refl refl refl (append-nil t.received) runs
    by (Work seen.Passed) rule runs = λ us ss short reads numbered of.
        let w = rule.1 in
        passed_turn s t k us ss short reads numbered of (f us ss short reads numbered of) due_is (placed (standing s rule.0.frame)) rule.0.kept (after_act s (Work seen.Passed)) (tale_after t (Work seen.Passed)) w.segment w.fronts
        (passing_joined s k.segments w.segment w.passing ((turning s t k w.segment w.fronts).joins.waits refl refl)) refl refl refl (turned_buffers s.receiving (segment_at (fore s))) refl (append-nil t.received) runs
    by (Work (seen.Received octets solicited invalidate)) rule runs = λ us ss short reads numbered of.
        let w = rule.1 in
        last_turn s t k us ss short reads numbered of (f us ss short reads numbered of) due_is (placed (standing s rule.0.frame)) rule.0.kept (after_act s (Work (seen.Received octets solicited invalidate)))
        (tale_after t (Work (seen.Received octets solicited invalidate))) w.head w.payload (record { octets = octets; solicited = solicited; invalidate = invalidate }) w.fronts ((turning s t k (Untagged w.head w.payload) w.fronts).joins.waits refl refl)
        w.last (λ i. record { octets = w.is i; solicited = w.solicited_is i; invalidate = w.invalidate_is i }) refl refl refl (places_next s.receiving.source) refl refl
