-- Where what came is what was sent: the octets, the frames and the segments that had their turn are the first of these.
use Rattle.std.proofs.Common.{◌≡◌, inl, inr, ℕ, suc, ◌+◌, ◌-◌, ◌^◌, ◌<◌, ◌≤◌, List, [], ◌∷◌, ◌++◌, length, map, Some, true, refl, sym, ap, ◌∙◌, arith, append_assoc, length-append}
use Rattle.std.specs.Prelude.{All, not}
use Rattle.std.proofs.lemmas.List.{map-append, length-map, append_cancel_left}
use Rattle.std.proofs.lemmas.Bool.{cases_lt, true≢false}
use Rattle.std.proofs.lemmas.List.{get_or_past}
use Rattle.iw_octets.specs.declared.segment.Segment.{Segment}
use Rattle.iw_octets.specs.Segment.{read_segment}
use Rattle.iw_ranges.specs.Arrived.{Arrived, Missing, is_missing, has_come}
use Rattle.iw_ranges.specs.InOrder.{IsInWindow, IsOf}
use Rattle.iw_ranges.proofs.InOrder.{of_prefix}
use Rattle.iw_ranges.proofs.ByPlace.{beyond}
use Rattle.iw_fpdu.specs.declared.layout.Layout.{Layout}
use Rattle.iw_fpdu.specs.Places.{frame_start}
use Rattle.iw_fpdu.specs.Frame.{max_sent, frame_end}
use Rattle.iw_fpdu.specs.Sequence.{Carried, intact, sequence, place_past}
use Rattle.iw_fpdu.specs.Laws.{IsBetween}
use Rattle.iw_fpdu.proofs.Follows.{frames_follow}
use Rattle.iw_fpdu.proofs.Sequences.{first_stays, next_between, between_past}
use Rattle.iw_locate.proofs.Sequenced.{IsOneOf, beyond-append, past_one, past_low, start_low, end_low, end_high}
use Rattle.iw_stream.specs.Starting.{expecting}
use Rattle.iw_stream.specs.Stream.{StreamState}
use Rattle.iw_stream.specs.Work.{inbox}
use Rattle.iw_stream.proofs.Fronts.{carried_by}
use Rattle.iw_laws.specs.Words.{Octets}
use Rattle.iw_laws.specs.Turns.{Located, located, located_of}
use Rattle.iw_laws.proofs.Located.{frames_at, located_first}
use Rattle.iw_laws.proofs.FirstSent.{AreFirst, Later, are_first, later_sent}
use Rattle.iw_laws.proofs.Nexts.{fore, segment_in}
use Rattle.iw_laws.proofs.Tales.{Tale}
use Rattle.iw_laws.proofs.Tracks.{Track, front_is}

-- what was sent is what came in order, and more
pub record Reaches (s : StreamState) (u : Tale) (k : Track s u) (sent : Octets) : Type 0 where
  pub rest : Octets
  pub is : sent ≡ k.intro ++ (k.before ++ (inbox s ++ rest))

pub reaches : (s : StreamState) (u : Tale) (k : Track s u) (sent : Octets) → IsOf u.story.came sent → Reaches s u k sent
reaches s u k sent of =
    let p = of_prefix u.story.came sent k.from_start of in
    record {
      rest = p.0;
      is = sym p.1 ∙ ap (λ z. z ++ p.0) k.came ∙ append_assoc k.intro (k.before ++ inbox s) p.0 ∙ ap (λ z. k.intro ++ z) (append_assoc k.before (inbox s) p.0);
    }

-- ---- frames that were sent, and the segments that they carry

-- those that had their turn
pub record Firsts (s : StreamState) (t : Tale) (k : Track s t) (us : List Octets) (ss : List (Segment Octets)) : Type 0 where
  pub done : List Octets
  pub rest : List Octets
  pub is : us ≡ done ++ rest
  pub place : place_past (expecting s.start) 0 done ≡ length k.before
  pub count : length done ≡ t.story.turns
  pub later : List (Segment Octets)
  pub segments : ss ≡ k.segments ++ later
  pub as_many : length k.segments ≡ t.story.turns

module _ (s : StreamState) (t : Tale) (k : Track s t) (us : List Octets) (ss : List (Segment Octets)) (short : All (λ u. length u ≤ max_sent) us) (reads : map read_segment us ≡ map Some ss)
    (of : IsOf t.story.came (k.intro ++ sequence (expecting s.start) 0 us)) where
  reached : Reaches s t k (k.intro ++ sequence (expecting s.start) 0 us)
  reached = reaches s t k (k.intro ++ sequence (expecting s.start) 0 us) of

  all : Octets
  all = inbox s ++ reached.rest

  same : k.before ++ all ≡ sequence (expecting s.start) 0 us
  unfolding all
  same = append_cancel_left k.intro (k.before ++ all) (sequence (expecting s.start) 0 us) (sym reached.is)

  carried : map segment_in (frames_at k.located) ≡ map Some k.segments
  carried = ap (map segment_in) k.named ∙ k.carried

  as_many_turns : length k.segments ≡ t.story.turns
  as_many_turns = omega (arith, k.turns, as_many k.frames k.segments k.carried)
    where
      as_many : (fs : List Carried) (xs : List (Segment Octets)) → map segment_in fs ≡ map Some xs → length fs ≡ length xs
      as_many [] [] e = refl
      as_many [] (x ∷ xs) e = absurd (omega (arith, ap length e))
      as_many (f ∷ fs) [] e = absurd (omega (arith, ap length e))
      as_many (f ∷ fs) (x ∷ xs) e = let tail : map segment_in fs ≡ map Some xs = cc e in ap suc (as_many fs xs tail)

  pub firsts : Firsts s t k us ss
  unfolding all
  firsts =
      let layout : Layout = expecting s.start in
      let a : AreFirst layout 0 us k.located = are_first layout us k.located (located_of layout (length k.before) all) short (ap (located_of layout 0) (sym same) ∙ k.split all) in
      let l : Later ss k.segments a.rest = later_sent us a.done a.rest ss k.segments (frames_at k.located) reads a.is a.frames carried in
      record {
        done = a.done;
        rest = a.rest;
        is = a.is;
        place = sym a.place ∙ k.ends;
        count = omega (arith, ap length a.frames, length-map a.done intact, ap length k.named, k.turns);
        later = l.segments;
        segments = l.is;
        as_many = as_many_turns;
      }

  -- the frame at the in-order point is the next, and so is its segment
  here_of : Carried → Octets → Located
  here_of frame left = located (expecting s.start) (length k.before) all frame (left ++ reached.rest)

  others_of : Octets → List Located
  others_of left = located_of (expecting s.start) (length k.before + (length all - length (left ++ reached.rest))) (left ++ reached.rest)

  next_there : (frame : Carried) (left : Octets) → fore s ≡ Some (frame, left) → located_of (expecting s.start) (length k.before) all ≡ here_of frame left ∷ others_of left
  unfolding all here_of others_of
  next_there frame left whole =
      located_first (expecting s.start) (length k.before) all frame (left ++ reached.rest) k.between
      (first_stays (expecting s.start) (length k.before) (inbox s) reached.rest frame left k.between (sym (front_is s t k) ∙ whole))

  next_parts : (frame : Carried) (left : Octets) → fore s ≡ Some (frame, left) → located_of (expecting s.start) 0 (sequence (expecting s.start) 0 us) ≡ (k.located ++ here_of frame left ∷ []) ++ others_of left
  next_parts frame left whole =
      let first : located_of (expecting s.start) 0 (sequence (expecting s.start) 0 us) ≡ k.located ++ located_of (expecting s.start) (length k.before) all = ap (located_of (expecting s.start) 0) (sym same) ∙ k.split all in
      let then_ : k.located ++ located_of (expecting s.start) (length k.before) all ≡ k.located ++ here_of frame left ∷ others_of left = ap (λ z. k.located ++ z) (next_there frame left whole) in
      first ∙ then_ ∙ sym (append_assoc k.located (here_of frame left ∷ []) (others_of left))

  next_carried : (frame : Carried) (left : Octets) (segment : Segment Octets) → segment_in frame ≡ Some segment → map segment_in (frames_at (k.located ++ here_of frame left ∷ [])) ≡ map Some (k.segments ++ segment ∷ [])
  unfolding here_of
  next_carried frame left segment carries =
      let frames_are : frames_at (k.located ++ here_of frame left ∷ []) ≡ frames_at k.located ++ frame ∷ [] = map-append (λ (z : Located). carried_by z.frame) k.located (here_of frame left ∷ []) in
      let one : map segment_in (frames_at k.located ++ frame ∷ []) ≡ map segment_in (frames_at k.located) ++ segment_in frame ∷ [] = map-append segment_in (frames_at k.located) (frame ∷ []) in
      ap (map segment_in) frames_are ∙ one ∙ (λ i. carried i ++ carries i ∷ []) ∙ sym (map-append Some k.segments (segment ∷ []))

  pub next_segment : (frame : Carried) (left : Octets) (segment : Segment Octets) → fore s ≡ Some (frame, left) → segment_in frame ≡ Some segment → (later : List (Segment Octets)) × (ss ≡ k.segments ++ segment ∷ later)
  next_segment frame left segment whole carries =
      let fs : List Located = k.located ++ here_of frame left ∷ [] in
      let a : AreFirst (expecting s.start) 0 us fs = are_first (expecting s.start) us fs (others_of left) short (next_parts frame left whole) in
      let l : Later ss (k.segments ++ segment ∷ []) a.rest = later_sent us a.done a.rest ss (k.segments ++ segment ∷ []) (frames_at fs) reads a.is a.frames (next_carried frame left segment carries) in
      (l.segments, l.is ∙ append_assoc k.segments (segment ∷ []) l.segments)

-- ---- their places

parts_of : {A : Type 0} (a b c d : List A) (x : A) → a ++ x ∷ b ≡ c ++ d → length a < length c → (more : List A) × (c ≡ a ++ x ∷ more)
parts_of a b [] d x e n = absurd (omega (arith, n))
parts_of [] b (z ∷ c) d x e n = let same : x ≡ z = cc e in (c, ap (λ w. w ∷ c) (sym same))
parts_of {A} (w ∷ a) b (z ∷ c) d x e n =
    let same : w ≡ z = cc e in
    let tail : a ++ x ∷ b ≡ c ++ d = cc e in
    let r = parts_of a b c d x tail (omega (arith, n)) in
    (r.0, (λ i. sym same i ∷ r.1 i))

-- a frame begins before the end of those that it is one of
pub begins_before : (layout : Layout) (a b c d : List Octets) (u : Octets) → a ++ u ∷ b ≡ c ++ d → length a < length c → frame_start layout.markers (place_past layout 0 a) < place_past layout 0 c
begins_before layout a b c d u e n =
    let r = parts_of a b c d u e n in
    let at : ℕ = place_past layout 0 a in
    let between : IsBetween layout.markers at = between_past layout 0 a (frames_follow.first layout.markers) in
    let all : place_past layout 0 c ≡ place_past layout (place_past layout at (u ∷ [])) r.0 =
    ap (place_past layout 0) r.1 ∙ beyond-append layout 0 a (u ∷ r.0) ∙ beyond-append layout at (u ∷ []) r.0 in
    let one : place_past layout at (u ∷ []) ≡ frame_end layout.markers at (length u) = past_one layout at u in
    let low = past_low layout (frame_end layout.markers at (length u)) r.0 (next_between layout at (length u) between) in
    omega (arith, all, ap (λ p. place_past layout p r.0) one, low, end_high layout at (length u) between)

-- each takes a place at least
one_each : (layout : Layout) (at : ℕ) (us : List Octets) → IsBetween layout.markers at → at + length us ≤ place_past layout at us
unfolding place_past
one_each layout at [] b = omega arith
one_each layout at (u ∷ us) b = omega (arith, one_each layout (frame_end layout.markers at (length u)) us (next_between layout at (length u) b), end_low layout at (length u) b)

-- of two parts at the front of one list the longer begins with the other
pub front_of_longer : {A : Type 0} (c d a f : List A) → c ++ d ≡ a ++ f → length c ≤ length a → (more : List A) × (a ≡ c ++ more)
front_of_longer [] d a f e n = (a, refl)
front_of_longer (x ∷ c) d [] f e n = absurd (omega (arith, n))
front_of_longer {A} (x ∷ c) d (y ∷ a) f e n =
    let same : x ≡ y = cc e in
    let tail : c ++ d ≡ a ++ f = cc e in
    let r = front_of_longer c d a f tail (omega (arith, n)) in
    (r.0, (λ i. sym same i ∷ r.1 i))

-- a frame begins past those before it, as far at least as there are others between
pub near_by : (layout : Layout) (a b c d : List Octets) (u : Octets) → a ++ u ∷ b ≡ c ++ d → length c ≤ length a → place_past layout 0 c + (length a - length c) ≤ frame_start layout.markers (place_past layout 0 a)
near_by layout a b c d u e n =
    let r = front_of_longer c d a (u ∷ b) (sym e) n in
    let at : ℕ = place_past layout 0 c in
    let between : IsBetween layout.markers at = between_past layout 0 c (frames_follow.first layout.markers) in
    let all : place_past layout 0 a ≡ place_past layout at r.0 = ap (place_past layout 0) r.1 ∙ beyond-append layout 0 c r.0 in
    omega (arith, all, one_each layout at r.0 between, ap length r.1, length-append c r.0, start_low layout (place_past layout 0 a) (between_past layout 0 a (frames_follow.first layout.markers)))

-- a frame that begins at a place has as many before it as any that begins there
pub same_place : (layout : Layout) (us : List Octets) (start : ℕ) (u w : Octets) → (x : IsOneOf layout 0 us start u) → (y : IsOneOf layout 0 us start w) → length x.before ≡ length y.before
same_place layout us start u w x y =
    elim (cases_lt (length x.before) (length y.before)) [
      | inl less ↦ absurd (differ u w x y less)
      | inr no_less ↦ elim (cases_lt (length y.before) (length x.before)) [ inl more ↦ absurd (differ w u y x more) | inr no_more ↦ omega (arith, no_less, no_more) ]
    ]
  where
    differ : (u w : Octets) → (x : IsOneOf layout 0 us start u) → (y : IsOneOf layout 0 us start w) → length x.before < length y.before → ⊥
    differ u w x y less =
        let before = begins_before layout x.before x.after y.before (w ∷ y.after) u (sym x.is ∙ y.is) less in
        omega (arith, before, x.place, y.place, start_low layout (place_past layout 0 y.before) (between_past layout 0 y.before (frames_follow.first layout.markers)))

-- ---- the segment of one

pub record Carries (us : List Octets) (ss : List (Segment Octets)) (n : ℕ) (u : Octets) : Type 0 where
  pub before : List (Segment Octets)
  pub segment : Segment Octets
  pub later : List (Segment Octets)
  pub is : ss ≡ before ++ segment ∷ later
  pub as_many : length before ≡ n
  pub reads : read_segment u ≡ Some segment

pub carries_at : (us : List Octets) (ss : List (Segment Octets)) (before after : List Octets) (u : Octets) → map read_segment us ≡ map Some ss → us ≡ before ++ u ∷ after → Carries us ss (length before) u
carries_at us ss before after u reads is = go ss before (ap (map read_segment) (sym is) ∙ reads)
  where
    go : (ss : List (Segment Octets)) (before : List Octets) → map read_segment (before ++ u ∷ after) ≡ map Some ss → Carries us ss (length before) u
    go [] [] e = absurd (omega (arith, ap length e))
    go [] (w ∷ before) e = absurd (omega (arith, ap length e))
    go (x ∷ ss) [] e = let first : read_segment u ≡ Some x = cc e in record { before = []; segment = x; later = ss; is = refl; as_many = refl; reads = first }
    go (x ∷ ss) (w ∷ before) e =
        let tail : map read_segment (before ++ u ∷ after) ≡ map Some ss = cc e in
        let r = go ss before tail in
        record { before = x ∷ r.before; segment = r.segment; later = r.later; is = ap (λ z. x ∷ z) r.is; as_many = omega (arith, r.as_many); reads = r.reads }

-- ---- what came lies in the window
pub come_near : (a : Arrived) (p : ℕ) → IsInWindow a → has_come a p ≡ true → p < a.floor + 2 ^ 18
come_near a p near come =
    elim (cases_lt p (a.floor + 2 ^ 18)) [
      | inl inside ↦ inside
      | inr out ↦ absurd (true≢false (sym come ∙ ap (λ c. not (is_missing c)) (beyond a p (omega (arith, out)) ∙ get_or_past a.cells (p - a.floor) Missing (omega (arith, out, near)))))
    ]
