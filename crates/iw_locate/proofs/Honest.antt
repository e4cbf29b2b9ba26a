-- Where what came is what frames written one after another have: each place where a frame may be judged early is the place of one of these frames, which is read as it was written.
use Rattle.std.proofs.Common.{◌≡◌, ℕ, ◌+◌, ◌-◌, ◌*◌, ◌<◌, ◌≤◌, true, false, not, List, [], ◌∷◌, ◌++◌, length, get_or, Some, refl, sym, ap, ◌∙◌, subst, arith, inl, inr, append_assoc, length-append}
use Rattle.std.proofs.lemmas.Bool.{cases_lt}
use Rattle.std.proofs.Math.Seq.{get_or-append_seam}
use Rattle.std.proofs.lemmas.List.Elements.{All-get_or}
use Rattle.std.proofs.lemmas.Option.{slice_get_within, slice_get-get_or, get_or_from_slice_get}
use Rattle.std.proofs.lemmas.List.{get_or-append-add}
use Rattle.std.specs.Prelude.{◌⊎◌, All, slice_get}
use Rattle.std.specs.List.{Contains}
use Rattle.iw_ranges.specs.Arrived.{Arrived, Cell, Missing, Here, Gone, cell_at, is_missing, has_come, taken_in}
use Rattle.iw_ranges.specs.InOrder.{is_gone, IsHeld, IsOf}
use Rattle.iw_ranges.proofs.InOrder.{floor_takes}
use Rattle.iw_fpdu.specs.declared.layout.Layout.{Layout}
use Rattle.iw_fpdu.specs.Places.{IsStart, frame_start, span_start}
use Rattle.iw_fpdu.specs.Frame.{max_sent, frame_end, frame_octet}
use Rattle.iw_fpdu.specs.Reading.{length_at, pointer_at}
use Rattle.iw_fpdu.specs.Found.{octet_of as octet_held, IsWhole}
use Rattle.iw_fpdu.specs.Sequence.{sequence, place_past}
use Rattle.iw_fpdu.specs.Laws.{IsBetween, IsReadAgain, found_at}
use Rattle.iw_fpdu.proofs.Again.{length_back, reads_again}
use Rattle.iw_fpdu.proofs.Follows.{begins, ends, frames_follow}
use Rattle.iw_fpdu.proofs.Octets.{span_low, length_within}
use Rattle.iw_fpdu.proofs.Sequences.{place_is, between_past}
use Rattle.iw_locate.specs.declared.judged.Record.{Record}
use Rattle.iw_locate.specs.Records.{from_of}
use Rattle.iw_locate.specs.Free.{Scene, point_of, octet_of, end_of, IsMarkerSeen, PointsTo, EndsBefore, IsOpen, IsFree}
use Rattle.iw_locate.proofs.Open.{start_high}
use Rattle.iw_locate.proofs.Turning.{not_before}
use Rattle.iw_locate.proofs.Stays.{cell_taken}
use Rattle.iw_locate.proofs.Sequenced.{IsOneOf, LiesIn, beyond-append, past_one, start_low, octet_sent, lies_in, pointer_written, end_near, points_to_start, next_start, marker_whole}

-- from the in-order point on nothing that came was given up, and it is what these octets have at the same frame place
pub record IsSent {T : Type 0} (v : Scene T) (octets : List ℕ) : Type 0 where
  pub held : (q : ℕ) → point_of v ≤ q → is_gone (cell_at v.arrived (v.base + q)) ≡ false
  pub same : (q x : ℕ) → point_of v ≤ q → cell_at v.arrived (v.base + q) ≡ Here x → slice_get octets q ≡ Some x

-- a record is of one of these frames
pub record IsRecordOf {T : Type 0} (layout : Layout) (us : List (List ℕ)) (r : Record T) : Type 0 where
  pub ulpdu : List ℕ
  pub one : IsOneOf layout 0 us r.start ulpdu
  pub len : r.length ≡ length ulpdu
  pub end : r.end ≡ frame_end true r.start r.length

-- the frame at s is one of these frames, and is read as it was written
pub record IsReadOf (arrived : Arrived) (layout : Layout) (base : ℕ) (us : List (List ℕ)) (s : ℕ) : Type 0 where
  pub ulpdu : List ℕ
  pub one : IsOneOf layout 0 us s ulpdu
  pub again : IsReadAgain (found_at arrived layout base s) ulpdu

-- its place by the octets before it
pub place_by_octets : (layout : Layout) (us : List (List ℕ)) (s : ℕ) (u : List ℕ) → (o : IsOneOf layout 0 us s u) → s ≡ frame_start layout.markers (length (sequence layout 0 o.before))
place_by_octets layout us s u o = o.place ∙ ap (frame_start layout.markers) (omega (arith, place_is layout 0 o.before (frames_follow.first layout.markers)))

-- what came of octets
record Stands (arrived : Arrived) (p : ℕ) (octets : List ℕ) (q : ℕ) : Type 0 where
  pub cell : cell_at arrived p ≡ Here (get_or octets q 0)
  pub within : q < length octets

stands : {T : Type 0} (v : Scene T) (octets : List ℕ) → IsSent v octets → (q : ℕ) → point_of v ≤ q → has_come v.arrived (v.base + q) ≡ true → Stands v.arrived (v.base + q) octets q
stands v octets sent q low come = go (cell_at v.arrived (v.base + q)) refl
  where
    go : (c : Cell) → cell_at v.arrived (v.base + q) ≡ c → Stands v.arrived (v.base + q) octets q
    go Missing e = absurd (let f = sym (ap (λ (x : Cell). not (is_missing x)) e) ∙ come in cc f)
    go Gone e = absurd (let f = sym (ap is_gone e) ∙ sent.held q low in cc f)
    go (Here x) e =
        let there : slice_get octets q ≡ Some x = sent.same q x low e in
        record { cell = e ∙ ap Here (sym (get_or_from_slice_get octets q x 0 there)); within = slice_get_within octets q x there }

-- where what came of the stream is what was sent, start-up frame first
pub sent_past : {T : Type 0} (v : Scene T) (intro octets : List ℕ) → length intro ≡ v.base → IsHeld v.arrived → IsOf v.arrived (intro ++ octets) → IsSent v octets
sent_past v intro octets size held of = record {
  held = λ q low. held (v.base + q) (omega (arith, low));
  same = λ q x low here.
      let there : slice_get (intro ++ octets) (v.base + q) ≡ Some x = of (v.base + q) x (omega (arith, low)) here in
      let within : v.base + q < length (intro ++ octets) = slice_get_within (intro ++ octets) (v.base + q) x there in
      slice_get-get_or octets q 0 (omega (arith, size, length-append intro octets, within))
      ∙ ap Some (sym (get_or-append-add intro octets q 0) ∙ ap (λ i. get_or (intro ++ octets) i 0) (let e : length intro + q ≡ v.base + q = omega (arith, size) in e)
      ∙ get_or_from_slice_get (intro ++ octets) (v.base + q) x 0 there);
}

-- what came before was sent too
pub of_earlier : (a : Arrived) (place : ℕ) (octets sent : List ℕ) → IsOf (taken_in a place octets) sent → IsOf a sent
of_earlier a place octets sent of p x low here =
    of p x (omega (arith, low, floor_takes a place octets)) (cell_taken a place octets p (ap (λ (c : Cell). not (is_missing c)) here) ∙ here)

module _ {T : Type 0} (v : Scene T) (us : List (List ℕ)) (marked : v.layout.markers ≡ true) (short : All (λ u. length u ≤ max_sent) us) (sent : IsSent v (sequence v.layout 0 us)) where
  first : IsBetween v.layout.markers 0
  first = frames_follow.first v.layout.markers

  -- every list of frames at the front of these
  front_between : (before : List (List ℕ)) → IsBetween v.layout.markers (place_past v.layout 0 before)
  front_between before = between_past v.layout 0 before first

  all_end : place_past v.layout 0 us ≡ length (sequence v.layout 0 us)
  all_end = omega (arith, place_is v.layout 0 us first)

  short_one : (before : List (List ℕ)) (u : List ℕ) (after : List (List ℕ)) → us ≡ before ++ u ∷ after → length u ≤ max_sent
  short_one before u after is =
      let beyond : length before < length (before ++ u ∷ after) = omega (arith, length-append before (u ∷ after)) in
      subst (λ x. length x ≤ max_sent) (get_or-append_seam before u after u) (All-get_or (λ x. length x ≤ max_sent) (before ++ u ∷ after) (length before) u beyond (subst (All (λ x. length x ≤ max_sent)) is short))

  -- ---- what came of one of the frames
  cell_of : (before : List (List ℕ)) (u : List ℕ) (after : List (List ℕ)) → us ≡ before ++ u ∷ after → (q : ℕ) → point_of v ≤ q → has_come v.arrived (v.base + q) ≡ true → place_past v.layout 0 before ≤ q
      → q < frame_end v.layout.markers (place_past v.layout 0 before) (length u)
      → cell_at v.arrived (v.base + q) ≡ Here (frame_octet v.layout (frame_start v.layout.markers (place_past v.layout 0 before)) u q)
  cell_of before u after is q past come low high =
      (stands v (sequence v.layout 0 us) sent q past come).cell
      ∙ ap Here (ap (λ ws. get_or (sequence v.layout 0 ws) q 0) is ∙ ap (λ i. get_or (sequence v.layout 0 (before ++ u ∷ after)) i 0) (let e : q ≡ q - 0 = omega arith in e) ∙ octet_sent v.layout 0 before u after q first low high)

  start_of : (s : ℕ) (u : List ℕ) → IsOneOf v.layout 0 us s u → IsStart v.layout.markers s
  start_of s u o = subst (IsStart v.layout.markers) (sym o.place) (begins v.layout.markers (place_past v.layout 0 o.before) (front_between o.before))

  cell_in : (s : ℕ) (u : List ℕ) → IsOneOf v.layout 0 us s u → (q : ℕ) → point_of v ≤ q → span_start v.layout.markers s ≤ q → q < frame_end v.layout.markers s (length u) → has_come v.arrived (v.base + q) ≡ true
      → cell_at v.arrived (v.base + q) ≡ Here (frame_octet v.layout s u q)
  cell_in s u o q past low high come =
      let at : ℕ = place_past v.layout 0 o.before in
      let span : span_start v.layout.markers s ≡ at = ap (span_start v.layout.markers) o.place ∙ (front_between o.before).span in
      let end : frame_end v.layout.markers s (length u) ≡ frame_end v.layout.markers at (length u) = ap (λ p. frame_end v.layout.markers p (length u)) o.place ∙ ends v.layout.markers at (length u) in
      cell_of o.before u o.after o.is q past come (omega (arith, span, low)) (omega (arith, end, high)) ∙ ap (λ p. Here (frame_octet v.layout p u q)) (sym o.place)

  -- one of them is read as it was written, where all its octets came
  pub all_is_read : (s : ℕ) (u : List ℕ) → IsOneOf v.layout 0 us s u → point_of v ≤ span_start v.layout.markers s
      → ((q : ℕ) → span_start v.layout.markers s ≤ q → q < frame_end v.layout.markers s (length u) → has_come v.arrived (v.base + q) ≡ true) → IsReadAgain (found_at v.arrived v.layout v.base s) u
  all_is_read s u o past come =
      reads_again.held v.arrived v.layout v.base s u (start_of s u o) (short_one o.before u o.after o.is) (λ q low high. cell_in s u o q (omega (arith, past, low)) low high (come q low high))

  -- and where it came whole
  pub one_is_read : (s : ℕ) (u : List ℕ) → IsOneOf v.layout 0 us s u → point_of v ≤ span_start v.layout.markers s → IsWhole v.arrived v.layout.markers v.base s
      → IsReadAgain (found_at v.arrived v.layout v.base s) u
  one_is_read s u o past whole = all_is_read s u o past (λ q low high. whole q low (omega (arith, high, ap (frame_end v.layout.markers s) len)))
    where
      start : IsStart v.layout.markers s
      start = start_of s u o

      octet_is : (q : ℕ) → s ≤ q → q < s + 2 → octet_of v q ≡ frame_octet v.layout s u q
      octet_is q low high =
          let from : span_start v.layout.markers s ≤ s = span_low v.layout.markers s in
          let two : s + 2 ≤ end_of v s = length_within v.layout.markers s (length_at (octet_of v) s) start in
          let two_u : s + 2 ≤ frame_end v.layout.markers s (length u) = length_within v.layout.markers s (length u) start in
          ap octet_held (cell_in s u o q (omega (arith, from, low, past)) (omega (arith, from, low)) (omega (arith, two_u, high)) (whole q (omega (arith, from, low)) (omega (arith, two, high))))

      len : length_at (octet_of v) s ≡ length u
      len =
          let one : octet_of v s ≡ frame_octet v.layout s u s = octet_is s (omega arith) (omega arith) in
          let other : octet_of v (s + 1) ≡ frame_octet v.layout s u (s + 1) = octet_is (s + 1) (omega arith) (omega arith) in
          (λ i. 256 * one i + other i) ∙ length_back v.layout s u start

  -- ---- where a frame is found
  -- a marker points to the frame that it lies in, or stands directly before
  pointed_from : (p s : ℕ) → IsMarkerSeen v p → PointsTo v p s → point_of v ≤ p → (w : LiesIn v.layout 0 us p) → IsOneOf v.layout 0 us s w.ulpdu
  pointed_from p s seen points past w = record {
    before = w.before;
    after = w.after;
    is = w.is;
    place = points_to_start v.layout.markers at (length w.ulpdu) p s (pointer_at (octet_of v) p) marked b seen.marker w.low w.high
        (pointer_written v.layout start w.ulpdu (octet_of v) p marked (begins v.layout.markers at b).aligned seen.marker (omega (arith, w.high, end_near v.layout.markers at (length w.ulpdu) b (short_one w.before w.ulpdu w.after w.is))) (octet_is 2 (omega arith)) (octet_is 3 (omega arith)))
        points;
  }
    where
      at : ℕ
      at = place_past v.layout 0 w.before

      start : ℕ
      start = frame_start v.layout.markers at

      b : IsBetween v.layout.markers at
      b = front_between w.before

      octet_is : (k : ℕ) → k < 4 → octet_of v (p + k) ≡ frame_octet v.layout start w.ulpdu (p + k)
      octet_is k lt =
          ap octet_held
          (cell_of w.before w.ulpdu w.after w.is (p + k) (omega (arith, past)) (seen.came (p + k) (omega arith) (omega (arith, lt))) (omega (arith, w.low))
          (omega (arith, lt, marker_whole v.layout.markers at (length w.ulpdu) p marked seen.marker w.high)))

  pointed : (p s : ℕ) → IsMarkerSeen v p → PointsTo v p s → point_of v ≤ p → (u : List ℕ) × IsOneOf v.layout 0 us s u
  pointed p s seen points past =
      let inside = stands v (sequence v.layout 0 us) sent p past (seen.came p (omega arith) (omega arith)) in
      let w : LiesIn v.layout 0 us p = lies_in v.layout 0 us p first (omega arith) (omega (arith, all_end, inside.within)) in
      (w.ulpdu, pointed_from p s seen points past w)

  -- the next begins where one ends
  next_of : (before : List (List ℕ)) (u : List ℕ) (after : List (List ℕ)) (s : ℕ) → us ≡ before ++ u ∷ after → s < place_past v.layout 0 us
      → s ≡ frame_start v.layout.markers (place_past v.layout 0 (before ++ u ∷ [])) → (next : List ℕ) × IsOneOf v.layout 0 us s next
  next_of before u [] s is inside place = absurd (omega (arith, inside, place, start_low v.layout (place_past v.layout 0 (before ++ u ∷ [])) (front_between (before ++ u ∷ [])), ap (place_past v.layout 0) is))
  next_of before u (next ∷ after) s is inside place =
      (next, record { before = before ++ u ∷ []; after = after; is = is ∙ sym (append_assoc before (u ∷ []) (next ∷ after)); place = place })

  followed : (r : Record T) (s : ℕ) → IsRecordOf v.layout us r → EndsBefore r.end s → IsOpen v s → (u : List ℕ) × IsOneOf v.layout 0 us s u
  followed r s of ends_before open_ =
      next_of of.one.before of.ulpdu of.one.after s of.one.is inside (next_start v.layout.markers end s marked (front_between (of.one.before ++ of.ulpdu ∷ [])) (start_high v.layout.markers s marked open_.start) at_end)
    where
      at : ℕ
      at = place_past v.layout 0 of.one.before

      end : ℕ
      end = place_past v.layout 0 (of.one.before ++ of.ulpdu ∷ [])

      end_is : r.end ≡ end
      end_is =
          of.end ∙ (λ i. frame_end (sym marked i) (of.one.place i) (of.len i)) ∙ ends v.layout.markers at (length of.ulpdu)
          ∙ sym (beyond-append v.layout 0 of.one.before (of.ulpdu ∷ []) ∙ past_one v.layout at of.ulpdu)

      at_end : EndsBefore end s
      at_end = subst (λ e. EndsBefore e s) end_is ends_before

      inside : s < place_past v.layout 0 us
      inside =
          let low : span_start v.layout.markers s ≤ s = span_low v.layout.markers s in
          let two : s + 2 ≤ end_of v s = length_within v.layout.markers s (length_at (octet_of v) s) open_.start in
          let come : has_come v.arrived (v.base + s) ≡ true = open_.whole s low (omega (arith, two)) in
          omega (arith, all_end, (stands v (sequence v.layout 0 us) sent s (omega (arith, open_.past, low)) come).within)

  -- a frame with a record is read so, where all its octets came
  pub record_is_read : (r : Record T) → (of : IsRecordOf v.layout us r) → point_of v ≤ from_of r → ((q : ℕ) → from_of r ≤ q → q < r.end → has_come v.arrived (v.base + q) ≡ true)
      → IsReadAgain (found_at v.arrived v.layout v.base r.start) of.ulpdu
  record_is_read r of past come =
      let span : span_start v.layout.markers r.start ≡ from_of r = ap (λ m. span_start m r.start) marked in
      let end : r.end ≡ frame_end v.layout.markers r.start (length of.ulpdu) = of.end ∙ (λ i. frame_end (sym marked i) r.start (of.len i)) in
      all_is_read r.start of.ulpdu of.one (omega (arith, span, past)) (λ q low high. come q (omega (arith, span, low)) (omega (arith, end, high)))

  -- each free place is that of one of these frames, where each record is of one of them
  pub free_is_sent : (s : ℕ) → ((r : Record T) → Contains v.records r → IsRecordOf v.layout us r) → IsFree v s → IsReadOf v.arrived v.layout v.base us s
  free_is_sent s of free =
      let one = found free.found in
      record { ulpdu = one.0; one = one.1; again = one_is_read s one.0 one.1 free.open_.past free.open_.whole }
    where
      found : ((p : ℕ) × IsMarkerSeen v p × PointsTo v p s) ⊎ ((r : Record T) × Contains v.records r × EndsBefore r.end s) → (u : List ℕ) × IsOneOf v.layout 0 us s u
      found (inl (p, seen, points)) =
          elim (cases_lt p (point_of v)) [
            | inl before ↦ absurd (not_before v p s (point_of v) seen.marker before points (omega (arith, free.open_.past, ap (λ m. span_start m s) marked)))
            | inr past ↦ pointed p s seen points past
          ]
      found (inr (r, within, ends_before)) = followed r s (of r within) ends_before free.open_
