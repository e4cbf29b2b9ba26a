-- Where what came is what was sent: the frames that were judged before their turn were sent, and what was placed of them is among what was sent past those that had their turn.
use Rattle.std.proofs.Common.{◌≡◌, ℕ, ◌+◌, ◌<◌, ◌≤◌, true, cond, List, [], ◌∷◌, ◌++◌, map, length, Option, Some, None, refl, sym, ap, ◌∙◌, subst, arith, inl, inr}
use Rattle.std.specs.Prelude.{All}
use Rattle.std.specs.List.{Contains, filter_map, cons_option}
use Rattle.arrayvec.specs.ArrayVec.{ArrayVec}
use Rattle.iw_octets.specs.declared.segment.Segment.{Segment}
use Rattle.iw_octets.specs.Segment.{read_segment}
use Rattle.iw_ranges.specs.Arrived.{Arrived, has_come, advanced}
use Rattle.iw_ranges.specs.InOrder.{IsHeld, IsOf}
use Rattle.iw_ranges.proofs.InOrder.{of_moves}
use Rattle.iw_fpdu.specs.declared.layout.Layout.{Layout}
use Rattle.iw_fpdu.specs.Places.{span_start}
use Rattle.iw_fpdu.specs.Frame.{max_sent, frame_end}
use Rattle.iw_fpdu.specs.Found.{ulpdu_len}
use Rattle.iw_fpdu.specs.Laws.{IsReadAgain, found_at}
use Rattle.iw_fpdu.specs.Sequence.{sequence, place_past}
use Rattle.iw_locate.specs.declared.judged.State.{State}
use Rattle.iw_locate.specs.declared.judged.State.TheVariants.{Tried, Placed}
use Rattle.iw_locate.specs.Records.{from_of, IsPlaced, added, kept_from}
use Rattle.iw_locate.specs.Free.{point_of, IsFree}
use Rattle.iw_locate.specs.Lowest.{is_placed}
use Rattle.iw_locate.proofs.Holds.{adds_one, keeps_from}
use Rattle.iw_locate.proofs.Sequenced.{IsOneOf}
use Rattle.iw_locate.proofs.Honest.{IsSent, IsRecordOf, IsReadOf, sent_past, one_is_read, free_is_sent}
use Rattle.iw_locate.proofs.Recorded.{IsLater, placed_of, placed_count}
use Rattle.iw_stream.specs.Frames.{EarlyRecord, segment_in}
use Rattle.iw_laws.specs.Words.{Octets, listed}
use Rattle.iw_laws.specs.Turns.{Located, located_of, past_last}
use Rattle.iw_laws.proofs.Nexts as nexts
use Rattle.iw_laws.proofs.Located.{frames_at}
use Rattle.iw_laws.proofs.FirstSent.{AreFirst, Later, are_first, later_sent}
use Rattle.iw_laws.proofs.Judged.{View, frame_in, AreJudged, placed_by, segments_early, Adds}

-- the frame that begins at a place is one of those that were sent
pub record WasSent (layout : Layout) (us : List Octets) (start : ℕ) : Type 0 where
  pub ulpdu : Octets
  pub one : IsOneOf layout 0 us start ulpdu

-- so is that of each record
abbrev pub AreSent : Layout → List Octets → List EarlyRecord → Type 0
AreSent layout us rs = (r : EarlyRecord) → Contains rs r → WasSent layout us r.start

-- ---- what was sent past the start-up frame is what came there
pub scene_sent : (v : View) (came : Arrived) (intro octets : Octets) (to : ℕ) → length intro ≡ v.base → v.arrived ≡ advanced came to → IsHeld v.arrived → IsOf came (intro ++ octets) → IsSent v octets
scene_sent v came intro octets to size moved held of = sent_past v intro octets size held (subst (λ a. IsOf a (intro ++ octets)) (sym moved) (of_moves came to (intro ++ octets) of))

-- ---- none, fewer, and one more
pub none_sent : (layout : Layout) (us : List Octets) → AreSent layout us []
none_sent layout us r (k, lt, is) = absurd (omega (arith, lt))

pub fewer_sent : (layout : Layout) (us : List Octets) (place : ℕ) (rs : List EarlyRecord) → AreSent layout us rs → AreSent layout us (kept_from place rs)
fewer_sent layout us place rs are r within = are r ((keeps_from place rs r).0 within).0

-- the segments that were placed, as they are picked
picked : (v : View) (rs : List EarlyRecord) → segments_early v rs ≡ filter_map (λ (r : EarlyRecord). segment_in (frame_in v r.start)) (placed_of rs)
picked v [] = refl
picked v (r ∷ rs) = go r.state refl (picked v rs)
  where
    pick : EarlyRecord → Option (Segment Octets)
    pick = λ r. segment_in (frame_in v r.start)

    listed_is : (o : Option (Segment Octets)) (xs ys : List (Segment Octets)) → xs ≡ ys → listed o ++ xs ≡ cons_option o ys
    listed_is None xs ys e = e
    listed_is (Some x) xs ys e = ap (λ z. x ∷ z) e

    go : (state : State (ArrayVec ℕ)) → r.state ≡ state → segments_early v rs ≡ filter_map pick (placed_of rs)
        → placed_by (frame_in v r.start) r.state ++ segments_early v rs ≡ filter_map pick (cond (is_placed r.state) (r ∷ placed_of rs) (placed_of rs))
    go Tried e same = (λ i. placed_by (frame_in v r.start) (e i) ++ same i) ∙ ap (λ s. filter_map pick (cond (is_placed s) (r ∷ placed_of rs) (placed_of rs))) (sym e)
    go (Placed header) e same =
        ap (λ s. placed_by (frame_in v r.start) s ++ segments_early v rs) e ∙ listed_is (pick r) (segments_early v rs) (filter_map pick (placed_of rs)) same
        ∙ ap (λ s. filter_map pick (cond (is_placed s) (r ∷ placed_of rs) (placed_of rs))) (sym e)

module _ (v : View) (us : List Octets) (marked : v.layout.markers ≡ true) (short : All (λ u. length u ≤ max_sent) us) (sent : IsSent v (sequence v.layout 0 us)) (judged : AreJudged v) (are : AreSent v.layout us v.records) where
  read_of : (r : EarlyRecord) → (within : Contains v.records r) → IsReadAgain (found_at v.arrived v.layout v.base r.start) (are r within).ulpdu
  read_of r within =
      let s = judged.stand r within in
      one_is_read v us marked short sent r.start (are r within).ulpdu (are r within).one (omega (arith, s.past, ap (λ m. span_start m r.start) marked)) s.whole

  recorded : (r : EarlyRecord) → Contains v.records r → IsRecordOf v.layout us r
  recorded r within =
      record { ulpdu = (are r within).ulpdu; one = (are r within).one; len = (judged.stand r within).len ∙ ap length (read_of r within).ulpdu; end = (judged.stand r within).end }

  -- the frame at a free place was sent, and nothing is wrong with it
  pub free_sent : (s : ℕ) → IsFree v s → IsReadOf v.arrived v.layout v.base us s
  free_sent s free = free_is_sent v us marked short sent s recorded free

  pub one_more_sent : (r : EarlyRecord) → IsFree v r.start → AreSent v.layout us (added v.records r)
  one_more_sent r free x within =
      elim ((adds_one v.records r x).0 within) [
        | inl old ↦ are x old
        | inr new ↦ let w = free_sent r.start free in subst (λ (y : EarlyRecord). WasSent v.layout us y.start) new (record { ulpdu = w.ulpdu; one = w.one })
      ]

  come_of : (r : EarlyRecord) → Contains v.records r → (q : ℕ) → from_of r ≤ q → q < r.end → has_come v.arrived (v.base + q) ≡ true
  come_of r within q low high =
      let s = judged.stand r within in
      let same : r.length ≡ ulpdu_len (found_at v.arrived v.layout v.base r.start) = s.len ∙ ap length (read_of r within).ulpdu ∙ sym (read_of r within).len in
      let end : r.end ≡ frame_end v.layout.markers r.start (ulpdu_len (found_at v.arrived v.layout v.base r.start)) = s.end ∙ (λ i. frame_end (sym marked i) r.start (same i)) in
      s.whole q (omega (arith, low, ap (λ m. span_start m r.start) marked)) (omega (arith, high, end))

  later_of : (done : List Octets) (r : EarlyRecord) → Contains v.records r → place_past v.layout 0 done ≤ from_of r → IsLater v us done r
  later_of done r within past = record { of = recorded r within; past = past; come = come_of r within }

  -- ---- what was placed
  -- behind the frames that had their turn, and one more that was placed, where there is one
  fits_marked : (fs others : List Located) → located_of v.layout 0 (sequence v.layout 0 us) ≡ fs ++ others → point_of v ≤ past_last 0 fs
      → ((r : EarlyRecord) → Contains v.records r → IsPlaced r.state → past_last 0 fs ≤ from_of r)
      → (all firsts : List (Segment Octets)) → map read_segment us ≡ map Some all → map nexts.segment_in (frames_at fs) ≡ map Some firsts
      → (count : List (Segment Octets) → ℕ) → Adds count → count firsts + count (segments_early v v.records) ≤ count all
  fits_marked fs others parts low past all firsts reads carried count adds =
      let a : AreFirst v.layout 0 us fs = are_first v.layout us fs others short parts in
      let l : Later all firsts a.rest = later_sent us a.done a.rest all firsts (frames_at fs) reads a.is a.frames carried in
      let few : count (filter_map (λ (r : EarlyRecord). segment_in (frame_in v r.start)) (placed_of v.records)) ≤ count l.segments =
      placed_count v us marked short sent a.done a.rest a.is (omega (arith, low, a.place)) (λ (r : EarlyRecord). segment_in (frame_in v r.start)) read_segment l.segments count adds.both l.are v.records judged.apart
      (λ r within placed. later_of a.done r within (omega (arith, past r within placed, a.place))) (λ r within placed. inr refl) in
      omega (arith, few, ap count (picked v v.records), ap count l.is, adds.both firsts l.segments)

-- of the segments that were sent, those at the front that had their turn and those that were placed before it count at most as many as all
pub early_fits : (v : View) (us : List Octets) → All (λ u. length u ≤ max_sent) us → IsSent v (sequence v.layout 0 us) → AreJudged v → AreSent v.layout us v.records
    → (fs others : List Located) → located_of v.layout 0 (sequence v.layout 0 us) ≡ fs ++ others → point_of v ≤ past_last 0 fs
    → ((r : EarlyRecord) → Contains v.records r → IsPlaced r.state → past_last 0 fs ≤ from_of r)
    → (all firsts : List (Segment Octets)) → map read_segment us ≡ map Some all → map nexts.segment_in (frames_at fs) ≡ map Some firsts
    → (count : List (Segment Octets) → ℕ) → Adds count → count firsts + count (segments_early v v.records) ≤ count all
early_fits v us short sent judged are fs others parts low past all firsts reads carried count adds = go v.records refl
  where
    go : (rs : List EarlyRecord) → v.records ≡ rs → count firsts + count (segments_early v v.records) ≤ count all
    go [] none =
        let a : AreFirst v.layout 0 us fs = are_first v.layout us fs others short parts in
        let l : Later all firsts a.rest = later_sent us a.done a.rest all firsts (frames_at fs) reads a.is a.frames carried in
        omega (arith, ap (λ rs. count (segments_early v rs)) none, adds.both [] [], ap count l.is, adds.both firsts l.segments)
    go (r ∷ rs) some =
        let here : Contains v.records r = subst (λ xs. Contains xs r) (sym some) (0, omega arith, refl) in
        fits_marked v us (judged.stand r here).marked short sent judged are fs others parts low past all firsts reads carried count adds
