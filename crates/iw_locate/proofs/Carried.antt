-- Places that stay free, or were, where what came or the records change.
use Rattle.std.proofs.Common.{◌≡◌, ℕ, ◌+◌, ◌<◌, ◌≤◌, List, sym, ap, ◌∙◌, subst, arith}
use Rattle.std.specs.Prelude.{◌⊎◌, not}
use Rattle.iw_ranges.specs.Arrived.{Arrived, cell_at, is_missing}
use Rattle.iw_fpdu.specs.Places.{IsStart, span_start}
use Rattle.iw_fpdu.specs.Frame.{frame_end}
use Rattle.iw_fpdu.specs.Reading.{length_at, pointer_at}
use Rattle.iw_fpdu.specs.Found.{octet_of as octet_held, octet_in}
use Rattle.iw_fpdu.proofs.Octets.{span_low, length_within}
use Rattle.iw_locate.specs.declared.judged.Record.{Record}
use Rattle.iw_locate.specs.Records.{IsClear, IsClearOfPlaced}
use Rattle.iw_locate.specs.Free.{Scene, point_of, front_of, end_of, IsMarkerSeen, PointsTo, IsOpen}
use Rattle.iw_locate.specs.Keeping.{changed}

module _ {T : Type 0} (v : Scene T) (arrived : Arrived) (records : List (Record T)) where
  abbrev pub IsSameCell : ℕ → Type 0
  IsSameCell q = cell_at arrived (v.base + q) ≡ cell_at v.arrived (v.base + q)

  -- the frame at s stands there as it did
  abbrev pub IsSameFrame : ℕ → Type 0
  IsSameFrame s = (q : ℕ) → span_start v.layout.markers s ≤ q → q < end_of (changed v arrived records) s → IsSameCell q

  abbrev pub IsSameMarker : ℕ → Type 0
  IsSameMarker p = (q : ℕ) → p ≤ q → q < p + 4 → IsSameCell q

  pub same_end : (s : ℕ) → IsStart v.layout.markers s → IsSameFrame s → end_of v s ≡ end_of (changed v arrived records) s
  same_end s start same =
      let long = length_within v.layout.markers s (length_at (octet_in arrived v.base) s) start in
      let low = span_low v.layout.markers s in
      let first : octet_in arrived v.base s ≡ octet_in v.arrived v.base s = ap octet_held (same s low (omega (arith, long))) in
      let second : octet_in arrived v.base (s + 1) ≡ octet_in v.arrived v.base (s + 1) = ap octet_held (same (s + 1) (omega (arith, low)) (omega (arith, long))) in
      ap (frame_end v.layout.markers s) (let e : length_at (octet_in v.arrived v.base) s ≡ length_at (octet_in arrived v.base) s = omega (arith, first, second) in e)

  pub open_back : (s : ℕ) → IsOpen (changed v arrived records) s → IsSameFrame s → point_of v ≤ span_start v.layout.markers s → (s ≡ front_of v → ⊥) → IsClear v.records s (end_of (changed v arrived records) s) → IsOpen v s
  open_back s open_ same low other clear =
      let e = same_end s open_.start same in record {
        start = open_.start;
        whole = λ q from to. let here : q < end_of (changed v arrived records) s = omega (arith, to, e) in ap (λ c. not (is_missing c)) (sym (same q from here)) ∙ open_.whole q from here;
        past = low;
        other = other;
        clear = subst (IsClear v.records s) (sym e) clear;
      }

  pub same_pointer : (p : ℕ) → IsSameMarker p → pointer_at (octet_in arrived v.base) p ≡ pointer_at (octet_in v.arrived v.base) p
  same_pointer p same =
      let first : octet_in arrived v.base (p + 2) ≡ octet_in v.arrived v.base (p + 2) = ap octet_held (same (p + 2) (omega arith) (omega arith)) in
      let second : octet_in arrived v.base (p + 3) ≡ octet_in v.arrived v.base (p + 3) = ap octet_held (same (p + 3) (omega arith) (omega arith)) in
      omega (arith, first, second)

  pub points_back : (p s : ℕ) → IsSameMarker p → PointsTo (changed v arrived records) p s → PointsTo v p s
  points_back p s same points = subst (λ k. ((k ≡ 0) × (s ≡ p + 4)) ⊎ ((0 < k) × (s + k ≡ p))) (same_pointer p same) points

  pub points_on : (p s : ℕ) → IsSameMarker p → PointsTo v p s → PointsTo (changed v arrived records) p s
  points_on p s same points = subst (λ k. ((k ≡ 0) × (s ≡ p + 4)) ⊎ ((0 < k) × (s + k ≡ p))) (sym (same_pointer p same)) points

  pub seen_back : (p : ℕ) → IsSameMarker p → IsClearOfPlaced v.records p (p + 4) → IsMarkerSeen (changed v arrived records) p → IsMarkerSeen v p
  seen_back p same clear seen = record { marker = seen.marker; came = λ q low high. ap (λ c. not (is_missing c)) (sym (same q low high)) ∙ seen.came q low high; outside = clear }

  pub seen_on : (p : ℕ) → IsSameMarker p → IsClearOfPlaced records p (p + 4) → IsMarkerSeen v p → IsMarkerSeen (changed v arrived records) p
  seen_on p same clear seen = record { marker = seen.marker; came = λ q low high. ap (λ c. not (is_missing c)) (same q low high) ∙ seen.came q low high; outside = clear }
