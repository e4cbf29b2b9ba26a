-- Where a frame may be judged early, and where none may.
use Rattle.std.proofs.Common.{◌≡◌, ℕ, ◌+◌, ◌-◌, ◌%◌, ◌^◌, ◌<◌, ◌≤◌, Bool, true, false, not, cond, eqb, inl, inr, refl, sym, ap, ◌∙◌, arith}
use Rattle.std.proofs.lemmas.Bool.{cases_lt}
use Rattle.std.proofs.lemmas.Bool.Decides.{nat_tests}
use Rattle.std.specs.List.{Contains}
use Rattle.iw_ranges.specs.Arrived.{Cell, Missing, Here, Gone, cell_at, is_missing, has_come, IsHere, IsWithinLimits}
use Rattle.iw_fpdu.specs.Places.{IsStart, in_marker, span_start}
use Rattle.iw_fpdu.specs.Frame.{frame_end}
use Rattle.iw_fpdu.specs.Reading.{length_at, pointer_at}
use Rattle.iw_fpdu.specs.Found.{IsKept, LacksOctet}
use Rattle.iw_fpdu.proofs.Octets.{span_low, length_within}
use Rattle.iw_fpdu.proofs.Came.{here_of}
use Rattle.iw_locate.specs.declared.judged.Record.{Record}
use Rattle.iw_locate.specs.Records.{from_of, IsPlaced, OverlapsOne, IsClear, IsClearOfPlaced}
use Rattle.iw_locate.specs.Free.{Scene, point_of, octet_of, end_of, IsOpen, IsMarkerSeen, PointsTo, EndsBefore, CanLocate}

pub start_from : (m : Bool) (s : ℕ) → m ≡ true → s % 4 ≡ 0 → 4 ≤ s % 512 → IsStart m s
unfolding in_marker
start_from true s e aligned high = record { aligned = aligned; outside = grind (arith, nat_tests) }
start_from false s e aligned high = absurd (cc e)

pub start_high : (m : Bool) (s : ℕ) → m ≡ true → IsStart m s → 4 ≤ s % 512
unfolding in_marker
start_high true s e h = grind (arith, nat_tests, h.outside)
start_high false s e h = absurd (cc e)

-- where a marker points no frame begins out of step
pub pointed_aligned : (place back start : ℕ) → place % 512 ≡ 0 → place < 2 ^ 63 → back % 4 ≡ 0 → (back ≡ 0 → start ≡ place + 4) → (0 < back → start + back ≡ place) → (start % 4 ≡ 0) × (start < 2 ^ 63)
pointed_aligned place back start marker low aligned none some =
    elim (cases_lt 0 back) [
      | inl more ↦ let e = some more in (omega (arith, e), omega (arith, e))
      | inr zero_ ↦ let e = none (omega (arith, zero_)) in (omega (arith, e), omega (arith, e))
    ]

come_not_missing : (c : Cell) → not (is_missing c) ≡ true → c ≡ Missing → ⊥
come_not_missing Missing e h = absurd (cc e)
come_not_missing (Here x) e h = absurd (cc h)
come_not_missing Gone e h = absurd (cc h)

pub not_seen_missing : {T : Type 0} (v : Scene T) (p : ℕ) → has_come v.arrived (v.base + p) ≡ false → IsMarkerSeen v p → ⊥
not_seen_missing v p none seen = let e = sym (seen.came p (omega arith) (omega arith)) ∙ none in absurd (cc e)

-- a marker that lies in a placed frame isn't looked at
pub not_seen_placed : {T : Type 0} (v : Scene T) (p : ℕ) → (r : Record T) × Contains v.records r × IsPlaced r.state × (from_of r ≤ p) × (p < r.end) → IsMarkerSeen v p → ⊥
not_seen_placed v p (r, within, placed, low, high) seen = seen.outside r within placed (omega arith, omega (arith, span_low true p))

-- the span of the frame past a marker begins with the marker
pub span_past_marker : (p : ℕ) → p % 512 ≡ 0 → span_start true (p + 4) ≡ p
unfolding span_start
span_past_marker p h =
    let near : eqb ((p + 4) % 512) 4 ≡ true = grind (arith, nat_tests) in
    ap (λ b. cond b (p + 4 - 4) (p + 4)) near ∙ omega arith

module _ {T : Type 0} (v : Scene T) (can : CanLocate v) (m : v.layout.markers ≡ true) where
  pub span_is : (s : ℕ) → span_start v.layout.markers s ≡ span_start true s
  span_is s = ap (λ b. span_start b s) m

  -- nothing comes so far past the in-order point
  pub not_open_far : (s : ℕ) → IsWithinLimits v.arrived → 2 ^ 63 ≤ s → IsOpen v s → ⊥
  not_open_far s limits far open_ =
      come_not_missing (cell_at v.arrived (v.base + s)) (open_.whole s (span_low v.layout.markers s) (omega (arith, length_within v.layout.markers s (length_at (octet_of v) s) open_.start)))
      (limits.octets (v.base + s) (omega (arith, can.low)))

  -- two octets at least
  pub two_octets : (s : ℕ) → IsOpen v s → s + 2 ≤ end_of v s
  two_octets s open_ = length_within v.layout.markers s (length_at (octet_of v) s) open_.start

  pub not_open_under : (s : ℕ) → OverlapsOne v.records s (s + 2) → IsOpen v s → ⊥
  not_open_under s (r, within, (low, high)) open_ = open_.clear r within (omega (arith, two_octets s open_), high)

  -- where no record lies over the length field it can be read
  pub length_kept : (s : ℕ) → IsClear v.records s (s + 2) → point_of v ≤ span_start true s → (q : ℕ) → s ≤ q → q < s + 2 → IsKept (cell_at v.arrived (v.base + q))
  length_kept s clear past q low high = go (cell_at v.arrived (v.base + q)) refl
    where
      go : (c : Cell) → cell_at v.arrived (v.base + q) ≡ c → IsKept c
      go Missing e = tt
      go (Here x) e = tt
      go Gone e =
          let w = can.released q (omega (arith, span_low true s)) e in
          clear w.0 w.1 (omega (arith, w.3), omega (arith, w.4, span_low true s))

  -- where a frame may be judged its length is held
  pub length_here : (s : ℕ) → IsOpen v s → (q : ℕ) → s ≤ q → q < s + 2 → IsHere (cell_at v.arrived (v.base + q))
  length_here s open_ q low high = go (cell_at v.arrived (v.base + q)) refl
    where
      go : (c : Cell) → cell_at v.arrived (v.base + q) ≡ c → IsHere c
      go Missing e = absurd (come_not_missing (cell_at v.arrived (v.base + q)) (open_.whole q (omega (arith, low, span_low v.layout.markers s)) (omega (arith, high, two_octets s open_))) e)
      go (Here x) e = tt
      go Gone e =
          let w = can.released q (omega (arith, low, open_.past, span_low v.layout.markers s)) e in
          absurd (open_.clear w.0 w.1 (omega (arith, w.3, high, two_octets s open_), omega (arith, w.4, low, span_low true s)))

  -- so none may where one lacks an octet if it is held
  pub not_open_cut : (s : ℕ) → (IsHere (cell_at v.arrived (v.base + s)) → IsHere (cell_at v.arrived (v.base + (s + 1))) → LacksOctet v.arrived v.layout.markers v.base s) → IsOpen v s → ⊥
  not_open_cut s lacks open_ =
      let w = lacks (length_here s open_ s (omega arith) (omega arith)) (length_here s open_ (s + 1) (omega arith) (omega arith)) in
      let e = sym (open_.whole w.0 w.1 w.2) ∙ w.3 in cc e

  -- past the window nothing came, so no marker
  pub not_seen_far : (p : ℕ) → IsWithinLimits v.arrived → point_of v + 262144 ≤ p → IsMarkerSeen v p → ⊥
  not_seen_far p limits far seen =
      come_not_missing (cell_at v.arrived (v.base + p)) (seen.came p (omega arith) (omega arith)) (limits.octets (v.base + p) (omega (arith, can.based)))

  -- a marker that no placed frame lies over was not given up
  pub marker_here : (p : ℕ) → ((q : ℕ) → p ≤ q → q < p + 4 → has_come v.arrived (v.base + q) ≡ true) → IsClearOfPlaced v.records p (p + 4) → point_of v ≤ p → (q : ℕ) → p ≤ q → q < p + 4
      → IsHere (cell_at v.arrived (v.base + q))
  marker_here p came clear past q low high = go (cell_at v.arrived (v.base + q)) refl
    where
      go : (c : Cell) → cell_at v.arrived (v.base + q) ≡ c → IsHere c
      go Missing e = absurd (come_not_missing (cell_at v.arrived (v.base + q)) (came q low high) e)
      go (Here x) e = tt
      go Gone e =
          let w = can.released q (omega arith) e in
          clear w.0 w.1 w.2 (omega (arith, w.3), omega (arith, w.4, span_low true p))

  -- so what is said of it where it is held is said of it where it is seen
  pub pointer_seen : (p back : ℕ) → point_of v ≤ p → (IsHere (cell_at v.arrived (v.base + (p + 2))) → IsHere (cell_at v.arrived (v.base + (p + 3))) → back ≡ pointer_at (octet_of v) p)
      → IsMarkerSeen v p → back ≡ pointer_at (octet_of v) p
  pointer_seen p back past value seen =
      let here = marker_here p seen.came seen.outside past in
      value (here (p + 2) (omega arith) (omega arith)) (here (p + 3) (omega arith) (omega arith))

  -- a marker before the in-order point points to nothing past it
  pub not_open_before : (p s : ℕ) → p % 512 ≡ 0 → p < point_of v → PointsTo v p s → IsOpen v s → ⊥
  not_open_before p s marker before (inl (zero_, is)) open_ = omega (arith, open_.past, span_is s, ap (span_start true) is, span_past_marker p marker)
  not_open_before p s marker before (inr (some, is)) open_ = omega (arith, open_.past, span_is s, span_low true s)

  -- what came lies within the window
  pub come_low : (q : ℕ) → IsWithinLimits v.arrived → has_come v.arrived q ≡ true → q < v.arrived.floor + 262144
  come_low q limits come =
      elim (cases_lt q (v.arrived.floor + 262144)) [
        | inl low ↦ low
        | inr far ↦ absurd (come_not_missing (cell_at v.arrived q) come (limits.octets q far))
      ]

  -- no frame begins where one ends with a record that another with a record follows
  pub not_open_joined : (end s : ℕ) (r : Record T) → Contains v.records r → r.start < r.end → from_of r ≡ end → EndsBefore end s → IsOpen v s → ⊥
  not_open_joined end s r within some is ends open_ =
      elim ends [
        | inl here ↦ open_.clear r within (omega (arith, two_octets s open_), omega (arith, span_low true s, span_low true r.start))
        | inr (marker, past) ↦ open_.clear r within (omega (arith, two_octets s open_), omega (arith, ap (span_start true) past, span_past_marker end marker, span_low true r.start))
      ]

  -- the length that is read is the frame's, where no record lies over it and it came
  pub length_is : (s len : ℕ) → (IsHere (cell_at v.arrived (v.base + s)) → IsHere (cell_at v.arrived (v.base + (s + 1))) → len ≡ length_at (octet_of v) s)
      → IsClear v.records s (s + 2) → point_of v ≤ span_start true s → ((q : ℕ) → s ≤ q → q < s + 2 → has_come v.arrived (v.base + q) ≡ true) → len ≡ length_at (octet_of v) s
  length_is s len value clear past came =
      let here : (q : ℕ) → s ≤ q → q < s + 2 → IsHere (cell_at v.arrived (v.base + q)) =
      λ q low high. here_of (cell_at v.arrived (v.base + q)) (came q low high) (length_kept s clear past q low high) in
      value (here s (omega arith) (omega arith)) (here (s + 1) (omega arith) (omega arith))

  -- a frame isn't open that lacks an octet up to the end that its length says, if it is held
  pub not_open_short : (s len end : ℕ) → (IsHere (cell_at v.arrived (v.base + s)) → IsHere (cell_at v.arrived (v.base + (s + 1))) → len ≡ length_at (octet_of v) s)
      → end ≡ frame_end v.layout.markers s len → (p : ℕ) × (s ≤ p) × (p < end) × (has_come v.arrived (v.base + p) ≡ false) → IsOpen v s → ⊥
  not_open_short s len end value is (p, low, high, none) open_ =
      not_open_cut s (λ here next.
      let e : end ≡ end_of v s = is ∙ ap (frame_end v.layout.markers s) (value here next) in
      (p, omega (arith, low, span_low v.layout.markers s), omega (arith, high, e), none)) open_

  -- nor does one whose marker lacks one
  pub not_open_bare : (s p : ℕ) → span_start true s ≤ p → p < s → has_come v.arrived (v.base + p) ≡ false → IsOpen v s → ⊥
  not_open_bare s p low high none open_ =
      let e = sym (open_.whole p (omega (arith, low, span_is s)) (omega (arith, high, two_octets s open_))) ∙ none in absurd (cc e)
