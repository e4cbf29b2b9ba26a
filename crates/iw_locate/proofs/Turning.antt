-- The in-order point moves on, and the records before it are dropped.
use Rattle.std.proofs.Common.{◌≡◌, ℕ, ◌+◌, ◌-◌, ◌%◌, ◌<◌, ◌≤◌, Bool, true, false, cond, sym, ap, ◌∙◌, subst, arith, inl, inr}
use Rattle.std.proofs.lemmas.Bool.{cases_lt, le-ltb}
use Rattle.std.specs.Prelude.{◌⊎◌, not, nat_lt, max}
use Rattle.std.specs.List.{Contains}
use Rattle.iw_ranges.specs.Arrived.{Cell, Gone, cell_at, has_come, is_missing, advanced}
use Rattle.iw_ranges.proofs.ByPlace.{gives_up_before}
use Rattle.iw_ranges.proofs.InOrder.{floor_moves}
use Rattle.iw_fpdu.specs.Places.{span_start}
use Rattle.iw_fpdu.specs.Reading.{length_at}
use Rattle.iw_fpdu.specs.Found.{octet_of as octet_held}
use Rattle.iw_fpdu.specs.Laws.{IsBetween}
use Rattle.iw_fpdu.proofs.Octets.{span_low, length_within}
use Rattle.iw_locate.specs.declared.judged.Record.{Record}
use Rattle.iw_locate.specs.declared.unsearched.Unsearched.{Unsearched}
use Rattle.iw_locate.specs.Records.{from_of, IsClearOfPlaced, kept_from}
use Rattle.iw_locate.specs.Free.{Scene, point_of, front_of, octet_of, end_of, PointsTo, IsFound, IsOpen, IsFree}
use Rattle.iw_locate.specs.Among.{IsWithin}
use Rattle.iw_locate.specs.Unsearched.{IsTouched, Tells, from_place, anywhere}
use Rattle.iw_locate.specs.Keeping.{Keeps, changed, IsPassed, TurnKeeps}
use Rattle.iw_locate.proofs.Open.{span_past_marker}
use Rattle.iw_locate.proofs.Front.{span_cases}
use Rattle.iw_locate.proofs.Holds.{keeps_from}
use Rattle.iw_locate.proofs.Carried.{same_end, open_back, points_back, points_on, seen_back, seen_on}
use Rattle.iw_locate.proofs.GivesUp.{only_moves}

small : (b : Bool) (c : Cell) → octet_held c < 256 → octet_held (cond b Gone c) < 256
small true c few = omega arith
small false c few = few

-- a marker before a place points to no frame whose span begins there or past it
pub not_before : {T : Type 0} (v : Scene T) (p s place : ℕ) → p % 512 ≡ 0 → p < place → PointsTo v p s → place ≤ span_start true s → ⊥
not_before v p s place marker before (inl (none, is)) low = omega (arith, low, before, ap (span_start true) is, span_past_marker p marker)
not_before v p s place marker before (inr (some, is)) low = omega (arith, low, before, is, span_low true s)

module _ {T : Type 0} (v : Scene T) (u : Unsearched) (to : ℕ) (keeps : Keeps v) (tells : Tells v u) (passed : IsPassed v to) where
  abbrev After : Scene T
  After = changed v (advanced v.arrived to) (kept_from (to - v.base) v.records)

  further : v.arrived.floor < to
  further = omega (arith, passed.past, keeps.between.span, span_low v.layout.markers (front_of v))

  floor_is : (advanced v.arrived to).floor ≡ to
  floor_is = omega (arith, floor_moves v.arrived to, further)

  point_is : point_of After ≡ to - v.base
  point_is = ap (λ f. f - v.base) floor_is

  cell_is : (q : ℕ) → cell_at (advanced v.arrived to) (v.base + q) ≡ cond (nat_lt (v.base + q) to) Gone (cell_at v.arrived (v.base + q))
  cell_is q = gives_up_before v.arrived to (v.base + q)

  cell_past : (q : ℕ) → to - v.base ≤ q → cell_at (advanced v.arrived to) (v.base + q) ≡ cell_at v.arrived (v.base + q)
  cell_past q past = cell_is q ∙ ap (λ b. cond b Gone (cell_at v.arrived (v.base + q))) (le-ltb (v.base + q) to (omega (arith, past)))

  kept_is : (r : Record T) → Contains (kept_from (to - v.base) v.records) r → Contains v.records r × (to - v.base ≤ from_of r)
  kept_is r = (keeps_from (to - v.base) v.records r).0

  is_kept : (r : Record T) → Contains v.records r → to - v.base ≤ from_of r → Contains (kept_from (to - v.base) v.records) r
  is_kept r within low = (keeps_from (to - v.base) v.records r).1 (within, low)

  pub turn_keeps_records : Keeps After
  turn_keeps_records = record {
    based = omega (arith, keeps.based, floor_is, further);
    between = subst (IsBetween v.layout.markers) (sym point_is) passed.between;
    marked = λ e. ap (kept_from (to - v.base)) (keeps.marked e);
    records = λ r within. omega (arith, (kept_is r within).1, point_is);
    whole = λ r within q low high.
        let w = kept_is r within in
        ap (λ c. not (is_missing c)) (cell_past q (omega (arith, w.1, low))) ∙ keeps.whole r w.0 q low high;
    ends = λ r within. keeps.ends r (kept_is r within).0;
    released = only_moves v keeps.released to passed.placed;
  }

  missing_still : (q : ℕ) → u.reach ≤ q → has_come (advanced v.arrived to) (v.base + q) ≡ false
  missing_still q far =
      elim (cases_lt (v.base + q) to) [
        | inl before ↦ absurd (let e = sym (tells.reach q far) ∙ passed.come (v.base + q) before in cc e)
        | inr past ↦ ap (λ c. not (is_missing c)) (cell_past q (omega (arith, past))) ∙ tells.reach q far
      ]

  octets_still : (q : ℕ) → octet_of After q < 256
  octets_still q = subst (λ c. octet_held c < 256) (sym (cell_is q)) (small (nat_lt (v.base + q) to) (cell_at v.arrived (v.base + q)) (tells.octets q))

  -- ---- where none that is dropped reaches past the point
  module _ (m : v.layout.markers ≡ true) (under : (r : Record T) → Contains v.records r → from_of r < to - v.base → r.end ≤ to - v.base) (s : ℕ) (free : IsFree After s) where
    low : to - v.base ≤ span_start true s
    low = omega (arith, free.open_.past, point_is, ap (λ b. span_start b s) m)

    same_frame : (q : ℕ) → span_start v.layout.markers s ≤ q → q < end_of After s → cell_at (advanced v.arrived to) (v.base + q) ≡ cell_at v.arrived (v.base + q)
    same_frame q from to_ = cell_past q (omega (arith, from, low, ap (λ b. span_start b s) m))

    end_is : end_of v s ≡ end_of After s
    end_is = same_end v (advanced v.arrived to) (kept_from (to - v.base) v.records) s free.open_.start same_frame

    was_open : IsOpen v s
    was_open =
        open_back v (advanced v.arrived to) (kept_from (to - v.base) v.records) s free.open_ same_frame (omega (arith, low, further, ap (λ b. span_start b s) m)) (λ at. omega (arith, at, passed.past, low, span_low true s))
        (λ r within over.
        elim (cases_lt (from_of r) (to - v.base)) [
          | inl before ↦ omega (arith, under r within before, over.1, low)
          | inr from ↦ free.open_.clear r (is_kept r within from) over
        ])

    marker_past : (w : Scene T) (p : ℕ) → p % 512 ≡ 0 → PointsTo w p s → to - v.base ≤ p
    marker_past w p marker points =
        elim (cases_lt p (to - v.base)) [
          | inl before ↦ absurd (not_before w p s (to - v.base) marker before points low)
          | inr past ↦ past
        ]

    was_outside : (p : ℕ) → p % 512 ≡ 0 → to - v.base ≤ p → IsClearOfPlaced (kept_from (to - v.base) v.records) p (p + 4) → IsClearOfPlaced v.records p (p + 4)
    was_outside p marker past clear r within placed over =
        elim (cases_lt (from_of r) (to - v.base)) [
          | inr from ↦ clear r (is_kept r within from) placed over
          | inl before ↦ elim (span_cases p) [ inl (near, is) ↦ omega (arith, marker, near) | inr (far, is) ↦ omega (arith, under r within before, over.1, is, past) ]
        ]

    was_found : IsFound v s
    was_found =
        elim free.found [
          | inl (p, seen, points) ↦
              let past = marker_past After p seen.marker points in
              let same = λ (q : ℕ) (from : p ≤ q) (below : q < p + 4). cell_past q (omega (arith, past, from)) in
              inl (p, seen_back v (advanced v.arrived to) (kept_from (to - v.base) v.records) p same (was_outside p seen.marker past seen.outside) seen, points_back v (advanced v.arrived to) (kept_from (to - v.base) v.records) p s same points)
          | inr (r, within, ends) ↦ inr (r, (kept_is r within).0, ends)
        ]

    still_touched : IsTouched v u.from u.to s → IsTouched After (max u.from (to - v.base)) u.to s
    still_touched (inl (q, inside, from, below)) =
        inl (q, record { low = omega (arith, inside.low, from, low, ap (λ b. span_start b s) m); high = inside.high }, from, omega (arith, below, end_is))
    still_touched (inr (q, p, inside, seen, points, from, below)) =
        let past = marker_past v p seen.marker points in
        let same = λ (x : ℕ) (over : p ≤ x) (under : x < p + 4). cell_past x (omega (arith, past, over)) in
        inr (q, p, record { low = omega (arith, inside.low, past, from); high = inside.high }, seen_on v (advanced v.arrived to) (kept_from (to - v.base) v.records) p same (λ r within placed over. seen.outside r (kept_is r within).0 placed over) seen, points_on v (advanced v.arrived to) (kept_from (to - v.base) v.records) p s same points, from, below)

    still_told : IsWithin (max u.low (to - v.base)) u.high s ⊎ IsTouched After (max u.from (to - v.base)) u.to s
    still_told =
        elim (tells.free m s (record { found = was_found; open_ = was_open })) [
          | inl inside ↦ inl (record { low = omega (arith, inside.low, low, span_low true s); high = inside.high })
          | inr touched ↦ inr (still_touched touched)
        ]

  pub turn_tells : ((r : Record T) → Contains v.records r → from_of r < to - v.base → r.end ≤ to - v.base) → Tells After (from_place u (to - v.base))
  turn_tells under = record { free = λ m s free. still_told m under s free; reach = missing_still; octets = octets_still }

  pub turn_tells_anywhere : Tells After (anywhere u)
  turn_tells_anywhere = record {
    free = λ m s free. inl (record { low = omega arith; high = before_reach s free.open_ });
    reach = missing_still;
    octets = octets_still;
  }
    where
      before_reach : (s : ℕ) → IsOpen After s → s < u.reach
      before_reach s o =
          elim (cases_lt s u.reach) [
            | inl near ↦ near
            | inr far ↦
                let long = length_within v.layout.markers s (length_at (octet_of After) s) o.start in
                absurd (let e = sym (missing_still s far) ∙ o.whole s (span_low v.layout.markers s) (omega (arith, long)) in cc e)
          ]

pub turn_keeps : {T : Type 0} → TurnKeeps T
turn_keeps v u left to keeps tells passed (inl (same, under)) = (turn_keeps_records v u to keeps tells passed, subst (Tells (changed v (advanced v.arrived to) (kept_from (to - v.base) v.records))) (sym same) (turn_tells v u to keeps tells passed under))
turn_keeps v u left to keeps tells passed (inr is) = (turn_keeps_records v u to keeps tells passed, subst (Tells (changed v (advanced v.arrived to) (kept_from (to - v.base) v.records))) (sym is) (turn_tells_anywhere v u to keeps tells passed))
