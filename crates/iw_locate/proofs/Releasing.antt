-- The octets of a placed frame are given up.
use Rattle.std.proofs.Common.{◌≡◌, ℕ, ◌+◌, ◌-◌, ◌<◌, ◌≤◌, Bool, true, false, cond, sym, ap, ◌∙◌, subst, arith, inl, inr}
use Rattle.std.proofs.lemmas.Bool.{cases_lt}
use Rattle.std.specs.Prelude.{◌⊎◌, ◌&&◌, nat_lt, nat_le}
use Rattle.std.specs.List.{Contains}
use Rattle.iw_ranges.specs.Arrived.{Cell, Missing, Here, Gone, cell_at, has_come, given_up, released}
use Rattle.iw_ranges.proofs.ByPlace.{gives_up_places, stays_come}
use Rattle.iw_fpdu.specs.Places.{span_start, frame_start}
use Rattle.iw_fpdu.specs.Found.{octet_of as octet_held}
use Rattle.iw_fpdu.specs.Laws.{IsBetween}
use Rattle.iw_fpdu.proofs.Octets.{span_low}
use Rattle.iw_locate.specs.declared.judged.Record.{Record}
use Rattle.iw_locate.specs.declared.unsearched.Unsearched.{Unsearched}
use Rattle.iw_locate.specs.Records.{from_of, IsPlaced}
use Rattle.iw_locate.specs.Free.{Scene, point_of, end_of, IsMarkerSeen, IsFound, IsOpen}
use Rattle.iw_locate.specs.Unsearched.{IsTouched, Tells}
use Rattle.iw_locate.specs.Keeping.{Keeps, changed, ReleaseKeeps}
use Rattle.iw_locate.proofs.Carried.{same_end, open_back, points_back, points_on, seen_back, seen_on}
use Rattle.iw_locate.proofs.GivesUp.{released_floor, outside, only_releases}

small : (from to p : ℕ) (c : Cell) → octet_held c < 256 → octet_held (given_up from to p c) < 256
small from to p Missing few = few
small from to p Gone few = few
small from to p (Here x) few = go (nat_le from p && nat_lt p to)
  where
    go : (b : Bool) → octet_held (cond b Gone (Here x)) < 256
    go true = omega arith
    go false = few

module _ {T : Type 0} (v : Scene T) (u : Unsearched) (r : Record T) (keeps : Keeps v) (tells : Tells v u) (within : Contains v.records r) (placed : IsPlaced r.state) where
  cell_is : (q : ℕ) → cell_at (released v.arrived (v.base + from_of r) (v.base + r.end)) (v.base + q) ≡ given_up (v.base + from_of r) (v.base + r.end) (v.base + q) (cell_at v.arrived (v.base + q))
  cell_is q = gives_up_places v.arrived (v.base + from_of r) (v.base + r.end) (v.base + q)

  cell_out : (q : ℕ) → (q < from_of r) ⊎ (r.end ≤ q) → cell_at (released v.arrived (v.base + from_of r) (v.base + r.end)) (v.base + q) ≡ cell_at v.arrived (v.base + q)
  cell_out q (inl before) = cell_is q ∙ outside (v.base + from_of r) (v.base + r.end) (v.base + q) (cell_at v.arrived (v.base + q)) (inl (omega (arith, before)))
  cell_out q (inr past) = cell_is q ∙ outside (v.base + from_of r) (v.base + r.end) (v.base + q) (cell_at v.arrived (v.base + q)) (inr (omega (arith, past)))

  come_is : (q : ℕ) → has_come (released v.arrived (v.base + from_of r) (v.base + r.end)) (v.base + q) ≡ has_come v.arrived (v.base + q)
  come_is q = stays_come v.arrived (v.base + from_of r) (v.base + r.end) (v.base + q)

  floor_is : (released v.arrived (v.base + from_of r) (v.base + r.end)).floor ≡ v.arrived.floor
  floor_is = released_floor v.arrived (v.base + from_of r) (v.base + r.end)

  point_is : point_of (changed v (released v.arrived (v.base + from_of r) (v.base + r.end)) v.records) ≡ point_of v
  point_is = ap (λ f. f - v.base) floor_is

  -- a place within the record's span, or outside of it
  in_or_out : (q : ℕ) → ((from_of r ≤ q) × (q < r.end)) ⊎ ((q < from_of r) ⊎ (r.end ≤ q))
  in_or_out q =
      elim (cases_lt q (from_of r)) [
        | inl before ↦ inr (inl before)
        | inr low ↦ elim (cases_lt q r.end) [ inl high ↦ inl (low, high) | inr past ↦ inr (inr past) ]
      ]

  pub release_keeps_records : Keeps (changed v (released v.arrived (v.base + from_of r) (v.base + r.end)) v.records)
  release_keeps_records = record {
    based = omega (arith, keeps.based, floor_is);
    between = subst (IsBetween v.layout.markers) (sym point_is) keeps.between;
    marked = keeps.marked;
    records = λ x inside. omega (arith, keeps.records x inside, point_is);
    whole = λ x inside q low high. come_is q ∙ keeps.whole x inside q low high;
    ends = keeps.ends;
    released = only_releases v keeps.released r within placed;
  }

  -- where no record lies over a frame its octets stay
  frame_out : (m : v.layout.markers ≡ true) (s : ℕ) → IsOpen (changed v (released v.arrived (v.base + from_of r) (v.base + r.end)) v.records) s → (q : ℕ) → span_start v.layout.markers s ≤ q
      → q < end_of (changed v (released v.arrived (v.base + from_of r) (v.base + r.end)) v.records) s → cell_at (released v.arrived (v.base + from_of r) (v.base + r.end)) (v.base + q) ≡ cell_at v.arrived (v.base + q)
  frame_out m s o q low high =
      elim (in_or_out q) [
        | inl (from, to) ↦ absurd (o.clear r within (omega (arith, from, high), omega (arith, low, to, ap (λ b. span_start b s) m)))
        | inr out ↦ cell_out q out
      ]

  marker_out : (p : ℕ) → IsMarkerSeen (changed v (released v.arrived (v.base + from_of r) (v.base + r.end)) v.records) p → (q : ℕ) → p ≤ q → q < p + 4 → cell_at (released v.arrived (v.base + from_of r) (v.base + r.end)) (v.base + q) ≡ cell_at v.arrived (v.base + q)
  marker_out p seen q low high =
      elim (in_or_out q) [
        | inl (from, to) ↦ absurd (seen.outside r within placed (omega (arith, from, high), omega (arith, low, to, span_low true p)))
        | inr out ↦ cell_out q out
      ]

  old_seen : (p : ℕ) → IsMarkerSeen v p → (q : ℕ) → p ≤ q → q < p + 4 → cell_at (released v.arrived (v.base + from_of r) (v.base + r.end)) (v.base + q) ≡ cell_at v.arrived (v.base + q)
  old_seen p seen q low high =
      elim (in_or_out q) [
        | inl (from, to) ↦ absurd (seen.outside r within placed (omega (arith, from, high), omega (arith, low, to, span_low true p)))
        | inr out ↦ cell_out q out
      ]

  old_found : (s : ℕ) → IsFound (changed v (released v.arrived (v.base + from_of r) (v.base + r.end)) v.records) s → IsFound v s
  old_found s (inr ends) = inr ends
  old_found s (inl (p, seen, points)) =
      inl (p, seen_back v (released v.arrived (v.base + from_of r) (v.base + r.end)) v.records p (marker_out p seen) seen.outside seen, points_back v (released v.arrived (v.base + from_of r) (v.base + r.end)) v.records p s (marker_out p seen) points)

  still_touched : (s : ℕ) → end_of v s ≡ end_of (changed v (released v.arrived (v.base + from_of r) (v.base + r.end)) v.records) s → IsTouched v u.from u.to s → IsTouched (changed v (released v.arrived (v.base + from_of r) (v.base + r.end)) v.records) u.from u.to s
  still_touched s e (inl (q, inside, low, high)) = inl (q, inside, low, omega (arith, high, e))
  still_touched s e (inr (q, p, inside, seen, points, low, high)) =
      inr (q, p, inside, seen_on v (released v.arrived (v.base + from_of r) (v.base + r.end)) v.records p (old_seen p seen) seen.outside seen, points_on v (released v.arrived (v.base + from_of r) (v.base + r.end)) v.records p s (old_seen p seen) points, low, high)

  pub release_tells : Tells (changed v (released v.arrived (v.base + from_of r) (v.base + r.end)) v.records) u
  release_tells = record {
    free = λ m s free.
        let o = free.open_ in
        let old = open_back v (released v.arrived (v.base + from_of r) (v.base + r.end)) v.records s o (frame_out m s o) (omega (arith, o.past, point_is)) (λ at. o.other (at ∙ ap (frame_start v.layout.markers) (sym point_is))) o.clear in
        elim (tells.free m s (record { found = old_found s free.found; open_ = old })) [
          | inl inside ↦ inl inside
          | inr touched ↦ inr (still_touched s (same_end v (released v.arrived (v.base + from_of r) (v.base + r.end)) v.records s o.start (frame_out m s o)) touched)
        ];
    reach = λ q far. come_is q ∙ tells.reach q far;
    octets = λ q. subst (λ c. octet_held c < 256) (sym (cell_is q)) (small (v.base + from_of r) (v.base + r.end) (v.base + q) (cell_at v.arrived (v.base + q)) (tells.octets q));
  }

pub release_keeps : {T : Type 0} → ReleaseKeeps T
release_keeps v u r keeps tells within placed = (release_keeps_records v u r keeps tells within placed, release_tells v u r keeps tells within placed)
