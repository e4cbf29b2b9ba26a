-- What is unsearched, and what is told of it.
use Rattle.std.proofs.Common.{◌≡◌, ℕ, Bool, false, ◌+◌, ◌-◌, ◌%◌, ◌^◌, ◌<◌, ◌≤◌, true, Option, Some, None, refl, sym, ap, ◌∙◌, subst, arith, inl, inr}
use Rattle.std.proofs.lemmas.Bool.{cases_lt}
use Rattle.std.specs.Prelude.{MatchOption, min, max, length}
use Rattle.std.specs.List.{Contains}
use Rattle.iw_ranges.specs.Arrived.{has_come, IsWithinLimits}
use Rattle.iw_fpdu.specs.Places.{IsStart, data_place, data_index, span_start}
use Rattle.iw_fpdu.specs.Frame.{frame_end}
use Rattle.iw_fpdu.specs.Reading.{length_at}
use Rattle.iw_fpdu.proofs.Octets.{span_low, span_near, field_end, length_within}
use Rattle.iw_locate.specs.declared.frame.Frame.{Frame}
use Rattle.iw_locate.specs.declared.frame.Next.{Next}
use Rattle.iw_locate.specs.declared.frame.Next.TheVariants.{Frame as Found}
use Rattle.iw_locate.specs.declared.judged.Record.{Record}
use Rattle.iw_locate.specs.declared.unsearched.Unsearched.{Unsearched}
use Rattle.iw_locate.specs.Records.{from_of, AreApart}
use Rattle.iw_locate.specs.Free.{Scene, point_of, octet_of, end_of, IsMarkerSeen, PointsTo, EndsBefore, IsOpen, IsFree, CanLocate}
use Rattle.iw_locate.specs.Next.{frame_at, CanBeEarly, IsFrontWhole, IsLowest, IsNext, IsNone}
use Rattle.iw_locate.specs.Among.{IsWithin, IsFoundWithin, IsLowestAmong}
use Rattle.iw_locate.specs.Unsearched.{IsTouched, Tells, IsFollowed, IsLeftBy, only_from, from_low}
use Rattle.iw_locate.proofs.Front.{not_open_low}
use Rattle.iw_locate.proofs.Open.{start_high, span_past_marker, two_octets, come_low, not_open_far, not_open_before, not_seen_far}
use Rattle.iw_locate.proofs.Lowest.{points_low, IsPointedAt}

-- where the frame at the in-order point is whole, no other is the next
pub front_not_early : {T : Type 0} (v : Scene T) (f : Frame) (next : Next) → next ≡ Found f → IsNext v next → IsFrontWhole v → f.early ≡ true → ⊥
front_not_early v f next is h whole early = go (subst (IsNext v) is h)
  where
    go : IsNext v (Found f) → ⊥
    go (inl front) = let e = sym early ∙ ap (λ (x : Frame). x.early) front.0 in absurd (cc e)
    go (inr other) = other.1 whole

-- no frame that begins at `front` or before it has its span past the place that it follows
pub span_before : (point front s : ℕ) → EndsBefore point front → s ≤ front → s % 4 ≡ 0 → span_start true s ≤ point
span_before point front s (inl is) le aligned = omega (arith, is, le, span_low true s)
span_before point front s (inr (marker, is)) le aligned =
    elim (cases_lt point s) [
      | inl past ↦ let same : s ≡ point + 4 = omega (arith, past, le, is, marker, aligned) in omega (arith, ap (span_start true) same, span_past_marker point marker)
      | inr here ↦ omega (arith, here, span_low true s)
    ]

-- a pointer reaches back less than 65,536 octets
pub points_near : {T : Type 0} (v : Scene T) → ((q : ℕ) → octet_of v q < 256) → (p s : ℕ) → PointsTo v p s → p < s + 65536
points_near v octets p s (inl (none, is)) = omega (arith, is)
points_near v octets p s (inr (some, is)) = omega (arith, is, octets (p + 2), octets (p + 3))

-- nor does a frame reach further
pub frame_near : (m : Bool) (s len : ℕ) → m ≡ true → IsStart m s → len < 65536 → frame_end m s len ≤ s + 66080
unfolding data_place data_index
frame_near false s len e start few = absurd (cc e)
frame_near true s len e start few =
    let high = start_high true s refl start in
    omega (arith, field_end true s len start, high, few)

pub touched_as : {T : Type 0} (v : Scene T) (from to a b s : ℕ) → a ≡ from → b ≡ to → IsTouched v from to s → IsTouched v a b s
touched_as v from to a b s e f (inl (q, within, low, high)) = inl (q, record { low = omega (arith, e, within.low); high = omega (arith, f, within.high) }, low, high)
touched_as v from to a b s e f (inr (q, p, within, seen, points, low, high)) = inr (q, p, record { low = omega (arith, e, within.low); high = omega (arith, f, within.high) }, seen, points, low, high)

-- no frame begins under one with a record
abbrev pub IsUnderRecords : {T : Type 0} → Scene T → ℕ → ℕ → Type 0
IsUnderRecords {T} v place past = (q : ℕ) → place ≤ q → q < past → (r : Record T) × Contains v.records r × (from_of r ≤ q) × (q < r.end)

raised : {T : Type 0} (v : Scene T) (place past s : ℕ) → IsUnderRecords v place past → IsOpen v s → place ≤ s → past ≤ s
raised v place past s covered open_ low =
    elim (cases_lt s past) [
      | inl under ↦
          let w = covered s low under in
          let long = length_within v.layout.markers s (length_at (octet_of v) s) open_.start in
          absurd (open_.clear w.0 w.1 (omega (arith, w.2, long), omega (arith, w.3, span_low true s)))
      | inr over ↦ over
    ]

pub tells_raised : {T : Type 0} (v : Scene T) (u : Unsearched) (past low : ℕ) → Tells v u → IsUnderRecords v u.low past → ((s : ℕ) → IsStart true s → min past (2 ^ 63) ≤ s → low ≤ s) → Tells v (from_low u low)
tells_raised v u past low tells covered start = record {
  free = λ m s free.
      elim (tells.free m s free) [
        | inl within ↦
            let over = raised v u.low past s covered free.open_ within.low in
            inl (record { low = start s (subst (λ b. IsStart b s) m free.open_.start) (omega (arith, over)); high = within.high })
        | inr touched ↦ inr touched
      ];
  reach = tells.reach;
  octets = tells.octets;
}

module _ {T : Type 0} (v : Scene T) (can : CanLocate v) (m : v.layout.markers ≡ true) where
  pub reaches_near : ((q : ℕ) → octet_of v q < 256) → (s : ℕ) → IsOpen v s → end_of v s ≤ s + 66080
  reaches_near octets s open_ = frame_near v.layout.markers s (length_at (octet_of v) s) m open_.start (omega (arith, octets s, octets (s + 1)))

  -- a frame that reaches past where one with a record ends begins there or past it
  pub over_end : AreApart v.records → (r : Record T) (end from s : ℕ) → Contains v.records r → r.end ≡ end → end ≤ from → IsOpen v s → from < end_of v s → end ≤ s
  over_end apart r end from s (k, lt, is) at le open_ over =
      elim (cases_lt s end) [
        | inl under ↦
            let some = apart.some k r lt in
            let e = ap (λ (x : Record T). x.end) is in
            let f = ap (λ (x : Record T). x.start) is in
            absurd (open_.clear r (k, lt, is) (omega (arith, span_low true r.start, some, e, f, at, le, over), omega (arith, span_low true s, under, at)))
        | inr past ↦ past
      ]

  -- a frame that reaches over a place that didn't come isn't whole
  pub over_missing : (from s : ℕ) → 0 < from → has_come v.arrived (v.base + (from - 1)) ≡ false → IsOpen v s → from < end_of v s → from ≤ s
  over_missing from s some missing open_ over =
      elim (cases_lt s from) [
        | inl under ↦ absurd (let e = sym missing ∙ open_.whole (from - 1) (omega (arith, span_low v.layout.markers s, under)) (omega (arith, over)) in cc e)
        | inr past ↦ past
      ]

  pub end_low : (s : ℕ) → IsWithinLimits v.arrived → IsOpen v s → end_of v s ≤ point_of v + 262144
  end_low s limits open_ =
      let long = two_octets v can m s open_ in
      let last = come_low v can m (v.base + (end_of v s - 1)) limits (open_.whole (end_of v s - 1) (omega (arith, long, span_low v.layout.markers s)) (omega (arith, long))) in
      omega (arith, last, long, can.based)

  -- only places from the in-order point on, and in the window, count
  pub clipped : (from to s : ℕ) → IsWithinLimits v.arrived → IsOpen v s → IsTouched v from to s → IsTouched v (max from (point_of v)) (min to (point_of v + 262144)) s
  clipped from to s limits open_ (inl (q, within, low, high)) =
      inl (q, record { low = omega (arith, within.low, low, open_.past); high = omega (arith, within.high, high, end_low s limits open_) }, low, high)
  clipped from to s limits open_ (inr (q, p, within, seen, points, low, high)) =
      let near = come_low v can m (v.base + q) limits (seen.came q low high) in
      let past = marker_past p s open_ seen points in
      inr (q, p, record { low = omega (arith, within.low, low, past); high = omega (arith, within.high, near, can.based) }, seen, points, low, high)
    where
      marker_past : (p s : ℕ) → IsOpen v s → IsMarkerSeen v p → PointsTo v p s → point_of v ≤ p
      marker_past p s open_ seen points =
          elim (cases_lt p (point_of v)) [
            | inl before ↦ absurd (not_open_before v can m p s seen.marker before points open_)
            | inr past ↦ past
          ]

  pub touched_low : (from to s : ℕ) → IsTouched v from to s → s < to + 4
  touched_low from to s (inl (q, within, low, high)) = omega (arith, low, within.high, span_near v.layout.markers s)
  touched_low from to s (inr (q, p, within, seen, points, low, high)) = omega (arith, points_low v p s points, low, within.high)

  pub open_low : (s : ℕ) → IsWithinLimits v.arrived → IsOpen v s → s < 2 ^ 63
  open_low s limits open_ =
      elim (cases_lt s (2 ^ 63)) [
        | inl near ↦ near
        | inr far ↦ absurd (not_open_far v can m s limits far open_)
      ]

  pub tells_only : (u : Unsearched) (low high : ℕ) → Tells v u → ((s : ℕ) → IsFree v s → IsWithin low high s) → Tells v (only_from u low high)
  tells_only u low high tells all = record { free = λ e s free. inl (all s free); reach = tells.reach; octets = tells.octets }

  none_touched : (from to s : ℕ) → to ≤ from → IsTouched v from to s → ⊥
  none_touched from to s le (inl (q, within, under, over)) = omega (arith, within.low, within.high, le)
  none_touched from to s le (inr (q, p, within, seen, points, under, over)) = omega (arith, within.low, within.high, le)

  pub within_only : (u : Unsearched) → Tells v u → u.to ≡ 0 → (s : ℕ) → IsFree v s → IsWithin u.low u.high s
  within_only u tells none s free =
      elim (tells.free m s free) [
        | inl within ↦ within
        | inr touched ↦ absurd (none_touched u.from u.to s (omega (arith, none)) touched)
      ]

  -- no place is unsearched past the in-order point
  pub quiet : (u : Unsearched) → IsWithinLimits v.arrived → Tells v u → u.high ≤ max u.low (point_of v) → u.to ≤ max u.from (point_of v) → IsNone v
  quiet u limits tells high to can_be s free =
      elim (tells.free m s free) [
        | inl within ↦ omega (arith, within.low, within.high, high, free.open_.past, span_low v.layout.markers s)
        | inr touched ↦ none_touched (max u.from (point_of v)) (min u.to (point_of v + 262144)) s (omega (arith, to)) (clipped u.from u.to s limits free.open_ touched)
      ]

  -- no frame from the one at the in-order point down
  pub not_open_front : (front s : ℕ) → EndsBefore (point_of v) front → s ≤ front → IsOpen v s → ⊥
  not_open_front front s ends le open_ =
      not_open_low v can m s (span_before (point_of v) front s ends le open_.start.aligned) open_

  -- no frame has a record, and no marker points to one that can be judged early
  pub pointed_nowhere : length v.records ≡ 0 → ((p s : ℕ) → IsMarkerSeen v p → PointsTo v p s → IsOpen v s → ⊥) → IsNone v
  pointed_nowhere empty none can_be s free =
      elim free.found [
        | inl (p, seen, points) ↦ none p s seen points free.open_
        | inr (r, (k, lt, is), ends) ↦ absurd (let no : ⊥ = omega (arith, empty, lt) in no)
      ]

  -- the octets that came are taken in
  pub nothing_came : (u : Unsearched) → IsWithinLimits v.arrived → Tells v u → min u.to (point_of v + 262144) ≤ max u.from (point_of v) → Tells v (only_from u u.low (min u.high (2 ^ 63)))
  nothing_came u limits tells le =
      tells_only u u.low (min u.high (2 ^ 63)) tells
      (λ s free.
      elim (tells.free m s free) [
        | inl within ↦ record { low = within.low; high = omega (arith, within.high, open_low s limits free.open_) }
        | inr touched ↦ absurd (none_touched (max u.from (point_of v)) (min u.to (point_of v + 262144)) s le (clipped u.from u.to s limits free.open_ touched))
      ])

  pub some_came : (u : Unsearched) (low new_low new_high : ℕ) → IsWithinLimits v.arrived → Tells v u
      → ((s : ℕ) → IsOpen v s → IsTouched v (max u.from (point_of v)) (min u.to (point_of v + 262144)) s → low ≤ s)
      → new_low ≤ low → min u.to (point_of v + 262144) + 4 ≤ new_high → ((s : ℕ) → u.low ≤ s → s < u.high → s < 2 ^ 63 → IsWithin new_low new_high s) → Tells v (only_from u new_low new_high)
  some_came u low new_low new_high limits tells first under over old =
      tells_only u new_low new_high tells
      (λ s free.
      elim (tells.free m s free) [
        | inl within ↦ old s within.low within.high (open_low s limits free.open_)
        | inr touched ↦
            let clip = clipped u.from u.to s limits free.open_ touched in
            record { low = omega (arith, first s free.open_ clip, under); high = omega (arith, touched_low (max u.from (point_of v)) (min u.to (point_of v + 262144)) s clip, over) }
      ])

  -- none begins at the in-order point or before it
  pub from_point : (u : Unsearched) (low : ℕ) → Tells v u → u.to ≡ 0 → low ≤ max u.low (point_of v + 1) → Tells v (only_from u low u.high)
  from_point u low tells none near =
      tells_only u low u.high tells
      (λ s free.
      let within = within_only u tells none s free in
      elim (cases_lt (point_of v) (span_start true s)) [
        | inl past ↦ record { low = omega (arith, near, within.low, past, span_low true s); high = within.high }
        | inr here ↦ absurd (not_open_low v can m s here free.open_)
      ])

  -- what a search tells
  pub found_none : (u : Unsearched) → Tells v u → u.to ≡ 0 → ((s : ℕ) → IsFoundWithin v u.low u.high s → IsOpen v s → ⊥) → (s : ℕ) → IsFree v s → ⊥
  found_none u tells none h s free = h s (within_only u tells none s free, free.found) free.open_

  pub lowest_since : (u : Unsearched) (best : Option Frame) → Tells v u → u.to ≡ 0 → CanBeEarly v → IsLowestAmong (IsFoundWithin v u.low u.high) v best
      → MatchOption best (IsNone v) (λ f. (f ≡ frame_at v f.start true) × CanBeEarly v × IsLowest v f.start)
  lowest_since u None tells none can_be h = λ c s free. found_none u tells none h s free
  lowest_since u (Some f) tells none can_be h = (h.0, can_be, (record { found = h.1.1; open_ = h.2 }, λ t free. h.3 t (within_only u tells none t free, free.found) free.open_))

  pub tells_after : (u left : Unsearched) (best : Option Frame) → Tells v u → u.to ≡ 0 → IsLowestAmong (IsFoundWithin v u.low u.high) v best
      → MatchOption best (left ≡ only_from u 0 0) (λ f. IsLeftBy u left f) → Tells v left
  tells_after u left None tells none h is = subst (Tells v) (sym is) (tells_only u 0 0 tells (λ s free. absurd (found_none u tells none h s free)))
  tells_after u left (Some f) tells none h is = record {
    free = λ e s free.
        let within = within_only u tells none s free in
        inl record { low = omega (arith, is.low, h.3 s (within, free.found) free.open_); high = omega (arith, within.high, is.high) };
    reach = λ q far. tells.reach q (omega (arith, far, is.reach));
    octets = tells.octets;
  }

  pub followed_after : (u left : Unsearched) (best : Option Frame) → MatchOption best (left ≡ only_from u 0 0) (λ f. IsLeftBy u left f) → MatchOption best (Unit {0}) (λ f. IsFollowed left f)
  followed_after u left None is = tt
  followed_after u left (Some f) is = is.followed

  pub found_low : (u : Unsearched) (best : Option Frame) → IsWithinLimits v.arrived → IsLowestAmong (IsFoundWithin v u.low u.high) v best → MatchOption best (Unit {0}) (λ f. f.end < 2 ^ 63)
  found_low u None limits h = tt
  found_low u (Some f) limits h = omega (arith, ap (λ (x : Frame). x.end) h.0, end_low f.start limits h.2, can.low)

  -- where markers end that point to a place before `high`
  pub pointer_end : (u : Unsearched) (high : ℕ) → IsWithinLimits v.arrived → Tells v u → (p s : ℕ) → IsMarkerSeen v p → PointsTo v p s → s < high → p < min (min u.reach (point_of v + 262144)) (high + 66080)
  pointer_end u high limits tells p s seen points below =
      let came : p < u.reach = before_reach in
      let near : p < point_of v + 262144 = in_window in
      omega (arith, came, near, points_near v tells.octets p s points, below)
    where
      before_reach : p < u.reach
      before_reach =
          elim (cases_lt p u.reach) [
            | inl near ↦ near
            | inr far ↦ absurd (let e = sym (tells.reach p far) ∙ seen.came p (omega arith) (omega arith) in cc e)
          ]

      in_window : p < point_of v + 262144
      in_window =
          elim (cases_lt p (point_of v + 262144)) [
            | inl near ↦ near
            | inr far ↦ absurd (not_seen_far v can m p limits far seen)
          ]

  -- the markers that came, one by one
  pub pointed_none : (from point place : ℕ) → point ≡ point_of v → place % 512 ≡ 0 → place < max (from - 3) point + 512 → (s p q : ℕ) → IsOpen v s → p < place → IsMarkerSeen v p → PointsTo v p s → from ≤ q → q < p + 4 → ⊥
  pointed_none from point place is marker near s p q open_ below seen points low high =
      elim (cases_lt p point) [
        | inl before ↦ not_open_before v can m p s seen.marker (omega (arith, before, is)) points open_
        | inr past ↦ omega (arith, past, marker, near, below, seen.marker, low, high)
      ]

  pub step_low : (place low new : ℕ) (found : Option Frame) → IsLowestAmong (IsPointedAt v 0 low place) v found → MatchOption found (new ≡ low) (λ f. new ≡ f.start) → new ≤ low
  step_low place low new None h is = omega (arith, is)
  step_low place low new (Some f) h is = omega (arith, is, h.1.0.high)

  pub step_here : (place low new s : ℕ) (found : Option Frame) → IsLowestAmong (IsPointedAt v 0 low place) v found → MatchOption found (new ≡ low) (λ f. new ≡ f.start) → IsOpen v s → IsMarkerSeen v place → PointsTo v place s → new ≤ s
  step_here place low new s None h is open_ seen points =
      elim (cases_lt s low) [
        | inl under ↦ absurd (h s (record { low = omega arith; high = under }, seen, points) open_)
        | inr over ↦ omega (arith, is, over)
      ]
  step_here place low new s (Some f) h is open_ seen points =
      elim (cases_lt s low) [
        | inl under ↦ omega (arith, is, h.3 s (record { low = omega arith; high = under }, seen, points) open_)
        | inr over ↦ omega (arith, is, over, h.1.0.high)
      ]

  pub step_pointed : (from place low new : ℕ) (found : Option Frame) → place % 512 ≡ 0 → IsLowestAmong (IsPointedAt v 0 low place) v found → MatchOption found (new ≡ low) (λ f. new ≡ f.start)
      → ((s p q : ℕ) → IsOpen v s → p < place → IsMarkerSeen v p → PointsTo v p s → from ≤ q → q < p + 4 → low ≤ s)
      → (s p q : ℕ) → IsOpen v s → p < place + 512 → IsMarkerSeen v p → PointsTo v p s → from ≤ q → q < p + 4 → new ≤ s
  step_pointed from place low new found marker h is old s p q open_ below seen points least most =
      elim (cases_lt p place) [
        | inl before ↦ omega (arith, step_low place low new found h is, old s p q open_ before seen points least most)
        | inr past ↦
            let same : p ≡ place = omega (arith, seen.marker, marker, past, below) in
            step_here place low new s found h is open_ (subst (IsMarkerSeen v) same seen) (subst (λ x. PointsTo v x s) same points)
      ]
