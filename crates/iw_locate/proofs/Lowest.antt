-- The lowest of some places where a frame may be judged.
use Rattle.std.proofs.Common.{◌≡◌, ℕ, ◌+◌, ◌-◌, ◌%◌, ◌^◌, List, [], ◌∷◌, length, get_or, ◌<◌, ◌≤◌, true, Some, None, cond, sym, ap, ◌∙◌, subst, arith, inl, inr}
use Rattle.std.proofs.lemmas.Bool.{cases_lt, lt-ltb, le-ltb}
use Rattle.std.specs.Prelude.{◌⊎◌, Option, MatchOption}
use Rattle.std.proofs.lemmas.List.{get_or_default}
use Rattle.iw_fpdu.specs.Reading.{pointer_at}
use Rattle.iw_locate.specs.declared.judged.Record.{Record}
use Rattle.iw_locate.specs.declared.frame.Frame.{Frame}
use Rattle.iw_locate.specs.Free.{Scene, point_of, octet_of, IsOpen, IsMarkerSeen, PointsTo, EndsBefore, CanLocate}
use Rattle.iw_locate.specs.Next.{frame_at, CanBeEarly, IsLowest, IsNone}
use Rattle.iw_locate.specs.Among.{IsWithin, IsPointed, IsPointedWithin, IsPastWithin, IsFoundWithin, IsLowestAmong, lower_of}
use Rattle.iw_locate.specs.Records.{AreApart}
use Rattle.iw_locate.proofs.Apart.{ends_rise}
use Rattle.iw_locate.proofs.Open.{start_high, not_open_before}

module _ {T : Type 0} (v : Scene T) where
  -- where there is one place
  pub among_one : (Q : ℕ → Type 0) (start : ℕ) (best : Option Frame) → Q start → ((s : ℕ) → Q s → IsOpen v s → s ≡ start)
      → MatchOption best (IsOpen v start → ⊥) (λ f. (f ≡ frame_at v start true) × IsOpen v start) → IsLowestAmong Q v best
  among_one Q start None here only h = λ s q o. h (subst (IsOpen v) (only s q o) o)
  among_one Q start (Some f) here only h =
      let e : f.start ≡ start = ap (λ (x : Frame). x.start) h.0 in
      (h.0 ∙ ap (λ s. frame_at v s true) (sym e), subst Q (sym e) here, subst (IsOpen v) (sym e) h.1, λ s q o. omega (arith, only s q o))

  -- where there is one place, if the marker is seen
  pub with_seen : (place start : ℕ) (best : Option Frame) → IsMarkerSeen v place → MatchOption best (IsOpen v start → ⊥) (λ f. (f ≡ frame_at v start true) × IsOpen v start)
      → MatchOption best (IsMarkerSeen v place → IsOpen v start → ⊥) (λ f. (f ≡ frame_at v start true) × IsMarkerSeen v place × IsOpen v start)
  with_seen place start None seen h = λ s o. h o
  with_seen place start (Some f) seen h = (h.0, seen, h.1)

  pub among_seen : (low high place start : ℕ) (best : Option Frame) → IsWithin low high start → (IsMarkerSeen v place → PointsTo v place start)
      → ((s : ℕ) → IsWithin low high s × IsMarkerSeen v place × PointsTo v place s → IsOpen v s → s ≡ start)
      → MatchOption best (IsMarkerSeen v place → IsOpen v start → ⊥) (λ f. (f ≡ frame_at v start true) × IsMarkerSeen v place × IsOpen v start)
      → IsLowestAmong (λ s. IsWithin low high s × IsMarkerSeen v place × PointsTo v place s) v best
  among_seen low high place start None within points only h = λ s q o. h q.1 (subst (IsOpen v) (only s q o) o)
  among_seen low high place start (Some f) within points only h =
      among_one (λ s. IsWithin low high s × IsMarkerSeen v place × PointsTo v place s) start (Some f) (within, h.1, points h.1) only (h.0, h.2)

  -- the same places, said otherwise
  pub among_same : (Q R : ℕ → Type 0) (best : Option Frame) → ((s : ℕ) → Q s → R s) → ((s : ℕ) → R s → IsOpen v s → Q s) → IsLowestAmong Q v best → IsLowestAmong R v best
  among_same Q R None to from h = λ s r o. h s (from s r o) o
  among_same Q R (Some f) to from h = (h.0, to f.start h.1, h.2, λ s r o. h.3 s (from s r o) o)

  -- of two kinds of places
  pub among_both : (Q R : ℕ → Type 0) (a b : Option Frame) → IsLowestAmong Q v a → IsLowestAmong R v b → IsLowestAmong (λ s. Q s ⊎ R s) v (lower_of a b)
  among_both Q R None None h k = λ s e o. elim e [ inl q ↦ h s q o | inr r ↦ k s r o ]
  among_both Q R None (Some g) h k = (k.0, inr k.1, k.2, λ s e o. elim e [ inl q ↦ absurd (h s q o) | inr r ↦ k.3 s r o ])
  among_both Q R (Some f) None h k = (h.0, inl h.1, h.2, λ s e o. elim e [ inl q ↦ h.3 s q o | inr r ↦ absurd (k s r o) ])
  among_both Q R (Some f) (Some g) h k =
      elim (cases_lt g.start f.start) [
        | inl under ↦
            subst (λ b. IsLowestAmong (λ s. Q s ⊎ R s) v (cond b (Some g) (Some f))) (sym (lt-ltb g.start f.start under))
            (k.0, inr k.1, k.2, λ s e o. elim e [ inl q ↦ omega (arith, h.3 s q o) | inr r ↦ k.3 s r o ])
        | inr over ↦
            subst (λ b. IsLowestAmong (λ s. Q s ⊎ R s) v (cond b (Some g) (Some f))) (sym (le-ltb g.start f.start over))
            (h.0, inl h.1, h.2, λ s e o. elim e [ inl q ↦ h.3 s q o | inr r ↦ omega (arith, k.3 s r o) ])
      ]

-- the first place that there can be
pub among_first : {T : Type 0} (v : Scene T) (Q R : ℕ → Type 0) (low : ℕ) (best : Option Frame) → MatchOption best ⊥ (λ f. f.start ≡ low) → ((s : ℕ) → Q s → R s) → ((s : ℕ) → R s → low ≤ s)
    → IsLowestAmong Q v best → IsLowestAmong R v best
among_first v Q R low None at to from h = absurd at
among_first v Q R low (Some f) at to from h = (h.0, to f.start h.1, h.2, λ s r o. omega (arith, at, from s r))

-- ---- where frames are found
-- a marker before `below` points to s
abbrev pub IsPointedBelow : {T : Type 0} → Scene T → ℕ → ℕ → ℕ → ℕ → Type 0
IsPointedBelow v low high below s = IsWithin low high s × (p : ℕ) × (p < below) × IsMarkerSeen v p × PointsTo v p s

abbrev pub IsPointedAt : {T : Type 0} → Scene T → ℕ → ℕ → ℕ → ℕ → Type 0
IsPointedAt v low high place s = IsWithin low high s × IsMarkerSeen v place × PointsTo v place s

pub next_marker : {T : Type 0} (v : Scene T) (low high place s : ℕ) → place % 512 ≡ 0 → IsPointedBelow v low high (place + 512) s → IsPointedBelow v low high place s ⊎ IsPointedAt v low high place s
next_marker v low high place s marker (within, p, below, seen, points) =
    elim (cases_lt p place) [
      | inl before ↦ inl (within, p, before, seen, points)
      | inr from ↦ let same : p ≡ place = omega (arith, seen.marker) in inr (within, subst (IsMarkerSeen v) same seen, subst (λ x. PointsTo v x s) same points)
    ]

-- the place to which a marker points is at most just past the marker
pub points_low : {T : Type 0} (v : Scene T) (p s : ℕ) → PointsTo v p s → s ≤ p + 4
points_low v p s (inl (none, is)) = omega (arith, is)
points_low v p s (inr (some, is)) = omega (arith, is)

module _ {T : Type 0} (v : Scene T) (p back start : ℕ) (value : back ≡ pointer_at (octet_of v) p) (none : back ≡ 0 → start ≡ p + 4) (some : 0 < back → start + back ≡ p) where
  pub points_one : (s : ℕ) → PointsTo v p s → s ≡ start
  points_one s (inl (e, is)) = omega (arith, is, none (value ∙ e))
  points_one s (inr (lt, is)) = omega (arith, is, value, some (omega (arith, lt, value)))

  pub points_there : PointsTo v p start
  points_there =
      elim (cases_lt 0 back) [
        | inl lt ↦ inr (omega (arith, lt, value), omega (arith, value, some lt))
        | inr le ↦ let e : back ≡ 0 = omega (arith, le) in inl (sym value ∙ e, none e)
      ]

-- what is said of a place by how far back the marker points
pub points_by : {T : Type 0} (v : Scene T) (p s back : ℕ) → back ≡ pointer_at (octet_of v) p → PointsTo v p s → (back ≡ 0 → s ≡ p + 4) × (0 < back → s + back ≡ p)
points_by v p s back value (inl (e, is)) = (λ none. is, λ lt. absurd (let no : ⊥ = omega (arith, lt, value, e) in no))
points_by v p s back value (inr (lt, is)) = (λ none. absurd (let no : ⊥ = omega (arith, lt, value, none) in no), λ some. omega (arith, is, value))

pub points_before : {T : Type 0} (v : Scene T) (p s back : ℕ) → back ≡ pointer_at (octet_of v) p → p < back → PointsTo v p s → ⊥
points_before v p s back value far (inl (e, is)) = omega (arith, value, far, e)
points_before v p s back value far (inr (lt, is)) = omega (arith, value, far, is)

pub ends_near : (end s : ℕ) → EndsBefore end s → (end ≤ s) × (s ≤ end + 4)
ends_near end s (inl is) = (omega (arith, is), omega (arith, is))
ends_near end s (inr (marker, is)) = (omega (arith, is), omega (arith, is))

-- no lower start than that past `end` comes from a further end
pub ends_least : (end later s t : ℕ) → EndsBefore end s → EndsBefore later t → end ≤ later → 4 ≤ t % 512 → s ≤ t
ends_least end later s t (inl is) ends le high = omega (arith, is, (ends_near later t ends).0)
ends_least end later s t (inr (marker, is)) ends le high = omega (arith, is, marker, (ends_near later t ends).0)

-- a list that isn't empty has a record
pub pick : {T : Type 0} (P : Type 0) (rs : List (Record T)) (n : ℕ) → n < length rs → (Record T → P) → P
pick P [] n lt f = absurd (omega arith)
pick P (r ∷ rs) n lt f = f r

-- ---- past the ends of records
pub ends_too_low : {T : Type 0} (rs : List (Record T)) → AreApart rs → (low k : ℕ) (d : Record T) (s : ℕ) → k < length rs → (get_or rs k d).end ≤ low - 5 → low ≤ s → EndsBefore (get_or rs k d).end s → ⊥
ends_too_low rs apart low k d s inside end within ends = omega (arith, (ends_near (get_or rs k d).end s ends).1, apart.some k d inside)

module _ {T : Type 0} (v : Scene T) (m : v.layout.markers ≡ true) (apart : AreApart v.records) (low high i end : ℕ) (inside : i < length v.records) (is : (d : Record T) → end ≡ (get_or v.records i d).end)
    (none : (k : ℕ) (d : Record T) (s : ℕ) → k < i → IsWithin low high s → EndsBefore (get_or v.records k d).end s → IsOpen v s → ⊥) where
  later_end : (r : Record T) (k : ℕ) → i ≤ k → k < length v.records → get_or v.records k r ≡ r → end ≤ r.end
  later_end r k le lt here = omega (arith, is r, ends_rise v.records apart i k r le lt, ap (λ (x : Record T). x.end) here)

  not_before : (r : Record T) (k s : ℕ) → get_or v.records k r ≡ r → k < i → IsWithin low high s → EndsBefore r.end s → IsOpen v s → ⊥
  not_before r k s here lt within ends = none k r s lt within (subst (λ (x : Record T). EndsBefore x.end s) (sym here) ends)

  pub none_past : high ≤ end → (s : ℕ) → IsPastWithin v low high s → IsOpen v s → ⊥
  none_past past s (within, (r, (k, lt, here), ends)) open_ =
      elim (cases_lt k i) [
        | inl before ↦ not_before r k s here before within ends open_
        | inr from ↦ omega (arith, within.high, (ends_near r.end s ends).0, later_end r k from lt here)
      ]

  pub first_past : (f : Frame) → IsLowestAmong (λ s. IsWithin low high s × EndsBefore end s) v (Some f) → IsLowestAmong (IsPastWithin v low high) v (Some f)
  first_past f h = pick (IsLowestAmong (IsPastWithin v low high) v (Some f)) v.records i inside found
    where
      least : (s : ℕ) → IsPastWithin v low high s → IsOpen v s → f.start ≤ s
      least s (within, (r, (k, lt, here), ends)) open_ =
          elim (cases_lt k i) [
            | inl before ↦ absurd (not_before r k s here before within ends open_)
            | inr from ↦ ends_least end r.end f.start s h.1.1 ends (later_end r k from lt here) (start_high v.layout.markers s m open_.start)
          ]

      found : Record T → IsLowestAmong (IsPastWithin v low high) v (Some f)
      found d =
          let r = get_or v.records i d in
          (h.0, (h.1.0, (r, (i, inside, get_or_default v.records i r d inside), subst (λ x. EndsBefore x f.start) (is d) h.1.1)), h.2, least)

  pub one_more : ((s : ℕ) → IsWithin low high s × EndsBefore end s → IsOpen v s → ⊥) → (k : ℕ) (d : Record T) (s : ℕ) → k < i + 1 → IsWithin low high s → EndsBefore (get_or v.records k d).end s → IsOpen v s → ⊥
  one_more not_here k d s lt within ends open_ =
      elim (cases_lt k i) [
        | inl before ↦ none k d s before within ends open_
        | inr from ↦
            let same : k ≡ i = omega arith in
            not_here s (within, subst (λ x. EndsBefore x s) (sym (is d ∙ ap (λ j. (get_or v.records j d).end) (sym same))) ends) open_
      ]

pub past_all : {T : Type 0} (v : Scene T) (low high i : ℕ) → length v.records ≤ i
    → ((k : ℕ) (d : Record T) (s : ℕ) → k < i → IsWithin low high s → EndsBefore (get_or v.records k d).end s → IsOpen v s → ⊥) → (s : ℕ) → IsPastWithin v low high s → IsOpen v s → ⊥
past_all v low high i le none s (within, (r, (k, lt, here), ends)) open_ = none k r s (omega (arith, lt, le)) within (subst (λ (x : Record _). EndsBefore x.end s) (sym here) ends) open_

-- ---- to which markers point
module _ {T : Type 0} (v : Scene T) (can : CanLocate v) (m : v.layout.markers ≡ true) (low high : ℕ) where
  -- no marker before the first that is looked at
  pub none_below : (place s : ℕ) → place % 512 ≡ 0 → ((p : ℕ) → p % 512 ≡ 0 → p < place → (p + 4 < low) ⊎ (p < point_of v)) → IsPointedBelow v low high place s → IsOpen v s → ⊥
  none_below place s marker before (within, p, below, seen, points) open_ =
      elim (before p seen.marker below) [
        | inl far ↦ omega (arith, far, points_low v p s points, within.low)
        | inr passed ↦ not_open_before v can m p s seen.marker passed points open_
      ]

  pub pointed_more : (place : ℕ) (a b best : Option Frame) → place % 512 ≡ 0 → best ≡ lower_of a b → IsLowestAmong (IsPointedBelow v low high place) v a → IsLowestAmong (IsPointedAt v low high place) v b
      → IsLowestAmong (IsPointedBelow v low high (place + 512)) v best
  pointed_more place a b best marker is h k =
      subst (IsLowestAmong (IsPointedBelow v low high (place + 512)) v) (sym is)
      (among_same v (λ s. IsPointedBelow v low high place s ⊎ IsPointedAt v low high place s) (IsPointedBelow v low high (place + 512)) (lower_of a b)
      (λ s q. elim q [ inl old ↦ (old.0, old.1, omega (arith, old.2), old.3, old.4) | inr new ↦ (new.0, place, omega arith, new.1, new.2) ])
      (λ s q o. next_marker v low high place s marker q)
      (among_both v (IsPointedBelow v low high place) (IsPointedAt v low high place) a b h k))

  pub pointed_all : (place : ℕ) (best : Option Frame) → ((p s : ℕ) → IsMarkerSeen v p → PointsTo v p s → s < high → p < place) → IsLowestAmong (IsPointedBelow v low high place) v best → IsLowestAmong (IsPointedWithin v low high) v best
  pointed_all place best all h =
      among_same v (IsPointedBelow v low high place) (IsPointedWithin v low high) best (λ s q. (q.0, (q.1, q.3, q.4))) (λ s q o. (q.0, q.1.0, all q.1.0 s q.1.1 q.1.2 q.0.high, q.1.1, q.1.2)) h

  pub pointed_first : (place : ℕ) (best : Option Frame) → MatchOption best ⊥ (λ f. f.start ≡ low) → IsLowestAmong (IsPointedBelow v low high place) v best → IsLowestAmong (IsPointedWithin v low high) v best
  pointed_first place best at h = among_first v (IsPointedBelow v low high place) (IsPointedWithin v low high) low best at (λ s q. (q.0, (q.1, q.3, q.4))) (λ s q. q.0.low) h

-- ---- both
pub below_high : {T : Type 0} (v : Scene T) (low high below : ℕ) (past : Option Frame) → MatchOption past (below ≡ high) (λ f. below ≡ f.start) → IsLowestAmong (IsPastWithin v low high) v past → below ≤ high
below_high v low high below None at h = omega (arith, at)
below_high v low high below (Some f) at h = omega (arith, at, h.1.0.high)

-- where the lowest past a record is known, only lower ones to which markers point count
pub found_both : {T : Type 0} (v : Scene T) (low high below : ℕ) (past pointed best : Option Frame) → MatchOption past (below ≡ high) (λ f. below ≡ f.start) → best ≡ lower_of pointed past
    → IsLowestAmong (IsPastWithin v low high) v past → IsLowestAmong (IsPointedWithin v low below) v pointed → IsLowestAmong (IsFoundWithin v low high) v best
found_both v low high below None pointed best at is h k =
    subst (IsLowestAmong (IsFoundWithin v low high) v) (sym is)
    (among_same v (λ s. IsPointedWithin v low below s ⊎ IsPastWithin v low high s) (IsFoundWithin v low high) (lower_of pointed None)
    (λ s q. elim q [ inl to ↦ (record { low = to.0.low; high = omega (arith, to.0.high, at) }, inl to.1) | inr past ↦ (past.0, inr past.1) ])
    (λ s q o. elim q.1 [ inl to ↦ inl (record { low = q.0.low; high = omega (arith, q.0.high, at) }, to) | inr past ↦ inr (q.0, past) ])
    (among_both v (IsPointedWithin v low below) (IsPastWithin v low high) pointed None k h))
found_both v low high below (Some f) None best at is h k =
    subst (IsLowestAmong (IsFoundWithin v low high) v) (sym is)
    (h.0, (h.1.0, inr h.1.1), h.2, λ s q o. elim q.1 [ inl to ↦ below_or s to q.0.low o | inr past ↦ h.3 s (q.0, past) o ])
  where
    below_or : (s : ℕ) → IsPointed v s → low ≤ s → IsOpen v s → f.start ≤ s
    below_or s to le o =
        elim (cases_lt s f.start) [
          | inl under ↦ absurd (k s (record { low = le; high = omega (arith, under, at) }, to) o)
          | inr over ↦ over
        ]
found_both v low high below (Some f) (Some g) best at is h k =
    let under : g.start < f.start = omega (arith, k.1.0.high, at) in
    subst (IsLowestAmong (IsFoundWithin v low high) v) (sym (is ∙ keeps g f under)) (
      k.0,
      (record { low = k.1.0.low; high = omega (arith, under, h.1.0.high) }, inl k.1.1),
      k.2,
      λ s q o. elim (cases_lt s f.start) [
        | inl lower ↦ elim q.1 [ inl to ↦ k.3 s (record { low = q.0.low; high = omega (arith, lower, at) }, to) o | inr past ↦ omega (arith, h.3 s (q.0, past) o) ]
        | inr higher ↦ omega (arith, under, higher)
      ],
    )
  where
    keeps : (g f : Frame) → g.start < f.start → lower_of (Some g) (Some f) ≡ Some g
    keeps g f lt = ap (λ b. cond b (Some f) (Some g)) (le-ltb f.start g.start (omega (arith, lt)))

-- looked for everywhere
pub lowest_free : {T : Type 0} (v : Scene T) (best : Option Frame) → CanBeEarly v → ((s : ℕ) → IsOpen v s → s < 2 ^ 63) → IsLowestAmong (IsFoundWithin v 0 (2 ^ 63)) v best
    → MatchOption best (IsNone v) (λ f. (f ≡ frame_at v f.start true) × CanBeEarly v × IsLowest v f.start)
lowest_free v None can near h = λ c s free. h s (record { low = omega arith; high = near s free.open_ }, free.found) free.open_
lowest_free v (Some f) can near h = (h.0, can, (record { found = h.1.1; open_ = h.2 }, λ t free. h.3 t (record { low = omega arith; high = near t free.open_ }, free.found) free.open_))
