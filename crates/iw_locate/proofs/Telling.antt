-- The tests say what they are tests of.
use Rattle.std.proofs.Common.{◌≡◌, ℕ, zero, suc, ◌+◌, ◌-◌, ◌*◌, ◌/◌, ◌%◌, ◌<◌, ◌≤◌, ◌==◌, ◌&&◌, not, nat_le, Bool, true, false, if◌then◌else◌, List, [], ◌∷◌, length, Option, Some, None, MatchOption, Decides, HoldsAt, Contains, refl, sym, ap, ◌∙◌, subst, arith, inl, inr, ◌⊎◌}
use Rattle.std.specs.List.{list_any}
use Rattle.std.proofs.lemmas.List.{get_or_past}
use Rattle.std.proofs.lemmas.Bool.{cases_lt, true≢false, false≢true}
use Rattle.std.proofs.lemmas.Bool.Decides.{nat_tests, Decides-and, Decides-or, Decides-not, Decides-by_or, Decides-below_or, Decides-eqb, Decides-ltb}
use Rattle.iw_ranges.specs.Arrived.{Missing, cell_at, has_come, is_missing, end_of as end_of_arrived}
use Rattle.iw_ranges.proofs.ByPlace.{beyond}
use Rattle.iw_fpdu.specs.Places.{in_marker, span_start}
use Rattle.iw_fpdu.specs.Reading.{length_at, pointer_at}
use Rattle.iw_fpdu.proofs.Came.{tells_whole}
use Rattle.iw_fpdu.proofs.Octets.{span_low, length_within}
use Rattle.iw_locate.specs.declared.judged.Record.{Record}
use Rattle.iw_locate.specs.declared.judged.State.{State}
use Rattle.iw_locate.specs.declared.judged.State.TheVariants.{Tried, Placed}
use Rattle.iw_locate.specs.Records.{from_of, IsPlaced, Overlaps, OverlapsOne}
use Rattle.iw_locate.specs.Free.{Scene, point_of, front_of, octet_of, end_of, IsMarkerSeen, PointsTo, EndsBefore, IsFound, IsOpen, IsFree}
use Rattle.iw_locate.specs.Next.{IsLowest}
use Rattle.iw_locate.specs.Lowest.{is_placed, overlaps, overlaps_one, overlaps_placed, is_marker_seen, points_to, ends_before, any_below, is_pointed, is_found, is_open, is_free, first_of, lowest_free, LowestIsTold, OverlapsAreTold}

-- the same test of what is said otherwise
told_as : {P Q : Type 0} (b : Bool) → (P → Q) → (Q → P) → Decides b P → Decides b Q
told_as b to back d = (λ e. to (d.0 e), λ q. d.1 (back q))

-- ---- one of a list
module _ {X : Type 0} (p : X → Bool) (P : X → Type 0) (each : (x : X) → Decides (p x) (P x)) where
  one_of : (xs : List X) → (k : ℕ) → k < length xs → HoldsAt P xs k → (x : X) × Contains xs x × P x
  one_of [] k lt h = absurd (omega (arith, lt))
  one_of (x ∷ xs) zero lt h = (x, (0, omega arith, refl), h x)
  one_of (x ∷ xs) (suc k) lt h = let w = one_of xs k (omega (arith, lt)) h in (w.0, (suc w.1.0, omega (arith, w.1.1), w.1.2), w.2)

  at_one : (xs : List X) (x : X) → Contains xs x → P x → (k : ℕ) × (k < length xs) × HoldsAt P xs k
  at_one [] x (k, lt, is) h = absurd (omega (arith, lt))
  at_one (y ∷ xs) x (zero, lt, is) h = (0, omega arith, λ d. subst P (sym is) h)
  at_one (y ∷ xs) x (suc k, lt, is) h = let w = at_one xs x (k, omega (arith, lt), is) h in (suc w.0, omega (arith, w.1), w.2)

  pub any_told : (xs : List X) → Decides (list_any p xs) ((x : X) × Contains xs x × P x)
  any_told xs = told_as (list_any p xs) (λ w. one_of xs w.0 w.1 w.2) (λ w. at_one xs w.0 w.1 w.2) (Decides-by_or p P (list_any p) each refl (λ x ys. refl) xs)

-- ---- overlaps
placed_told : {T : Type 0} (state : State T) → Decides (is_placed state) (IsPlaced state)
placed_told Tried = (λ e. absurd (false≢true e), λ w. absurd w)
placed_told (Placed x) = (λ e. tt, λ w. refl)

overlap_told : {T : Type 0} (r : Record T) (start end : ℕ) → Decides (overlaps r start end) (Overlaps r start end)
overlap_told r start end = Decides-and _ _ (Decides-ltb (from_of r) end) (Decides-ltb (span_start true start) r.end)

pub overlaps_one_told : {T : Type 0} (rs : List (Record T)) (start end : ℕ) → Decides (overlaps_one rs start end) (OverlapsOne rs start end)
overlaps_one_told rs start end = any_told (λ r. overlaps r start end) (λ r. Overlaps r start end) (λ r. overlap_told r start end) rs

pub overlaps_are_told : {T : Type 0} → OverlapsAreTold T
overlaps_are_told rs start end =
    told_as (overlaps_placed rs start end) (λ w. (w.0, w.1, w.2.0, w.2.1)) (λ w. (w.0, w.1, (w.2, w.3)))
    (any_told (λ r. is_placed r.state && overlaps r start end) (λ r. IsPlaced r.state × Overlaps r start end) (λ r. Decides-and _ _ (placed_told r.state) (overlap_told r start end)) rs)

come_told : (b : Bool) → Decides b (b ≡ true)
come_told b = (λ e. e, λ e. e)

le_told : (a b : ℕ) → Decides (nat_le a b) (a ≤ b)
le_told a b = (λ e. grind (arith, nat_tests), λ h. grind (arith, nat_tests))

module _ {T : Type 0} (v : Scene T) where
  -- ---- where a frame is found
  four : (p : ℕ) → (has_come v.arrived (v.base + p) ≡ true) × ((has_come v.arrived (v.base + (p + 1)) ≡ true) × ((has_come v.arrived (v.base + (p + 2)) ≡ true) × (has_come v.arrived (v.base + (p + 3)) ≡ true)))
      → (q : ℕ) → p ≤ q → q < p + 4 → has_come v.arrived (v.base + q) ≡ true
  four p w q low high =
      let a = w.0 in let b = w.1.0 in let c = w.1.1.0 in let d = w.1.1.1 in
      elim (cases_lt q (p + 1)) [
        | inl first ↦ subst (λ x. has_come v.arrived (v.base + x) ≡ true) (let e : p ≡ q = omega (arith, low, first) in e) a
        | inr more ↦ elim (cases_lt q (p + 2)) [
          | inl second ↦ subst (λ x. has_come v.arrived (v.base + x) ≡ true) (let e : p + 1 ≡ q = omega (arith, more, second) in e) b
          | inr most ↦ elim (cases_lt q (p + 3)) [
            | inl third ↦ subst (λ x. has_come v.arrived (v.base + x) ≡ true) (let e : p + 2 ≡ q = omega (arith, most, third) in e) c
            | inr last ↦ subst (λ x. has_come v.arrived (v.base + x) ≡ true) (let e : p + 3 ≡ q = omega (arith, last, high) in e) d
          ]
        ]
      ]

  seen_told : (k : ℕ) → Decides (is_marker_seen v (512 * k)) (IsMarkerSeen v (512 * k))
  seen_told k =
      told_as (is_marker_seen v (512 * k))
      (λ w. record { marker = omega arith; came = four (512 * k) w.0; outside = λ r within placed over. w.1 (r, within, placed, over) })
      (λ m. (
        (m.came (512 * k) (omega arith) (omega arith), (m.came (512 * k + 1) (omega arith) (omega arith), (m.came (512 * k + 2) (omega arith) (omega arith), m.came (512 * k + 3) (omega arith) (omega arith)))),
        λ w. m.outside w.0 w.1 w.2 w.3,
      ))
      (Decides-and _ _ (Decides-and _ _ (come_told _) (Decides-and _ _ (come_told _) (Decides-and _ _ (come_told _) (come_told _)))) (Decides-not _ (overlaps_are_told v.records (512 * k) (512 * k + 4))))

  pointing : (n p s : ℕ) (b : Bool) → (n == 0) ≡ b → Decides (if b then s == p + 4 else s + n == p) (((n ≡ 0) × (s ≡ p + 4)) ⊎ ((0 < n) × (s + n ≡ p)))
  pointing n p s true e = (λ t. inl ((Decides-eqb n 0).0 e, (Decides-eqb s (p + 4)).0 t), λ w. elim w [ inl (none, is) ↦ (Decides-eqb s (p + 4)).1 is | inr (some, is) ↦ absurd (omega (arith, some, (Decides-eqb n 0).0 e)) ])
  pointing n p s false e = (
    λ t. inr (let some : 0 < n = grind (arith, nat_tests) in some, (Decides-eqb (s + n) p).0 t),
    λ w. elim w [ inl (none, is) ↦ absurd (true≢false (sym ((Decides-eqb n 0).1 none) ∙ e)) | inr (some, is) ↦ (Decides-eqb (s + n) p).1 is ],
  )

  points_told : (p s : ℕ) → Decides (points_to v p s) (PointsTo v p s)
  points_told p s = pointing (pointer_at (octet_of v) p) p s (pointer_at (octet_of v) p == 0) refl

  below_told : (n s : ℕ) → Decides (any_below (λ k. is_marker_seen v (512 * k) && points_to v (512 * k) s) n) ((k : ℕ) × (k < n) × (IsMarkerSeen v (512 * k) × PointsTo v (512 * k) s))
  unfolding any_below
  below_told n s =
      Decides-below_or (λ k. is_marker_seen v (512 * k) && points_to v (512 * k) s) (λ k. IsMarkerSeen v (512 * k) × PointsTo v (512 * k) s) (any_below (λ k. is_marker_seen v (512 * k) && points_to v (512 * k) s))
      (λ k. Decides-and _ _ (seen_told k) (points_told (512 * k) s)) refl (λ m. refl) n

  ends_told : (end s : ℕ) → Decides (ends_before end s) (EndsBefore end s)
  ends_told end s = Decides-or _ _ (Decides-eqb end s) (Decides-and _ _ (Decides-eqb (end % 512) 0) (Decides-eqb (end + 4) s))

  reached : (q : ℕ) → has_come v.arrived q ≡ true → q < end_of_arrived v.arrived
  reached q come =
      elim (cases_lt q (end_of_arrived v.arrived)) [
        | inl near ↦ near
        | inr far ↦
            let none : cell_at v.arrived q ≡ Missing = beyond v.arrived q (omega (arith, far)) ∙ get_or_past v.arrived.cells (q - v.arrived.floor) Missing (omega (arith, far)) in
            absurd (true≢false (sym come ∙ ap (λ c. not (is_missing c)) none))
      ]

  pointed : (s : ℕ) → ((p : ℕ) × IsMarkerSeen v p × PointsTo v p s) → (k : ℕ) × (k < end_of_arrived v.arrived) × (IsMarkerSeen v (512 * k) × PointsTo v (512 * k) s)
  pointed s (p, seen, points) =
      let k : ℕ = p / 512 in
      let same : p ≡ 512 * k = omega (arith, seen.marker) in
      (k, omega (arith, same, reached (v.base + p) (seen.came p (omega arith) (omega arith))), (subst (λ q. IsMarkerSeen v q) same seen, subst (λ q. PointsTo v q s) same points))

  found_told : (s : ℕ) → Decides (is_found v s) (IsFound v s)
  found_told s =
      Decides-or _ _ (told_as (is_pointed v s) (λ w. (512 * w.0, w.2.0, w.2.1)) (pointed s) (below_told (end_of_arrived v.arrived) s))
      (any_told (λ r. ends_before r.end s) (λ r. EndsBefore r.end s) (λ r. ends_told r.end s) v.records)

  -- ---- where one may be judged
  not_true : (b : Bool) → Decides (not b) (b ≡ false)
  not_true true = (λ e. absurd (false≢true e), λ e. absurd (true≢false e))
  not_true false = (λ e. refl, λ e. refl)

  open_told : (s : ℕ) → Decides (is_open v s) (IsOpen v s)
  open_told s =
      told_as (is_open v s)
      (λ w. record {
        start = record { aligned = w.0.0; outside = w.0.1 };
        whole = w.1.0;
        past = w.1.1.0;
        other = w.1.1.1.0;
        clear = λ r within over. w.1.1.1.1 (r, within, over);
      })
      (λ o. ((o.start.aligned, o.start.outside), (o.whole, (o.past, (o.other, λ w. o.clear w.0 w.1 w.2)))))
      (Decides-and _ _ (Decides-and _ _ (Decides-eqb (s % 4) 0) (not_true (in_marker v.layout.markers s)))
      (Decides-and _ _ (tells_whole v.arrived v.layout.markers v.base s)
      (Decides-and _ _ (le_told (point_of v) (span_start v.layout.markers s))
      (Decides-and _ _ (Decides-not _ (Decides-eqb s (front_of v))) (Decides-not _ (overlaps_one_told v.records s (end_of v s)))))))

  free_told : (s : ℕ) → Decides (is_free v s) (IsFree v s)
  free_told s = told_as (is_free v s) (λ w. record { found = w.1; open_ = w.0 }) (λ f. (f.open_, f.found)) (Decides-and _ _ (open_told s) (found_told s))

-- ---- the lowest
record IsFirst (test : ℕ → Bool) (from n s : ℕ) : Type 0 where
  pub passes : test s ≡ true
  pub low : from ≤ s
  pub first : (t : ℕ) → from ≤ t → test t ≡ true → s ≤ t

first_told : (test : ℕ → Bool) (from n : ℕ) → MatchOption (first_of test from n) ((s : ℕ) → from ≤ s → s < from + n → test s ≡ true → ⊥) (IsFirst test from n)
unfolding first_of
first_told test from zero = λ s low high e. omega (arith, low, high)
first_told test from (suc n) = go (test from) refl (first_of test (from + 1) n) (first_told test (from + 1) n)
  where
    go : (b : Bool) → test from ≡ b → (o : Option ℕ) → MatchOption o ((s : ℕ) → from + 1 ≤ s → s < from + 1 + n → test s ≡ true → ⊥) (IsFirst test (from + 1) n)
        → MatchOption (if b then Some from else o) ((s : ℕ) → from ≤ s → s < from + suc n → test s ≡ true → ⊥) (IsFirst test from (suc n))
    go true e o rest = record { passes = e; low = omega arith; first = λ t low is. low }
    go false e None rest = λ s low high is.
        elim (cases_lt from s) [
          | inl above ↦ rest s (omega (arith, above)) (omega (arith, high)) is
          | inr here ↦ true≢false (sym is ∙ ap test (let same : s ≡ from = omega (arith, here, low) in same) ∙ e)
        ]
    go false e (Some s) rest = record {
      passes = rest.passes;
      low = omega (arith, rest.low);
      first = λ t low is.
          elim (cases_lt from t) [
            | inl above ↦ rest.first t (omega (arith, above)) is
            | inr here ↦ absurd (true≢false (sym is ∙ ap test (let same : t ≡ from = omega (arith, here, low) in same) ∙ e))
          ];
    }

pub lowest_is_told : {T : Type 0} → LowestIsTold T
lowest_is_told v based = go (lowest_free v) (first_told (is_free v) (point_of v) (length v.arrived.cells))
  where
    within : (s : ℕ) → IsFree v s → (point_of v ≤ s) × (s < point_of v + length v.arrived.cells)
    within s free =
        let long = length_within v.layout.markers s (length_at (octet_of v) s) free.open_.start in (
          omega (arith, free.open_.past, span_low v.layout.markers s),
          omega (arith, based, reached v (v.base + s) (free.open_.whole s (span_low v.layout.markers s) (omega (arith, long)))),
        )

    go : (o : Option ℕ) → MatchOption o ((s : ℕ) → point_of v ≤ s → s < point_of v + length v.arrived.cells → is_free v s ≡ true → ⊥) (IsFirst (is_free v) (point_of v) (length v.arrived.cells))
        → MatchOption o ((s : ℕ) → IsFree v s → ⊥) (λ s. IsLowest v s)
    go None none = λ s free. let w = within s free in none s w.0 w.1 ((free_told v s).1 free)
    go (Some s) is = ((free_told v s).0 is.passes, λ t free. is.first t (within t free).0 ((free_told v t).1 free))
