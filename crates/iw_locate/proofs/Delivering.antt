-- A segment is kept.
use Rattle.std.proofs.Common.{◌≡◌, ℕ, ◌+◌, ◌-◌, ◌<◌, ◌≤◌, Bool, true, false, cond, List, length, refl, sym, ap, ◌∙◌, subst, arith, inl, inr}
use Rattle.std.proofs.lemmas.Bool.{cases_lt, lt-ltb, le-ltb}
use Rattle.std.proofs.lemmas.Bool.Decides.{nat_tests}
use Rattle.std.specs.Prelude.{◌⊎◌, nat_lt, not, min, max, slice_index}
use Rattle.iw_ranges.specs.declared.Delivery.TheVariants.{Kept}
use Rattle.iw_ranges.specs.Arrived.{Arrived, Cell, Missing, Here, Gone, cell_at, has_come, is_missing, in_segment, first_copy, delivery, delivered}
use Rattle.iw_ranges.proofs.InOrder.{floor_takes}
use Rattle.iw_ranges.proofs.ByPlace.{keeps_first_copies, delivered-kept}
use Rattle.iw_fpdu.specs.Places.{span_start, frame_start}
use Rattle.iw_fpdu.specs.Found.{octet_of as octet_held, octet_in}
use Rattle.iw_fpdu.specs.Laws.{IsBetween}
use Rattle.iw_fpdu.specs.Reading.{length_at}
use Rattle.iw_fpdu.proofs.Again.{cell_stays}
use Rattle.iw_fpdu.proofs.Octets.{span_low, length_within}
use Rattle.iw_locate.specs.declared.unsearched.Unsearched.{Unsearched}
use Rattle.iw_locate.specs.Free.{Scene, point_of, end_of, IsFound, IsOpen, IsFree}
use Rattle.iw_locate.specs.Among.{IsWithin}
use Rattle.iw_locate.specs.Unsearched.{IsPointedIn, IsTouched, Tells, joined_from, joined_to, with_octets}
use Rattle.iw_locate.specs.Keeping.{Keeps, changed, DeliveryKeeps}
use Rattle.iw_locate.proofs.Carried.{same_end, open_back, points_back, points_on, seen_back, seen_on}
use Rattle.iw_locate.proofs.GivesUp.{only_delivers}

-- ---- what is unsearched then
module _ (u : Unsearched) (from to : ℕ) where
  joined_low : (joined_from u from ≤ from) × (u.from < u.to → joined_from u from ≤ u.from)
  joined_low = go (nat_lt u.from u.to) refl
    where
      go : (b : Bool) → nat_lt u.from u.to ≡ b → ((cond b (min u.from from) from) ≤ from) × (u.from < u.to → (cond b (min u.from from) from) ≤ u.from)
      go true e = (omega arith, λ lt. omega arith)
      go false e = (omega arith, λ lt. absurd (let f = sym e ∙ lt-ltb u.from u.to lt in cc f))

  joined_high : (to ≤ joined_to u to) × (u.from < u.to → u.to ≤ joined_to u to)
  joined_high = go (nat_lt u.from u.to) refl
    where
      go : (b : Bool) → nat_lt u.from u.to ≡ b → (to ≤ (cond b (max u.to to) to)) × (u.from < u.to → u.to ≤ (cond b (max u.to to) to))
      go true e = (omega arith, λ lt. omega arith)
      go false e = (omega arith, λ lt. absurd (let f = sym e ∙ lt-ltb u.from u.to lt in cc f))

  joined_is : from < to → with_octets u from to ≡ record u { from = joined_from u from; to = joined_to u to; reach = max u.reach to }
  joined_is lt = ap (λ b. cond b (record u { from = joined_from u from; to = joined_to u to; reach = max u.reach to }) u) (lt-ltb from to lt)

  same_is : to ≤ from → with_octets u from to ≡ u
  same_is le = ap (λ b. cond b (record u { from = joined_from u from; to = joined_to u to; reach = max u.reach to }) u) (le-ltb from to le)

  hull_new : (q : ℕ) → IsWithin from to q → IsWithin (with_octets u from to).from (with_octets u from to).to q
  hull_new q within = subst (λ (x : Unsearched). IsWithin x.from x.to q) (sym (joined_is (omega (arith, within.low, within.high)))) (record { low = omega (arith, joined_low.0, within.low); high = omega (arith, joined_high.0, within.high) })

  hull_old : (q : ℕ) → IsWithin u.from u.to q → IsWithin (with_octets u from to).from (with_octets u from to).to q
  hull_old q within =
      let some : u.from < u.to = omega (arith, within.low, within.high) in
      elim (cases_lt from to) [
        | inl lt ↦ subst (λ (x : Unsearched). IsWithin x.from x.to q) (sym (joined_is lt)) (record { low = omega (arith, joined_low.1 some, within.low); high = omega (arith, joined_high.1 some, within.high) })
        | inr le ↦ subst (λ (x : Unsearched). IsWithin x.from x.to q) (sym (same_is le)) within
      ]

  range_same : (s : ℕ) → IsWithin u.low u.high s → IsWithin (with_octets u from to).low (with_octets u from to).high s
  range_same s within =
      elim (cases_lt from to) [
        | inl lt ↦ subst (λ (x : Unsearched). IsWithin x.low x.high s) (sym (joined_is lt)) within
        | inr le ↦ subst (λ (x : Unsearched). IsWithin x.low x.high s) (sym (same_is le)) within
      ]

  reach_more : (u.reach ≤ (with_octets u from to).reach) × (from < to → to ≤ (with_octets u from to).reach)
  reach_more =
      elim (cases_lt from to) [
        | inl lt ↦ let e = ap (λ (x : Unsearched). x.reach) (joined_is lt) in (omega (arith, e), λ h. omega (arith, e))
        | inr le ↦ let e = ap (λ (x : Unsearched). x.reach) (same_is le) in (omega (arith, e), λ h. absurd (omega (arith, h, le)))
      ]

-- ---- whether two stretches meet
meets : (a b from to : ℕ) → a < b → ((q : ℕ) × IsWithin from to q × (a ≤ q) × (q < b)) ⊎ ((q : ℕ) → a ≤ q → q < b → (q < from) ⊎ (to ≤ q))
meets a b from to some =
    elim (cases_lt a to) [
      | inl under ↦
          elim (cases_lt from b) [
            | inl over ↦
                elim (cases_lt from to) [
                  | inl lt ↦ inl (max a from, record { low = omega arith; high = omega (arith, under, lt) }, omega arith, omega (arith, some, over))
                  | inr le ↦ inr (λ q low high. elim (cases_lt q from) [ inl before ↦ inl before | inr past ↦ inr (omega (arith, past, le)) ])
                ]
            | inr past ↦ inr (λ q low high. inl (omega (arith, high, past)))
          ]
      | inr past ↦ inr (λ q low high. inr (omega (arith, low, past)))
    ]

-- ---- what stands at a place
outside : (place : ℕ) (octets : List ℕ) (p : ℕ) (c : Cell) → in_segment place (length octets) p ≡ false → first_copy place octets p c ≡ c
outside place octets p Missing e = ap (λ b. cond b (Here (slice_index octets (p - place))) Missing) e
outside place octets p (Here x) e = refl
outside place octets p Gone e = refl

small : (place : ℕ) (octets : List ℕ) (p : ℕ) (c : Cell) → ((k : ℕ) → slice_index octets k < 256) → octet_held c < 256 → octet_held (first_copy place octets p c) < 256
small place octets p (Here x) few old = old
small place octets p Gone few old = old
small place octets p Missing few old = go (in_segment place (length octets) p)
  where
    go : (b : Bool) → octet_held (cond b (Here (slice_index octets (p - place))) Missing) < 256
    go true = few (p - place)
    go false = old

pub delivered_floor : (a : Arrived) (place : ℕ) (octets : List ℕ) → delivery a place (length octets) ≡ Kept → (delivered a place octets).floor ≡ a.floor
delivered_floor a place octets kept = ap (λ (x : Arrived). x.floor) (delivered-kept a place octets kept) ∙ floor_takes a place octets

not_in_segment : (base place n q : ℕ) → (q < place - base) ⊎ (place + n - base ≤ q) → in_segment place n (base + q) ≡ false
not_in_segment base place n q (inl before) = let lt : base + q < place = omega (arith, before) in grind (arith, nat_tests)
not_in_segment base place n q (inr past) = let le : place + n ≤ base + q = omega (arith, past) in grind (arith, nat_tests)

module _ {T : Type 0} (v : Scene T) (u : Unsearched) (place : ℕ) (octets : List ℕ) (keeps : Keeps v) (tells : Tells v u) (kept : delivery v.arrived place (length octets) ≡ Kept) (few : (k : ℕ) → slice_index octets k < 256) where
  cell_is : (p : ℕ) → cell_at (delivered v.arrived place octets) p ≡ first_copy place octets p (cell_at v.arrived p)
  cell_is p = keeps_first_copies v.arrived place octets p kept

  floor_is : (delivered v.arrived place octets).floor ≡ v.arrived.floor
  floor_is = delivered_floor v.arrived place octets kept

  point_is : point_of (changed v (delivered v.arrived place octets) v.records) ≡ point_of v
  point_is = ap (λ f. f - v.base) floor_is

  cell_out : (q : ℕ) → (q < place - v.base) ⊎ (place + length octets - v.base ≤ q) → cell_at (delivered v.arrived place octets) (v.base + q) ≡ cell_at v.arrived (v.base + q)
  cell_out q out = cell_is (v.base + q) ∙ outside place octets (v.base + q) (cell_at v.arrived (v.base + q)) (not_in_segment v.base place (length octets) q out)

  stays : (q : ℕ) → has_come v.arrived (v.base + q) ≡ true → cell_at (delivered v.arrived place octets) (v.base + q) ≡ cell_at v.arrived (v.base + q)
  stays q come = cell_stays v.arrived place octets (v.base + q) come

  pub delivery_keeps_records : Keeps (changed v (delivered v.arrived place octets) v.records)
  delivery_keeps_records = record {
    based = omega (arith, keeps.based, floor_is);
    between = subst (IsBetween v.layout.markers) (sym point_is) keeps.between;
    marked = keeps.marked;
    records = λ r within. omega (arith, keeps.records r within, point_is);
    whole = λ r within q low high. ap (λ c. not (is_missing c)) (stays q (keeps.whole r within q low high)) ∙ keeps.whole r within q low high;
    ends = keeps.ends;
    released = only_delivers v keeps.released place octets;
  }

  abbrev TouchedNow : ℕ → Type 0
  TouchedNow s = IsTouched (changed v (delivered v.arrived place octets) v.records) (with_octets u (place - v.base) (place + length octets - v.base)).from (with_octets u (place - v.base) (place + length octets - v.base)).to s

  -- a frame that has no new octet was whole before
  old_open : (s : ℕ) → IsOpen (changed v (delivered v.arrived place octets) v.records) s
      → ((q : ℕ) → span_start v.layout.markers s ≤ q → q < end_of (changed v (delivered v.arrived place octets) v.records) s → (q < place - v.base) ⊎ (place + length octets - v.base ≤ q)) → IsOpen v s
  old_open s o out =
      open_back v (delivered v.arrived place octets) v.records s o (λ q low high. cell_out q (out q low high)) (omega (arith, o.past, point_is)) (λ at. o.other (at ∙ ap (frame_start v.layout.markers) (sym point_is))) o.clear

  -- a marker that has none pointed there before
  old_found : (s : ℕ) → IsFound (changed v (delivered v.arrived place octets) v.records) s → IsFound v s ⊎ IsPointedIn (changed v (delivered v.arrived place octets) v.records) (place - v.base) (place + length octets - v.base) s
  old_found s (inr ends) = inl (inr ends)
  old_found s (inl (p, seen, points)) =
      elim (meets p (p + 4) (place - v.base) (place + length octets - v.base) (omega arith)) [
        | inl (q, within, low, high) ↦ inr (q, p, within, seen, points, low, high)
        | inr out ↦
            let same = λ (q : ℕ) (low : p ≤ q) (high : q < p + 4). cell_out q (out q low high) in
            inl (inl (p, seen_back v (delivered v.arrived place octets) v.records p same seen.outside seen, points_back v (delivered v.arrived place octets) v.records p s same points))
      ]

  still_touched : (s : ℕ) → IsOpen v s → end_of v s ≡ end_of (changed v (delivered v.arrived place octets) v.records) s → IsTouched v u.from u.to s → TouchedNow s
  still_touched s o e (inl (q, within, low, high)) = inl (q, hull_old u (place - v.base) (place + length octets - v.base) q within, low, omega (arith, high, e))
  still_touched s o e (inr (q, p, within, seen, points, low, high)) =
      let same = λ (x : ℕ) (from : p ≤ x) (to : x < p + 4). stays x (seen.came x from to) in
      inr (q, p, hull_old u (place - v.base) (place + length octets - v.base) q within, seen_on v (delivered v.arrived place octets) v.records p same seen.outside seen, points_on v (delivered v.arrived place octets) v.records p s same points, low, high)

  pub delivery_tells : Tells (changed v (delivered v.arrived place octets) v.records) (with_octets u (place - v.base) (place + length octets - v.base))
  delivery_tells = record {
    free = free_now;
    reach = λ q far. missing_still q far;
    octets = λ q. subst (λ c. octet_held c < 256) (sym (cell_is (v.base + q))) (small place octets (v.base + q) (cell_at v.arrived (v.base + q)) few (tells.octets q));
  }
    where
      old_free : (m : v.layout.markers ≡ true) (s : ℕ) → IsFree v s → end_of v s ≡ end_of (changed v (delivered v.arrived place octets) v.records) s
          → IsWithin (with_octets u (place - v.base) (place + length octets - v.base)).low (with_octets u (place - v.base) (place + length octets - v.base)).high s ⊎ TouchedNow s
      old_free m s free e =
          elim (tells.free m s free) [
            | inl within ↦ inl (range_same u (place - v.base) (place + length octets - v.base) s within)
            | inr touched ↦ inr (still_touched s free.open_ e touched)
          ]

      free_now : (m : v.layout.markers ≡ true) (s : ℕ) → IsFree (changed v (delivered v.arrived place octets) v.records) s
          → IsWithin (with_octets u (place - v.base) (place + length octets - v.base)).low (with_octets u (place - v.base) (place + length octets - v.base)).high s ⊎ TouchedNow s
      free_now m s free =
          let o = free.open_ in
          let some = length_within v.layout.markers s (length_at (octet_in (delivered v.arrived place octets) v.base) s) o.start in
          elim (meets (span_start v.layout.markers s) (end_of (changed v (delivered v.arrived place octets) v.records) s) (place - v.base) (place + length octets - v.base) (omega (arith, some, span_low v.layout.markers s))) [
            | inl (q, within, low, high) ↦ inr (inl (q, hull_new u (place - v.base) (place + length octets - v.base) q within, low, high))
            | inr out ↦
                elim (old_found s free.found) [
                  | inl found ↦ old_free m s (record { found = found; open_ = old_open s o out }) (same_end v (delivered v.arrived place octets) v.records s o.start (λ q low high. cell_out q (out q low high)))
                  | inr (q, p, within, seen, points, low, high) ↦ inr (inr (q, p, hull_new u (place - v.base) (place + length octets - v.base) q within, seen, points, low, high))
                ]
          ]

      far_out : (q : ℕ) → (with_octets u (place - v.base) (place + length octets - v.base)).reach ≤ q
          → (u.reach ≤ (with_octets u (place - v.base) (place + length octets - v.base)).reach) × (place - v.base < place + length octets - v.base → place + length octets - v.base ≤ (with_octets u (place - v.base) (place + length octets - v.base)).reach)
          → (q < place - v.base) ⊎ (place + length octets - v.base ≤ q)
      far_out q far more =
          elim (cases_lt q (place - v.base)) [
            | inl before ↦ inl before
            | inr past ↦
                elim (cases_lt (place - v.base) (place + length octets - v.base)) [
                  | inl lt ↦ inr (omega (arith, far, more.1 lt))
                  | inr le ↦ inr (omega (arith, past, le))
                ]
          ]

      missing_still : (q : ℕ) → (with_octets u (place - v.base) (place + length octets - v.base)).reach ≤ q → has_come (delivered v.arrived place octets) (v.base + q) ≡ false
      missing_still q far =
          let more = reach_more u (place - v.base) (place + length octets - v.base) in
          ap (λ c. not (is_missing c)) (cell_out q (far_out q far more)) ∙ tells.reach q (omega (arith, far, more.0))

pub delivery_keeps : {T : Type 0} → DeliveryKeeps T
delivery_keeps v u place octets keeps tells kept few = (delivery_keeps_records v u place octets keeps tells kept few, delivery_tells v u place octets keeps tells kept few)
