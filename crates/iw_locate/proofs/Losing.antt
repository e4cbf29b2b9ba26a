-- Octets that were given up, and markers in placed frames, find nothing that isn't found without them.
use Rattle.std.proofs.Common.{◌≡◌, ℕ, ◌+◌, ◌-◌, ◌%◌, ◌≤◌, zero, suc, true, List, [], ◌∷◌, refl, sym, ap, ◌∙◌, subst, arith, inl, inr}
use Rattle.std.proofs.lemmas.Bool.{cases_lt, eqb-true}
use Rattle.std.specs.Prelude.{◌⊎◌}
use Rattle.iw_ranges.specs.Arrived.{Arrived}
use Rattle.iw_fpdu.specs.Places.{IsStart, span_start}
use Rattle.iw_fpdu.specs.Reading.{pointer_at, length_at, marker_agrees}
use Rattle.iw_fpdu.specs.Found.{octet_in}
use Rattle.iw_fpdu.proofs.Octets.{span_low, length_within, marker_agrees_is}
use Rattle.iw_locate.specs.declared.judged.Record.{Record}
use Rattle.iw_locate.specs.declared.judged.State.{State}
use Rattle.iw_locate.specs.declared.judged.State.TheVariants.{Tried, Placed}
use Rattle.iw_locate.specs.Records.{from_of, IsPlaced, Overlaps, OverlapsPlaced, IsClearOfPlaced, AreApart}
use Rattle.iw_locate.specs.Free.{Scene, octet_of, PointsTo, IsMarkerSeen, IsOpen, IsFree, GivesUpOnlyPlaced}
use Rattle.iw_locate.specs.Laws.{IsCameOf, IsMarkerCame, IsFreeByAny, ReleasesLoseNothing}
use Rattle.iw_locate.proofs.Left.{free_left}
use Rattle.iw_locate.proofs.Open.{start_high}
use Rattle.iw_locate.proofs.Front.{span_cases, starts_of}

-- ---- whether a placed frame lies over some places
placed_or_not : {T : Type 0} (st : State T) → IsPlaced st ⊎ (IsPlaced st → ⊥)
placed_or_not Tried = inr (λ h. h)
placed_or_not (Placed x) = inl tt

over_or_not : {T : Type 0} (r : Record T) (start end : ℕ) → Overlaps r start end ⊎ (Overlaps r start end → ⊥)
over_or_not r start end =
    elim (cases_lt (from_of r) end) [
      | inl low ↦ elim (cases_lt (span_start true start) r.end) [ inl high ↦ inl (low, high) | inr past ↦ inr (λ o. omega (arith, o.1)) ]
      | inr past ↦ inr (λ o. omega (arith, o.0))
    ]

clear_of_more : {T : Type 0} (x : Record T) (xs : List (Record T)) (start end : ℕ) → (IsPlaced x.state → Overlaps x start end → ⊥) → IsClearOfPlaced xs start end → IsClearOfPlaced (x ∷ xs) start end
clear_of_more x xs start end first rest r (zero, lt, is) placed over = first (subst (λ (y : Record _). IsPlaced y.state) (sym is) placed) (subst (λ (y : Record _). Overlaps y start end) (sym is) over)
clear_of_more x xs start end first rest r (suc k, lt, is) placed over = rest r (k, omega arith, is) placed over

one_more : {T : Type 0} (x : Record T) (xs : List (Record T)) (start end : ℕ) → OverlapsPlaced xs start end → OverlapsPlaced (x ∷ xs) start end
one_more x xs start end (r, (k, lt, is), placed, over) = (r, (suc k, omega arith, is), placed, over)

placed_cases : {T : Type 0} (rs : List (Record T)) (start end : ℕ) → OverlapsPlaced rs start end ⊎ IsClearOfPlaced rs start end
placed_cases [] start end = inr (λ r within. absurd (omega (arith, within.1)))
placed_cases (x ∷ xs) start end =
    elim (placed_cases xs start end) [
      | inl over ↦ inl (one_more x xs start end over)
      | inr clear ↦
          elim (placed_or_not x.state) [
            | inl placed ↦
                elim (over_or_not x start end) [
                  | inl over ↦ inl (x, (0, omega arith, refl), placed, over)
                  | inr not_over ↦ inr (clear_of_more x xs start end (λ p o. not_over o) clear)
                ]
            | inr tried ↦ inr (clear_of_more x xs start end (λ p o. tried p) clear)
          ]
    ]

-- ---- places of markers and spans
span_at_marker : (p : ℕ) → p % 512 ≡ 0 → span_start true p ≡ p
span_at_marker p h = elim (span_cases p) [ inl (near, is) ↦ absurd (omega arith) | inr (far, is) ↦ is ]

from_aligned : (s : ℕ) → IsStart true s → span_start true s % 4 ≡ 0
from_aligned s h = elim (span_cases s) [ inl (near, is) ↦ omega (arith, h.aligned) | inr (far, is) ↦ omega (arith, h.aligned) ]

module _ {T : Type 0} (v : Scene T) (came : Arrived) (only : GivesUpOnlyPlaced v) (apart : AreApart v.records) (is : IsCameOf v came) where
  abbrev All : Scene T
  All = record v { arrived = came }

  -- a marker of a placed frame points to that frame
  own : (p s : ℕ) (r : Record T) → p % 512 ≡ 0 → IsStart true r.start → from_of r ≤ p → marker_agrees (octet_in came v.base) r.start p ≡ true → PointsTo All p s → s ≡ r.start
  own p s r marker start low agrees points =
      let value : pointer_at (octet_in came v.base) p ≡ p - r.start = eqb-true (pointer_at (octet_in came v.base) p) (p - r.start) (sym (marker_agrees_is (octet_in came v.base) r.start p marker) ∙ agrees) in
      let aligned = start.aligned in
      elim points [
        | inl (none, at) ↦ elim (span_cases r.start) [ inl (near, from) ↦ omega (arith, start.aligned) | inr (far, from) ↦ absurd (omega (arith, start_high true r.start refl start)) ]
        | inr (some, at) ↦ omega arith
      ]

  to : (s : ℕ) → IsFree v s → IsFreeByAny All s
  to s free =
      let still = (free_left v came is.left only s).0 free in record {
        found = elim still.found [
          | inl (p, seen, points) ↦ inl (p, record { marker = seen.marker; came = seen.came }, points)
          | inr past ↦ inr past
        ];
        open_ = still.open_;
      }

  -- so that none of them points to a frame that may be judged
  outside : (p s : ℕ) → IsMarkerCame All p → PointsTo All p s → IsOpen All s → IsMarkerSeen All p
  outside p s seen points open_ = record {
    marker = seen.marker;
    came = seen.came;
    outside =
        elim (placed_cases v.records p (p + 4)) [
          | inl (r, within, placed, (under, over)) ↦
              let start = starts_of v.records apart r within in
              let low : from_of r ≤ p = omega (arith, seen.marker, from_aligned r.start start) in
              let here = own p s r seen.marker start low (is.checked r within placed p low (omega (arith, span_at_marker p seen.marker)) seen.marker) points in
              absurd (open_.clear r within (omega (arith, here, span_low true r.start, length_within v.layout.markers s (length_at (octet_of All) s) open_.start), omega (arith, ap (span_start true) here, over, low, span_at_marker p seen.marker)))
          | inr clear ↦ clear
        ];
  }

  from : (s : ℕ) → IsFreeByAny All s → IsFree v s
  from s free =
      (free_left v came is.left only s).1 record {
        found = elim free.found [
          | inl (p, seen, points) ↦ inl (p, outside p s seen points free.open_, points)
          | inr past ↦ inr past
        ];
        open_ = free.open_;
      }

pub releases_lose_nothing : {T : Type 0} → ReleasesLoseNothing T
releases_lose_nothing v came only apart is s = (to v came only apart is s, from v came only apart is s)
