-- The lowest place where a frame can be judged early, worked out: each word is a test of what `Free` says of a set of places.
use Rattle.std.specs.Prelude.{ℕ, zero, suc, ◌+◌, ◌*◌, ◌%◌, ◌≤◌, ◌==◌, ◌&&◌, ◌||◌, not, nat_lt, nat_le, Bool, true, false, if◌then◌else◌, List, length, Option, Some, None, MatchOption}
use Rattle.std.specs.Bool.{Decides}
use Rattle.std.specs.List.{list_any}
use Rattle.iw_ranges.specs.Arrived.{has_come, end_of as end_of_arrived}
use Rattle.iw_fpdu.specs.Places.{in_marker, span_start}
use Rattle.iw_fpdu.specs.Reading.{pointer_at}
use Rattle.iw_fpdu.specs.Found.{is_whole}
use Rattle.iw_locate.specs.declared.judged.Record.{Record}
use Rattle.iw_locate.specs.declared.judged.State.{State}
use Rattle.iw_locate.specs.declared.judged.State.TheVariants.{Tried, Placed}
use Rattle.iw_locate.specs.Records.{from_of, max_records, OverlapsPlaced}
use Rattle.iw_locate.specs.Free.{Scene, point_of, front_of, octet_of, end_of, IsFree}
use Rattle.iw_locate.specs.Next.{IsLowest}

abbrev pub is_placed : {T : Type 0} → State T → Bool
is_placed Tried = false
is_placed (Placed x) = true

-- ---- overlaps
abbrev pub overlaps : {T : Type 0} → Record T → ℕ → ℕ → Bool
overlaps r start end = nat_lt (from_of r) end && nat_lt (span_start true start) r.end

abbrev pub overlaps_one : {T : Type 0} → List (Record T) → ℕ → ℕ → Bool
overlaps_one rs start end = list_any (λ r. overlaps r start end) rs

abbrev pub overlaps_placed : {T : Type 0} → List (Record T) → ℕ → ℕ → Bool
overlaps_placed rs start end = list_any (λ r. is_placed r.state && overlaps r start end) rs

-- ---- where a frame is found
abbrev pub is_marker_seen : {T : Type 0} → Scene T → ℕ → Bool
is_marker_seen v p =
    (has_come v.arrived (v.base + p) && (has_come v.arrived (v.base + (p + 1)) && (has_come v.arrived (v.base + (p + 2)) && has_come v.arrived (v.base + (p + 3)))))
    && not (overlaps_placed v.records p (p + 4))

abbrev pub points_to : {T : Type 0} → Scene T → ℕ → ℕ → Bool
points_to v p s = if pointer_at (octet_of v) p == 0 then s == p + 4 else s + pointer_at (octet_of v) p == p

abbrev pub ends_before : ℕ → ℕ → Bool
ends_before end s = (end == s) || ((end % 512 == 0) && (end + 4 == s))

-- the test holds of a number below n
unfoldable pub any_below : (ℕ → Bool) → ℕ → Bool
any_below test zero = false
any_below test (suc n) = test n || any_below test n

-- the k-th marker stands at place 512 * k; past the last octet that came there is none
abbrev pub is_pointed : {T : Type 0} → Scene T → ℕ → Bool
is_pointed v s = any_below (λ k. is_marker_seen v (512 * k) && points_to v (512 * k) s) (end_of_arrived v.arrived)

abbrev pub is_found : {T : Type 0} → Scene T → ℕ → Bool
is_found v s = is_pointed v s || list_any (λ r. ends_before r.end s) v.records

-- ---- where one may be judged
abbrev pub is_open : {T : Type 0} → Scene T → ℕ → Bool
is_open v s =
    ((s % 4 == 0) && not (in_marker v.layout.markers s))
    && (is_whole v.arrived v.layout.markers v.base s
    && (nat_le (point_of v) (span_start v.layout.markers s)
    && (not (s == front_of v)
    && not (overlaps_one v.records s (end_of v s)))))

abbrev pub is_free : {T : Type 0} → Scene T → ℕ → Bool
is_free v s = is_open v s && is_found v s

-- ---- the lowest
-- the first of the n places from `from` on that passes the test
unfoldable pub first_of : (ℕ → Bool) → ℕ → ℕ → Option ℕ
first_of test from zero = None
first_of test from (suc n) = if test from then Some from else first_of test (from + 1) n

-- as far as octets came past the in-order point
abbrev pub lowest_free : {T : Type 0} → Scene T → Option ℕ
lowest_free v = first_of (is_free v) (point_of v) (length v.arrived.cells)

-- where a frame is judged early: while there are markers and there is room for a record
abbrev pub early_place : {T : Type 0} → Scene T → Option ℕ
early_place v = if v.layout.markers && nat_lt (length v.records) max_records then lowest_free v else None

-- ---- they say what they are tests of
abbrev pub LowestIsTold : Type 0 → Type 0
LowestIsTold T = (v : Scene T) → v.base ≤ v.arrived.floor → MatchOption (lowest_free v) ((s : ℕ) → IsFree v s → ⊥) (λ s. IsLowest v s)

abbrev pub OverlapsAreTold : Type 0 → Type 0
OverlapsAreTold T = (rs : List (Record T)) (start end : ℕ) → Decides (overlaps_placed rs start end) (OverlapsPlaced rs start end)
