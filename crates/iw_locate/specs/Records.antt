-- Records of the frames that were judged before their turn.
use Rattle.std.specs.Prelude.{ℕ, ◌<◌, ◌≤◌, true, nat_lt, nat_le, List, length, slice_index_or}
use Rattle.std.specs.List.{Contains, count_by, filter, insert}
use Rattle.iw_fpdu.specs.Places.{IsStart, span_start}
use Rattle.iw_locate.specs.declared.judged.Record.{Record}
use Rattle.iw_locate.specs.declared.judged.State.{State}
use Rattle.iw_locate.specs.declared.judged.State.TheVariants.{Tried, Placed}

-- the records, lowest first, and how many more there is room for
pub record Held (T : Type 0) : Type 0 where
  pub records : List (Record T)
  pub room : ℕ

abbrev pub max_records : ℕ
max_records = 4096

-- where the span of a record's frame begins: records are kept only where there are markers
abbrev pub from_of : {T : Type 0} → Record T → ℕ
from_of r = span_start true r.start

abbrev pub IsPlaced : {T : Type 0} → State T → Type 0
IsPlaced Tried = ⊥
IsPlaced (Placed x) = Unit {0}

-- ---- overlaps
-- the spans of a record's frame and of the frame from `start` to `end` have a place in common
abbrev pub Overlaps : {T : Type 0} → Record T → ℕ → ℕ → Type 0
Overlaps r start end = (from_of r < end) × (span_start true start < r.end)

-- the frame overlaps that of one of the records
abbrev pub OverlapsOne : {T : Type 0} → List (Record T) → ℕ → ℕ → Type 0
OverlapsOne {T} rs start end = (r : Record T) × Contains rs r × Overlaps r start end

-- it overlaps none of them
abbrev pub IsClear : {T : Type 0} → List (Record T) → ℕ → ℕ → Type 0
IsClear {T} rs start end = (r : Record T) → Contains rs r → Overlaps r start end → ⊥

-- the same of the frames that were placed
abbrev pub OverlapsPlaced : {T : Type 0} → List (Record T) → ℕ → ℕ → Type 0
OverlapsPlaced {T} rs start end = (r : Record T) × Contains rs r × IsPlaced r.state × Overlaps r start end

abbrev pub IsClearOfPlaced : {T : Type 0} → List (Record T) → ℕ → ℕ → Type 0
IsClearOfPlaced {T} rs start end = (r : Record T) → Contains rs r → IsPlaced r.state → Overlaps r start end → ⊥

-- ---- what is so of the records at any time: in order, no two spans with a place in common
pub record AreApart {T : Type 0} (rs : List (Record T)) : Type 0 where
  pub start : (i : ℕ) (d : Record T) → i < length rs → IsStart true (slice_index_or rs i d).start
  pub some : (i : ℕ) (d : Record T) → i < length rs → (slice_index_or rs i d).start < (slice_index_or rs i d).end
  pub order : (i j : ℕ) (d : Record T) → i < j → j < length rs → (slice_index_or rs i d).end ≤ from_of (slice_index_or rs j d)

pub record IsWithinLimits {T : Type 0} (rs : List (Record T)) : Type 0 where
  pub apart : AreApart rs
  pub few : length rs ≤ max_records

-- ---- what the calls leave
-- one record more, past those of the frames that begin before it
abbrev pub added : {T : Type 0} → List (Record T) → Record T → List (Record T)
added rs r = insert rs (count_by (λ x. nat_lt x.start r.start) rs) r

-- the records of the frames whose spans begin at `place` or past it
abbrev pub kept_from : {T : Type 0} → ℕ → List (Record T) → List (Record T)
kept_from place rs = filter (λ r. nat_le place (from_of r)) rs

-- ---- where a search ends
-- the record at i is the first that ends past `place`, or there is none and i is their number
pub record IsFirstPast {T : Type 0} (rs : List (Record T)) (place i : ℕ) : Type 0 where
  pub within : i ≤ length rs
  pub before : (k : ℕ) (d : Record T) → k < i → (slice_index_or rs k d).end ≤ place
  pub past : (k : ℕ) (d : Record T) → i ≤ k → k < length rs → place < (slice_index_or rs k d).end

-- i records begin before `start`, and the others at it or past it
pub record IsPlaceFor {T : Type 0} (rs : List (Record T)) (start i : ℕ) : Type 0 where
  pub within : i ≤ length rs
  pub before : (k : ℕ) (d : Record T) → k < i → (slice_index_or rs k d).start < start
  pub past : (k : ℕ) (d : Record T) → i ≤ k → k < length rs → start ≤ (slice_index_or rs k d).start
