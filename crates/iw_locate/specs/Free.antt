-- Which frames can be judged before their turn.
use Rattle.std.specs.Prelude.{ℕ, ◌+◌, ◌-◌, ◌%◌, ◌^◌, ◌<◌, ◌≤◌, ◌≡◌, ◌⊎◌, true, false, List, []}
use Rattle.std.specs.List.{Contains}
use Rattle.iw_ranges.specs.Arrived.{Arrived, Gone, cell_at, has_come}
use Rattle.iw_fpdu.specs.declared.layout.Layout.{Layout}
use Rattle.iw_fpdu.specs.Places.{IsStart, frame_start, span_start}
use Rattle.iw_fpdu.specs.Reading.{end_at, pointer_at}
use Rattle.iw_fpdu.specs.Found.{octet_in, IsWhole}
use Rattle.iw_fpdu.specs.Laws.{IsBetween}
use Rattle.iw_locate.specs.declared.judged.Record.{Record}
use Rattle.iw_locate.specs.Records.{from_of, IsPlaced, IsClear, IsClearOfPlaced}

-- how the direction is laid out, the place in the stream of frame place 0, what came, and the records
pub record Scene (T : Type 0) : Type 0 where
  pub layout : Layout
  pub base : ℕ
  pub arrived : Arrived
  pub records : List (Record T)

abbrev pub scene_of : {T : Type 0} → Layout → ℕ → Arrived → List (Record T) → Scene T
scene_of layout base arrived records = record { layout = layout; base = base; arrived = arrived; records = records }

-- the in-order point as a frame place, and where the frame there begins
abbrev pub point_of : {T : Type 0} → Scene T → ℕ
point_of v = v.arrived.floor - v.base

abbrev pub front_of : {T : Type 0} → Scene T → ℕ
front_of v = frame_start v.layout.markers (point_of v)

-- what stands at a frame place
abbrev pub octet_of : {T : Type 0} → Scene T → ℕ → ℕ
octet_of v = octet_in v.arrived v.base

abbrev pub end_of : {T : Type 0} → Scene T → ℕ → ℕ
end_of v start = end_at (octet_of v) v.layout.markers start

-- ---- where a frame is found
-- a marker stands at p, its four octets came, and it lies in no placed frame
pub record IsMarkerSeen {T : Type 0} (v : Scene T) (p : ℕ) : Type 0 where
  pub marker : p % 512 ≡ 0
  pub came : (q : ℕ) → p ≤ q → q < p + 4 → has_come v.arrived (v.base + q) ≡ true
  pub outside : IsClearOfPlaced v.records p (p + 4)

-- what it says: 0 points to the place past it, anything else so far back; the two low bits count as zero
abbrev pub PointsTo : {T : Type 0} → Scene T → ℕ → ℕ → Type 0
PointsTo v p s = ((pointer_at (octet_of v) p ≡ 0) × (s ≡ p + 4)) ⊎ ((0 < pointer_at (octet_of v) p) × (s + pointer_at (octet_of v) p ≡ p))

-- a frame that ends at `end` ends at s, or at the marker directly before s
abbrev pub EndsBefore : ℕ → ℕ → Type 0
EndsBefore end s = (end ≡ s) ⊎ ((end % 512 ≡ 0) × (end + 4 ≡ s))

-- a marker points to s, or a frame with a record ends there
abbrev pub IsFound : {T : Type 0} → Scene T → ℕ → Type 0
IsFound {T} v s = ((p : ℕ) × IsMarkerSeen v p × PointsTo v p s) ⊎ ((r : Record T) × Contains v.records r × EndsBefore r.end s)

-- ---- where one may be judged
-- s is no marker's place, the frame there is whole, lies wholly past the in-order point, is not the frame there, and overlaps none with a record
pub record IsOpen {T : Type 0} (v : Scene T) (s : ℕ) : Type 0 where
  pub start : IsStart v.layout.markers s
  pub whole : IsWhole v.arrived v.layout.markers v.base s
  pub past : point_of v ≤ span_start v.layout.markers s
  pub other : s ≡ front_of v → ⊥
  pub clear : IsClear v.records s (end_of v s)

-- the frame at s can be judged early
pub record IsFree {T : Type 0} (v : Scene T) (s : ℕ) : Type 0 where
  pub found : IsFound v s
  pub open_ : IsOpen v s

-- ---- what a caller keeps
-- from the in-order point on only octets of placed frames were given up
abbrev pub GivesUpOnlyPlaced : {T : Type 0} → Scene T → Type 0
GivesUpOnlyPlaced {T} v = (q : ℕ) → point_of v ≤ q → cell_at v.arrived (v.base + q) ≡ Gone
    → (r : Record T) × Contains v.records r × IsPlaced r.state × (from_of r ≤ q) × (q < r.end)

pub record CanLocate {T : Type 0} (v : Scene T) : Type 0 where
  -- the in-order point lies past the start-up frame, at the end of a frame
  pub based : v.base ≤ v.arrived.floor
  pub low : v.arrived.floor ≤ 2 ^ 62
  pub between : IsBetween v.layout.markers (point_of v)
  -- records are of frames whose spans begin at the in-order point or past it, and are made only where there are markers
  pub marked : v.layout.markers ≡ false → v.records ≡ []
  pub records : (r : Record T) → Contains v.records r → point_of v ≤ from_of r
  -- the frame at the in-order point wasn't placed
  pub turn : (r : Record T) → Contains v.records r → IsPlaced r.state → r.start ≡ front_of v → ⊥
  pub released : GivesUpOnlyPlaced v
