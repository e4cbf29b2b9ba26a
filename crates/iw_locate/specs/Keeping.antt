-- What is so of records and of what came, and what each change leaves so.
use Rattle.std.specs.Prelude.{ℕ, ◌+◌, ◌-◌, ◌^◌, ◌<◌, ◌≤◌, ◌≡◌, ◌⊎◌, true, false, List, [], length, slice_index}
use Rattle.std.specs.List.{Contains}
use Rattle.iw_ranges.specs.declared.Delivery.TheVariants.{Kept}
use Rattle.iw_ranges.specs.Arrived.{Arrived, Missing, Gone, cell_at, has_come, delivery, delivered, advanced, released, emptied, IsWithinLimits}
use Rattle.iw_fpdu.specs.declared.layout.Layout.{Layout}
use Rattle.iw_fpdu.specs.Frame.{frame_end}
use Rattle.iw_fpdu.specs.Laws.{IsBetween}
use Rattle.iw_locate.specs.declared.frame.Frame.{Frame}
use Rattle.iw_locate.specs.declared.frame.Next.{Next}
use Rattle.iw_locate.specs.declared.frame.Next.TheVariants.{Frame as Found, Nothing}
use Rattle.iw_locate.specs.declared.judged.Record.{Record}
use Rattle.iw_locate.specs.declared.judged.State.{State}
use Rattle.iw_locate.specs.declared.unsearched.Unsearched.{Unsearched}
use Rattle.iw_locate.specs.Records.{from_of, IsPlaced, added, kept_from}
use Rattle.iw_locate.specs.Free.{Scene, scene_of, point_of, front_of, octet_of, GivesUpOnlyPlaced, CanLocate}
use Rattle.iw_locate.specs.Next.{IsNext}
use Rattle.iw_locate.specs.Unsearched.{Tells, IsFollowed, everything, nothing_from, nothing_unsearched, counted_from, with_octets, past_frame, from_place, anywhere}

-- the records of frames that were judged early, and what came: each span lies wholly ahead of the in-order point and is whole, and from that point on only
-- octets of placed frames were given up; that the spans are in order, and no two have a place in common, is so of a `Judged` at any time
pub record Keeps {T : Type 0} (v : Scene T) : Type 0 where
  pub based : v.base ≤ v.arrived.floor
  pub between : IsBetween v.layout.markers (point_of v)
  pub marked : v.layout.markers ≡ false → v.records ≡ []
  pub records : (r : Record T) → Contains v.records r → point_of v ≤ from_of r
  pub whole : (r : Record T) → Contains v.records r → (q : ℕ) → from_of r ≤ q → q < r.end → has_come v.arrived (v.base + q) ≡ true
  pub ends : (r : Record T) → Contains v.records r → r.end ≡ frame_end true r.start r.length
  pub released : GivesUpOnlyPlaced v

-- the frame at the in-order point has no placed record: where it has one, its turn comes before anything is looked for
abbrev pub IsFrontUnplaced : {T : Type 0} → Scene T → Type 0
IsFrontUnplaced {T} v = (r : Record T) → Contains v.records r → IsPlaced r.state → r.start ≡ front_of v → ⊥

-- another arrival, other records
abbrev pub changed : {T : Type 0} → Scene T → Arrived → List (Record T) → Scene T
changed v arrived records = scene_of v.layout v.base arrived records

abbrev pub record_of : {T : Type 0} → Frame → State T → Record T
record_of f state = record { start = f.start; length = f.length; end = f.end; state = state }

-- the frame at the in-order point has its turn, and ends at place `to` of the stream, over which no placed frame reaches
pub record IsPassed {T : Type 0} (v : Scene T) (to : ℕ) : Type 0 where
  pub past : front_of v < to - v.base
  pub between : IsBetween v.layout.markers (to - v.base)
  pub come : (p : ℕ) → p < to → has_come v.arrived p ≡ true
  pub placed : (r : Record T) → Contains v.records r → IsPlaced r.state → from_of r < to - v.base → r.end ≤ to - v.base

-- ---- what is kept
abbrev pub KeptCanLocate : Type 0 → Type 0
KeptCanLocate T = (v : Scene T) → Keeps v → v.arrived.floor ≤ 2 ^ 62 → IsFrontUnplaced v → CanLocate v

-- no record yet, and nothing given up
abbrev pub NoRecordKeeps : Type 0 → Type 0
NoRecordKeeps T = (v : Scene T) → v.base ≤ v.arrived.floor → IsBetween v.layout.markers (point_of v) → v.records ≡ [] → ((q : ℕ) → point_of v ≤ q → cell_at v.arrived (v.base + q) ≡ Gone → ⊥) → Keeps v

-- nothing is known but that octets are octets
abbrev pub EverythingTells : Type 0 → Type 0
EverythingTells T = (v : Scene T) → v.base ≤ v.arrived.floor → v.arrived.floor ≤ 2 ^ 62 → IsWithinLimits v.arrived → ((q : ℕ) → octet_of v q < 256) → Tells v everything

-- nothing came
abbrev pub NothingTells : Type 0 → Type 0
NothingTells T = (v : Scene T) → ((q : ℕ) → cell_at v.arrived (v.base + q) ≡ Missing) → Tells v nothing_unsearched

-- the start-up frame ended, which was awaited from place 0 on
abbrev pub StartUpTells : Type 0 → Type 0
StartUpTells T = (v : Scene T) (u : Unsearched) (layout : Layout) (base : ℕ) → v.base ≡ 0 → Tells v u → Tells (scene_of layout base v.arrived v.records) (counted_from u base)

-- a record of the frame that was answered is added, of which what is unsearched may be told
abbrev pub JudgingKeeps : Type 0 → Type 0
JudgingKeeps T = (v : Scene T) (u : Unsearched) (f : Frame) (state : State T) → Keeps v → Tells v u → IsNext v (Found f) → f.early ≡ true → IsFollowed u f
    → let w = changed v v.arrived (added v.records (record_of f state)) in Keeps w × Tells w u × Tells w (past_frame u f)

-- a segment is kept
abbrev pub DeliveryKeeps : Type 0 → Type 0
DeliveryKeeps T = (v : Scene T) (u : Unsearched) (place : ℕ) (octets : List ℕ) → Keeps v → Tells v u → delivery v.arrived place (length octets) ≡ Kept → ((k : ℕ) → slice_index octets k < 256)
    → let w = changed v (delivered v.arrived place octets) v.records in Keeps w × Tells w (with_octets u (place - v.base) (place + length octets - v.base))

-- the octets of a placed frame are given up
abbrev pub ReleaseKeeps : Type 0 → Type 0
ReleaseKeeps T = (v : Scene T) (u : Unsearched) (r : Record T) → Keeps v → Tells v u → Contains v.records r → IsPlaced r.state
    → let w = changed v (released v.arrived (v.base + from_of r) (v.base + r.end)) v.records in Keeps w × Tells w u

-- the in-order point moves on to where the frame there ends, and the records before it are dropped: what lies before it need not be looked at any more; a frame
-- that was tried, and reaches past it, had kept others from being judged
abbrev pub TurnKeeps : Type 0 → Type 0
TurnKeeps T = (v : Scene T) (u left : Unsearched) (to : ℕ) → Keeps v → Tells v u → IsPassed v to
    → ((left ≡ from_place u (to - v.base)) × ((r : Record T) → Contains v.records r → from_of r < to - v.base → r.end ≤ to - v.base)) ⊎ (left ≡ anywhere u)
    → let w = changed v (advanced v.arrived to) (kept_from (to - v.base) v.records) in Keeps w × Tells w left

-- what came past the in-order point is given up, and every record: the direction is one of which nothing came from that point on, so that nothing can be judged
-- until more comes
abbrev pub emptied_past : {T : Type 0} → Scene T → Scene T
emptied_past v = changed v (emptied v.arrived) []

abbrev pub GivingUpKeeps : Type 0 → Type 0
GivingUpKeeps T = (v : Scene T) → Keeps v
    → let w = emptied_past v in Keeps w × IsFrontUnplaced w × Tells w (nothing_from (point_of v)) × ((next : Next) → IsNext w next → next ≡ Nothing)
