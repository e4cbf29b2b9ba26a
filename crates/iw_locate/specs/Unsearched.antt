-- What has to be looked at for a frame that can be judged early.
use Rattle.std.specs.Prelude.{ℕ, true, ◌+◌, ◌-◌, ◌%◌, ◌^◌, ◌<◌, ◌≤◌, ◌≡◌, ◌⊎◌, false, nat_lt, nat_le, min, max, if◌then◌else◌}
use Rattle.iw_ranges.specs.Arrived.{has_come}
use Rattle.iw_fpdu.specs.Places.{span_start}
use Rattle.iw_locate.specs.declared.frame.Frame.{Frame}
use Rattle.iw_locate.specs.declared.unsearched.Unsearched.{Unsearched}
use Rattle.iw_locate.specs.Free.{Scene, octet_of, end_of, IsMarkerSeen, PointsTo, EndsBefore, IsFree}
use Rattle.iw_locate.specs.Among.{IsWithin}

-- a place from `from` up to `to` lies in the span of the frame at s
abbrev pub HasPlaceIn : {T : Type 0} → Scene T → ℕ → ℕ → ℕ → Type 0
HasPlaceIn v from to s = (q : ℕ) × IsWithin from to q × (span_start v.layout.markers s ≤ q) × (q < end_of v s)

-- or in a marker that points to s
abbrev pub IsPointedIn : {T : Type 0} → Scene T → ℕ → ℕ → ℕ → Type 0
IsPointedIn v from to s = (q p : ℕ) × IsWithin from to q × IsMarkerSeen v p × PointsTo v p s × (p ≤ q) × (q < p + 4)

abbrev pub IsTouched : {T : Type 0} → Scene T → ℕ → ℕ → ℕ → Type 0
IsTouched v from to s = HasPlaceIn v from to s ⊎ IsPointedIn v from to s

-- ---- what is told of a scene
-- where there are markers a free place is one of those from `low` up to `high`, or was touched by what came from `from` up to `to`; nothing came from `reach` on; and octets are octets
pub record Tells {T : Type 0} (v : Scene T) (u : Unsearched) : Type 0 where
  pub free : v.layout.markers ≡ true → (s : ℕ) → IsFree v s → IsWithin u.low u.high s ⊎ IsTouched v u.from u.to s
  pub reach : (q : ℕ) → u.reach ≤ q → has_come v.arrived (v.base + q) ≡ false
  pub octets : (q : ℕ) → octet_of v q < 256

-- the frame is the lowest that was found, and what begins where it ends will be looked at
pub record IsFollowed (u : Unsearched) (f : Frame) : Type 0 where
  pub none : u.to ≡ 0
  pub low : u.low ≤ f.start
  pub next : (s : ℕ) → EndsBefore f.end s → 4 ≤ s % 512 → s < u.high

-- ---- what the calls make of it
abbrev pub everything : Unsearched
everything = record { from = 0; to = 0; low = 0; high = 2 ^ 63; reach = 2 ^ 63 }

-- nothing came at `place` or past it
abbrev pub nothing_from : ℕ → Unsearched
nothing_from place = record { from = 0; to = 0; low = 0; high = 0; reach = place }

abbrev pub nothing_unsearched : Unsearched
nothing_unsearched = nothing_from 0

-- places count from `base` on, and frames may begin anywhere
abbrev pub counted_from : Unsearched → ℕ → Unsearched
counted_from u base = record { from = 0; to = 0; low = 0; high = u.reach - base; reach = u.reach - base }

-- octets came from frame place `from` up to `to`
abbrev pub joined_from : Unsearched → ℕ → ℕ
joined_from u from = if nat_lt u.from u.to then min u.from from else from

abbrev pub joined_to : Unsearched → ℕ → ℕ
joined_to u to = if nat_lt u.from u.to then max u.to to else to

abbrev pub with_octets : Unsearched → ℕ → ℕ → Unsearched
with_octets u from to = if nat_lt from to then record u { from = joined_from u from; to = joined_to u to; reach = max u.reach to } else u

-- only frames that begin where this one ends, or past it: none where nothing came there
abbrev pub past_frame : Unsearched → Frame → Unsearched
past_frame u f = if nat_le u.reach f.end then record u { low = 0; high = 0 } else record u { low = f.end }

-- besides what came, only frames that begin at `low` or past it
abbrev pub from_low : Unsearched → ℕ → Unsearched
from_low u low = record u { low = low }

-- frames that begin at `place` or past it, and octets from there on
abbrev pub from_place : Unsearched → ℕ → Unsearched
from_place u place = record u { from = max u.from place; low = max u.low place }

-- frames that begin anywhere
abbrev pub anywhere : Unsearched → Unsearched
anywhere u = record u { low = 0; high = u.reach }

-- only frames that begin from `low` up to `high`
abbrev pub only_from : Unsearched → ℕ → ℕ → Unsearched
only_from u low high = record u { from = 0; to = 0; low = low; high = high }

-- what is left once this frame was found
pub record IsLeftBy (u left : Unsearched) (f : Frame) : Type 0 where
  pub followed : IsFollowed left f
  pub low : left.low ≡ f.start
  pub high : u.high ≤ left.high
  pub reach : left.reach ≡ u.reach
