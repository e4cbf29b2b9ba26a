-- The lowest of some places where a frame may be judged.
use Rattle.std.specs.Prelude.{ℕ, ◌≤◌, ◌<◌, ◌≡◌, true, nat_lt, Option, Some, None, MatchOption, if◌then◌else◌}
use Rattle.std.specs.List.{Contains}
use Rattle.iw_locate.specs.declared.frame.Frame.{Frame}
use Rattle.iw_locate.specs.declared.judged.Record.{Record}
use Rattle.iw_locate.specs.Free.{Scene, IsMarkerSeen, PointsTo, EndsBefore, IsFound, IsOpen}
use Rattle.iw_locate.specs.Next.{frame_at}

-- the frame at the lowest place with this property where one may be judged, or none if there is no such place
abbrev pub IsLowestAmong : {T : Type 0} → (ℕ → Type 0) → Scene T → Option Frame → Type 0
IsLowestAmong Q v best = MatchOption best ((s : ℕ) → Q s → IsOpen v s → ⊥)
    (λ f. (f ≡ frame_at v f.start true) × Q f.start × IsOpen v f.start × ((s : ℕ) → Q s → IsOpen v s → f.start ≤ s))

-- the lower of two frames
abbrev pub lower_of : Option Frame → Option Frame → Option Frame
lower_of None b = b
lower_of (Some f) None = Some f
lower_of (Some f) (Some g) = if nat_lt g.start f.start then Some g else Some f

-- ---- places from `low` up to `high`
pub record IsWithin (from to s : ℕ) : Type 0 where
  pub low : from ≤ s
  pub high : s < to

-- a marker points to s
abbrev pub IsPointed : {T : Type 0} → Scene T → ℕ → Type 0
IsPointed v s = (p : ℕ) × IsMarkerSeen v p × PointsTo v p s

-- a frame with a record ends at s, or at the marker directly before it
abbrev pub IsPast : {T : Type 0} → Scene T → ℕ → Type 0
IsPast {T} v s = (r : Record T) × Contains v.records r × EndsBefore r.end s

abbrev pub IsPointedWithin : {T : Type 0} → Scene T → ℕ → ℕ → ℕ → Type 0
IsPointedWithin v low high s = IsWithin low high s × IsPointed v s

abbrev pub IsPastWithin : {T : Type 0} → Scene T → ℕ → ℕ → ℕ → Type 0
IsPastWithin v low high s = IsWithin low high s × IsPast v s

abbrev pub IsFoundWithin : {T : Type 0} → Scene T → ℕ → ℕ → ℕ → Type 0
IsFoundWithin v low high s = IsWithin low high s × IsFound v s
