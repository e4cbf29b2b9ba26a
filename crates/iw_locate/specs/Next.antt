-- Which frame is judged next.
use Rattle.std.specs.Prelude.{ℕ, ◌≤◌, ◌<◌, ◌≡◌, ◌⊎◌, Bool, true, false, length}
use Rattle.iw_fpdu.specs.Reading.{length_at}
use Rattle.iw_fpdu.specs.Found.{IsWhole}
use Rattle.iw_locate.specs.declared.frame.Frame.{Frame}
use Rattle.iw_locate.specs.declared.frame.Next.{Next}
use Rattle.iw_locate.specs.declared.frame.Next.TheVariants.{Frame as Found, Nothing, Mismatch}
use Rattle.iw_locate.specs.Records.{max_records, OverlapsPlaced, IsClearOfPlaced}
use Rattle.iw_locate.specs.Free.{Scene, front_of, octet_of, end_of, IsFree}

-- the frame at s as it is read
abbrev pub frame_at : {T : Type 0} → Scene T → ℕ → Bool → Frame
frame_at v s early = record { start = s; length = length_at (octet_of v) s; end = end_of v s; early = early }

abbrev pub IsFrontWhole : {T : Type 0} → Scene T → Type 0
IsFrontWhole v = IsWhole v.arrived v.layout.markers v.base (front_of v)

-- frames are judged early only where there are markers, and while there is room for a record
abbrev pub CanBeEarly : {T : Type 0} → Scene T → Type 0
CanBeEarly v = (v.layout.markers ≡ true) × (length v.records < max_records)

-- the lowest free place
abbrev pub IsLowest : {T : Type 0} → Scene T → ℕ → Type 0
IsLowest v s = IsFree v s × ((t : ℕ) → IsFree v t → s ≤ t)

abbrev pub IsNone : {T : Type 0} → Scene T → Type 0
IsNone v = CanBeEarly v → (s : ℕ) → IsFree v s → ⊥

abbrev pub IsNext : {T : Type 0} → Scene T → Next → Type 0
-- the frame at the in-order point is whole, and a placed one lies over it
IsNext v Mismatch = IsFrontWhole v × OverlapsPlaced v.records (front_of v) (end_of v (front_of v))
-- it is whole, and none does; or it is not whole, and this is the frame at the lowest free place
IsNext v (Found f) = ((f ≡ frame_at v (front_of v) false) × IsFrontWhole v × IsClearOfPlaced v.records (front_of v) (end_of v (front_of v)))
    ⊎ ((f ≡ frame_at v f.start true) × (IsFrontWhole v → ⊥) × CanBeEarly v × IsLowest v f.start)
-- it is not whole, and no place is free, or none may be taken
IsNext v Nothing = (IsFrontWhole v → ⊥) × IsNone v
