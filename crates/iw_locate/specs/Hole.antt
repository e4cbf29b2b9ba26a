-- A direction with markers of which the first frame didn't come, so that each other is judged before its turn.
use Rattle.std.specs.Prelude.{ℕ, ◌≡◌, true, false, List}
use Rattle.std.specs.List.{Contains}
use Rattle.iw_ranges.specs.Arrived.{Arrived, Gone, cell_at}
use Rattle.iw_fpdu.specs.declared.layout.Layout.{Layout}
use Rattle.iw_locate.specs.declared.judged.Record.{Record}
use Rattle.iw_locate.specs.declared.unsearched.Unsearched.{Unsearched}
use Rattle.iw_locate.specs.Free.{Scene, scene_of}
use Rattle.iw_locate.specs.Unsearched.{Tells}
use Rattle.iw_locate.specs.Keeping.{Keeps}

abbrev pub marked : Layout
marked = record { markers = true; crc = false }

abbrev pub scene : {T : Type 0} → Arrived → List (Record T) → Scene T
scene arrived records = scene_of marked 0 arrived records

-- the in-order point is at place 0, nothing was given up, and no record is of the frame there
pub record IsPastHole {T : Type 0} (arrived : Arrived) (records : List (Record T)) (u : Unsearched) : Type 0 where
  pub floor : arrived.floor ≡ 0
  pub held : (p : ℕ) → cell_at arrived p ≡ Gone → ⊥
  pub front : (r : Record T) → Contains records r → r.start ≡ 4 → ⊥
  pub keeps : Keeps (scene arrived records)
  pub tells : Tells (scene arrived records) u
