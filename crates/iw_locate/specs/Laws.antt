-- What is so of records and free places whatever is called, and worked values.
use Rattle.std.specs.Prelude.{ℕ, ◌+◌, ◌%◌, ◌<◌, ◌≤◌, ◌≡◌, ◌⊎◌, ◌↔◌, true, List}
use Rattle.std.specs.List.{Contains}
use Rattle.iw_ranges.specs.Arrived.{Arrived, has_come}
use Rattle.iw_ranges.specs.Laws.{IsLeftOf}
use Rattle.iw_fpdu.specs.Reading.{marker_agrees}
use Rattle.iw_fpdu.specs.Found.{octet_in}
use Rattle.iw_locate.specs.declared.judged.Record.{Record}
use Rattle.iw_locate.specs.Records.{from_of, IsPlaced, AreApart, added, kept_from}
use Rattle.iw_locate.specs.declared.frame.Next.{Next}
use Rattle.iw_locate.specs.Next.{IsNext}
use Rattle.iw_locate.specs.Free.{Scene, PointsTo, EndsBefore, IsOpen, IsFree, GivesUpOnlyPlaced}

-- ---- what the calls leave, record by record
abbrev pub AddsOne : Type 0 → Type 0
AddsOne T = (rs : List (Record T)) (r x : Record T) → Contains (added rs r) x ↔ (Contains rs x ⊎ (r ≡ x))

abbrev pub KeepsFrom : Type 0 → Type 0
KeepsFrom T = (place : ℕ) (rs : List (Record T)) (x : Record T) → Contains (kept_from place rs) x ↔ (Contains rs x × (place ≤ from_of x))

-- ---- octets that were given up
-- `came` is all that came of the stream, also what was given up; and the markers in each placed frame's span agree
pub record IsCameOf {T : Type 0} (v : Scene T) (came : Arrived) : Type 0 where
  pub left : IsLeftOf v.arrived came
  pub checked : (r : Record T) → Contains v.records r → IsPlaced r.state → (p : ℕ) → from_of r ≤ p → p < r.end → p % 512 ≡ 0 → marker_agrees (octet_in came v.base) r.start p ≡ true

-- a marker stands at p and its four octets came, wherever it lies
pub record IsMarkerCame {T : Type 0} (w : Scene T) (p : ℕ) : Type 0 where
  pub marker : p % 512 ≡ 0
  pub came : (q : ℕ) → p ≤ q → q < p + 4 → has_come w.arrived (w.base + q) ≡ true

-- any marker points to s, or a frame with a record ends there; and a frame may be judged there
pub record IsFreeByAny {T : Type 0} (w : Scene T) (s : ℕ) : Type 0 where
  pub found : ((p : ℕ) × IsMarkerCame w p × PointsTo w p s) ⊎ ((r : Record T) × Contains w.records r × EndsBefore r.end s)
  pub open_ : IsOpen w s

-- the free places are those that there are by all the markers, also those in placed frames, of all that came, also what was given up
abbrev pub ReleasesLoseNothing : Type 0 → Type 0
ReleasesLoseNothing T = (v : Scene T) (came : Arrived) → GivesUpOnlyPlaced v → AreApart v.records → IsCameOf v came
    → (s : ℕ) → IsFree v s ↔ IsFreeByAny (record v { arrived = came }) s

-- what is judged next hangs on the scene alone
abbrev pub NextIsOne : Type 0 → Type 0
NextIsOne T = (v : Scene T) (a b : Next) → IsNext v a → IsNext v b → a ≡ b
