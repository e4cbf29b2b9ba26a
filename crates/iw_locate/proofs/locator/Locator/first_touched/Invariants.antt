use Rattle.std.proofs.Common.{◌≡◌, ◌≤◌, ◌<◌, ◌+◌, ◌-◌, ◌%◌, ℕ}
use Rattle.iw_locate.specs.Free.{Scene, scene_of, end_of, IsOpen, IsMarkerSeen, PointsTo}
use Rattle.iw_locate.proofs.locator.Locator.first_touched.Given as goal

abbrev pub invariant-markers : goal.invariant-markers
invariant-markers g l = let v : Scene g.row.T.Denot = scene_of l.self.layout l.self.base l.islands.arrived l.judged.records in record {
  marker : l.place % 512 ≡ 0;
  past : l.point ≤ l.place;
  over : (s : ℕ) → IsOpen v s → l.from < end_of v s → l.low ≤ s;
  pointed : (s p q : ℕ) → IsOpen v s → p < l.place → IsMarkerSeen v p → PointsTo v p s → l.from ≤ q → q < p + 4 → l.low ≤ s;
}

abbrev pub decreases-markers : goal.decreases-markers
decreases-markers g l = l.to - l.place
