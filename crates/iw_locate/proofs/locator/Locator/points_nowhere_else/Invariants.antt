use Rattle.std.proofs.Common.{ℕ, ◌≡◌, ◌<◌, ◌≤◌, ◌-◌, ◌%◌}
use Rattle.iw_locate.specs.Free.{Scene, scene_of, IsMarkerSeen, PointsTo, IsOpen}
use Rattle.iw_locate.proofs.locator.Locator.points_nowhere_else.Given as goal

abbrev pub invariant-markers : goal.invariant-markers
invariant-markers g l = record {
  marker : l.place % 512 ≡ 0;
  past : l.point ≤ l.place;
  none : let v : Scene g.row.T.Denot = scene_of l.self.layout l.self.base l.islands.arrived l.judged.records in
      (p s : ℕ) → p < l.place → IsMarkerSeen v p → PointsTo v p s → IsOpen v s → ⊥;
}

abbrev pub decreases-markers : goal.decreases-markers
decreases-markers g l = l.reach - l.place
