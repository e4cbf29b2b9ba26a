use Rattle.std.proofs.Common.{◌≡◌, ◌≤◌, ◌-◌, ◌%◌}
use Rattle.iw_locate.specs.Free.{Scene, scene_of}
use Rattle.iw_locate.specs.Among.{IsLowestAmong}
use Rattle.iw_locate.proofs.Lowest.{IsPointedBelow}
use Rattle.iw_locate.proofs.locator.Locator.lowest_pointed.Given as goal

abbrev pub invariant-markers : goal.invariant-markers
invariant-markers g l = record {
  marker : l.place % 512 ≡ 0;
  past : l.point ≤ l.place;
  lowest : let v : Scene g.row.T.Denot = scene_of l.self.layout l.self.base l.islands.arrived l.judged.records in
      IsLowestAmong (IsPointedBelow v l.low l.high l.place) v l.lowest;
}

abbrev pub decreases-markers : goal.decreases-markers
decreases-markers g l = l.end - l.place
