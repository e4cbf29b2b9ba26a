use Rattle.std.proofs.Common.{◌≤◌, ◌<◌, ◌-◌, ℕ, length, get_or}
use Rattle.iw_locate.specs.declared.judged.Record.{Record}
use Rattle.iw_locate.specs.Free.{scene_of, EndsBefore, IsOpen}
use Rattle.iw_locate.specs.Among.{IsWithin}
use Rattle.iw_locate.proofs.locator.Locator.lowest_past.Given as goal

abbrev pub invariant-ends : goal.invariant-ends
invariant-ends g l = record {
  within : l.index ≤ length l.judged.records;
  none : (k : ℕ) (d : Record g.row.T.Denot) (s : ℕ) → k < l.index → IsWithin l.low l.high s → EndsBefore (get_or l.judged.records k d).end s
      → IsOpen (scene_of l.self.layout l.self.base l.islands.arrived l.judged.records) s → ⊥;
}

abbrev pub decreases-ends : goal.decreases-ends
decreases-ends g l = length l.judged.records - l.index
