use Rattle.std.proofs.Common.{arith}
use Rattle.iw_locate.specs.Free.{Scene, scene_of, EndsBefore}
use Rattle.iw_locate.specs.Among.{IsWithin}
use Rattle.iw_locate.proofs.Open.{start_high, not_open_far}
use Rattle.iw_locate.proofs.Lowest.{among_one, ends_near}
use Rattle.iw_locate.proofs.locator.Locator.past_end.Goals as goal
use Rattle.iw_locate.proofs.locator.Locator.past_end.Goals.{then-start-low-via-then-start-low, then-start-low-via-else-start-low+then-high-start}

pub returns-then-end : goal.returns-then-end
returns-then-end g c =
    let v : Scene g.row.T.Denot = scene_of c.args.self.now.layout c.args.self.now.base c.args.islands.now.arrived c.args.judged.now.records in
    λ s q open_. not_open_far v c.requires.can c.requires.markers s c.limits.ensures (omega (arith, c.if-end.true, (ends_near c.args.end s q.1).0)) open_

pub returns-then-start-low : goal.returns-then-start-low
returns-then-start-low g c =
    let v : Scene g.row.T.Denot = scene_of c.args.self.now.layout c.args.self.now.base c.args.islands.now.arrived c.args.judged.now.records in
    λ s q open_.
    let same = c.start_past-start.ensures.only s q.1 (start_high v.layout.markers s c.requires.markers open_.start) in
    elim (c.then-start-low.branch) [
      | then-start-low-via-then-start-low w ↦ omega (arith, same, w.if-start-low.true, q.0.low)
      | then-start-low-via-else-start-low+then-high-start w ↦ omega (arith, same, w.if-high-start.true, q.0.high)
    ]

pub returns : goal.returns
returns g c =
    let v : Scene g.row.T.Denot = scene_of c.args.self.now.layout c.args.self.now.base c.args.islands.now.arrived c.args.judged.now.records in
    among_one v (λ s. IsWithin c.args.low c.args.high s × EndsBefore c.args.end s) c.start_past-start.result c.open_at.result
    (record { low = c.if-start-low.false; high = c.if-high-start.false }, c.start_past-start.ensures.ends)
    (λ s q open_. c.start_past-start.ensures.only s q.1 (start_high v.layout.markers s c.requires.markers open_.start)) c.open_at.ensures
