use Rattle.std.proofs.Common.{arith}
use Rattle.iw_fpdu.proofs.Octets.{length_within}
use Rattle.iw_locate.specs.Free.{Scene, scene_of}
use Rattle.iw_locate.proofs.Open.{start_from, start_high, not_open_far, not_open_short}
use Rattle.iw_locate.proofs.locator.Locator.open_at.Goals as goal
use Rattle.iw_locate.proofs.locator.Locator.open_at.Goals.{then-start-via-then-start, then-start-via-else-start+then-start-ne0, then-start-via-else-start+else-start-ne0+then-start-lt-MARKER}

pub returns-then-start : goal.returns-then-start
returns-then-start g c =
    let v : Scene g.row.T.Denot = scene_of c.args.self.now.layout c.args.self.now.base c.args.islands.now.arrived c.args.judged.now.records in
    λ open_.
    elim (c.then-start.branch) [
      | then-start-via-then-start w ↦ not_open_far v c.requires.can c.requires.markers c.args.start c.limits.ensures (omega (arith, w.if-start.true)) open_
      | then-start-via-else-start+then-start-ne0 w ↦ absurd (omega (arith, w.if-start-ne0.true, open_.start.aligned))
      | then-start-via-else-start+else-start-ne0+then-start-lt-MARKER w ↦ omega (arith, w.if-start-lt-MARKER.true, start_high v.layout.markers c.args.start c.requires.markers open_.start)
    ]

pub returns-then-not-all_came : goal.returns-then-not-all_came
returns-then-not-all_came g c =
    let v : Scene g.row.T.Denot = scene_of c.args.self.now.layout c.args.self.now.base c.args.islands.now.arrived c.args.judged.now.records in
    not_open_short v c.requires.can c.requires.markers c.args.start c.length-len.result c.end_of-end.result c.length-len.ensures c.end_of-end.ensures c.if-not-all_came.ensures.came

pub all_came-requires : goal.all_came-requires
all_came-requires g c =
    omega (arith, c.end_of-end.ensures, length_within c.args.self.now.layout.markers c.args.start c.length-len.result (start_from c.args.self.now.layout.markers c.args.start c.requires.markers (omega (arith, c.if-start-ne0.false)) (omega (arith, c.if-start-lt-MARKER.false))))

pub open_to-requires-clause-start : goal.open_to-requires-clause-start
open_to-requires-clause-start g c = start_from c.args.self.now.layout.markers c.args.start c.requires.markers (omega (arith, c.if-start-ne0.false)) (omega (arith, c.if-start-lt-MARKER.false))
