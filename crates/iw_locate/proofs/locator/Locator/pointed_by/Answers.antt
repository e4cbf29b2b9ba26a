use Rattle.std.proofs.Common.{◌≡◌, ◌%◌, ap, arith}
use Rattle.iw_fpdu.specs.Reading.{pointer_at}
use Rattle.iw_locate.specs.Free.{Scene, scene_of, octet_of, IsMarkerSeen}
use Rattle.iw_locate.proofs.Open.{pointed_aligned, pointer_seen, start_from, start_high}
use Rattle.iw_locate.proofs.Lowest.{among_seen, points_one, points_there, points_before}
use Rattle.iw_locate.proofs.locator.Locator.pointed_by.Goals as goal
use Rattle.iw_locate.proofs.locator.Locator.pointed_by.Goals.{then-start-low-via-then-start-low, then-start-low-via-else-start-low+then-high-start, then-start-low-via-else-start-low+else-high-start+then-start-lt-MARKER}

pub returns-then-place-back : goal.returns-then-place-back
returns-then-place-back g c =
    let v : Scene g.row.T.Denot = scene_of c.args.self.now.layout c.args.self.now.base c.args.islands.now.arrived c.args.judged.now.records in
    λ s q open_. points_before v c.args.place s c.pointer-back.result (pointer_seen v c.requires.can c.requires.markers c.args.place c.pointer-back.result (omega (arith, c.requires.past, c.requires.point)) c.pointer-back.ensures.value q.1) c.if-place-back.true q.2

pub returns-then-start-low : goal.returns-then-start-low
returns-then-start-low g c =
    let v : Scene g.row.T.Denot = scene_of c.args.self.now.layout c.args.self.now.base c.args.islands.now.arrived c.args.judged.now.records in
    let start = c.pointed_from-start.ensures in
    λ s q open_.
    let same = points_one v c.args.place c.pointer-back.result c.pointed_from-start.result (pointer_seen v c.requires.can c.requires.markers c.args.place c.pointer-back.result (omega (arith, c.requires.past, c.requires.point)) c.pointer-back.ensures.value q.1) start.none start.some s q.2 in
    elim (c.then-start-low.branch) [
      | then-start-low-via-then-start-low w ↦ omega (arith, same, w.if-start-low.true, q.0.low)
      | then-start-low-via-else-start-low+then-high-start w ↦ omega (arith, same, w.if-high-start.true, q.0.high)
      | then-start-low-via-else-start-low+else-high-start+then-start-lt-MARKER w ↦ omega (arith, ap (λ x. x % 512) same, w.if-start-lt-MARKER.true, start_high v.layout.markers s c.requires.markers open_.start)
    ]

pub returns : goal.returns
returns g c =
    let v : Scene g.row.T.Denot = scene_of c.args.self.now.layout c.args.self.now.base c.args.islands.now.arrived c.args.judged.now.records in
    let start = c.pointed_from-start.ensures in
    let value : IsMarkerSeen v c.args.place → c.pointer-back.result ≡ pointer_at (octet_of v) c.args.place =
    pointer_seen v c.requires.can c.requires.markers c.args.place c.pointer-back.result (omega (arith, c.requires.past, c.requires.point)) c.pointer-back.ensures.value in
    among_seen v c.args.low c.args.high c.args.place c.pointed_from-start.result c.seen_at.result (record { low = c.if-start-low.false; high = c.if-high-start.false })
    (λ seen. points_there v c.args.place c.pointer-back.result c.pointed_from-start.result (value seen) start.none start.some)
    (λ s q open_. points_one v c.args.place c.pointer-back.result c.pointed_from-start.result (value q.1) start.none start.some s q.2) c.seen_at.ensures

pub seen_at-requires-clause-near : goal.seen_at-requires-clause-near
seen_at-requires-clause-near g c = (pointed_aligned c.args.place c.pointer-back.result c.pointed_from-start.result c.requires.marker c.requires.low c.pointer-back.ensures.aligned c.pointed_from-start.ensures.none c.pointed_from-start.ensures.some).1

pub seen_at-requires-clause-start : goal.seen_at-requires-clause-start
seen_at-requires-clause-start g c =
    start_from c.args.self.now.layout.markers c.pointed_from-start.result c.requires.markers (pointed_aligned c.args.place c.pointer-back.result c.pointed_from-start.result c.requires.marker c.requires.low c.pointer-back.ensures.aligned c.pointed_from-start.ensures.none c.pointed_from-start.ensures.some).0 (omega (arith, c.if-start-lt-MARKER.false))
