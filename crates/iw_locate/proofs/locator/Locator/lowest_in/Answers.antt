use Rattle.std.proofs.Common.{arith}
use Rattle.iw_locate.specs.Free.{Scene, scene_of}
use Rattle.iw_locate.proofs.Lowest.{found_both, below_high}
use Rattle.iw_locate.proofs.locator.Locator.lowest_in.Goals as goal

pub lowest_pointed-pointed-requires-clause-high : goal.lowest_pointed-pointed-requires-clause-high
lowest_pointed-pointed-requires-clause-high g c =
    let v : Scene g.row.T.Denot = scene_of c.args.self.now.layout c.args.self.now.base c.args.islands.now.arrived c.args.judged.now.records in
    omega (arith, below_high v c.args.low c.args.high c.start_or-below.result c.lowest_past-past.result c.start_or-below.ensures c.lowest_past-past.ensures, c.requires.high)

pub lowest_pointed-pointed-requires-clause-end : goal.lowest_pointed-pointed-requires-clause-end
lowest_pointed-pointed-requires-clause-end g c =
    let v : Scene g.row.T.Denot = scene_of c.args.self.now.layout c.args.self.now.base c.args.islands.now.arrived c.args.judged.now.records in
    let below = below_high v c.args.low c.args.high c.start_or-below.result c.lowest_past-past.result c.start_or-below.ensures c.lowest_past-past.ensures in
    λ p s seen points lt. c.requires.end p s seen points (omega (arith, lt, below))

pub returns : goal.returns
returns g c =
    let v : Scene g.row.T.Denot = scene_of c.args.self.now.layout c.args.self.now.base c.args.islands.now.arrived c.args.judged.now.records in
    found_both v c.args.low c.args.high c.start_or-below.result c.lowest_past-past.result c.lowest_pointed-pointed.result c.lower.result c.start_or-below.ensures c.lower.ensures c.lowest_past-past.ensures
    c.lowest_pointed-pointed.ensures
