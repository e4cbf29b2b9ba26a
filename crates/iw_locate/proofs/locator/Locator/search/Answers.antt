use Rattle.std.proofs.Common.{arith}
use Rattle.iw_locate.specs.Free.{Scene, scene_of}
use Rattle.iw_locate.proofs.Told.{pointer_end}
use Rattle.iw_locate.proofs.locator.Locator.search.Goals as goal

pub lowest_in-requires-clause-end : goal.lowest_in-requires-clause-end
lowest_in-requires-clause-end g c =
    let v : Scene g.row.T.Denot = scene_of c.args.self.now.layout c.args.self.now.base c.args.islands.now.arrived c.args.judged.now.records in
    λ p s seen points below.
    let near = pointer_end v c.requires.can c.requires.markers c.args.unsearched c.args.unsearched.high c.limits.ensures c.requires.tells p s seen points below in
    omega (arith, near, c.min.ensures, c.min-end.ensures, c.requires.point)
