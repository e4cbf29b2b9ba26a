use Rattle.std.proofs.Common.{arith}
use Rattle.iw_locate.specs.Free.{Scene, scene_of}
use Rattle.iw_locate.proofs.Told.{quiet}
use Rattle.iw_locate.proofs.locator.Locator.is_quiet.Goals as goal

pub returns-then-unsearched-max-2 : goal.returns-then-unsearched-max-2
returns-then-unsearched-max-2 g c =
    let v : Scene g.row.T.Denot = scene_of c.args.self.now.layout c.args.self.now.base c.args.islands.now.arrived c.args.judged.now.records in
    λ test. quiet v c.requires.can c.if-not-self.false c.args.unsearched.now c.floor.ensures.limits c.requires.tells (omega (arith, c.if-unsearched-max.true, c.max.ensures, c.floor.ensures.floor)) (omega (arith, c.if-unsearched-max-2.true, c.max-then-unsearched-max.ensures, c.floor.ensures.floor))
