use Rattle.iw_locate.specs.Free.{Scene, scene_of}
use Rattle.iw_locate.proofs.Told.{front_not_early}
use Rattle.iw_locate.proofs.locator.Locator.next_since.Goals as goal

pub returns-in-Some-clause-followed : goal.returns-in-Some-clause-followed
returns-in-Some-clause-followed g c =
    let v : Scene g.row.T.Denot = scene_of c.args.self.now.layout c.args.self.now.base c.args.islands.now.arrived c.args.judged.now.records in
    λ f is early. absurd (front_not_early v f c.in-Some.next is c.in-Some.ensures.0 c.in-Some.ensures.1 early)
