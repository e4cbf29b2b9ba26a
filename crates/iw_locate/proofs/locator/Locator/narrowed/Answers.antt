use Rattle.std.proofs.Common.{sym, refl, subst, arith}
use Rattle.iw_locate.specs.declared.unsearched.Unsearched.{Unsearched}
use Rattle.iw_locate.specs.Free.{Scene, scene_of}
use Rattle.iw_locate.specs.Unsearched.{Tells}
use Rattle.iw_locate.proofs.Told.{from_point}
use Rattle.iw_locate.proofs.locator.Locator.narrowed.Goals as goal

pub returns-clause-tells : goal.returns-clause-tells
returns-clause-tells g c =
    let v : Scene g.row.T.Denot = scene_of c.args.self.now.layout c.args.self.now.base c.args.islands.now.arrived c.args.judged.now.records in
    let taken = c.taken_in-taken in
    c.pass_judged.ensures.tells v refl
    (subst (λ (u : Unsearched). Tells v u) (sym c.only_from-left.ensures)
    (from_point v c.requires.can c.requires.markers taken.result c.max.result taken.ensures.tells taken.ensures.none (omega (arith, c.max.ensures, c.requires.point))))
