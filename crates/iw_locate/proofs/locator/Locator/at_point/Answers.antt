use Rattle.std.proofs.Common.{◌≡◌, ◌-◌, ◌∙◌, ap, subst, sym, arith}
use Rattle.iw_fpdu.specs.Places.{IsStart, frame_start}
use Rattle.iw_locate.specs.Free.{Scene, scene_of, front_of}
use Rattle.iw_locate.proofs.Front.{front_start, front_near, front_kept, starts_of}
use Rattle.iw_locate.proofs.locator.Locator.at_point.Goals as goal

pub read-requires-clause-low : goal.read-requires-clause-low
read-requires-clause-low g c =
    let v : Scene g.row.T.Denot = scene_of c.args.self.now.layout c.args.self.now.base c.args.islands.now.arrived c.args.judged.now.records in
    let e : c.start_of-front.result ≡ front_of v = c.start_of-front.ensures ∙ ap (λ f. frame_start c.args.self.now.layout.markers (f - c.args.self.now.base)) c.floor.ensures.floor in
    omega (arith, e, front_near v c.requires, c.requires.low)

pub read-requires-clause-start : goal.read-requires-clause-start
read-requires-clause-start g c =
    let v : Scene g.row.T.Denot = scene_of c.args.self.now.layout c.args.self.now.base c.args.islands.now.arrived c.args.judged.now.records in
    let e : c.start_of-front.result ≡ front_of v = c.start_of-front.ensures ∙ ap (λ f. frame_start c.args.self.now.layout.markers (f - c.args.self.now.base)) c.floor.ensures.floor in
    subst (IsStart v.layout.markers) (sym e) (front_start v c.requires)

pub read-requires-clause-length_kept : goal.read-requires-clause-length_kept
read-requires-clause-length_kept g c =
    let v : Scene g.row.T.Denot = scene_of c.args.self.now.layout c.args.self.now.base c.args.islands.now.arrived c.args.judged.now.records in
    let e : c.start_of-front.result ≡ front_of v = c.start_of-front.ensures ∙ ap (λ f. frame_start c.args.self.now.layout.markers (f - c.args.self.now.base)) c.floor.ensures.floor in
    λ q low high. front_kept v c.requires (starts_of v.records c.limits.ensures.apart) q (omega (arith, e)) (omega (arith, e))
