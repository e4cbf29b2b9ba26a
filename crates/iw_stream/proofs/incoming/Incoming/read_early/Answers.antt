use Rattle.std.proofs.Common.{sym, ap, subst, arith}
use Rattle.iw_fpdu.specs.Found.{HoldsSpan}
use Rattle.iw_locate.specs.declared.frame.Frame.{Frame}
use Rattle.iw_locate.specs.declared.frame.Next.TheVariants.{Frame as Next}
use Rattle.iw_locate.specs.Next.{IsNext}
use Rattle.iw_stream.specs.Incoming.{Coming, coming_of, scene_in}
use Rattle.iw_stream.proofs.Arriving.{IsReadable, readable, open_near, early_fits}
use Rattle.iw_stream.proofs.Releasing.{open_holds}
use Rattle.iw_stream.proofs.incoming.Incoming.read_early.Given as given
use Rattle.iw_stream.proofs.incoming.Incoming.read_early.Goals as goal

next : (g : given.Over) (c : goal.After-layout-1 g) → IsNext (scene_in (coming_of c.self.inside)) (Next c.args.frame.now)
next g c = subst (λ (s : Coming). IsNext (scene_in s) (Next c.args.frame.now)) (sym c.self.view_is) c.requires.next

open_there : (g : given.Over) (c : goal.After-layout-1 g) → IsReadable (scene_in (coming_of c.self.inside)) c.args.frame.now
open_there g c = readable (scene_in (coming_of c.self.inside)) c.args.frame.now (next g c) c.requires.early

pub found-requires-clause-low : goal.found-requires-clause-low
found-requires-clause-low g c =
    let v = scene_in (coming_of c.self.inside) in
    omega (arith, open_near v c.limits.ensures c.args.frame.now.start (open_there g c).open_, ap (λ (s : Coming). s.arrived.floor) c.self.view_is, c.requires.low)

pub found-requires-clause-start : goal.found-requires-clause-start
found-requires-clause-start g c = (open_there g c).open_.start

pub found-requires-clause-whole : goal.found-requires-clause-whole
found-requires-clause-whole g c = (open_there g c).open_.whole

pub found-requires-clause-len : goal.found-requires-clause-len
found-requires-clause-len g c = ap (λ (f : Frame). f.length) (open_there g c).is

pub found-requires-clause-end : goal.found-requires-clause-end
found-requires-clause-end g c = ap (λ (f : Frame). f.end) (open_there g c).is

pub found-requires-clause-fits : goal.found-requires-clause-fits
found-requires-clause-fits g c =
    let w = early_fits (coming_of c.self.inside) c.args.frame.now c.limits.ensures (next g c) c.requires.early in
    omega (arith, w.near, ap (λ (s : Coming). s.arrived.floor) c.self.view_is, c.requires.low)

pub returns-clause-holds : goal.returns-clause-holds
returns-clause-holds g c =
    let v = scene_in (coming_of c.self.inside) in
    subst HoldsSpan (sym c.found.ensures) (open_holds v c.self.invariant.keeps.released c.args.frame.now.start (open_there g c.before).open_).0
