use Rattle.std.proofs.Common.{◌+◌, ◌∙◌, ◌≤◌, ℕ, ap, sym, subst, arith}
use Rattle.std.specs.Prelude.{min, max}
use Rattle.iw_locate.specs.Free.{Scene, scene_of, point_of, IsOpen}
use Rattle.iw_locate.specs.Unsearched.{Tells, IsTouched, only_from}
use Rattle.iw_locate.proofs.Told.{nothing_came, some_came, touched_as}
use Rattle.iw_locate.proofs.locator.Locator.taken_in.Goals as goal

pub returns-then-to-from-clause-tells : goal.returns-then-to-from-clause-tells
returns-then-to-from-clause-tells g c =
    let v : Scene g.row.T.Denot = scene_of c.args.self.now.layout c.args.self.now.base c.args.islands.now.arrived c.args.judged.now.records in
    let u = c.args.unsearched in
    subst (Tells v) (sym (c.only_from.ensures ∙ ap (only_from u u.low) c.min-high.ensures))
    (nothing_came v c.requires.can c.requires.markers u c.limits.ensures c.requires.tells (omega (arith, c.if-to-from.true, c.min-to.ensures, c.max-from.ensures, c.requires.point)))

pub returns-then-high-unsearched-clause-tells : goal.returns-then-high-unsearched-clause-tells
returns-then-high-unsearched-clause-tells g c =
    let v : Scene g.row.T.Denot = scene_of c.args.self.now.layout c.args.self.now.base c.args.islands.now.arrived c.args.judged.now.records in
    let u = c.args.unsearched in
    let first : (s : ℕ) → IsOpen v s → IsTouched v (max u.from (point_of v)) (min u.to (point_of v + 262144)) s → c.first_touched-low.result ≤ s =
    λ s open_ touched. c.first_touched-low.ensures s open_
    (touched_as v (max u.from (point_of v)) (min u.to (point_of v + 262144)) c.max-from.result c.min-to.result s (omega (arith, c.max-from.ensures, c.requires.point)) (omega (arith, c.min-to.ensures, c.requires.point)) touched) in
    subst (Tells v) (sym c.only_from-then-high-unsearched.ensures)
    (some_came v c.requires.can c.requires.markers u c.first_touched-low.result c.first_touched-low.result (c.min-to.result + 4) c.limits.ensures c.requires.tells first (omega arith)
    (omega (arith, c.min-to.ensures, c.requires.point)) (λ s low high fits. absurd (omega (arith, low, high, fits, c.if-high-unsearched.true, c.min-high.ensures))))

pub returns-clause-tells : goal.returns-clause-tells
returns-clause-tells g c =
    let v : Scene g.row.T.Denot = scene_of c.args.self.now.layout c.args.self.now.base c.args.islands.now.arrived c.args.judged.now.records in
    let u = c.args.unsearched in
    let first : (s : ℕ) → IsOpen v s → IsTouched v (max u.from (point_of v)) (min u.to (point_of v + 262144)) s → c.first_touched-low.result ≤ s =
    λ s open_ touched. c.first_touched-low.ensures s open_
    (touched_as v (max u.from (point_of v)) (min u.to (point_of v + 262144)) c.max-from.result c.min-to.result s (omega (arith, c.max-from.ensures, c.requires.point)) (omega (arith, c.min-to.ensures, c.requires.point)) touched) in
    subst (Tells v) (sym c.only_from-2.ensures)
    (some_came v c.requires.can c.requires.markers u c.first_touched-low.result c.min.result c.max.result c.limits.ensures c.requires.tells first (omega (arith, c.min.ensures))
    (omega (arith, c.min-to.ensures, c.requires.point, c.max.ensures)) (λ s low high fits. record { low = omega (arith, low, c.min.ensures); high = omega (arith, high, fits, c.max.ensures, c.min-high.ensures) }))
