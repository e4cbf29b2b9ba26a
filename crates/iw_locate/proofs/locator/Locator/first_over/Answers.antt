use Rattle.std.proofs.Common.{◌≡◌, ◌+◌, ◌-◌, ◌∙◌, false, ap, sym, arith}
use Rattle.iw_ranges.specs.Arrived.{has_come}
use Rattle.iw_locate.specs.Free.{Scene, scene_of}
use Rattle.iw_locate.proofs.Told.{over_missing, over_end, reaches_near}
use Rattle.iw_locate.proofs.locator.Locator.first_over.Goals as goal

pub returns-then-not-came : goal.returns-then-not-came
returns-then-not-came g c =
    let v : Scene g.row.T.Denot = scene_of c.args.self.now.layout c.args.self.now.base c.args.islands.now.arrived c.args.judged.now.records in
    let w = c.if-not-came.ensures in
    let at : w.0 ≡ v.base + (c.args.from - 1) = omega (arith, w.1, w.2, c.if-point-from.true) in
    let missing : has_come v.arrived (v.base + (c.args.from - 1)) ≡ false = ap (has_come v.arrived) (sym at) ∙ w.3 in
    λ s open_ over. over_missing v c.requires.can c.requires.markers c.args.from s (omega (arith, c.if-point-from.true)) missing open_ over

pub returns-in-Some : goal.returns-in-Some
returns-in-Some g c =
    let v : Scene g.row.T.Denot = scene_of c.args.self.now.layout c.args.self.now.base c.args.islands.now.arrived c.args.judged.now.records in
    let w = c.in-Some.ensures in
    λ s open_ over.
    let past = over_end v c.requires.can c.requires.markers c.limits.ensures.apart w.1.0 c.in-Some.end c.args.from s w.1.1 w.1.2 w.0 open_ over in
    omega (arith, past, over, reaches_near v c.requires.can c.requires.markers c.requires.octets s open_, c.max.ensures, c.saturating_sub-near.ensures)

pub returns-in-None : goal.returns-in-None
returns-in-None g c =
    let v : Scene g.row.T.Denot = scene_of c.args.self.now.layout c.args.self.now.base c.args.islands.now.arrived c.args.judged.now.records in
    λ s open_ over. omega (arith, over, reaches_near v c.requires.can c.requires.markers c.requires.octets s open_, c.saturating_sub-near.ensures)
