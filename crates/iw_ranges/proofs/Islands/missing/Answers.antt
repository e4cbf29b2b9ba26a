use Rattle.std.proofs.Common.{arith, ap, subst, ◌∙◌, sym}
use Rattle.iw_ranges.specs.Arrived.{Held, IsWithinLimits, cell_at}
use Rattle.iw_ranges.specs.Spans.{in_spans}
use Rattle.iw_ranges.specs.Fields.{Fields, fields_of}
use Rattle.iw_ranges.proofs.Counts.{within_limits}
use Rattle.iw_ranges.proofs.Cells.{come_via, first_missing, first_covers, cell_is, cell_missing}
use Rattle.iw_ranges.proofs.InPlace.{end_via}
use Rattle.iw_ranges.proofs.Islands.missing.Goals as goal

pub returns-clause-come : goal.returns-clause-come
returns-clause-come g c = λ p lt.
    let f : Fields = fields_of c.self.inside in
    come_via f c.self.invariant.sound c.args.self.now.arrived (ap (λ (h : Held). h.arrived) c.self.view_is) p
    ∙ first_covers f.spans p c.self.invariant.sound.order (omega (arith, c.self.invariant.sound.missing))

pub returns-clause-missing : goal.returns-clause-missing
returns-clause-missing g c =
    let f : Fields = fields_of c.self.inside in
    ap (λ (h : Held). cell_at h.arrived f.missing) (sym c.self.view_is)
    ∙ cell_is f c.self.invariant.sound f.missing (omega (arith, c.self.invariant.sound.missing, c.self.invariant.sound.reached))
    ∙ cell_missing f f.missing (ap (λ q. in_spans q f.spans) c.self.invariant.sound.missing ∙ first_missing f.spans c.self.invariant.sound.order)

pub returns-clause-limits : goal.returns-clause-limits
returns-clause-limits g c = subst (λ (h : Held). IsWithinLimits h.arrived) c.self.view_is (within_limits (fields_of c.self.inside) c.self.invariant.sound)

pub returns-clause-near : goal.returns-clause-near
returns-clause-near g c =
    let f : Fields = fields_of c.self.inside in
    omega (arith, c.self.invariant.sound.windowed, end_via f c.self.invariant.sound c.args.self.now.arrived (ap (λ (h : Held). h.arrived) c.self.view_is), ap (λ (h : Held). h.arrived.floor) c.self.view_is)
