use Rattle.std.proofs.Common.{ap, sym, arith}
use Rattle.iw_ranges.specs.Arrived.{Held}
use Rattle.iw_ranges.specs.Fields.{Fields, fields_of}
use Rattle.iw_ranges.proofs.InPlace.{end_via, most_held}
use Rattle.iw_ranges.proofs.Islands.most_ahead.Goals as goal

pub returns-then-self-clause-most : goal.returns-then-self-clause-most
returns-then-self-clause-most g c = let f : Fields = fields_of c.self.inside in sym (most_held f c.self.invariant.sound c.args.self.now.arrived (ap (λ (h : Held). h.arrived) c.self.view_is) c.if-self.true)

pub returns-then-self-clause-near : goal.returns-then-self-clause-near
returns-then-self-clause-near g c =
    let f : Fields = fields_of c.self.inside in
    omega (arith, c.self.invariant.sound.windowed, end_via f c.self.invariant.sound c.args.self.now.arrived (ap (λ (h : Held). h.arrived) c.self.view_is), ap (λ (h : Held). h.arrived.floor) c.self.view_is)

pub returns-else-self-clause-near : goal.returns-else-self-clause-near
returns-else-self-clause-near g c =
    let f : Fields = fields_of c.self.inside in
    omega (arith, c.if-self.false, end_via f c.self.invariant.sound c.args.self.now.arrived (ap (λ (h : Held). h.arrived) c.self.view_is), ap (λ (h : Held). h.arrived.floor) c.self.view_is)
