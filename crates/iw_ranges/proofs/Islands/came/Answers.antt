use Rattle.std.proofs.Common.{ap, ◌∙◌, refl, arith}
use Rattle.std.specs.Prelude.{false, nat_le}
use Rattle.iw_ranges.specs.Arrived.{Held, has_come}
use Rattle.iw_ranges.specs.Spans.{in_spans}
use Rattle.iw_ranges.specs.Fields.{Fields, fields_of}
use Rattle.iw_ranges.proofs.Reaches.{answer_via, answer_at_second, lacks_before_second}
use Rattle.iw_ranges.proofs.Cells.{come_via, first_covers}
use Rattle.iw_ranges.proofs.Islands.came.Goals as goal
use Rattle.iw_ranges.proofs.Islands.came.Goals.{then-to-self-via-then-to-self, then-to-self-via-else-to-self+then-to-from}

pub returns-then-to-self : goal.returns-then-to-self
returns-then-to-self g c = λ p low high.
    let f : Fields = fields_of c.self.inside in
    elim (c.then-to-self.branch) [
      | then-to-self-via-then-to-self w ↦
          come_via f c.self.invariant.sound c.args.self.now.arrived (ap (λ (h : Held). h.arrived) c.self.view_is) p
          ∙ first_covers f.spans p c.self.invariant.sound.order (omega (arith, w.if-to-self.true, c.self.invariant.sound.missing))
      | then-to-self-via-else-to-self+then-to-from w ↦ absurd (omega (arith, w.if-to-from.true))
    ]

pub returns-then-from-second-2 : goal.returns-then-from-second-2
returns-then-from-second-2 g c =
    let f : Fields = fields_of c.self.inside in
    answer_via false (has_come c.args.self.now.arrived) (λ p. in_spans p f.spans) c.args.from c.args.to
    (λ p low. come_via f c.self.invariant.sound c.args.self.now.arrived (ap (λ (h : Held). h.arrived) c.self.view_is) p)
    (lacks_before_second f.spans c.in-Some.second.now c.args.from c.args.to c.self.invariant.sound.order (omega (arith, c.self.inside.spans.ok.0, c.in-Some.ensures.variant.0 refl)) c.in-Some.ensures.lookup
    (omega (arith, c.if-to-self.false, c.self.invariant.sound.missing)) (omega (arith, c.if-to-from.false)) c.if-from-second-2.true)

pub returns : goal.returns
returns g c =
    let f : Fields = fields_of c.self.inside in
    answer_via (nat_le c.args.to c.in-Some.second.now.to) (has_come c.args.self.now.arrived) (λ p. in_spans p f.spans) c.args.from c.args.to
    (λ p low. come_via f c.self.invariant.sound c.args.self.now.arrived (ap (λ (h : Held). h.arrived) c.self.view_is) p)
    (answer_at_second f.spans c.in-Some.second.now c.args.from c.args.to c.self.invariant.sound.order (omega (arith, c.self.inside.spans.ok.0, c.in-Some.ensures.variant.0 refl)) c.in-Some.ensures.lookup
    (omega (arith, c.if-to-from.false)) (omega (arith, c.if-from-second-2.false)) c.if-from-second.true)
