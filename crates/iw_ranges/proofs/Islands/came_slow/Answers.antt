use Rattle.std.proofs.Common.{ap, refl, arith}
use Rattle.std.specs.Prelude.{nat_le}
use Rattle.std.specs.VecDeque.{deque_len}
use Rattle.iw_ranges.specs.Arrived.{Held, has_come}
use Rattle.iw_ranges.specs.Spans.{in_spans}
use Rattle.iw_ranges.specs.Fields.{Fields, fields_of}
use Rattle.iw_ranges.proofs.Reaches.{answer_via, answer_at_last, in_order_start}
use Rattle.iw_ranges.proofs.Cells.{come_via}
use Rattle.iw_ranges.proofs.Islands.came_slow.Goals as goal

pub returns : goal.returns
returns g c =
    let f : Fields = fields_of c.self.inside in
    answer_via (nat_le c.args.to c.in-Some.last.now.to) (has_come c.args.self.now.arrived) (λ p. in_spans p f.spans) c.args.from c.args.to
    (λ p low. come_via f c.self.invariant.sound c.args.self.now.arrived (ap (λ (h : Held). h.arrived) c.self.view_is) p)
    (answer_at_last f.spans (deque_len c.self.inside.spans) c.in-Some.last.now c.args.from c.args.to (in_order_start f.spans c.self.invariant.sound.order) (omega (arith, c.self.inside.spans.ok.0)) (c.in-Some.ensures.variant.0 refl)
    c.in-Some.ensures.lookup c.if-last-from.true c.requires)

pub returns-2 : goal.returns-2
returns-2 g c =
    let f : Fields = fields_of c.self.inside in
    answer_via c.holds_all.result (has_come c.args.self.now.arrived) (λ p. in_spans p f.spans) c.args.from c.args.to
    (λ p low. come_via f c.self.invariant.sound c.args.self.now.arrived (ap (λ (h : Held). h.arrived) c.self.view_is) p) c.holds_all.ensures
