use Rattle.std.proofs.Common.{◌≡◌, ◌≤◌, ◌<◌, ℕ, ap, ◌∙◌, sym, true, arith, refl}
use Rattle.iw_ranges.specs.Arrived.{Held, released}
use Rattle.iw_ranges.specs.Spans.{in_spans}
use Rattle.iw_ranges.specs.Fields.{Fields, fields_of}
use Rattle.iw_ranges.proofs.Cells.{come_via}
use Rattle.iw_ranges.proofs.Moves.{sound_release, released_from, released_none}
use Rattle.iw_ranges.proofs.Islands.release.Goals as goal

pub invariant_of-self : goal.invariant_of-self
invariant_of-self g c =
    let f : Fields = fields_of c.self.inside in
    let from = c.max-from.result in
    let came : (p : ℕ) → from ≤ p → p < c.args.to → in_spans p f.spans ≡ true = λ p low high.
    sym (come_via f c.self.invariant.sound c.args.self.now.arrived (ap (λ (h : Held). h.arrived) c.self.view_is) p) ∙ c.requires.come p (omega (arith, c.max-from.ensures)) high in
    record {
      sound = sound_release f _ c.self.invariant.sound from c.args.to (omega (arith, c.max-from.ensures)) c.if-from-to.true came (record { base = refl; floor = refl; missing = refl; end = refl; octets = refl; spans = refl; gone = c.join.ensures.items });
      idle = c.self.invariant.idle;
      most = c.self.invariant.most;
    }

pub returns-then-from-to-clause-arrived : goal.returns-then-from-to-clause-arrived
returns-then-from-to-clause-arrived g c =
    released_from (fields_of c.self.inside) _ c.self.invariant.sound c.args.from c.max-from.result c.args.to c.max-from.ensures c.if-from-to.true
    (record { base = refl; floor = refl; missing = refl; end = refl; octets = refl; spans = refl; gone = c.join.ensures.items })
    ∙ ap (λ (h : Held). released h.arrived c.args.from c.args.to) c.self.view_is

pub returns-else-from-to-clause-arrived : goal.returns-else-from-to-clause-arrived
returns-else-from-to-clause-arrived g c =
    let f : Fields = fields_of c.self.inside in
    sym (ap (λ (h : Held). h.arrived) c.self.view_is) ∙ released_none f c.self.invariant.sound c.args.from c.args.to (omega (arith, c.max-from.ensures, c.if-from-to.false))
    ∙ ap (λ (h : Held). released h.arrived c.args.from c.args.to) c.self.view_is
