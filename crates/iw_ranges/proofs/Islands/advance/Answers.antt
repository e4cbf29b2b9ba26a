use Rattle.std.proofs.Common.{ap, ◌∙◌, sym, arith, refl}
use Rattle.iw_ranges.specs.Arrived.{Held, advanced}
use Rattle.iw_ranges.specs.Fields.{Fields, fields_of}
use Rattle.iw_ranges.proofs.Cells.{top_reaches}
use Rattle.iw_ranges.proofs.Moves.{reaches, sound_moved, advanced_to, advanced_back, forgot}
use Rattle.iw_ranges.proofs.Islands.advance.Goals as goal

pub returns-then-to-self-clause-arrived : goal.returns-then-to-self-clause-arrived
returns-then-to-self-clause-arrived g c = sym (advanced_back c.args.self.now.arrived c.args.to (omega (arith, c.if-to-self.true, ap (λ (h : Held). h.arrived.floor) c.self.view_is)))

pub let_go-requires-clause-high : goal.let_go-requires-clause-high
let_go-requires-clause-high g c =
    let f : Fields = fields_of c.self.inside in
    let high = reaches f c.self.invariant.sound c.args.self.now.arrived (ap (λ (h : Held). h.arrived) c.self.view_is) c.args.to c.requires.come in
    omega (arith, high, top_reaches f c.self.invariant.sound)

pub let_go-requires-clause-within : goal.let_go-requires-clause-within
let_go-requires-clause-within g c = omega (arith, c.self.invariant.sound.stand, c.self.inside.octets.ok.0)

pub invariant_of-self : goal.invariant_of-self
invariant_of-self g c =
    let f : Fields = fields_of c.self.inside in
    let high = reaches f c.self.invariant.sound c.args.self.now.arrived (ap (λ (h : Held). h.arrived) c.self.view_is) c.args.to c.requires.come in
    record {
      sound = sound_moved f _ c.self.invariant.sound c.args.to (omega (arith, c.if-to-self.false)) high c.requires.place (record {
        floor = refl;
        missing = refl;
        end = refl;
        spans = refl;
        gone = forgot c.args.to f.gone _ c.self.invariant.sound.gone_order c.forget.ensures.items;
        octets = c.let_go.ensures.octets;
        stand = omega (arith, c.let_go.ensures.within, c.let_go.new.octets.ok.0);
        len = omega (arith, c.let_go.ensures.len, c.let_go.new.octets.ok.0, c.self.inside.octets.ok.0);
        low = c.let_go.ensures.low;
        high = c.let_go.ensures.high;
      });
      idle = λ e. c.let_go.ensures.idle (omega (arith, e));
      most = omega (arith, c.let_go.ensures.memory, c.self.invariant.most);
    }

pub returns-clause-arrived : goal.returns-clause-arrived
returns-clause-arrived g c =
    let f : Fields = fields_of c.self.inside in
    let high = reaches f c.self.invariant.sound c.args.self.now.arrived (ap (λ (h : Held). h.arrived) c.self.view_is) c.args.to c.requires.come in
    advanced_to f _ c.self.invariant.sound c.args.to (omega (arith, c.if-to-self.false)) high (record {
      floor = refl;
      missing = refl;
      end = refl;
      spans = refl;
      gone = forgot c.args.to f.gone _ c.self.invariant.sound.gone_order c.forget.ensures.items;
      octets = c.let_go.ensures.octets;
      stand = omega (arith, c.let_go.ensures.within, c.let_go.new.octets.ok.0);
      len = omega (arith, c.let_go.ensures.len, c.let_go.new.octets.ok.0, c.self.inside.octets.ok.0);
      low = c.let_go.ensures.low;
      high = c.let_go.ensures.high;
    })
    ∙ ap (λ (h : Held). advanced h.arrived c.args.to) c.self.view_is
