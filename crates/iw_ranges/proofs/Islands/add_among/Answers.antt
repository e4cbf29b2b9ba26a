use Rattle.std.proofs.Common.{◌≡◌, ◌<◌, ◌+◌, ◌-◌, length, drop, sym, ap, refl, arith}
use Rattle.iw_ranges.specs.Arrived.{Held}
use Rattle.iw_ranges.specs.Spans.{first_end}
use Rattle.iw_ranges.specs.Fields.{Fields, fields_of}
use Rattle.iw_ranges.proofs.Cells.{top_reaches}
use Rattle.iw_ranges.proofs.Keeps.{sound_put, put_delivers, PutsIn, kept_is, kept_after}
use Rattle.iw_ranges.proofs.Islands.add_among.Goals as goal

pub invariant_of-self : goal.invariant_of-self
invariant_of-self g c =
    let f : Fields = fields_of c.self.inside in
    let n = length c.args.octets.now in
    let from = c.args.place in
    let some : 0 < n = c.requires.some in
    let after : Fields = record { base = f.base; floor = f.floor; missing = from + n; end = c.max-self-inside.result; octets = c.put_after.new.buffer.items; spans = c.put_after.new.spans.items; gone = f.gone } in
    let puts : PutsIn f after from (c.args.place + n) c.args.octets.now = record {
      base = refl;
      floor = refl;
      missing = sym c.put_after.ensures.end;
      gone = refl;
      spans = c.put_after.ensures.spans;
      end = refl;
      last = c.max-self-inside.ensures;
      len = omega (arith, c.put_after.ensures.len, c.put_after.new.buffer.ok.0, c.self.inside.octets.ok.0);
      written = c.put_after.ensures.octets;
    } in
    record {
      sound = sound_put f after c.self.invariant.sound from (c.args.place + n) c.args.octets.now (omega (arith, some)) (omega (arith, c.requires.near, ap (λ (h : Held). h.arrived.floor) c.self.view_is)) (omega (arith, c.if-fits_after.ensures)) puts (omega (arith, c.put_after.ensures.few, ap length c.put_after.ensures.spans, c.self.invariant.sound.few));
      idle = λ e. absurd (omega (arith, e, some, c.max-self-inside.ensures, c.if-place-self.true, c.self.invariant.sound.missing, c.self.invariant.sound.reached));
      most = omega (arith, c.put_after.ensures.memory, c.self.invariant.most);
    }

pub returns-then-fits_after-clause-answer : goal.returns-then-fits_after-clause-answer
returns-then-fits_after-clause-answer g c =
    let f : Fields = fields_of c.self.inside in
    let n = length c.args.octets.now in
    let from = c.args.place in
    let some : 0 < n = c.requires.some in
    kept_is c.args.self.now.arrived c.args.place n
    (kept_after f c.self.invariant.sound c.args.self.now.arrived (ap (λ (h : Held). h.arrived) c.self.view_is) c.args.place n from (omega (arith, c.if-place-self.true, c.self.invariant.sound.missing)) (omega (arith, c.if-place-self.true, some, c.self.invariant.sound.missing)) (omega (arith, c.requires.near, ap (λ (h : Held). h.arrived.floor) c.self.view_is)) some (omega (arith, c.put_after.ensures.few, ap length c.put_after.ensures.spans, c.self.invariant.sound.few)))

pub returns-then-fits_after-clause-ok : goal.returns-then-fits_after-clause-ok
returns-then-fits_after-clause-ok g c =
    let f : Fields = fields_of c.self.inside in
    let n = length c.args.octets.now in
    let from = c.args.place in
    let some : 0 < n = c.requires.some in
    let none : 0 ≡ first_end f.spans - from = omega (arith, c.if-place-self.true, c.self.invariant.sound.missing) in
    let after : Fields = record { base = f.base; floor = f.floor; missing = from + n; end = c.max-self-inside.result; octets = c.put_after.new.buffer.items; spans = c.put_after.new.spans.items; gone = f.gone } in
    let puts : PutsIn f after from (c.args.place + n) c.args.octets.now = record {
      base = refl;
      floor = refl;
      missing = sym c.put_after.ensures.end;
      gone = refl;
      spans = c.put_after.ensures.spans;
      end = refl;
      last = c.max-self-inside.ensures;
      len = omega (arith, c.put_after.ensures.len, c.put_after.new.buffer.ok.0, c.self.inside.octets.ok.0);
      written = c.put_after.ensures.octets;
    } in
    put_delivers f after c.self.invariant.sound c.args.self.now.arrived (ap (λ (h : Held). h.arrived) c.self.view_is) c.args.place from c.args.octets.now c.args.octets.now
    (omega (arith, c.if-place-self.true, some, c.self.invariant.sound.missing)) some (omega (arith, c.if-place-self.true, c.self.invariant.sound.missing)) (ap (λ k. drop k c.args.octets.now) none) (omega (arith, c.requires.near, ap (λ (h : Held). h.arrived.floor) c.self.view_is)) (omega (arith, c.put_after.ensures.few, ap length c.put_after.ensures.spans, c.self.invariant.sound.few)) puts

pub fits_after-requires-clause-within : goal.fits_after-requires-clause-within
fits_after-requires-clause-within g c =
    let f : Fields = fields_of c.self.inside in
    omega (arith, c.if-place-self.true, c.self.invariant.sound.missing, top_reaches f c.self.invariant.sound, c.self.invariant.sound.stand, c.self.inside.octets.ok.0)

pub put_after-requires-clause-past : goal.put_after-requires-clause-past
put_after-requires-clause-past g c =
    let f : Fields = fields_of c.self.inside in
    omega (arith, c.if-place-self.true, c.self.invariant.sound.missing, top_reaches f c.self.invariant.sound, c.self.invariant.sound.stand, c.self.inside.octets.ok.0)
