use Rattle.std.proofs.Common.{◌≡◌, ◌<◌, ◌+◌, ◌-◌, length, drop, true, sym, ap, ◌∙◌, refl, arith}
use Rattle.std.proofs.lemmas.Bool.Decides.{nat_tests}
use Rattle.iw_ranges.specs.Arrived.{Held, is_dropped, window}
use Rattle.iw_ranges.specs.Spans.{first_end}
use Rattle.iw_ranges.specs.Fields.{Fields, fields_of}
use Rattle.iw_ranges.proofs.Counts.{dropped_none, dropped_far}
use Rattle.iw_ranges.proofs.Keeps.{taken_none, sound_put, put_delivers, PutsIn, kept_is, dropped_is, delivered_kept, delivered_dropped, kept_after}
use Rattle.iw_ranges.proofs.Islands.add.Given as given
use Rattle.iw_ranges.proofs.Islands.add.Goals as goal

-- no octets
pub returns-then-is_empty-clause-answer : goal.returns-then-is_empty-clause-answer
returns-then-is_empty-clause-answer g c =
    let none : length c.args.octets.now ≡ 0 = grind (arith, nat_tests, c.is_empty.ensures, c.if-is_empty.true) in
    kept_is c.args.self.now.arrived c.args.place (length c.args.octets.now) (dropped_none c.args.self.now.arrived c.args.place (length c.args.octets.now) none)

pub returns-then-is_empty-clause-ok : goal.returns-then-is_empty-clause-ok
returns-then-is_empty-clause-ok g c =
    let none : length c.args.octets.now ≡ 0 = grind (arith, nat_tests, c.is_empty.ensures, c.if-is_empty.true) in
    sym (taken_none c.args.self.now.arrived c.args.place c.args.octets.now none)
    ∙ delivered_kept c.args.self.now.arrived c.args.place c.args.octets.now (dropped_none c.args.self.now.arrived c.args.place (length c.args.octets.now) none)

-- out of the window
far : (g : given.Over) (c : goal.Then-is_beyond g) → is_dropped c.args.self.now.arrived c.args.place (length c.args.octets.now) ≡ true
far g c =
    let some : 0 < length c.args.octets.now = grind (arith, nat_tests, c.is_empty.ensures, c.if-is_empty.false) in
    let floor : c.self.inside.floor ≡ c.args.self.now.arrived.floor = ap (λ (h : Held). h.arrived.floor) c.self.view_is in
    let beyond : c.args.self.now.arrived.floor + window < c.args.place + length c.args.octets.now = omega (arith, floor, c.if-is_beyond.ensures) in
    dropped_far c.args.self.now.arrived c.args.place (length c.args.octets.now) some beyond

pub returns-then-is_beyond-clause-answer : goal.returns-then-is_beyond-clause-answer
returns-then-is_beyond-clause-answer g c = dropped_is c.args.self.now.arrived c.args.place (length c.args.octets.now) (far g c)

pub returns-then-is_beyond-clause-ok : goal.returns-then-is_beyond-clause-ok
returns-then-is_beyond-clause-ok g c = delivered_dropped c.args.self.now.arrived c.args.place c.args.octets.now (far g c)

-- right behind the buffer
pub invariant_of-self : goal.invariant_of-self
invariant_of-self g c =
    let f : Fields = fields_of c.self.inside in
    let n = length c.args.octets.now in
    let from = c.args.place in
    let some : 0 < n = grind (arith, nat_tests, c.is_empty.ensures, c.if-is_empty.false) in
    let after : Fields = record { base = f.base; floor = f.floor; missing = from + n; end = from + n; octets = c.put_after.new.buffer.items; spans = c.put_after.new.spans.items; gone = f.gone } in
    let puts : PutsIn f after from (c.args.place + n) c.args.octets.now = record {
      base = refl;
      floor = refl;
      missing = sym c.put_after.ensures.end;
      gone = refl;
      spans = c.put_after.ensures.spans;
      end = refl;
      last = omega (arith, c.if-place-self-2.true);
      len = omega (arith, c.put_after.ensures.len, c.put_after.new.buffer.ok.0, c.self.inside.octets.ok.0);
      written = c.put_after.ensures.octets;
    } in
    record {
      sound = sound_put f after c.self.invariant.sound from (c.args.place + n) c.args.octets.now (omega (arith, some)) (omega (arith, c.if-is_beyond.ensures)) (omega (arith, c.if-fits_after.ensures)) puts (omega (arith, c.put_after.ensures.few, ap length c.put_after.ensures.spans, c.self.invariant.sound.few));
      idle = λ e. absurd (omega (arith, e, some, c.if-place-self.true, c.self.invariant.sound.missing, c.self.invariant.sound.reached));
      most = omega (arith, c.put_after.ensures.memory, c.self.invariant.most);
    }

pub returns-then-fits_after-clause-answer : goal.returns-then-fits_after-clause-answer
returns-then-fits_after-clause-answer g c =
    let f : Fields = fields_of c.self.inside in
    let n = length c.args.octets.now in
    let from = c.args.place in
    let some : 0 < n = grind (arith, nat_tests, c.is_empty.ensures, c.if-is_empty.false) in
    kept_is c.args.self.now.arrived c.args.place n
    (kept_after f c.self.invariant.sound c.args.self.now.arrived (ap (λ (h : Held). h.arrived) c.self.view_is) c.args.place n from (omega (arith, c.if-place-self.true, c.self.invariant.sound.missing)) (omega (arith, c.if-place-self.true, some, c.self.invariant.sound.missing)) (omega (arith, c.if-is_beyond.ensures)) some (omega (arith, c.put_after.ensures.few, ap length c.put_after.ensures.spans, c.self.invariant.sound.few)))

pub returns-then-fits_after-clause-ok : goal.returns-then-fits_after-clause-ok
returns-then-fits_after-clause-ok g c =
    let f : Fields = fields_of c.self.inside in
    let n = length c.args.octets.now in
    let from = c.args.place in
    let some : 0 < n = grind (arith, nat_tests, c.is_empty.ensures, c.if-is_empty.false) in
    let none : 0 ≡ first_end f.spans - from = omega (arith, c.if-place-self.true, c.self.invariant.sound.missing) in
    let after : Fields = record { base = f.base; floor = f.floor; missing = from + n; end = from + n; octets = c.put_after.new.buffer.items; spans = c.put_after.new.spans.items; gone = f.gone } in
    let puts : PutsIn f after from (c.args.place + n) c.args.octets.now = record {
      base = refl;
      floor = refl;
      missing = sym c.put_after.ensures.end;
      gone = refl;
      spans = c.put_after.ensures.spans;
      end = refl;
      last = omega (arith, c.if-place-self-2.true);
      len = omega (arith, c.put_after.ensures.len, c.put_after.new.buffer.ok.0, c.self.inside.octets.ok.0);
      written = c.put_after.ensures.octets;
    } in
    put_delivers f after c.self.invariant.sound c.args.self.now.arrived (ap (λ (h : Held). h.arrived) c.self.view_is) c.args.place from c.args.octets.now c.args.octets.now
    (omega (arith, c.if-place-self.true, some, c.self.invariant.sound.missing)) some (omega (arith, c.if-place-self.true, c.self.invariant.sound.missing)) (ap (λ k. drop k c.args.octets.now) none) (omega (arith, c.if-is_beyond.ensures)) (omega (arith, c.put_after.ensures.few, ap length c.put_after.ensures.spans, c.self.invariant.sound.few)) puts
