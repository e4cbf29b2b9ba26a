use Rattle.std.proofs.Common.{◌≡◌, ℕ, ◌+◌, ◌-◌, ◌%◌, ◌^◌, ◌<◌, ◌≤◌, get_or, ap, ◌∙◌, sym, subst, arith, length}
use Rattle.std.specs.Prelude.{List}
use Rattle.iw_ranges.specs.Arrived.{Held, Here, IsHere}
use Rattle.iw_ranges.specs.Fields.{Fields, fields_of}
use Rattle.iw_ranges.proofs.Cells.{holds}
use Rattle.iw_ranges.proofs.Islands.peek.Goals as goal

wrapped : (base place : ℕ) → base ≤ place → place < 2 ^ 64 → (place + (2 ^ 64 - base)) % 2 ^ 64 ≡ place - base
wrapped base place low high = omega arith

here_in : (x y : ℕ) → Here x ≡ Here y → y ≡ x
here_in x y e = sym (cc e)

pub returns-in-Some : goal.returns-in-Some
returns-in-Some g c = λ x here.
    let f : Fields = fields_of c.self.inside in
    let held = holds f c.self.invariant.sound c.args.self.now.arrived (ap (λ (h : Held). h.arrived) c.self.view_is) c.args.place (subst IsHere (sym here) tt) in
    let at = wrapped f.base c.args.place (omega (arith, held.low, c.self.invariant.sound.base)) c.ranges.place.fits in
    c.in-Some.ensures.lookup.3.1 0 ∙ ap (λ i. get_or c.deref.result.now i 0) at ∙ ap (λ (xs : List ℕ). get_or xs (c.args.place - f.base) 0) c.deref.ensures.value
    ∙ here_in x (get_or f.octets (c.args.place - f.base) 0) (sym here ∙ held.octet)

pub returns-in-None : goal.returns-in-None
returns-in-None g c = λ x here.
    let f : Fields = fields_of c.self.inside in
    let held = holds f c.self.invariant.sound c.args.self.now.arrived (ap (λ (h : Held). h.arrived) c.self.view_is) c.args.place (subst IsHere (sym here) tt) in
    let at = wrapped f.base c.args.place (omega (arith, held.low, c.self.invariant.sound.base)) c.ranges.place.fits in
    absurd (omega (arith, c.in-None.ensures.lookup.3, at, held.inside, held.low, c.self.invariant.sound.base, ap length c.deref.ensures.value))
