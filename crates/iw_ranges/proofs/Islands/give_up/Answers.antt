use Rattle.std.proofs.Common.{refl, ap, ◌∙◌, arith}
use Rattle.iw_ranges.specs.Arrived.{Held, emptied}
use Rattle.iw_ranges.proofs.Empties.{sound_empty, empty_is}
use Rattle.iw_ranges.proofs.Islands.give_up.Goals as goal

pub invariant_of-self : goal.invariant_of-self
invariant_of-self g c = record {
  sound = sound_empty _ (omega (arith, c.self.invariant.sound.base, c.self.invariant.sound.low)) (record { base = refl; missing = refl; end = refl; octets = c.clear.ensures.items; spans = c.keep_before.ensures; gone = c.clear-2.ensures.items });
  idle = λ e. omega (arith, c.clear.ensures.memory);
  most = omega (arith, c.clear.ensures.memory);
}

pub returns-clause-arrived : goal.returns-clause-arrived
returns-clause-arrived g c =
    empty_is _ (record { base = refl; missing = refl; end = refl; octets = c.clear.ensures.items; spans = c.keep_before.ensures; gone = c.clear-2.ensures.items })
    ∙ ap (λ (h : Held). emptied h.arrived) c.self.view_is
