use Rattle.std.proofs.Common.{arith, ap, sym, subst}
use Rattle.iw_ranges.specs.Arrived.{Held, IsWithinLimits}
use Rattle.iw_ranges.specs.Fields.{fields_of}
use Rattle.iw_ranges.proofs.Counts.{within_limits}
use Rattle.iw_ranges.proofs.InPlace.{end_via}
use Rattle.iw_ranges.proofs.Islands.end.Goals as goal

pub returns-clause-end : goal.returns-clause-end
returns-clause-end g c = sym (end_via (fields_of c.self.inside) c.self.invariant.sound c.args.self.now.arrived (ap (λ (h : Held). h.arrived) c.self.view_is))

pub returns-clause-near : goal.returns-clause-near
returns-clause-near g c = omega (arith, c.self.invariant.sound.windowed, ap (λ (h : Held). h.arrived.floor) c.self.view_is)

pub returns-clause-limits : goal.returns-clause-limits
returns-clause-limits g c = subst (λ (h : Held). IsWithinLimits h.arrived) c.self.view_is (within_limits (fields_of c.self.inside) c.self.invariant.sound)
