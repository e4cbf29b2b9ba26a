use Rattle.std.proofs.Common.{subst}
use Rattle.iw_ranges.specs.Arrived.{Held, IsWithinLimits}
use Rattle.iw_ranges.specs.Fields.{fields_of}
use Rattle.iw_ranges.proofs.Counts.{within_limits}
use Rattle.iw_ranges.proofs.Islands.limits.Goals as goal

pub returns : goal.returns
returns g c = subst (λ (h : Held). IsWithinLimits h.arrived) c.self.view_is (within_limits (fields_of c.self.inside) c.self.invariant.sound)
