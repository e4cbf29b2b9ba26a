use Rattle.std.proofs.Common.{subst}
use Rattle.iw_memory.specs.Laws.{HoldsLimits}
use Rattle.iw_memory.proofs.TableLemmas.{HoldsLimits-table_of}
use Rattle.iw_memory.proofs.memory.Memory.limits.Goals as goal

pub returns : goal.returns
returns g c = subst HoldsLimits c.self.view_is (HoldsLimits-table_of c.self.invariant.sound)
