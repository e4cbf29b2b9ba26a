use Rattle.std.proofs.Common.{ℕ}
use Rattle.iw_links.specs.Exchange.{Emits, Speaking}
use Rattle.iw_links.specs.Standing.{standing, plan_of}
use Rattle.iw_links.proofs.link.emit_all.Given as goal

abbrev pub invariant-rounds : goal.invariant-rounds
invariant-rounds l = (k : ℕ) →
    Emits (plan_of l.fn.plan) (standing l.fn.endpoint l.fn.link Speaking k) (standing l.endpoint l.link Speaking k) l.fn.out.items l.out.items
