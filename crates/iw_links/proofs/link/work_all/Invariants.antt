use Rattle.std.proofs.Common.{ℕ, []}
use Rattle.iw_links.specs.Exchange.{Did, Working}
use Rattle.iw_links.specs.Standing.{standing, plan_of}
use Rattle.iw_links.proofs.link.work_all.Given as goal

abbrev pub invariant-steps : goal.invariant-steps
invariant-steps l = (k : ℕ) →
    Did (plan_of l.fn.plan) (standing l.fn.endpoint l.fn.link Working k) (standing l.endpoint l.link Working k) [] []
