use Rattle.iw_links.specs.Exchange.{Working}
use Rattle.iw_links.proofs.Exchanges.{both, halts_later, stays}
use Rattle.iw_links.proofs.link.work_all.Goals as goal

pub steps-init : goal.steps-init
steps-init c = λ k. stays _ _

pub returns-in-Ok-true-clause-ok : goal.returns-in-Ok-true-clause-ok
returns-in-Ok-true-clause-ok c = λ k. both _ _ _ _ (c.steps.invariant k) (rw c.in-Ok-true.field-0-test at c.in-Ok-true.ensures.ok k)

pub returns-in-Err-clause-err : goal.returns-in-Err-clause-err
returns-in-Err-clause-err c = λ k. halts_later _ _ _ _ _ _ (c.steps.invariant k) (c.in-Err.ensures.err k)

pub steps-preserved : goal.steps-preserved
steps-preserved c = λ k. both _ _ _ _ (c.steps.invariant k) (rw c.in-Ok-false.field-0-test at c.in-Ok-false.ensures.ok k)

pub returns-clause-err : goal.returns-clause-err
returns-clause-err c = λ k. (Working, c.steps.invariant k)
