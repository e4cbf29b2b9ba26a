use Rattle.iw_links.specs.Exchange.{Working, Accepting}
use Rattle.iw_links.proofs.Exchanges.{both}
use Rattle.iw_links.proofs.link.work_on.Goals as goal

pub returns-in-Ok-clause-ok : goal.returns-in-Ok-clause-ok
returns-in-Ok-clause-ok c = λ k.
    both _ _ _ _ (rw c.in-Ok-Accept.field-0-is at c.in-Ok-Accept.ensures.ok k) (c.in-Ok.ensures.ok k)

pub returns-in-Err-accept-clause-err : goal.returns-in-Err-accept-clause-err
returns-in-Err-accept-clause-err c = λ k.
    (Accepting, rw c.in-Err-accept.ensures.err (rw c.in-Ok-Accept.field-0-is at c.in-Ok-Accept.ensures.ok k))

pub returns-in-Err-clause-err : goal.returns-in-Err-clause-err
returns-in-Err-clause-err c = λ k. (Working, c.in-Err.ensures.err k)

pub returns-in-Ok-Close-clause-err : goal.returns-in-Ok-Close-clause-err
returns-in-Ok-Close-clause-err c = λ k. rw c.in-Ok-Close.field-0-is at c.in-Ok-Close.ensures.ok k

pub returns-in-Ok-Rest-clause-ok : goal.returns-in-Ok-Rest-clause-ok
returns-in-Ok-Rest-clause-ok c = λ k. rw c.in-Ok-Rest.field-0-is at c.in-Ok-Rest.ensures.ok k

pub returns-in-Ok-Work-clause-ok : goal.returns-in-Ok-Work-clause-ok
returns-in-Ok-Work-clause-ok c = λ k. rw c.in-Ok-Work.field-0-is at c.in-Ok-Work.ensures.ok k
