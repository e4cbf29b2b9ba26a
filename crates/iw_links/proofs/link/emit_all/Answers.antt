use Rattle.iw_links.proofs.Exchanges.{emits_nothing, emits_on}
use Rattle.iw_links.proofs.link.emit_all.Goals as goal

pub rounds-init : goal.rounds-init
rounds-init c = λ k. emits_nothing _ _ _

pub returns-in-Ok-false-clause-ok : goal.returns-in-Ok-false-clause-ok
returns-in-Ok-false-clause-ok c = λ k. emits_on _ _ _ _ _ _ _ (c.rounds.invariant k) (rw c.in-Ok-false.field-0-test at c.in-Ok-false.ensures.ok k)

pub rounds-preserved : goal.rounds-preserved
rounds-preserved c = λ k. emits_on _ _ _ _ _ _ _ (c.rounds.invariant k) (rw c.in-Ok-true.field-0-test at c.in-Ok-true.ensures.ok k)

pub returns-in-Err-clause-err : goal.returns-in-Err-clause-err
returns-in-Err-clause-err c = λ k. emits_on _ _ _ _ _ _ _ (c.rounds.invariant k) (c.in-Err.ensures.err k)

pub returns-clause-err : goal.returns-clause-err
returns-clause-err c = λ k. c.rounds.invariant k
