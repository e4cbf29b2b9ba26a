use Rattle.std.proofs.Common.{refl}
use Rattle.iw_links.specs.Standing.{told_in, plan_of}
use Rattle.iw_links.proofs.Loops.{filled_all, filled_more, filled_fault, nothing_went}
use Rattle.iw_links.proofs.link.emit.Goals as goal

pub returns-in-Ok-All-clause-ok : goal.returns-in-Ok-All-clause-ok
returns-in-Ok-All-clause-ok c = λ k.
    filled_all (plan_of c.args.plan.now) (told_in c.args.link.now) k _ _ _ _ _ _ (rw c.in-Ok-All.field-0-is at c.in-Ok-All.ensures.ok)

pub returns-in-Ok-More-clause-ok : goal.returns-in-Ok-More-clause-ok
returns-in-Ok-More-clause-ok c = λ k.
    filled_more (plan_of c.args.plan.now) (told_in c.args.link.now) k _ _ _ _ _ _ (rw c.in-Ok-More.field-0-is at c.in-Ok-More.ensures.ok)

pub returns-in-Ok-Fault-clause-ok : goal.returns-in-Ok-Fault-clause-ok
returns-in-Ok-Fault-clause-ok c = λ k.
    filled_fault (plan_of c.args.plan.now) (told_in c.args.link.now) k _ _ _ _ _ _ _ _ (rw c.in-Ok-Fault.field-0-is at c.in-Ok-Fault.ensures.ok) refl

pub returns-in-Err-clause-err : goal.returns-in-Err-clause-err
returns-in-Err-clause-err c = λ k. nothing_went (plan_of c.args.plan.now) (told_in c.args.link.now) k _ _ _ _ c.in-Err.ensures.err.0 c.in-Err.ensures.err.1
