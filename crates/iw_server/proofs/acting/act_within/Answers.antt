use Rattle.iw_server.proofs.Stepping.{acted_none, acted_more, acted_all, acted_on}
use Rattle.iw_server.proofs.acting.act_within.Goals as goal

pub steps-init : goal.steps-init
steps-init c = acted_none _ _

pub steps-preserved : goal.steps-preserved
steps-preserved c = acted_more _ _ _ _ c.in-Ok.step _ _ _ c.steps.invariant c.in-Ok.ensures.ok c.act_on.ensures.same c.in-Ok-act_on.ensures.ok

pub returns-in-Ok-Idle-clause-ok : goal.returns-in-Ok-Idle-clause-ok
returns-in-Ok-Idle-clause-ok c = acted_all _ _ _ _ _ c.steps.invariant (rw c.in-Ok-Idle.field-0-is at c.in-Ok-Idle.ensures.ok)

pub returns-in-Err-Spent-clause-ok : goal.returns-in-Err-Spent-clause-ok
returns-in-Err-Spent-clause-ok c = acted_on _ _ _ _ _ c.steps.invariant c.in-Err-Spent.ensures.err
