use Rattle.iw_links.specs.Standing.{told_in, plan_of}
use Rattle.iw_links.proofs.Loops.{goes_to, stops_short}
use Rattle.iw_links.proofs.link.step.Goals as goal

pub returns-in-Ok-clause-ok : goal.returns-in-Ok-clause-ok
returns-in-Ok-clause-ok c = λ k.
    goes_to (plan_of c.args.plan.now) (told_in c.args.link.now) k _ _ (told_in c.tell.new.self) _ _
    c.in-Ok.ensures.ok c.tell.ensures.told c.of-after.ensures

pub returns-in-Err-clause-err : goal.returns-in-Err-clause-err
returns-in-Err-clause-err c = λ k. stops_short (plan_of c.args.plan.now) (told_in c.args.link.now) k _ _ c.in-Err.ensures.err
