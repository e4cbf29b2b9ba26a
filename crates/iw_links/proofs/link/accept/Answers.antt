use Rattle.iw_links.specs.Standing.{told_in, plan_of}
use Rattle.iw_links.proofs.Exchanges.{accepts}
use Rattle.iw_links.proofs.link.accept.Goals as goal

pub returns-in-Ok-clause-ok : goal.returns-in-Ok-clause-ok
returns-in-Ok-clause-ok c = λ k.
    accepts (plan_of c.args.plan.now) _ _ (told_in c.args.link.now) k _ c.private.ensures c.in-Ok.ensures.ok
