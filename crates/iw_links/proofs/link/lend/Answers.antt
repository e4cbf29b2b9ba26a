use Rattle.iw_links.specs.Standing.{told_in, plan_of}
use Rattle.iw_links.proofs.Exchanges.{lends}
use Rattle.iw_links.proofs.link.lend.Goals as goal

pub returns-in-Ok-post_recv-clause-ok : goal.returns-in-Ok-post_recv-clause-ok
returns-in-Ok-post_recv-clause-ok c = λ k.
    lends (plan_of c.args.plan.now) _ _ (told_in c.args.link.now) k _ c.in-Ok.ensures c.in-Ok-post_recv.ensures.ok
