use Rattle.iw_links.specs.Standing.{told_in, plan_of}
use Rattle.iw_links.proofs.Exchanges.{posts}
use Rattle.iw_links.proofs.link.post.Goals as goal

pub returns-in-Ok-clause-ok : goal.returns-in-Ok-clause-ok
returns-in-Ok-clause-ok c = λ phase k due.
    posts (plan_of c.args.plan.now) _ _ (told_in c.args.link.now) phase k _ due c.in-Ok.ensures.ok
