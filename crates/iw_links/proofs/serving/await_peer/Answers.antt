use Rattle.std.proofs.Common.{◌≡◌, ◌∙◌, refl, sym}
use Rattle.iw_links.specs.Exchange.{Serves}
use Rattle.iw_links.specs.Standing.{told_in, part_of, plan_of}
use Rattle.iw_links.specs.declared.exchange.Until.TheVariants as untils
use Rattle.iw_links.proofs.Exchanges.{serves_on}
use Rattle.iw_links.proofs.serving.await_peer.Goals as goal

pub returns-in-Ok-clause-ok : goal.returns-in-Ok-clause-ok
returns-in-Ok-clause-ok g c =
    let serves : part_of c.args.plan.now.part ≡ Serves c.args.region = rw c.requires.plan refl in
    c.in-Ok.ensures.ok (serves_on untils.End (plan_of c.args.plan.now) c.args.region (told_in c.args.link.now) serves (sym c.answers_at_once.ensures ∙ c.if-answers_at_once.false))

pub returns-in-Err-clause-err : goal.returns-in-Err-clause-err
returns-in-Err-clause-err g c =
    let serves : part_of c.args.plan.now.part ≡ Serves c.args.region = rw c.requires.plan refl in
    c.in-Err.ensures.err (serves_on untils.End (plan_of c.args.plan.now) c.args.region (told_in c.args.link.now) serves (sym c.answers_at_once.ensures ∙ c.if-answers_at_once.false))
