use Rattle.iw_links.specs.Exchange.{Listening}
use Rattle.iw_links.specs.Standing.{standing}
use Rattle.iw_links.proofs.Exchanges.{exchanges, fails_later, fails_still, in_quiet}
use Rattle.iw_links.proofs.serving.answer.Goals as goal

pub returns-in-Err-clause-err : goal.returns-in-Err-clause-err
returns-in-Err-clause-err g c = λ i.
    rw c.in-Err.ensures.err (fails_still _ (standing c.args.endpoint.now c.args.link.now) Listening 0 i _)

pub returns-in-Ok-speak-clause-ok : goal.returns-in-Ok-speak-clause-ok
returns-in-Ok-speak-clause-ok g c = λ i.
    exchanges _ _ _ _ i i i _ _ _ (in_quiet _ _ _ i (g.W.Write.contents c.args.output.now) c.in-Ok.ensures.ok) (c.in-Ok-speak.ensures.ok i 1)

pub returns-in-Err-speak-clause-err : goal.returns-in-Err-speak-clause-err
returns-in-Err-speak-clause-err g c = λ i.
    fails_later _ _ _ _ i i i _ _ _ (in_quiet _ _ _ i (g.W.Write.contents c.args.output.now) c.in-Ok.ensures.ok) (c.in-Err-speak.ensures.err i 1)
