use Rattle.iw_links.specs.Exchange.{Listening, Speaking}
use Rattle.iw_links.specs.Standing.{standing}
use Rattle.iw_links.proofs.Exchanges.{both, exchanges, fails_later, fails_quietly, fails_still, in_quiet}
use Rattle.iw_links.proofs.asking.request.Goals as goal

pub returns-in-Err-clause-err : goal.returns-in-Err-clause-err
returns-in-Err-clause-err g c = λ i.
    rw c.in-Err.ensures.err (fails_still _ (standing c.args.endpoint.now c.args.link.now) Listening 0 i _)

pub returns-in-Err-post_send-clause-err : goal.returns-in-Err-post_send-clause-err
returns-in-Err-post_send-clause-err g c = λ i.
    rw c.in-Err-post_send.ensures.err
    (fails_quietly _ _ (standing c.post_write.new.endpoint c.args.link.now) Speaking 1 i _ c.in-Ok.ensures.ok)

pub returns-in-Ok-speak-clause-ok : goal.returns-in-Ok-speak-clause-ok
returns-in-Ok-speak-clause-ok g c = λ i.
    let posted = both _ _ _ _ c.in-Ok.ensures.ok c.in-Ok-post_send.ensures.ok in
    exchanges _ _ _ _ i i i _ _ _ (in_quiet _ _ _ i (g.W.Write.contents c.args.output.now) posted) (c.in-Ok-speak.ensures.ok i 2)

pub returns-in-Err-speak-clause-err : goal.returns-in-Err-speak-clause-err
returns-in-Err-speak-clause-err g c = λ i.
    let posted = both _ _ _ _ c.in-Ok.ensures.ok c.in-Ok-post_send.ensures.ok in
    fails_later _ _ _ _ i i i _ _ _ (in_quiet _ _ _ i (g.W.Write.contents c.args.output.now) posted) (c.in-Err-speak.ensures.err i 2)
