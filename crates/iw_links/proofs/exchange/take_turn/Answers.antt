use Rattle.iw_links.specs.Standing.{standing}
use Rattle.iw_links.proofs.Exchanges.{exchanges, fails_later, in_quiet, stops_quietly}
use Rattle.iw_links.proofs.exchange.take_turn.Goals as goal

pub returns-in-Err-clause-err : goal.returns-in-Err-clause-err
returns-in-Err-clause-err g c = λ i k.
    stops_quietly _ _ _ (standing c.work_all.new.endpoint c.work_all.new.link) k i (g.W.Write.contents c.args.output.now) (c.in-Err.ensures.err k)

pub returns-in-Ok-speak-clause-ok : goal.returns-in-Ok-speak-clause-ok
returns-in-Ok-speak-clause-ok g c = λ i k.
    let o = g.W.Write.contents c.args.output.now in
    exchanges _ _ _ _ i i i o o _ (in_quiet _ _ _ i o (c.in-Ok.ensures.ok k)) (c.in-Ok-speak.ensures.ok i k)

pub returns-in-Err-speak-clause-err : goal.returns-in-Err-speak-clause-err
returns-in-Err-speak-clause-err g c = λ i k.
    let o = g.W.Write.contents c.args.output.now in
    fails_later _ _ _ _ i i i o o _ (in_quiet _ _ _ i o (c.in-Ok.ensures.ok k)) (c.in-Err-speak.ensures.err i k)
