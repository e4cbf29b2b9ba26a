use Rattle.std.proofs.Common.{◌≡◌, refl}
use Rattle.iw_links.specs.Exchange.{Lending, Listening, after_lending}
use Rattle.iw_links.specs.Standing.{standing, part_of}
use Rattle.iw_links.proofs.Exchanges.{fails_still, finishes_later, in_quiet, stops_later}
use Rattle.iw_links.proofs.serving.listen_to.Goals as goal

pub returns-in-Err-clause-err : goal.returns-in-Err-clause-err
returns-in-Err-clause-err g c =
    rw c.in-Err.ensures.err (fails_still _ (standing c.args.endpoint.now c.args.link.now) Lending 0 _ _)

pub returns-in-Ok-await_peer-clause-ok : goal.returns-in-Ok-await_peer-clause-ok
returns-in-Ok-await_peer-clause-ok g c =
    let listens : after_lending (part_of c.args.plan.now.part) ≡ Listening = rw c.requires.plan refl in
    finishes_later _ _ _ _ _ _ _ _ _ _ _ (in_quiet _ _ _ _ _ (rw listens at c.in-Ok.ensures.ok 0)) c.in-Ok-await_peer.ensures.ok

pub returns-clause-err : goal.returns-clause-err
returns-clause-err g c =
    let listens : after_lending (part_of c.args.plan.now.part) ≡ Listening = rw c.requires.plan refl in
    stops_later _ _ _ _ _ _ _ _ _ _ _ (in_quiet _ _ _ _ _ (rw listens at c.in-Ok.ensures.ok 0)) c.in-Err-await_peer.ensures.err
