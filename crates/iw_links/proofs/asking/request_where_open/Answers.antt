use Rattle.iw_links.specs.Exchange.{Listening}
use Rattle.iw_links.specs.Standing.{standing}
use Rattle.iw_links.proofs.Exchanges.{fails_still}
use Rattle.iw_links.proofs.asking.request_where_open.Goals as goal

pub returns-then-not-link-clause-err : goal.returns-then-not-link-clause-err
returns-then-not-link-clause-err g c = λ i. fails_still _ (standing c.args.endpoint.now c.args.link.now) Listening 0 i _
