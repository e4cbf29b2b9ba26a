use Rattle.iw_links.proofs.Exchanges.{registers_same}
use Rattle.iw_links.proofs.link.listener.Goals as goal

pub returns-in-Ok-clause-endpoint : goal.returns-in-Ok-clause-endpoint
returns-in-Ok-clause-endpoint c =
    registers_same _ _ _ _ _ _ c.in-Ok.ensures.ok c.in_ok-endpoint.ensures c.in_ok-octets.ensures
