use Rattle.iw_endpoint.proofs.Alone.{alone_all}
use Rattle.iw_endpoint.proofs.laws.domains_are_alone.Goals as goal

pub returns : goal.returns
returns c = alone_all
