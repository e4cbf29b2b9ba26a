use Rattle.iw_endpoint.proofs.Limited.{limited_apart}
use Rattle.iw_endpoint.proofs.laws.limited_regions_are_apart.Goals as goal

pub returns : goal.returns
returns c = limited_apart
