use Rattle.iw_endpoint.proofs.Spared.{stay_apart}
use Rattle.iw_endpoint.proofs.laws.limited_regions_stay_apart.Goals as goal

pub returns : goal.returns
returns c = stay_apart
