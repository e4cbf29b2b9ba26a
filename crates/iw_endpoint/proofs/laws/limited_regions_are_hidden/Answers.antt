use Rattle.iw_endpoint.proofs.Unseen.{are_hidden}
use Rattle.iw_endpoint.proofs.laws.limited_regions_are_hidden.Goals as goal

pub returns : goal.returns
returns c = are_hidden
