use Rattle.iw_untagged.proofs.Placements.{places_there}
use Rattle.iw_untagged.proofs.laws.places_there_alone.Goals as goal

pub returns : goal.returns
returns c = λ r msn mo octets e. places_there r msn mo octets e
