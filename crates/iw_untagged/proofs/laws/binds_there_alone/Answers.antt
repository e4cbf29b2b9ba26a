use Rattle.iw_untagged.proofs.Placements.{binds_there}
use Rattle.iw_untagged.proofs.laws.binds_there_alone.Goals as goal

pub returns : goal.returns
returns c = λ source ahead. binds_there source ahead
