use Rattle.iw_locate.proofs.Telling.{overlaps_are_told as law}
use Rattle.iw_locate.proofs.laws.overlaps_are_told.Goals as goal

pub returns : goal.returns
returns g c = law
