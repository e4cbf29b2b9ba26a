use Rattle.iw_locate.proofs.Telling.{lowest_is_told as law}
use Rattle.iw_locate.proofs.laws.the_lowest_free_place_is_told.Goals as goal

pub returns : goal.returns
returns g c = law
