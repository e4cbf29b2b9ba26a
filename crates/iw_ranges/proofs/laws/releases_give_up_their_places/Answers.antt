use Rattle.iw_ranges.proofs.ByPlace.{gives_up_places}
use Rattle.iw_ranges.proofs.laws.releases_give_up_their_places.Goals as goal

pub returns : goal.returns
returns c = gives_up_places
