use Rattle.iw_locate.proofs.Emptied.{next_is_one as law}
use Rattle.iw_locate.proofs.laws.next_is_one.Goals as goal

pub returns : goal.returns
returns g c = law
