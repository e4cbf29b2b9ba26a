use Rattle.iw_locate.proofs.Starting.{nothing_tells as law}
use Rattle.iw_locate.proofs.laws.nothing_tells.Goals as goal

pub returns : goal.returns
returns g c = law
