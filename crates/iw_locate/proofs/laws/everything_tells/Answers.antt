use Rattle.iw_locate.proofs.Starting.{everything_tells as law}
use Rattle.iw_locate.proofs.laws.everything_tells.Goals as goal

pub returns : goal.returns
returns g c = law
