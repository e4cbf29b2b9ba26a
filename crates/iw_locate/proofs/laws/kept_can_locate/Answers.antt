use Rattle.iw_locate.proofs.Starting.{kept_can_locate as law}
use Rattle.iw_locate.proofs.laws.kept_can_locate.Goals as goal

pub returns : goal.returns
returns g c = law
