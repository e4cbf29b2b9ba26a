use Rattle.iw_locate.proofs.Releasing.{release_keeps as law}
use Rattle.iw_locate.proofs.laws.a_release_keeps.Goals as goal

pub returns : goal.returns
returns g c = law
