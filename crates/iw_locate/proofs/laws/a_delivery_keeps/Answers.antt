use Rattle.iw_locate.proofs.Delivering.{delivery_keeps as law}
use Rattle.iw_locate.proofs.laws.a_delivery_keeps.Goals as goal

pub returns : goal.returns
returns g c = law
