use Rattle.iw_locate.proofs.Turning.{turn_keeps as law}
use Rattle.iw_locate.proofs.laws.a_turn_keeps.Goals as goal

pub returns : goal.returns
returns g c = law
