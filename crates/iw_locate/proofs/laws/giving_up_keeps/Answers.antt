use Rattle.iw_locate.proofs.Emptied.{giving_up_keeps as law}
use Rattle.iw_locate.proofs.laws.giving_up_keeps.Goals as goal

pub returns : goal.returns
returns g c = law
