use Rattle.iw_locate.proofs.Adding.{judging_keeps as law}
use Rattle.iw_locate.proofs.laws.judging_keeps.Goals as goal

pub returns : goal.returns
returns g c = law
