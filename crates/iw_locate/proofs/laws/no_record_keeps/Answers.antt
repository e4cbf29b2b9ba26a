use Rattle.iw_locate.proofs.Starting.{no_record_keeps as law}
use Rattle.iw_locate.proofs.laws.no_record_keeps.Goals as goal

pub returns : goal.returns
returns g c = law
