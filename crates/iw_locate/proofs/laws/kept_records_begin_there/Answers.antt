use Rattle.iw_locate.proofs.Holds.{keeps_from as law}
use Rattle.iw_locate.proofs.laws.kept_records_begin_there.Goals as goal

pub returns : goal.returns
returns g c = law
