use Rattle.iw_locate.proofs.Starting.{start_up_tells as law}
use Rattle.iw_locate.proofs.laws.the_end_of_a_start_up_frame_tells.Goals as goal

pub returns : goal.returns
returns g c = law
