use Rattle.iw_fpdu.proofs.Known.{far_markers_fail}
use Rattle.iw_fpdu.proofs.laws.far_markers_fail.Goals as goal

pub returns : goal.returns
returns c = far_markers_fail
