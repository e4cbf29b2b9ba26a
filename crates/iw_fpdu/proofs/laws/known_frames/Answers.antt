use Rattle.iw_fpdu.proofs.Known.{known_frames}
use Rattle.iw_fpdu.proofs.laws.known_frames.Goals as goal

pub returns : goal.returns
returns c = known_frames
