use Rattle.iw_fpdu.proofs.Again.{stays_whole}
use Rattle.iw_fpdu.proofs.laws.whole_frames_stay.Goals as goal

pub returns : goal.returns
returns c = stays_whole
