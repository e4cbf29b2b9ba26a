use Rattle.iw_fpdu.proofs.Follows.{frames_follow}
use Rattle.iw_fpdu.proofs.laws.frames_follow_one_another.Goals as goal

pub returns : goal.returns
returns c = frames_follow
