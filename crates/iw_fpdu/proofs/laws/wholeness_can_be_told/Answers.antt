use Rattle.iw_fpdu.proofs.Came.{tells_whole}
use Rattle.iw_fpdu.proofs.laws.wholeness_can_be_told.Goals as goal

pub returns : goal.returns
returns c = tells_whole
