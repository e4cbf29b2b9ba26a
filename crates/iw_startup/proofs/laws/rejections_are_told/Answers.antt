use Rattle.iw_startup.proofs.Handshake as handshake
use Rattle.iw_startup.proofs.laws.rejections_are_told.Goals as goal

pub returns : goal.returns
returns c = handshake.rejections_are_told
