use Rattle.iw_startup.proofs.Handshake as handshake
use Rattle.iw_startup.proofs.laws.accepted_ends_agree.Goals as goal

pub returns : goal.returns
returns c = handshake.accepted_ends_agree
