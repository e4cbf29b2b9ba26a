use Rattle.iw_startup.proofs.Handshake as handshake
use Rattle.iw_startup.proofs.laws.requests_are_asked.Goals as goal

pub returns : goal.returns
returns c = handshake.requests_are_asked
