use Rattle.iw_endpoint.proofs.Settling.{known_calls}
use Rattle.iw_endpoint.proofs.laws.known_calls.Goals as goal

pub returns : goal.returns
returns c = known_calls
