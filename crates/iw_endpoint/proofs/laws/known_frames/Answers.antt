use Rattle.iw_endpoint.proofs.Emptying.{known_frames}
use Rattle.iw_endpoint.proofs.laws.known_frames.Goals as goal

pub returns : goal.returns
returns c = known_frames
