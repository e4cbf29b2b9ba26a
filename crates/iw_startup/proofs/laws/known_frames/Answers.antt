use Rattle.iw_startup.proofs.Known as known
use Rattle.iw_startup.proofs.laws.known_frames.Goals as goal

pub returns : goal.returns
returns c = known.known_frames
