use Rattle.iw_queues.proofs.Cuts.{covered}
use Rattle.iw_queues.proofs.laws.writes_are_covered.Goals as goal

pub returns : goal.returns
returns c = covered
