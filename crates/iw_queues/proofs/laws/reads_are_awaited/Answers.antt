use Rattle.iw_queues.proofs.Awaited.{awaits}
use Rattle.iw_queues.proofs.laws.reads_are_awaited.Goals as goal

pub returns : goal.returns
returns c = awaits
