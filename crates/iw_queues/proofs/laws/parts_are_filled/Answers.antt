use Rattle.iw_queues.proofs.Filled.{fills}
use Rattle.iw_queues.proofs.laws.parts_are_filled.Goals as goal

pub returns : goal.returns
returns c = fills
