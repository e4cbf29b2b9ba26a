use Rattle.iw_queues.proofs.Cuts.{in_order}
use Rattle.iw_queues.proofs.laws.sends_complete_in_order.Goals as goal

pub returns : goal.returns
returns c = in_order
