use Rattle.iw_queues.proofs.Sending.{sends_in_order}
use Rattle.iw_queues.proofs.laws.parts_are_sent_in_order.Goals as goal

pub returns : goal.returns
returns c = sends_in_order
