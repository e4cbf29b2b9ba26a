use Rattle.iw_queues.proofs.Order.{keeps_order}
use Rattle.iw_queues.proofs.laws.messages_keep_their_order.Goals as goal

pub returns : goal.returns
returns c = keeps_order
