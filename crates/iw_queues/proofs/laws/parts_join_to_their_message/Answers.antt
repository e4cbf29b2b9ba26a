use Rattle.iw_queues.proofs.Cuts.{parts_join}
use Rattle.iw_queues.proofs.laws.parts_join_to_their_message.Goals as goal

pub returns : goal.returns
returns c = parts_join
