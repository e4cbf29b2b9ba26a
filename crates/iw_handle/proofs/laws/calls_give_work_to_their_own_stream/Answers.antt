use Rattle.iw_handle.proofs.Elsewhere.{keeps_none}
use Rattle.iw_handle.proofs.laws.calls_give_work_to_their_own_stream.Goals as goal

pub returns : goal.returns
returns c = keeps_none
