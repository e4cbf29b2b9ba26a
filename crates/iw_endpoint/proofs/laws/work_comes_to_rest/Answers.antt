use Rattle.iw_endpoint.proofs.Settling.{work_settles}
use Rattle.iw_endpoint.proofs.laws.work_comes_to_rest.Goals as goal

pub returns : goal.returns
returns c = work_settles
