use Rattle.iw_endpoint.proofs.Settling.{refuses_told_again}
use Rattle.iw_endpoint.proofs.laws.refuses_told_again.Goals as goal

pub returns : goal.returns
returns c = refuses_told_again
