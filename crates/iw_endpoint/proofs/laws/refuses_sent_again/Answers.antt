use Rattle.iw_endpoint.proofs.Emptying.{refuses_sent_again}
use Rattle.iw_endpoint.proofs.laws.refuses_sent_again.Goals as goal

pub returns : goal.returns
returns c = refuses_sent_again
