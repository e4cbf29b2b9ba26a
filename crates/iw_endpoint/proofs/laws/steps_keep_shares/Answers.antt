use Rattle.iw_endpoint.proofs.Shares.{keeps_share}
use Rattle.iw_endpoint.proofs.laws.steps_keep_shares.Goals as goal

pub returns : goal.returns
returns c = keeps_share
