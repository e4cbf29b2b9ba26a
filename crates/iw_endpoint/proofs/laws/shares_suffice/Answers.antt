use Rattle.iw_endpoint.proofs.Shares.{finds_buffers}
use Rattle.iw_endpoint.proofs.laws.shares_suffice.Goals as goal

pub returns : goal.returns
returns c = finds_buffers
