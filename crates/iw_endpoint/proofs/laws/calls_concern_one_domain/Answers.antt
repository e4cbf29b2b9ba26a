use Rattle.iw_endpoint.proofs.Steps.{concerns_one}
use Rattle.iw_endpoint.proofs.laws.calls_concern_one_domain.Goals as goal

pub returns : goal.returns
returns c = concerns_one
