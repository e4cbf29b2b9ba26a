use Rattle.iw_endpoint.proofs.Used.{used_once}
use Rattle.iw_endpoint.proofs.laws.numbers_are_used_once.Goals as goal

pub returns : goal.returns
returns c = used_once
