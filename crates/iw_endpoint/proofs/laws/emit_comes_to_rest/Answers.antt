use Rattle.iw_endpoint.proofs.Emptying.{emit_rests}
use Rattle.iw_endpoint.proofs.laws.emit_comes_to_rest.Goals as goal

pub returns : goal.returns
returns c = emit_rests
