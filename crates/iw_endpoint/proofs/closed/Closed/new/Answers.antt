use Rattle.std.proofs.Common.{refl}
use Rattle.iw_endpoint.specs.Endpoint.{no_closed}
use Rattle.iw_endpoint.proofs.closed.Closed.new.Goals as goal

pub returns : goal.returns
unfolding no_closed
returns c = refl
