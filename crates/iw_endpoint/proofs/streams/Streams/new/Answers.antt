use Rattle.std.proofs.Common.{ap}
use Rattle.std.specs.Prelude.{nat_eq}
use Rattle.std.specs.HashMap as hash
use Rattle.std.specs.Map.{lookup}
use Rattle.slab.specs.Slab as slab
use Rattle.iw_endpoint.specs.Endpoint.{no_streams}
use Rattle.iw_endpoint.proofs.Numbers.{listed_new}
use Rattle.iw_endpoint.proofs.streams.Streams.new.Goals as goal

pub returns : goal.returns
unfolding no_streams
returns g c = listed_new (hash.get nat_eq c.new.result) (slab.get c.new-2.result) 64 (λ n. ap (lookup (nat_eq n)) c.new.ensures.empty)
