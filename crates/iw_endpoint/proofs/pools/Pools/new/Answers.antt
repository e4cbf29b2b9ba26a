use Rattle.std.proofs.Common.{ap}
use Rattle.iw_endpoint.specs.Endpoint.{no_pools, domain_numbers}
use Rattle.iw_endpoint.specs.Numbers.{filled}
use Rattle.iw_endpoint.proofs.pools.Pools.new.Goals as goal

pub returns : goal.returns
unfolding no_pools
returns g c = ap (filled domain_numbers) c.new.ensures.items
