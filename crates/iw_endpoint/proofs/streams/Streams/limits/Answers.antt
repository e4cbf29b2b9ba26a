use Rattle.std.proofs.Common.{◌≡◌, length, arith}
use Rattle.std.specs.Prelude.{nat_eq}
use Rattle.std.specs.HashMap as hash
use Rattle.slab.specs.Slab as slab
use Rattle.iw_endpoint.proofs.Numbers.{size_listed}
use Rattle.iw_endpoint.proofs.streams.Streams.limits.Goals as goal

pub returns : goal.returns
returns g c =
    let size : length c.args.self.now ≡ c.self.inside.next = size_listed (hash.get nat_eq c.self.inside.keys) (slab.get c.self.inside.places) c.self.inside.next c.args.self.now c.self.view_is in
    let least = c.self.invariant.least in
    omega (arith, size, least)
