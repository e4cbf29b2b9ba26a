use Rattle.std.proofs.Common.{◌<◌, ◌≤◌, ◌^◌}
use Rattle.std.specs.Prelude.{nat_eq}
use Rattle.std.specs.HashMap as hash
use Rattle.slab.specs.Slab as slab
use Rattle.iw_endpoint.proofs.Numbers.{size_listed, next_within, next_past}
use Rattle.iw_endpoint.proofs.streams.Streams.next_number.Goals as goal

pub returns-then-self : goal.returns-then-self
returns-then-self g c =
    let below : c.self.inside.next < 2 ^ 32 = c.if-self.true in
    next_within c.args.self.now c.self.inside.next (size_listed (hash.get nat_eq c.self.inside.keys) (slab.get c.self.inside.places) c.self.inside.next c.args.self.now c.self.view_is) below

pub returns-else-self : goal.returns-else-self
returns-else-self g c =
    let past : 2 ^ 32 ≤ c.self.inside.next = c.if-self.false in
    next_past c.args.self.now c.self.inside.next (size_listed (hash.get nat_eq c.self.inside.keys) (slab.get c.self.inside.places) c.self.inside.next c.args.self.now c.self.view_is) past
