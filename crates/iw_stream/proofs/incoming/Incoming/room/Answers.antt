use Rattle.std.proofs.Common.{length, ap, arith}
use Rattle.iw_ranges.specs.Arrived.{Arrived}
use Rattle.iw_stream.specs.Incoming.{Coming}
use Rattle.iw_stream.proofs.incoming.Incoming.room.Goals as goal

pub returns : goal.returns
returns g c =
    let e = ap (λ (v : Coming). v.arrived) c.self.view_is in
    omega (arith, c.end.ensures.end, c.end.ensures.near, c.floor.ensures.floor, ap (λ (x : Arrived). length x.cells) e)
