use Rattle.std.proofs.Common.{◌<◌, arith}
use Rattle.iw_stream.proofs.InPlace.{counted_in_place}
use Rattle.iw_stream.proofs.incoming.lending.count_ahead.Goals as goal

pub returns : goal.returns
returns g c =
    let some : 0 < c.args.n = omega (arith, c.if-n-eq0.false) in
    let counted = counted_in_place c.args.islands.now c.came_in_place.new.self.arrived c.args.n c.end-place.result c.came_in_place.result some c.end-place.ensures.end c.end-place.ensures.near
    c.came_in_place.ensures.counted c.came_in_place.ensures.kept c.came_in_place.ensures.stood c.came_in_place.ensures.octets in
    record { counted = counted }
