use Rattle.std.proofs.Common.{◌<◌, length, ◌∙◌, arith}
use Rattle.iw_memory.proofs.PlaceLemmas.{all_places-pushed}
use Rattle.iw_memory.proofs.slots.reach.Goals as goal

pub loop-places-preserved : goal.loop-places-preserved
loop-places-preserved g c =
    let small : length c.loop-places.places.items < 256 = omega (arith, c.loop-places-test.true, c.len.ensures, c.ranges.pd.fits) in
    let pushed = all_places-pushed c.loop-places.places.items c.push.new.self.items c.in_ok-push.ensures.items small in
    (pushed.0, pushed.1 ∙ c.loop-places.invariant.1)
