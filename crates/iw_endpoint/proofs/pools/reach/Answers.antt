use Rattle.std.proofs.Common.{◌≡◌, ◌<◌, ◌+◌, ◌∷◌, ◌∙◌, [], ap, length, None, arith}
use Rattle.std.proofs.lemmas.List.{length-append}
use Rattle.iw_endpoint.specs.Endpoint.{domain_numbers}
use Rattle.iw_endpoint.specs.Numbers.{filled}
use Rattle.iw_endpoint.proofs.Filled.{push_filled}
use Rattle.iw_endpoint.proofs.pools.reach.Goals as goal

pub loop-i-preserved : goal.loop-i-preserved
loop-i-preserved g c =
    let inv = c.loop-i.invariant in
    let items = c.in_ok-push.ensures.items in
    let small : c.args.pd < 256 = c.ranges.pd.fits in
    let size : length c.push.new.self.items ≡ length c.loop-i.places.items + 1 = ap length items ∙ length-append c.loop-i.places.items (None ∷ []) in
    record {
      same = ap (filled domain_numbers) items ∙ push_filled domain_numbers c.loop-i.places.items (omega arith) ∙ inv.same;
      most = omega arith;
      count = omega arith;
    }
