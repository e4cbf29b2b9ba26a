use Rattle.std.proofs.Common.{◌≡◌, ℕ, ◌≤◌, ◌<◌, map, ap, sym, subst, length, arith}
use Rattle.iw_ranges.specs.Arrived.{Arrived, Here, IsHere, cell_at, cells_between}
use Rattle.iw_stream.specs.Incoming.{scene_in}
use Rattle.iw_stream.proofs.Fronts.{in_window}
use Rattle.iw_stream.proofs.Releasing.{all_held}
use Rattle.iw_stream.proofs.Started.{part_here, part_is}
use Rattle.iw_stream.proofs.starting.octets_in_order.Goals as goal

pub part-requires : goal.part-requires
part-requires g c =
    subst (λ (a : Arrived). (p : ℕ) → c.floor.result ≤ p → p < c.missing.result → IsHere (cell_at a p)) (sym c.islands.ensures)
    (part_here c.args.arrived.now.arrived c.floor.result c.missing.result (all_held (scene_in c.args.arrived.now) c.limits.ensures.tracked.keeps.released c.limits.ensures.tracked.keeps.based c.requires) c.floor.ensures c.missing.ensures.come)

pub returns-clause-octets : goal.returns-clause-octets
returns-clause-octets g c =
    let part = subst (λ (a : Arrived). map Here c.part.result.now ≡ cells_between a c.floor.result c.missing.result) c.islands.ensures c.part.ensures in
    part_is c.args.arrived.now.arrived c.floor.result c.missing.result c.part.result.now (all_held (scene_in c.args.arrived.now) c.limits.ensures.tracked.keeps.released c.limits.ensures.tracked.keeps.based c.requires) c.floor.ensures c.missing.ensures.come c.missing.ensures.missing part

pub returns-clause-few : goal.returns-clause-few
returns-clause-few g c =
    let a = c.args.arrived.now.arrived in
    let part = subst (λ (a : Arrived). map Here c.part.result.now ≡ cells_between a c.floor.result c.missing.result) c.islands.ensures c.part.ensures in
    let same = part_is a c.floor.result c.missing.result c.part.result.now (all_held (scene_in c.args.arrived.now) c.limits.ensures.tracked.keeps.released c.limits.ensures.tracked.keeps.based c.requires) c.floor.ensures c.missing.ensures.come c.missing.ensures.missing part in
    omega (arith, ap length same, in_window a c.limits.ensures.arrived)
