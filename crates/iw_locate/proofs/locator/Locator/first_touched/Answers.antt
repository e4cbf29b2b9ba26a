use Rattle.std.proofs.Common.{arith, inl, inr}
use Rattle.iw_locate.specs.Free.{Scene, scene_of}
use Rattle.iw_locate.proofs.Told.{pointed_none, step_low, step_pointed}
use Rattle.iw_locate.proofs.locator.Locator.first_touched.Goals as goal

pub markers-init : goal.markers-init
markers-init g c =
    let v : Scene g.row.T.Denot = scene_of c.args.self.now.layout c.args.self.now.base c.args.islands.now.arrived c.args.judged.now.records in
    let place = c.round_up-place.ensures in record {
      marker = place.marker;
      past = omega (arith, place.low, c.max.ensures);
      over = c.first_over-low.ensures;
      pointed = λ s p q open_ below seen points low high.
          absurd (pointed_none v c.requires.can c.requires.markers c.args.from c.args.point c.round_up-place.result c.requires.point place.marker (omega (arith, place.near, c.max.ensures, c.saturating_sub.ensures)) s p q open_ below seen points low high);
    }

pub markers-preserved : goal.markers-preserved
markers-preserved g c =
    let v : Scene g.row.T.Denot = scene_of c.args.self.now.layout c.args.self.now.base c.args.islands.now.arrived c.args.judged.now.records in
    let place = c.markers.place in
    let low = c.markers.low in
    let new = c.start_or-low.result in
    let found = c.pointed_by-pointed.result in
    let inv = c.markers.invariant in record {
      marker = omega (arith, inv.marker);
      past = omega (arith, inv.past);
      over = λ s open_ over. omega (arith, step_low v c.requires.can c.requires.markers place low new found c.pointed_by-pointed.ensures c.start_or-low.ensures, inv.over s open_ over);
      pointed = step_pointed v c.requires.can c.requires.markers c.args.from place low new found inv.marker c.pointed_by-pointed.ensures c.start_or-low.ensures inv.pointed;
    }

pub returns : goal.returns
returns g c = λ s open_ touched.
    elim touched [
      | inl (q, within, low, high) ↦ c.markers.invariant.over s open_ (omega (arith, within.low, high))
      | inr (q, p, within, seen, points, low, high) ↦ c.markers.invariant.pointed s p q open_ (omega (arith, low, within.high, c.markers-test.false)) seen points within.low high
    ]
