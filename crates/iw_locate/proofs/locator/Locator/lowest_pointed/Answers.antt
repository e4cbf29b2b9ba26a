use Rattle.std.proofs.Common.{◌+◌, ◌-◌, arith, inl, inr}
use Rattle.std.proofs.lemmas.Bool.{cases_lt}
use Rattle.iw_locate.specs.Free.{Scene, scene_of}
use Rattle.iw_locate.proofs.Lowest.{none_below, pointed_more, pointed_all, pointed_first}
use Rattle.iw_locate.proofs.locator.Locator.lowest_pointed.Goals as goal

pub markers-init : goal.markers-init
markers-init g c =
    let v : Scene g.row.T.Denot = scene_of c.args.self.now.layout c.args.self.now.base c.args.islands.now.arrived c.args.judged.now.records in
    let place = c.round_up-place.ensures in record {
      marker = place.marker;
      past = omega (arith, place.low, c.max.ensures);
      lowest = λ s. none_below v c.requires.can c.requires.markers c.args.low c.args.high c.round_up-place.result s place.marker
          (λ p marker lt.
          elim (cases_lt p (c.args.low - 4)) [
            | inl far ↦ inl (omega (arith, far))
            | inr near ↦ inr (omega (arith, near, lt, marker, place.marker, place.near, c.max.ensures, c.saturating_sub.ensures, c.requires.point))
          ]);
    }

pub markers-preserved : goal.markers-preserved
markers-preserved g c =
    let v : Scene g.row.T.Denot = scene_of c.args.self.now.layout c.args.self.now.base c.args.islands.now.arrived c.args.judged.now.records in
    let place = c.markers.place in record {
      marker = omega (arith, c.markers.invariant.marker);
      past = omega (arith, c.markers.invariant.past);
      lowest = pointed_more v c.requires.can c.requires.markers c.args.low c.args.high place c.markers.lowest c.pointed_by-pointed.result c.lower-lowest.result c.markers.invariant.marker c.lower-lowest.ensures
          c.markers.invariant.lowest c.pointed_by-pointed.ensures;
    }

pub returns-then-begins_at : goal.returns-then-begins_at
returns-then-begins_at g c =
    let v : Scene g.row.T.Denot = scene_of c.args.self.now.layout c.args.self.now.base c.args.islands.now.arrived c.args.judged.now.records in
    let place = c.markers.place in
    pointed_first v c.requires.can c.requires.markers c.args.low c.args.high (place + 512) c.lower-lowest.result c.if-begins_at.ensures
    (pointed_more v c.requires.can c.requires.markers c.args.low c.args.high place c.markers.lowest c.pointed_by-pointed.result c.lower-lowest.result c.markers.invariant.marker c.lower-lowest.ensures
    c.markers.invariant.lowest c.pointed_by-pointed.ensures)

pub returns : goal.returns
returns g c =
    let v : Scene g.row.T.Denot = scene_of c.args.self.now.layout c.args.self.now.base c.args.islands.now.arrived c.args.judged.now.records in
    pointed_all v c.requires.can c.requires.markers c.args.low c.args.high c.markers.place c.markers.lowest (λ p s seen points lt. omega (arith, c.requires.end p s seen points lt, c.markers-test.false)) c.markers.invariant.lowest
