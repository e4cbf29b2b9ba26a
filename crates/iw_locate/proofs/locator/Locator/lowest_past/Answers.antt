use Rattle.std.proofs.Common.{◌<◌, length, arith}
use Rattle.iw_locate.specs.Free.{Scene, scene_of}
use Rattle.iw_locate.proofs.Lowest.{ends_too_low, none_past, first_past, one_more, past_all, ends_near}
use Rattle.iw_locate.proofs.locator.Locator.lowest_past.Goals as goal

pub ends-init : goal.ends-init
ends-init g c =
    let rs = c.args.judged.now.records in
    let first = c.first_past-index.ensures in record {
      within = first.within;
      none = λ k d s lt within ends open_.
          ends_too_low rs c.len-count.ensures.limits.apart c.args.low k d s (omega (arith, first.within)) (omega (arith, first.before k d lt, c.saturating_sub.ensures)) within.low ends;
    }

pub returns-then-high-end : goal.returns-then-high-end
returns-then-high-end g c =
    let v : Scene g.row.T.Denot = scene_of c.args.self.now.layout c.args.self.now.base c.args.islands.now.arrived c.args.judged.now.records in
    let inside : c.ends.index < length v.records = omega (arith, c.ends-test.true, c.len-count.ensures.len) in
    none_past v c.requires.markers c.len-count.ensures.limits.apart c.args.low c.args.high c.ends.index c.end_at-end.result inside c.end_at-end.ensures c.ends.invariant.none c.if-high-end.true

pub returns-in-Some : goal.returns-in-Some
returns-in-Some g c =
    let v : Scene g.row.T.Denot = scene_of c.args.self.now.layout c.args.self.now.base c.args.islands.now.arrived c.args.judged.now.records in
    let inside : c.ends.index < length v.records = omega (arith, c.ends-test.true, c.len-count.ensures.len) in
    first_past v c.requires.markers c.len-count.ensures.limits.apart c.args.low c.args.high c.ends.index c.end_at-end.result inside c.end_at-end.ensures c.ends.invariant.none c.in-Some.frame c.in-Some.ensures

pub ends-preserved : goal.ends-preserved
ends-preserved g c =
    let v : Scene g.row.T.Denot = scene_of c.args.self.now.layout c.args.self.now.base c.args.islands.now.arrived c.args.judged.now.records in
    let inside : c.ends.index < length v.records = omega (arith, c.ends-test.true, c.len-count.ensures.len) in record {
      within = omega (arith, inside);
      none = one_more v c.requires.markers c.len-count.ensures.limits.apart c.args.low c.args.high c.ends.index c.end_at-end.result inside c.end_at-end.ensures c.ends.invariant.none c.in_default.ensures;
    }

pub returns : goal.returns
returns g c =
    let v : Scene g.row.T.Denot = scene_of c.args.self.now.layout c.args.self.now.base c.args.islands.now.arrived c.args.judged.now.records in
    past_all v c.args.low c.args.high c.ends.index (omega (arith, c.ends-test.false, c.len-count.ensures.len)) c.ends.invariant.none

pub returns-then-ends_past : goal.returns-then-ends_past
returns-then-ends_past g c = λ s past open_. let h = c.if-ends_past.ensures past.1.0 past.1.1 in omega (arith, h, (ends_near past.1.0.end s past.1.2).0, past.0.high)
