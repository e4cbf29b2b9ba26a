use Rattle.std.proofs.Common.{sym, ◌∙◌, arith}
use Rattle.iw_fpdu.proofs.Octets.{length_within}
use Rattle.iw_locate.specs.Free.{Scene, scene_of}
use Rattle.iw_locate.proofs.Open.{not_open_short}
use Rattle.iw_locate.proofs.Lowest.{with_seen}
use Rattle.iw_locate.proofs.locator.Locator.seen_at.Goals as goal

pub returns-then-not-all_came : goal.returns-then-not-all_came
returns-then-not-all_came g c =
    let v : Scene g.row.T.Denot = scene_of c.args.self.now.layout c.args.self.now.base c.args.islands.now.arrived c.args.judged.now.records in
    λ seen open_. not_open_short v c.requires.can c.requires.markers c.args.start c.length-len.result c.end_of-end.result c.length-len.ensures c.end_of-end.ensures c.if-not-all_came.ensures.came open_

pub returns-then-not-did_come_too : goal.returns-then-not-did_come_too
returns-then-not-did_come_too g c = λ seen open_.
    let w = c.if-not-did_come_too.ensures in
    absurd (let e = sym (seen.came w.0 w.1 w.2) ∙ w.3 in cc e)

pub returns-then-overlaps_placed : goal.returns-then-overlaps_placed
returns-then-overlaps_placed g c = λ seen open_. let w = c.if-overlaps_placed.ensures in seen.outside w.0 w.1 w.2 w.3

pub returns : goal.returns
returns g c =
    let v : Scene g.row.T.Denot = scene_of c.args.self.now.layout c.args.self.now.base c.args.islands.now.arrived c.args.judged.now.records in
    with_seen v c.args.place c.args.start c.open_to.result
    (record {
      marker = c.requires.marker;
      came = c.if-not-did_come_too.ensures;
      outside = c.if-overlaps_placed.ensures;
    })
    c.open_to.ensures

pub all_came-requires : goal.all_came-requires
all_came-requires g c = omega (arith, c.end_of-end.ensures, length_within c.args.self.now.layout.markers c.args.start c.length-len.result c.requires.start)

pub open_to-requires-clause-fits : goal.open_to-requires-clause-fits
open_to-requires-clause-fits g c = c.if-not-all_came.ensures.fits
