use Rattle.std.proofs.Common.{arith}
use Rattle.iw_locate.specs.Free.{Scene, scene_of}
use Rattle.iw_locate.specs.Next.{CanBeEarly}
use Rattle.iw_locate.proofs.Told.{found_low, lowest_since, tells_after}
use Rattle.iw_locate.proofs.locator.Locator.early_since.Goals as goal

pub left_after-requires : goal.left_after-requires
left_after-requires g c =
    let v : Scene g.row.T.Denot = scene_of c.args.self.now.layout c.args.self.now.base c.args.islands.now.arrived c.args.judged.now.records in
    found_low v c.requires.can c.if-not-self.false c.narrowed-narrowed.result c.search-found.result c.floor.ensures.limits c.search-found.ensures

pub returns-clause-next : goal.returns-clause-next
returns-clause-next g c =
    let v : Scene g.row.T.Denot = scene_of c.args.self.now.layout c.args.self.now.base c.args.islands.now.arrived c.args.judged.now.records in
    let can : CanBeEarly v = (c.if-not-self.false, omega (arith, c.if-len-ge-MAX_RECORDS.false, c.len.ensures.len)) in
    lowest_since v c.requires.can c.if-not-self.false c.narrowed-narrowed.result c.search-found.result c.narrowed-narrowed.ensures.tells c.narrowed-narrowed.ensures.none can c.search-found.ensures

pub returns-clause-tells : goal.returns-clause-tells
returns-clause-tells g c =
    let v : Scene g.row.T.Denot = scene_of c.args.self.now.layout c.args.self.now.base c.args.islands.now.arrived c.args.judged.now.records in
    tells_after v c.requires.can c.if-not-self.false c.narrowed-narrowed.result c.left_after.result c.search-found.result c.narrowed-narrowed.ensures.tells c.narrowed-narrowed.ensures.none c.search-found.ensures c.left_after.ensures
