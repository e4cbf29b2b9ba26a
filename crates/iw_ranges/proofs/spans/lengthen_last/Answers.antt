use Rattle.std.proofs.Common.{◌-◌, arith}
use Rattle.iw_ranges.proofs.Joins.{longer_last, some_spans}
use Rattle.iw_ranges.proofs.spans.lengthen_last.Goals as goal

pub returns-clause-items : goal.returns-clause-items
returns-clause-items g c =
    let some = some_spans c.args.spans.now.items c.requires.order in
    longer_last c.args.spans.now.items c.args.from c.args.to (c.len-last.result - 1) c.index.result.now c.requires.order (omega (arith, some, c.len-last.ensures, c.args.spans.now.ok.0)) c.index.ensures c.requires.within c.requires.top c.requires.further
