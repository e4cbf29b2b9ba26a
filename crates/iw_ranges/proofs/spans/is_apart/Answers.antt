use Rattle.std.proofs.Common.{arith}
use Rattle.std.specs.VecDeque.{deque_len}
use Rattle.iw_ranges.proofs.Joins.{apart_at, apart_past}
use Rattle.iw_ranges.proofs.spans.is_apart.Goals as goal

pub returns-then-low-len : goal.returns-then-low-len
returns-then-low-len g c =
    apart_past c.args.spans.now.items c.args.from c.args.to c.args.low c.len.result (deque_len c.args.spans.now) (omega (arith, c.args.spans.now.ok.0)) c.requires.place c.if-low-len.true c.len.ensures

pub returns-else-low-len : goal.returns-else-low-len
returns-else-low-len g c =
    apart_at c.args.spans.now.items c.args.from c.args.to c.args.low c.index.result.now (deque_len c.args.spans.now) (omega (arith, c.args.spans.now.ok.0)) c.requires.place
    (omega (arith, c.if-low-len.false, c.requires.place.within, c.args.spans.now.ok.0, c.len.ensures)) c.index.ensures
