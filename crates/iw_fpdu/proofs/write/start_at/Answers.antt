use Rattle.std.proofs.Common.{◌<◌, ◌%◌, true, sym, arith}
use Rattle.iw_fpdu.proofs.Counted.{aligned_edge, edge_inside, edge_marker}
use Rattle.iw_fpdu.proofs.write.start_at.Goals as goal

pub returns-then-at-eq0 : goal.returns-then-at-eq0
returns-then-at-eq0 c = sym (edge_marker c.args.at c.if-at-eq0.true)

pub returns-else-at-eq0 : goal.returns-else-at-eq0
returns-else-at-eq0 c =
    let inside : 0 < c.args.at % 512 = omega (arith, c.if-at-eq0.false) in
    sym (edge_inside c.args.at (aligned_edge true c.args.at c.requires.aligned) inside)
