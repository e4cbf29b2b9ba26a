use Rattle.std.proofs.Common.{◌+◌, ◌-◌, ap, ◌∙◌, arith}
use Rattle.std.specs.Prelude.{not}
use Rattle.iw_ranges.specs.Arrived.{is_missing}
use Rattle.iw_ranges.proofs.ByPlace.{past}
use Rattle.iw_fpdu.proofs.Came.{came_from}
use Rattle.iw_fpdu.proofs.fpdu.all_came.Goals as goal

pub returns-clause-came : goal.returns-clause-came
returns-clause-came g c =
    came_from c.came.result c.args.islands.now.arrived c.args.base c.args.from c.args.to (c.args.base + c.args.from) c.in-Some.end (omega arith) (omega (arith, c.in-Some.ensures)) c.came.ensures

pub returns-then-end-clause-came : goal.returns-then-end-clause-came
returns-then-end-clause-came g c =
    let last = c.args.to - 1 in
    let place = c.args.base + last in
    (last, omega arith, omega arith, ap (λ x. not (is_missing x)) (past c.args.islands.now.arrived place (omega (arith, c.end.ensures.end, c.if-end.true, c.in-Some.ensures))))
