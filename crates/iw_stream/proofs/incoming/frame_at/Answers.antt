use Rattle.std.proofs.Common.{◌+◌, ◌-◌, sym, subst, arith}
use Rattle.iw_fpdu.specs.Places.{IsStart}
use Rattle.iw_fpdu.proofs.Follows.{begins}
use Rattle.iw_ranges.specs.Arrived.{Arrived, cell_at}
use Rattle.iw_fpdu.specs.Found.{IsKept}
use Rattle.iw_stream.proofs.Fronts.{Read, frame_read, next_read, none_there, start_near}
use Rattle.iw_stream.proofs.incoming.frame_at.Goals as goal

pub overflow_add-base : goal.overflow_add-base
overflow_add-base g c =
    let at = c.args.arrived.now.arrived.floor - c.args.base in
    omega (arith, c.requires.start, (start_near c.args.layout.markers at c.requires.between).1, c.requires.place, c.requires.beyond)

pub returns-then-missing-base-clause-frame : goal.returns-then-missing-base-clause-frame
returns-then-missing-base-clause-frame g c =
    sym (none_there c.args.layout c.args.arrived.now.arrived c.args.base c.args.start c.missing.result c.requires.beyond c.requires.between c.requires.start c.missing.ensures.missing c.if-missing-base.true)

pub read-requires-clause-low : goal.read-requires-clause-low
read-requires-clause-low g c =
    let at = c.args.arrived.now.arrived.floor - c.args.base in
    omega (arith, c.requires.start, (start_near c.args.layout.markers at c.requires.between).1, c.requires.place)

pub read-requires-clause-start : goal.read-requires-clause-start
read-requires-clause-start g c =
    let at = c.args.arrived.now.arrived.floor - c.args.base in
    subst (IsStart c.args.layout.markers) (sym c.requires.start) (begins c.args.layout.markers at c.requires.between)

pub read-requires-clause-length_kept : goal.read-requires-clause-length_kept
read-requires-clause-length_kept g c = λ p from to.
    subst (λ (a : Arrived). IsKept (cell_at a (c.args.base + p))) (sym c.islands.ensures) (c.requires.kept p from to)

pub returns-clause-frame : goal.returns-clause-frame
returns-clause-frame g c =
    frame_read c.args.layout c.args.arrived.now.arrived c.args.base c.args.start c.read.result (subst (λ (a : Arrived). Read c.args.layout a c.args.base c.args.start c.read.result) c.islands.ensures c.read.ensures)

pub returns-clause-next : goal.returns-clause-next
returns-clause-next g c =
    next_read c.args.layout c.args.arrived.now.arrived c.args.base c.args.start c.read.result c.requires.beyond c.requires.between c.limits.ensures.arrived c.requires.start (subst (λ (a : Arrived). Read c.args.layout a c.args.base c.args.start c.read.result) c.islands.ensures c.read.ensures)
