use Rattle.iw_connection.specs.Marking.{StopsMarked}
use Rattle.iw_connection.proofs.Marks.{none_marked, one_marked, goes_marked}
use Rattle.iw_connection.proofs.Progress.{on_err}
use Rattle.iw_connection.proofs.sharing.next_marked.Goals as goal

pub steps-init : goal.steps-init
steps-init g c = record {
  progress = none_marked c.args.endpoint.now c.args.number c.args.share c.args.mark;
  there = c.in_ok-reach.ensures.there;
  reach = c.in_ok-reach.ensures.point;
}

pub steps-preserved : goal.steps-preserved
steps-preserved g c =
    let s = c.in-Ok.ensures in let loop = c.steps in record {
      progress = one_marked loop.endpoint c.step_within.new.endpoint c.args.number c.args.share c.args.mark c.in-Ok.step c.is_above_mark-above.result c.passes_over.result s.ok c.is_above_mark-above.ensures c.passes_over.ensures
          c.args.endpoint.now loop.n loop.invariant.progress s.step c.if-passes_over.true;
      there = s.there;
      reach = s.reach;
    }

pub returns-in-Ok-2-clause-ok : goal.returns-in-Ok-2-clause-ok
returns-in-Ok-2-clause-ok g c =
    let s = c.in-Ok.ensures in let loop = c.steps in
    goes_marked loop.endpoint c.step_within.new.endpoint c.args.number c.args.share c.args.mark c.in-Ok.step c.is_above_mark-above.result c.passes_over.result s.ok c.is_above_mark-above.ensures c.passes_over.ensures
    c.args.endpoint.now loop.n loop.invariant.progress s.step loop.invariant.there c.if-passes_over.false

pub returns-in_err-reach-clause-err : goal.returns-in_err-reach-clause-err
returns-in_err-reach-clause-err g c =
    on_err c.from_residual.result (StopsMarked c.args.endpoint.now c.args.number c.args.share c.args.mark c.args.endpoint.now) (record { before = 0; progress = none_marked c.args.endpoint.now c.args.number c.args.share c.args.mark })
