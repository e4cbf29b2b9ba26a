use Rattle.std.proofs.Common.{refl, sym, ◌∙◌, arith}
use Rattle.iw_connection.proofs.Progress.{none_yet, one_more}
use Rattle.iw_server.proofs.effort.next_step.Goals as goal

pub returns-in-Err-clause-err : goal.returns-in-Err-clause-err
returns-in-Err-clause-err c = record { before = 0; progress = none_yet c.args.endpoint.now c.args.number }

pub returns-then-point-gt-FARTHEST-clause-err : goal.returns-then-point-gt-FARTHEST-clause-err
returns-then-point-gt-FARTHEST-clause-err c = record { before = 0; progress = none_yet c.args.endpoint.now c.args.number }

pub steps-init : goal.steps-init
steps-init c = record {
  progress = none_yet c.args.endpoint.now c.args.number;
  reach = omega (arith, c.in-Ok.ensures.point);
  few = c.args.effort.now.few;
  left = omega arith;
  first = refl;
}

pub steps-preserved : goal.steps-preserved
steps-preserved c =
    let s = c.in-Ok-work.ensures in record {
      progress = one_more c.args.endpoint.now c.steps.endpoint c.work.new.self c.args.number c.steps.n c.in-Ok-work.step c.steps.invariant.progress s.step s.after (sym c.is_progress.ensures ∙ c.if-not-is_progress.false);
      reach = omega (arith, s.reach, c.steps.invariant.reach);
      few = c.steps.invariant.few;
      left = omega (arith, c.count.ensures.left, c.steps.invariant.left, c.steps-test.true);
      first = c.steps.invariant.first;
    }
