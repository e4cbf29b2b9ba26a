use Rattle.std.proofs.Common.{sym, ◌∙◌}
use Rattle.iw_connection.specs.Within.{StopsWithin}
use Rattle.iw_connection.proofs.Progress.{none_within, one_within, on_err}
use Rattle.iw_connection.proofs.sharing.next_within.Goals as goal

pub steps-init : goal.steps-init
steps-init g c = record {
  progress = none_within c.args.endpoint.now c.args.number c.args.share;
  there = c.in_ok-reach.ensures.there;
  reach = c.in_ok-reach.ensures.point;
}

pub steps-preserved : goal.steps-preserved
steps-preserved g c =
    let s = c.in-Ok.ensures in record {
      progress = one_within c.args.endpoint.now c.steps.endpoint c.step_within.new.endpoint c.args.number c.args.share c.steps.n c.in-Ok.step c.steps.invariant.progress s.step s.ok (sym c.is_progress.ensures ∙ c.if-is_progress.true);
      there = s.there;
      reach = s.reach;
    }

pub returns-in_err-reach-clause-err : goal.returns-in_err-reach-clause-err
returns-in_err-reach-clause-err g c =
    on_err c.from_residual.result (StopsWithin c.args.endpoint.now c.args.number c.args.share c.args.endpoint.now) (record { before = 0; progress = none_within c.args.endpoint.now c.args.number c.args.share })
