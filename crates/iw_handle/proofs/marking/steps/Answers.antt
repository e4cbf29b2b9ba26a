use Rattle.std.proofs.Common.{refl, sym, ap, ◌∙◌, arith}
use Rattle.std.specs.Result.{result_err}
use Rattle.std.proofs.lemmas.Result.{err_from_is_err_and}
use Rattle.iw_connection.proofs.Marks.{progress_over, unmarked_over, marked_told}
use Rattle.iw_handle.specs.Sharing.{after_steps_within}
use Rattle.iw_handle.specs.Steps.{is_quiet, is_quiet_answer}
use Rattle.iw_handle.proofs.Reached.{not_memory, refused_this, memory_none}
use Rattle.iw_handle.proofs.QuietStepsMarked.{more_unmarked, kind_told, works-marked, kind_marked, refused-marked, works_on-marked}
use Rattle.iw_handle.proofs.QuietStepsWithin.{more_quiet, one_more, works-told, works-refused}
use Rattle.iw_handle.proofs.marking.steps.Goals as goal
use Rattle.iw_handle.proofs.marking.steps.Goals.{then-before-most+else-passes_over, else-before-most}

pub steps-init : goal.steps-init
unfolding after_steps_within
steps-init c = record {
  few = omega arith;
  quiet = λ k below. absurd (omega arith);
  unmarked = λ k below. absurd (omega arith);
  same = refl;
  left = refl;
  there = c.in_ok-reach.ensures.there;
  reach = c.in_ok-reach.ensures.point;
}

pub returns-in_err-reach-clause-steps : goal.returns-in_err-reach-clause-steps
unfolding after_steps_within
returns-in_err-reach-clause-steps c =
    let is = sym c.in_err-reach.ensures.refused in
    let e = c.args.held.now.endpoint in
    let p = err_from_is_err_and c.from_residual.result c.from_residual.ensures.1 in
    rw (p.1, p.2) (works_on-marked c.args.most c.args.held.now c.args.number c.args.share c.args.mark 0 c.args.held.now _ _ _ (omega arith) refl (λ k below. absurd (omega arith)) (λ k below. absurd (omega arith))
    (refused-marked c.args.held.now c.args.number c.args.share c.args.mark _ _ _
    (works-refused c.args.held.now c.args.number c.args.share _ _ e (refused_this _ _ _ is) (memory_none _ _ _ is) (λ bad. absurd (not_memory e c.args.number (is ∙ ap result_err bad))) refl))
    (λ less bad. cc) (λ bad. cc))

pub steps-preserved : goal.steps-preserved
steps-preserved c =
    let s = c.in-Ok.ensures in let loop = c.steps in
    let now = loop.held.endpoint in let new = c.step.new.endpoint in
    let above = c.is_above_mark-above in let over = c.passes_over in
    let quiet = progress_over now new c.args.number c.args.share c.args.mark (is_quiet c.in-Ok.step) above.result over.result s.ok above.ensures over.ensures c.if-passes_over.true in
    let unmarked = unmarked_over now new c.args.number c.args.share c.args.mark (is_quiet c.in-Ok.step) above.result over.result s.ok above.ensures over.ensures c.if-passes_over.true in
    record {
      few = omega arith;
      quiet = more_quiet loop.held c.args.number c.args.share c.in-Ok.step s.refused s.step _ s.ok c.args.held.now loop.before loop.invariant.left quiet
          loop.invariant.quiet;
      unmarked = more_unmarked c.args.held.now loop.held c.args.number c.args.share c.args.mark loop.before loop.invariant.left unmarked loop.invariant.unmarked;
      same = loop.invariant.same;
      left = one_more loop.held c.args.number c.args.share c.in-Ok.step s.refused s.step _ s.ok c.args.held.now loop.before loop.invariant.left quiet _ c.pass.ensures;
      there = s.there;
      reach = s.reach;
    }

pub returns-in-Err-clause-steps : goal.returns-in-Err-clause-steps
returns-in-Err-clause-steps c =
    let s = c.in-Err.ensures in let loop = c.steps in
    works_on-marked c.args.most c.args.held.now c.args.number c.args.share c.args.mark loop.before loop.held _ _ _ loop.invariant.few loop.invariant.left loop.invariant.quiet loop.invariant.unmarked
    (refused-marked loop.held c.args.number c.args.share c.args.mark c.in-Err.refusal _ _
    (works-refused loop.held c.args.number c.args.share c.in-Err.refusal _ _ s.refused s.memory s.want s.err)) (λ less bad. cc) (λ bad. cc)

pub returns-in-Ok-2-clause-steps : goal.returns-in-Ok-2-clause-steps
returns-in-Ok-2-clause-steps c =
    let s = c.in-Ok.ensures in let loop = c.steps in let above = c.is_above_mark-above in
    works_on-marked c.args.most c.args.held.now c.args.number c.args.share c.args.mark loop.before loop.held _ _ _ loop.invariant.few loop.invariant.left loop.invariant.quiet loop.invariant.unmarked
    (works-marked loop.held c.step.new.endpoint c.args.number c.args.share c.args.mark above.result c.tell.new.event c.tell_mark.new.event s.ok above.ensures c.tell_mark.ensures _
    (works-told loop.held c.args.number c.args.share c.in-Ok.step s.refused s.step _ s.ok _ _ c.tell.ensures.event c.tell.ensures.lines))
    (λ less none quiet. elim c.if-before-most.branch [
      | then-before-most+else-passes_over w ↦
          marked_told loop.held.endpoint c.step.new.endpoint c.args.number c.args.share c.args.mark (is_quiet c.in-Ok.step) above.result w.passes_over.result s.ok above.ensures w.passes_over.ensures w.if-passes_over.false (ap is_quiet_answer s.step ∙ quiet)
      | else-before-most w ↦ absurd (omega arith)
    ])
    (λ none marked. kind_marked loop.held c.step.new.endpoint c.args.number c.args.share c.args.mark above.result c.tell.new.event c.tell_mark.new.event s.ok above.ensures c.tell_mark.ensures
    (kind_told loop.held c.args.number c.args.share c.args.mark _ c.in-Ok.step c.tell.new.event loop.invariant.there s.step c.tell.ensures.event marked))
