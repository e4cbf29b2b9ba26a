use Rattle.std.proofs.Common.{refl, sym, ap, ◌∙◌, arith}
use Rattle.std.specs.Result.{result_err}
use Rattle.std.proofs.lemmas.Result.{err_from_is_err_and}
use Rattle.iw_handle.specs.Steps.{after_steps}
use Rattle.iw_handle.proofs.Reached.{not_memory, refused_this, memory_none}
use Rattle.iw_handle.proofs.QuietSteps.{more_quiet, one_more, works-refused, works_on}
use Rattle.iw_handle.proofs.working.steps.Goals as goal

pub steps-init : goal.steps-init
unfolding after_steps
steps-init c = record {
  few = omega arith;
  quiet = λ k below. absurd (omega arith);
  same = refl;
  left = refl;
  there = c.in_ok-reach.ensures.there;
  reach = c.in_ok-reach.ensures.point;
}

pub returns-in_err-reach-clause-steps : goal.returns-in_err-reach-clause-steps
unfolding after_steps
returns-in_err-reach-clause-steps c =
    let is = sym c.in_err-reach.ensures.refused in
    let e = c.args.held.now.endpoint in
    let p = err_from_is_err_and c.from_residual.result c.from_residual.ensures.1 in
    rw (p.1, p.2) (works_on c.args.most c.args.held.now c.args.number 0 c.args.held.now _ _ _ (omega arith) refl (λ k below. absurd (omega arith))
    (works-refused c.args.held.now c.args.number _ _ e (refused_this _ _ _ is) (memory_none _ _ _ is) (λ bad. absurd (not_memory e c.args.number (is ∙ ap result_err bad))) refl) (λ less bad. cc))

pub steps-preserved : goal.steps-preserved
steps-preserved c =
    let s = c.in-Ok.ensures in let loop = c.steps in let quiet = sym c.is_quiet.ensures ∙ c.if-is_quiet.true in
    record {
      few = omega arith;
      quiet = more_quiet loop.held c.args.number c.in-Ok.step s.refused s.step _ s.ok c.args.held.now loop.n loop.invariant.left quiet
          loop.invariant.quiet;
      same = loop.invariant.same;
      left = one_more loop.held c.args.number c.in-Ok.step s.refused s.step _ s.ok c.args.held.now loop.n loop.invariant.left quiet _ c.pass.ensures;
      there = s.there;
      reach = s.reach;
    }

pub returns-in-Err-clause-steps : goal.returns-in-Err-clause-steps
returns-in-Err-clause-steps c =
    let s = c.in-Err.ensures in let loop = c.steps in
    works_on c.args.most c.args.held.now c.args.number loop.n loop.held _ _ _ loop.invariant.few loop.invariant.left loop.invariant.quiet
    (works-refused loop.held c.args.number c.in-Err.refusal _ _ s.refused s.memory s.want s.err) (λ less bad. cc)
