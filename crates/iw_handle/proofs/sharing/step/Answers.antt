use Rattle.std.proofs.Common.{◌≡◌, true, refl, sym, subst, ap, ◌∙◌, arith}
use Rattle.std.specs.Result.{result_err}
use Rattle.std.proofs.lemmas.Result.{err_from_is_err_and}
use Rattle.iw_endpoint.specs.Endpoint.{has_stream}
use Rattle.iw_connection.proofs.There.{still_there-within}
use Rattle.iw_handle.proofs.Reached.{may_work, not_memory, refused_none, refused_this, memory_of, memory_none}
use Rattle.iw_handle.proofs.sharing.step.Goals as goal

pub returns-in_err-near-clause-refused : goal.returns-in_err-near-clause-refused
returns-in_err-near-clause-refused c =
    let p = err_from_is_err_and c.from_residual.result c.from_residual.ensures.1 in
    rw (p.1, p.2) (refused_this _ _ _ c.in_err-near.ensures.refused)

pub returns-in_err-near-clause-memory : goal.returns-in_err-near-clause-memory
returns-in_err-near-clause-memory c = memory_none _ _ _ c.in_err-near.ensures.refused

pub returns-in_err-near-clause-want : goal.returns-in_err-near-clause-want
returns-in_err-near-clause-want c =
    let p = err_from_is_err_and c.from_residual.result c.from_residual.ensures.1 in
    rw (p.1, p.2) (λ is. absurd (not_memory c.args.endpoint.now c.args.number (c.in_err-near.ensures.refused ∙ ap result_err is)))

pub returns-in-Ok-clause-refused : goal.returns-in-Ok-clause-refused
returns-in-Ok-clause-refused c =
    let near = c.in_ok-near.ensures in
    refused_none _ _ (may_work c.args.endpoint.now c.args.number c.requires.there (omega (arith, near.point, near.near)))

pub returns-in-Ok-clause-there : goal.returns-in-Ok-clause-there
returns-in-Ok-clause-there c =
    subst (λ e. has_stream e c.args.number ≡ true) (sym c.in-Ok.ensures.after) (still_there-within c.args.endpoint.now c.args.number c.args.share c.requires.there)

pub returns-in-Err-Refused-clause-refused : goal.returns-in-Err-Refused-clause-refused
returns-in-Err-Refused-clause-refused c =
    let near = c.in_ok-near.ensures in
    refused_none _ _ (may_work c.args.endpoint.now c.args.number c.requires.there (omega (arith, near.point, near.near)))

pub returns-in-Err-Refused-clause-memory : goal.returns-in-Err-Refused-clause-memory
returns-in-Err-Refused-clause-memory c = memory_of _ _ refl
