use Rattle.std.proofs.Common.{◌≡◌, true, refl, sym, subst, arith, inr}
use Rattle.iw_endpoint.specs.Endpoint.{has_stream}
use Rattle.iw_connection.proofs.Far.{may_work}
use Rattle.iw_connection.proofs.There.{still_there-within}
use Rattle.iw_connection.proofs.sharing.step_within.Goals as goal

pub returns-in-Ok-clause-there : goal.returns-in-Ok-clause-there
returns-in-Ok-clause-there g c =
    subst (λ e. has_stream e c.args.number ≡ true) (sym c.in-Ok.ensures.after) (still_there-within c.args.endpoint.now c.args.number c.args.share c.requires.there)

pub returns-in-Err-Refused-clause-why : goal.returns-in-Err-Refused-clause-why
returns-in-Err-Refused-clause-why g c =
    let near = c.in_ok-near.ensures in
    inr (may_work c.args.endpoint.now c.args.number c.requires.there (omega (arith, near.point, near.near)), refl, c.in-Err-Refused.ensures.want c.requires.there)
