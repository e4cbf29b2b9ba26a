use Rattle.std.proofs.Common.{◌∙◌, sym, ap, Some, refl, subst}
use Rattle.std.specs.Prelude.{IsSome}
use Rattle.iw_lines.specs.Lines.{with_place}
use Rattle.iw_lines.proofs.Places.{at_number}
use Rattle.iw_lines.proofs.Written.{put}
use Rattle.iw_lines.proofs.lines.Lines.open.Goals as goal

pub returns-in-Ok-clause-before : goal.returns-in-Ok-clause-before
returns-in-Ok-clause-before c = c.in-Ok.ensures.old ∙ sym (at_number _ c.args.self.now c.args.number c.self.view_is c.ranges.number.fits)

pub returns-in-Ok-clause-ok : goal.returns-in-Ok-clause-ok
returns-in-Ok-clause-ok c =
    put c.self.inside.places c.insert.new.self c.args.self.now c.args.number (Some c.in_ok-place.place) c.self.view_is c.ranges.number.fits c.in-Ok.ensures.updates
    ∙ ap (λ line. with_place c.args.self.now c.args.number (Some line)) c.in_ok-place.ensures

pub returns-in-Ok-clause-there : goal.returns-in-Ok-clause-there
returns-in-Ok-clause-there c =
    let here = at_number _ _ c.args.number refl c.ranges.number.fits ∙ c.in-Ok.ensures.updates.1 in
    subst (λ o. IsSome o) (sym here) refl
