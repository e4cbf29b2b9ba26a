use Rattle.std.proofs.Common.{rules, ◌≡◌, ◌∙◌, ap, Some, None}
use Rattle.std.specs.Prelude.{nat_eq}
use Rattle.std.specs.HashMap as hash
use Rattle.iw_lines.proofs.Written.{found, found_nothing}
use Rattle.iw_lines.proofs.lines.Lines.slow_paths.Goals as goal

pub returns-in-Some : goal.returns-in-Some
returns-in-Some c =
    let was : hash.get nat_eq c.self.inside.places c.args.number ≡ Some c.in-Some.place.now = search rules in
    c.slow_paths.ensures ∙ ap (λ line. line.slow) (found c.self.inside.places c.args.self.now c.args.number c.in-Some.place.now c.self.view_is c.ranges.number.fits was)

pub returns-in-None : goal.returns-in-None
returns-in-None c =
    let none : hash.get nat_eq c.self.inside.places c.args.number ≡ None = search rules in
    c.new.ensures ∙ ap (λ line. line.slow) (found_nothing c.self.inside.places c.args.self.now c.args.number c.self.view_is c.ranges.number.fits none)
