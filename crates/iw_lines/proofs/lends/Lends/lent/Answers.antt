use Rattle.std.proofs.Common.{rules, ◌≡◌, ◌∙◌, sym, ap, Some, None}
use Rattle.std.specs.Prelude.{nat_eq, unwrap_or}
use Rattle.std.specs.HashMap as hash
use Rattle.iw_lines.proofs.LentPlaces.{at_number}
use Rattle.iw_lines.proofs.lends.Lends.lent.Goals as goal

pub returns-in-Some : goal.returns-in-Some
returns-in-Some c =
    let was : hash.get nat_eq c.self.inside.places c.args.number ≡ Some c.in-Some.n.now = search rules in
    sym (at_number (hash.get nat_eq c.self.inside.places) c.args.self.now c.args.number c.self.view_is c.ranges.number.fits ∙ ap (λ o. unwrap_or o 0) was)

pub returns-in-None : goal.returns-in-None
returns-in-None c =
    let none : hash.get nat_eq c.self.inside.places c.args.number ≡ None = search rules in
    sym (at_number (hash.get nat_eq c.self.inside.places) c.args.self.now c.args.number c.self.view_is c.ranges.number.fits ∙ ap (λ o. unwrap_or o 0) none)
