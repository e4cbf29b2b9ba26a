use Rattle.std.proofs.Common.{rules, ◌≡◌, ◌∙◌, ap, Some, None}
use Rattle.std.specs.Prelude.{nat_eq}
use Rattle.std.specs.HashMap as hash
use Rattle.iw_lines.specs.Line.{oldest_token, without_oldest}
use Rattle.iw_lines.proofs.Written.{wrote, wrote_nothing, found, found_nothing}
use Rattle.iw_lines.proofs.lines.Lines.pop.Goals as goal

pub returns-in_default-clause-token : goal.returns-in_default-clause-token
returns-in_default-clause-token c =
    let none : hash.get nat_eq c.self.inside.places c.args.number ≡ None = search rules in
    ap oldest_token (found_nothing c.self.inside.places c.args.self.now c.args.number c.self.view_is c.ranges.number.fits none)

pub returns-in_default-clause-after : goal.returns-in_default-clause-after
returns-in_default-clause-after c =
    let none : hash.get nat_eq c.self.inside.places c.args.number ≡ None = search rules in
    wrote_nothing c.self.inside.places c.get_mut.follows.lender-at-none c.args.self.now c.args.number _ c.self.view_is c.ranges.number.fits none c.get_mut.follows.holds-at-none

pub returns-clause-token : goal.returns-clause-token
returns-clause-token c =
    let was : hash.get nat_eq c.self.inside.places c.args.number ≡ Some c.in-Some.place.now = search rules in
    c.pop.ensures.token ∙ ap oldest_token (found c.self.inside.places c.args.self.now c.args.number c.in-Some.place.now c.self.view_is c.ranges.number.fits was)

pub returns-clause-after : goal.returns-clause-after
returns-clause-after c =
    let was : hash.get nat_eq c.self.inside.places c.args.number ≡ Some c.in-Some.place.now = search rules in
    wrote c.self.inside.places (c.get_mut.follows.lender c.pop.new.self) c.args.self.now c.args.number c.in-Some.place.now c.pop.new.self (without_oldest) c.self.view_is c.ranges.number.fits was c.pop.ensures.after (c.get_mut.follows.holds c.pop.new.self)
