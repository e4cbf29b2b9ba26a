use Rattle.std.proofs.Common.{rules, ◌≡◌, ◌∙◌, sym, ap, Some, None}
use Rattle.std.specs.Prelude.{nat_eq}
use Rattle.std.specs.HashMap as hash
use Rattle.std.specs.Prelude.{unwrap_or}
use Rattle.iw_lines.specs.Handed.{nothing_handed}
use Rattle.iw_lines.specs.Line.{new_line, with_handed}
use Rattle.iw_lines.specs.Lines.{place_of}
use Rattle.iw_lines.proofs.Places.{at_number}
use Rattle.iw_lines.proofs.Written.{wrote, wrote_nothing}
use Rattle.iw_lines.proofs.lines.Lines.fetch.Goals as goal

pub returns-in_default-clause-handed : goal.returns-in_default-clause-handed
returns-in_default-clause-handed c =
    let none : hash.get nat_eq c.self.inside.places c.args.number ≡ None = search rules in
    let here : place_of c.args.self.now c.args.number ≡ None = at_number _ c.args.self.now c.args.number c.self.view_is c.ranges.number.fits ∙ none in
    c.nothing.ensures ∙ sym (ap (λ o. (unwrap_or o new_line).handed) here)

pub returns-in_default-clause-after : goal.returns-in_default-clause-after
returns-in_default-clause-after c =
    let none : hash.get nat_eq c.self.inside.places c.args.number ≡ None = search rules in
    wrote_nothing c.self.inside.places c.get_mut.follows.lender-at-none c.args.self.now c.args.number _ c.self.view_is c.ranges.number.fits none c.get_mut.follows.holds-at-none

pub returns-clause-handed : goal.returns-clause-handed
returns-clause-handed c =
    let was : hash.get nat_eq c.self.inside.places c.args.number ≡ Some c.in-Some.place.now = search rules in
    let here : place_of c.args.self.now c.args.number ≡ Some c.in-Some.place.now = at_number _ c.args.self.now c.args.number c.self.view_is c.ranges.number.fits ∙ was in
    c.fetch.ensures.handed ∙ sym (ap (λ o. (unwrap_or o new_line).handed) here)

pub returns-clause-after : goal.returns-clause-after
returns-clause-after c =
    let was : hash.get nat_eq c.self.inside.places c.args.number ≡ Some c.in-Some.place.now = search rules in
    wrote c.self.inside.places (c.get_mut.follows.lender c.fetch.new.self) c.args.self.now c.args.number c.in-Some.place.now c.fetch.new.self (λ line. with_handed line nothing_handed) c.self.view_is c.ranges.number.fits was c.fetch.ensures.after (c.get_mut.follows.holds c.fetch.new.self)
