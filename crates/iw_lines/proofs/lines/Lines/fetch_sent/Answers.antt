use Rattle.std.proofs.Common.{rules, ◌≡◌, ◌∙◌, ap, subst, Some, None, []}
use Rattle.std.specs.Prelude.{nat_eq, OnOk}
use Rattle.std.specs.HashMap as hash
use Rattle.iw_lines.specs.declared.line.Line.{Line}
use Rattle.iw_lines.specs.Line.{with_sent}
use Rattle.iw_lines.proofs.Written.{wrote_ok, wrote_nothing, found, found_nothing}
use Rattle.iw_lines.proofs.lines.Lines.fetch_sent.Goals as goal

pub returns-in_default-clause-octets : goal.returns-in_default-clause-octets
returns-in_default-clause-octets c =
    let none : hash.get nat_eq c.self.inside.places c.args.number ≡ None = search rules in
    c.nothing.ensures ∙ ap (λ line. line.sent) (found_nothing c.self.inside.places c.args.self.now c.args.number c.self.view_is c.ranges.number.fits none)

pub returns-in_default-clause-ok : goal.returns-in_default-clause-ok
returns-in_default-clause-ok c =
    let none : hash.get nat_eq c.self.inside.places c.args.number ≡ None = search rules in
    wrote_nothing c.self.inside.places c.get_mut.follows.lender-at-none c.args.self.now c.args.number _ c.self.view_is c.ranges.number.fits none c.get_mut.follows.holds-at-none

pub returns-clause-octets : goal.returns-clause-octets
returns-clause-octets c =
    let was : hash.get nat_eq c.self.inside.places c.args.number ≡ Some c.in-Some.place.now = search rules in
    let here = found c.self.inside.places c.args.self.now c.args.number c.in-Some.place.now c.self.view_is c.ranges.number.fits was in
    subst (λ (line : Line). OnOk c.fetch_sent.result (c.fetch_sent.new.to.octets ≡ line.sent)) here c.fetch_sent.ensures.octets

pub returns-clause-ok : goal.returns-clause-ok
returns-clause-ok c =
    let was : hash.get nat_eq c.self.inside.places c.args.number ≡ Some c.in-Some.place.now = search rules in
    wrote_ok c.self.inside.places (c.get_mut.follows.lender c.fetch_sent.new.self) c.args.self.now c.args.number c.in-Some.place.now c.fetch_sent.new.self (λ line. with_sent line []) c.fetch_sent.result c.self.view_is c.ranges.number.fits was c.fetch_sent.ensures.ok (c.get_mut.follows.holds c.fetch_sent.new.self)
