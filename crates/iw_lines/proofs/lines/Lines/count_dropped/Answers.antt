use Rattle.std.proofs.Common.{rules, ◌≡◌, Some, None}
use Rattle.std.specs.Prelude.{nat_eq}
use Rattle.std.specs.HashMap as hash
use Rattle.iw_lines.specs.Line.{counted_dropped}
use Rattle.iw_lines.proofs.Written.{wrote, wrote_nothing}
use Rattle.iw_lines.proofs.lines.Lines.count_dropped.Goals as goal

pub returns-in_default : goal.returns-in_default
returns-in_default c =
    let none : hash.get nat_eq c.self.inside.places c.args.number ≡ None = search rules in
    wrote_nothing c.self.inside.places c.get_mut.follows.lender-at-none c.args.self.now c.args.number _ c.self.view_is c.ranges.number.fits none c.get_mut.follows.holds-at-none

pub returns : goal.returns
returns c =
    let was : hash.get nat_eq c.self.inside.places c.args.number ≡ Some c.in-Some.place.now = search rules in
    wrote c.self.inside.places (c.get_mut.follows.lender c.count_dropped.new.self) c.args.self.now c.args.number c.in-Some.place.now c.count_dropped.new.self counted_dropped c.self.view_is c.ranges.number.fits was c.count_dropped.ensures (c.get_mut.follows.holds c.count_dropped.new.self)
