use Rattle.std.proofs.Common.{rules, ◌≡◌, None}
use Rattle.std.specs.HashMap.{hash_map_len}
use Rattle.iw_lines.proofs.LentPlaces.{put, nothing_lent}
use Rattle.iw_lines.proofs.lends.Lends.take_back.Goals as goal

pub returns-then-is_empty : goal.returns-then-is_empty
returns-then-is_empty c =
    let none : hash_map_len c.self.inside.places ≡ 0 = search rules in
    nothing_lent c.self.inside.places c.args.self.now c.args.number c.self.view_is c.ranges.number.fits none

pub returns : goal.returns
returns c = put c.self.inside.places c.remove.new.self c.args.self.now c.args.number None c.self.view_is c.ranges.number.fits c.remove.ensures.updates
