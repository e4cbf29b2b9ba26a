use Rattle.std.proofs.Common.{Some}
use Rattle.iw_lines.proofs.LentPlaces.{put}
use Rattle.iw_lines.proofs.lends.Lends.lend.Goals as goal

pub returns-clause-ok : goal.returns-clause-ok
returns-clause-ok c =
    put c.self.inside.places c.insert.new.self c.args.self.now c.args.number (Some c.args.n) c.self.view_is c.ranges.number.fits c.in-Ok.ensures.updates
