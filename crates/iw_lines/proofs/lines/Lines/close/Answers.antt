use Rattle.std.proofs.Common.{None}
use Rattle.iw_lines.proofs.Written.{put}
use Rattle.iw_lines.proofs.lines.Lines.close.Goals as goal

pub returns : goal.returns
returns c = put c.self.inside.places c.remove.new.self c.args.self.now c.args.number None c.self.view_is c.ranges.number.fits c.remove.ensures.updates
