use Rattle.std.proofs.Common.{Some}
use Rattle.iw_lines.proofs.Written.{put_over}
use Rattle.iw_lines.proofs.lines.Lines.put_back.Goals as goal

pub returns : goal.returns
returns c =
    put_over c.self.inside.places c.insert.new.self c.args.self.now c.args.number (Some c.args.place) c.insert.result c.self.view_is c.ranges.number.fits c.requires c.insert.ensures.updates c.insert.ensures.absent
