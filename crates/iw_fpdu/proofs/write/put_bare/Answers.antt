use Rattle.std.proofs.Common.{◌++◌, sym, ap, ◌∙◌, arith}
use Rattle.iw_octets.specs.Pieces.{joined}
use Rattle.iw_fpdu.specs.Places.{frame_start}
use Rattle.iw_fpdu.proofs.Counted.{end_without}
use Rattle.iw_fpdu.proofs.Written.{plain_written}
use Rattle.iw_fpdu.proofs.write.put_bare.Goals as goal

pub put_plain-requires-clause-room : goal.put_plain-requires-clause-room
put_plain-requires-clause-room g c = omega (arith, c.requires.room, end_without c.args.markers c.args.at c.args.len c.if-markers.false)

pub returns-else-markers-clause-items : goal.returns-else-markers-clause-items
returns-else-markers-clause-items g c =
    let m = c.args.markers in
    c.put_plain.ensures.items
    ∙ ap (λ xs. c.args.out.now.items ++ xs)
    (sym (plain_written m c.args.at (frame_start m c.args.at) c.args.len (joined c.args.parts.now) c.if-markers.false c.requires.len))
