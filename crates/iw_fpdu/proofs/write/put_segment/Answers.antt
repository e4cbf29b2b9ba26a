use Rattle.std.proofs.Common.{ℕ, List, ◌≤◌, ◌<◌, ◌*◌, ◌^◌, ◌++◌, sym, ap, ◌∙◌, arith}
use Rattle.iw_fpdu.specs.Places.{frame_start}
use Rattle.iw_fpdu.proofs.Counted.{end_without}
use Rattle.iw_fpdu.proofs.Written.{plain_written}
use Rattle.iw_fpdu.proofs.write.put_segment.Goals as goal

pub put_plain_segment-requires : goal.put_plain_segment-requires
put_plain_segment-requires g c =
    let few : g.row.N ≤ 18 = c.requires.few in
    let fits : g.row.N * 1 < 2 ^ 63 = omega (arith, few) in
    (fits, (few, (c.requires.len, omega (arith, c.requires.room, end_without c.args.markers c.args.at c.args.len c.if-markers.false))))

pub returns-else-markers-clause-items : goal.returns-else-markers-clause-items
returns-else-markers-clause-items g c =
    let m = c.args.markers in
    let ulpdu : List ℕ = c.args.header ++ c.args.payload.now in
    c.put_plain_segment.ensures.items
    ∙ ap (λ xs. c.args.out.now.items ++ xs) (sym (plain_written m c.args.at (frame_start m c.args.at) c.args.len ulpdu c.if-markers.false c.requires.len))
