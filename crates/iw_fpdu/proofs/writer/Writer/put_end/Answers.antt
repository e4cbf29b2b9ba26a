use Rattle.std.proofs.Common.{◌≡◌, ◌+◌, true, ap, ◌∙◌, arith}
use Rattle.iw_fpdu.specs.Places.{data_index}
use Rattle.iw_fpdu.proofs.Counted.{past_edge, after_high, at_most_after, four_past, index_after}
use Rattle.iw_fpdu.proofs.Rooms.{room_past}
use Rattle.iw_fpdu.proofs.writer.Writer.put_end.Goals as goal

pub put_marker-requires-clause-low : goal.put_marker-requires-clause-low
put_marker-requires-clause-low g c =
    let third = c.put_pad in
    let p = third.new.self.at in
    let field = room_past c.requires.room c.args.pad third.new.self.start p 4 (omega arith) third.ensures.start third.ensures.place third.ensures.len third.ensures.capacity in
    omega (arith, field.low, at_most_after true p 4 field.edge)

pub put_marker-requires-clause-edge : goal.put_marker-requires-clause-edge
put_marker-requires-clause-edge g c =
    let third = c.put_pad in
    let p = third.new.self.at in
    let field = room_past c.requires.room c.args.pad third.new.self.start p 4 (omega arith) third.ensures.start third.ensures.place third.ensures.len third.ensures.capacity in
    field.edge

pub put_marker-requires-clause-near : goal.put_marker-requires-clause-near
put_marker-requires-clause-near g c =
    let third = c.put_pad in
    let p = third.new.self.at in
    let field = room_past c.requires.room c.args.pad third.new.self.start p 4 (omega arith) third.ensures.start third.ensures.place third.ensures.len third.ensures.capacity in
    omega (arith, field.near, past_edge true p field.edge, after_high true p 4 (omega arith))

pub put_marker-requires-clause-room : goal.put_marker-requires-clause-room
put_marker-requires-clause-room g c =
    let third = c.put_pad in
    let p = third.new.self.at in
    let field = room_past c.requires.room c.args.pad third.new.self.start p 4 (omega arith) third.ensures.start third.ensures.place third.ensures.len third.ensures.capacity in
    omega (arith, field.room, after_high true p 4 (omega arith))

pub returns-clause-room : goal.returns-clause-room
returns-clause-room g c =
    let at = c.args.self.now.at in
    let third = c.put_pad in
    let p = third.new.self.at in
    let field = room_past c.requires.room c.args.pad third.new.self.start p 4 (omega arith) third.ensures.start third.ensures.place third.ensures.len third.ensures.capacity in
    let last : data_index true p ≡ data_index true at + c.args.pad = ap (data_index true) third.ensures.place ∙ index_after true at c.args.pad in
    let four = four_past true p (omega (arith, last, c.requires.aligned)) in
    omega (arith, field.room, four, c.put_marker.ensures.place, c.put_marker.ensures.len, c.put_marker.ensures.capacity, past_edge true p field.edge)
