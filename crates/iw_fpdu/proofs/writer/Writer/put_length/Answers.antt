use Rattle.std.proofs.Common.{true, ◌++◌, ◌∷◌, [], ◌/◌, ◌%◌, ap, ◌∙◌, sym, arith}
use Rattle.std.proofs.lemmas.List.{append_assoc}
use Rattle.iw_fpdu.specs.Laying.{marker_before}
use Rattle.iw_fpdu.proofs.Counted.{after_high, past_edge}
use Rattle.iw_fpdu.proofs.Written.{two_past, laid_two}
use Rattle.iw_fpdu.proofs.writer.Writer.put_length.Goals as goal

pub put_marker-requires-clause-low : goal.put_marker-requires-clause-low
put_marker-requires-clause-low g c = omega (arith, c.requires.room.low, past_edge true c.args.self.now.at c.requires.room.edge, after_high true c.args.self.now.at 2 (omega arith))

pub put_marker-requires-clause-edge : goal.put_marker-requires-clause-edge
put_marker-requires-clause-edge g c = c.requires.room.edge

pub put_marker-requires-clause-near : goal.put_marker-requires-clause-near
put_marker-requires-clause-near g c = omega (arith, c.requires.room.near, past_edge true c.args.self.now.at c.requires.room.edge, after_high true c.args.self.now.at 2 (omega arith))

pub put_marker-requires-clause-room : goal.put_marker-requires-clause-room
put_marker-requires-clause-room g c = omega (arith, c.requires.room.room, after_high true c.args.self.now.at 2 (omega arith))

pub append-requires : goal.append-requires
append-requires g c =
    omega (arith, c.requires.room.room, c.put_marker.ensures.len, c.put_marker.ensures.place, c.put_marker.ensures.capacity, past_edge true c.args.self.now.at c.requires.room.edge, two_past true c.args.self.now.at c.requires.aligned)

pub overflow_add-self : goal.overflow_add-self
overflow_add-self g c = omega (arith, c.requires.room.low, c.put_marker.ensures.place, two_past true c.args.self.now.at c.requires.aligned)

pub returns-clause-place : goal.returns-clause-place
returns-clause-place g c = omega (arith, c.put_marker.ensures.place, two_past true c.args.self.now.at c.requires.aligned)

pub returns-clause-len : goal.returns-clause-len
returns-clause-len g c = omega (arith, c.append.ensures.len, c.put_marker.ensures.len, c.put_marker.ensures.place, past_edge true c.args.self.now.at c.requires.room.edge)

pub returns-clause-items : goal.returns-clause-items
returns-clause-items g c =
    let field = c.args.len / 256 ∷ c.args.len % 256 ∷ [] in
    c.append.ensures.items ∙ ap (λ ys. ys ++ field) c.put_marker.ensures.items
    ∙ append_assoc c.args.out.now.items (marker_before true c.args.self.now.start c.args.self.now.at) field
    ∙ ap (λ ys. c.args.out.now.items ++ ys) (sym (laid_two true c.args.self.now.start (c.args.len / 256) (c.args.len % 256) c.args.self.now.at c.requires.room.edge c.requires.aligned))
