use Rattle.std.proofs.Common.{◌<◌, ◌%◌, ◌++◌, ap, sym, ◌∙◌, arith, inr, true}
use Rattle.std.proofs.lemmas.List.{append-nil}
use Rattle.iw_fpdu.proofs.Counted.{edge_marker, edge_inside}
use Rattle.iw_fpdu.proofs.Laid.{no_marker, one_marker}
use Rattle.iw_fpdu.proofs.writer.Writer.put_marker.Goals as goal

pub put_next_marker-requires-clause-room : goal.put_next_marker-requires-clause-room
put_next_marker-requires-clause-room g c = omega (arith, c.requires.room, edge_marker c.args.self.now.at c.if-self-eq0.true)

pub returns-then-self-eq0-clause-place : goal.returns-then-self-eq0-clause-place
returns-then-self-eq0-clause-place g c = c.put_next_marker.ensures.place ∙ sym (edge_marker c.args.self.now.at c.if-self-eq0.true)

pub returns-then-self-eq0-clause-items : goal.returns-then-self-eq0-clause-items
returns-then-self-eq0-clause-items g c =
    c.put_next_marker.ensures.items ∙ ap (λ ys. c.args.out.now.items ++ ys) (sym (one_marker c.args.self.now.start c.args.self.now.at c.if-self-eq0.true))

pub returns-else-self-eq0-clause-place : goal.returns-else-self-eq0-clause-place
returns-else-self-eq0-clause-place g c =
    let inside : 0 < c.args.self.now.at % 512 = omega (arith, c.if-self-eq0.false) in
    sym (edge_inside c.args.self.now.at c.requires.edge inside)

pub returns-else-self-eq0-clause-items : goal.returns-else-self-eq0-clause-items
returns-else-self-eq0-clause-items g c =
    let inside : 0 < c.args.self.now.at % 512 = omega (arith, c.if-self-eq0.false) in
    sym (ap (λ ys. c.args.out.now.items ++ ys) (no_marker true c.args.self.now.start c.args.self.now.at (inr inside)) ∙ append-nil c.args.out.now.items)
