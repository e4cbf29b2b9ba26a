use Rattle.std.proofs.Common.{true, ◌++◌, ap, ◌∙◌, sym, arith}
use Rattle.iw_fpdu.proofs.Written.{pad_past, laid_pad}
use Rattle.iw_fpdu.proofs.writer.Writer.put_pad.Goals as goal

pub append_pad-requires-clause-room : goal.append_pad-requires-clause-room
append_pad-requires-clause-room g c =
    let room = c.requires.room in
    omega (arith, room.room, pad_past true c.args.self.now.at c.args.pad room.edge c.requires.few c.requires.aligned)

pub returns-clause-items : goal.returns-clause-items
returns-clause-items g c =
    let old = c.args.out.now.items in
    c.append_pad.ensures.items ∙ ap (λ ys. old ++ ys) (sym (laid_pad true c.args.self.now.start c.args.self.now.at c.args.pad c.requires.room.edge c.requires.few c.requires.aligned))

pub overflow_add-self : goal.overflow_add-self
overflow_add-self g c =
    omega (arith, c.requires.room.low, pad_past true c.args.self.now.at c.args.pad c.requires.room.edge c.requires.few c.requires.aligned)

pub returns-clause-place : goal.returns-clause-place
returns-clause-place g c = omega (arith, pad_past true c.args.self.now.at c.args.pad c.requires.room.edge c.requires.few c.requires.aligned)
