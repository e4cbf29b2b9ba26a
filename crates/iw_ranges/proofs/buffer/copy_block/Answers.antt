use Rattle.std.proofs.Common.{ap, ◌∙◌, sym, arith}
use Rattle.iw_ranges.proofs.Blocks.{brings, brought}
use Rattle.iw_ranges.proofs.buffer.copy_block.Goals as goal

pub returns : goal.returns
returns c = λ i h.
    let front = c.split_at_mut-front.ensures.front_len in
    let back = c.split_at_mut-front.ensures.back_len in
    brings c.split_at_mut-front.result.0.now c.split_at_mut-front.result.1.now c.write_at.new.buffer c.args.at c.args.n c.args.m i (omega arith) (omega (arith, c.write_at.auto.buffer)) c.requires.apart (omega arith) c.write_at.ensures
    ∙ ap (λ xs. brought c.args.at c.args.n c.args.m xs i) (sym c.split_at_mut-front.ensures.value)
