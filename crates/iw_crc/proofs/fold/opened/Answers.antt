use Rattle.std.proofs.Common.{◌++◌, drop, length, replicate, ap, ◌∙◌}
use Rattle.iw_crc.proofs.FoldSteps.{opened_step}
use Rattle.iw_crc.proofs.fold.opened.Goals as goal

pub returns : goal.returns
returns c = opened_step c.args.remainder c.put_front.new.out 2474 (length c.to_le_bytes.result) c.ranges.remainder.fits (c.put_front.ensures ∙ ap (λ l. l ++ drop (length c.to_le_bytes.result) (replicate 2474 0)) c.to_le_bytes.ensures)
