use Rattle.std.proofs.Common.{◌≡◌, ◌+◌, take, drop, arith}
use Rattle.std.proofs.Math.ListN.{set}
use Rattle.iw_crc.specs.Fold.{Folds}
use Rattle.iw_crc.proofs.FoldSteps.{fold_step}
use Rattle.iw_crc.proofs.fold.fold_piece.Goals as goal

pub loop-i-preserved : goal.loop-i-preserved
loop-i-preserved c = λ first start.
    let block = c.args.block.now in
    let w = c.loop-i.window in
    let at = c.args.at + c.loop-i.i in
    let octet = c.with_owed-octet.result in
    let next : at + 1 ≡ c.args.at + (c.loop-i.i + 1) = omega arith in
    coe 0 1 (i. Folds first (take (next i) block) (take 290 (drop (next i) (set w (at + 290) octet))))
    (fold_step first block w at octet (omega (arith, c.requires.block)) (omega arith) c.with_owed-octet.type_inv c.with_owed-octet.ensures (c.loop-i.invariant first start))
