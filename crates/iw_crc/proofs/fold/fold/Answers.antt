use Rattle.std.proofs.Common.{take, arith}
use Rattle.iw_crc.proofs.FoldSteps.{fold_step, folds_all}
use Rattle.iw_crc.proofs.fold.fold.Goals as goal

pub loop-i-preserved : goal.loop-i-preserved
loop-i-preserved c =
    fold_step (take 290 c.args.window.now) c.args.block.now c.loop-i.window c.loop-i.i c.with_owed-octet.result c.loop-i-test.true (omega arith) c.with_owed-octet.type_inv
    c.with_owed-octet.ensures c.loop-i.invariant

pub returns : goal.returns
returns c = folds_all (take 290 c.args.window.now) c.args.block.now c.loop-i.window c.loop-i.i (omega arith) c.loop-i.invariant
