use Rattle.std.proofs.Common.{◌*◌, take, drop}
use Rattle.iw_crc.specs.Fold.{Folds}
use Rattle.iw_crc.proofs.fold.fold.Given as goal

abbrev pub invariant-loop-piece : goal.invariant-loop-piece
invariant-loop-piece l = Folds (take 290 l.initial.window) (take (64 * l.piece) l.block) (take 290 (drop (64 * l.piece) l.window))

abbrev pub invariant-loop-i : goal.invariant-loop-i
invariant-loop-i l = Folds (take 290 l.fn.window) (take l.i l.block) (take 290 (drop l.i l.window))
