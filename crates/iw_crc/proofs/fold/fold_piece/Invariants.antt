use Rattle.std.proofs.Common.{◌+◌, ℕ, List, take, drop}
use Rattle.iw_crc.specs.Fold.{Folds}
use Rattle.iw_crc.proofs.fold.fold_piece.Given as goal

abbrev pub invariant-loop-i : goal.invariant-loop-i
invariant-loop-i l = (first : List ℕ) → Folds first (take l.at l.block) (take 290 (drop l.at l.initial.window)) → Folds first (take (l.at + l.i) l.block) (take 290 (drop (l.at + l.i) l.window))
