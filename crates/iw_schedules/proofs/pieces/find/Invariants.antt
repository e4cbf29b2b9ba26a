use Rattle.memchr.specs.Find.{Nowhere, Passes, is_byte}
use Rattle.iw_schedules.proofs.pieces.find.Given as goal

abbrev pub invariant-loop-i : goal.invariant-loop-i
invariant-loop-i l = Nowhere (Passes (is_byte l.separator) l.text) 0 l.i
