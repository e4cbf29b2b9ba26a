use Rattle.std.proofs.Common.{◌≡◌, drop}
use Rattle.iw_schedules.specs.Words.{one_of, end_text, end_word}
use Rattle.iw_schedules.proofs.words.end.Given as goal

abbrev pub invariant-loop-end : goal.invariant-loop-end
invariant-loop-end l = one_of end_text (drop l.end-index l.end-items) l.word ≡ end_word l.word
