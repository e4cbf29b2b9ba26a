use Rattle.std.proofs.Common.{◌≡◌, drop}
use Rattle.iw_schedules.specs.Words.{one_of, role_text, role_word}
use Rattle.iw_schedules.proofs.words.role.Given as goal

abbrev pub invariant-loop-role : goal.invariant-loop-role
invariant-loop-role l = one_of role_text (drop l.role-index l.role-items) l.word ≡ role_word l.word
