use Rattle.std.proofs.Common.{◌≡◌, drop}
use Rattle.iw_schedules.specs.Words.{one_of}
use Rattle.iw_schedules.specs.SendKind.{send_text}
use Rattle.iw_schedules.proofs.send_kind.SendKind.one_of.Given as goal

abbrev pub invariant-loop-kind : goal.invariant-loop-kind
invariant-loop-kind l = one_of send_text (drop l.kind-index l.all) l.word ≡ one_of send_text l.all l.word
