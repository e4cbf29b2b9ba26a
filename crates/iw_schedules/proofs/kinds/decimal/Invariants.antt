use Rattle.std.proofs.Common.{◌≡◌, ◌<◌, ◌^◌, drop}
use Rattle.iw_schedules.specs.Kinds.{decimal_of}
use Rattle.iw_schedules.proofs.Digits.{decimal_after}
use Rattle.iw_schedules.proofs.kinds.decimal.Given as goal

abbrev pub invariant-loop-octet : goal.invariant-loop-octet
invariant-loop-octet l = record {
  value : decimal_after l.number (drop l.octet-index l.word) ≡ decimal_of l.word;
  fits : l.number < 2 ^ 64;
}
