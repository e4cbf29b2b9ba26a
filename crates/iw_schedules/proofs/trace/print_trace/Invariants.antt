use Rattle.std.proofs.Common.{◌≡◌, take, string_bytes}
use Rattle.iw_schedules.specs.Trace.{trace_text}
use Rattle.iw_schedules.proofs.trace.print_trace.Given as goal

abbrev pub invariant-loop-i : goal.invariant-loop-i
invariant-loop-i g l = string_bytes l.text ≡ trace_text (take l.i l.trace)
