use Rattle.std.proofs.Common.{◌≡◌, drop}
use Rattle.iw_program.specs.Status.{status_of}
use Rattle.iw_program.proofs.status.trace_status.Given as goal

abbrev pub invariant-loop-entry : goal.invariant-loop-entry
invariant-loop-entry g l = status_of (drop l.entry-index l.trace) ≡ status_of l.trace
