use Rattle.std.proofs.Common.{◌≡◌, ◌+◌, ◌≤◌, length}
use Rattle.iw_schedules.specs.Pieces.{lines}
use Rattle.iw_schedules.specs.Schedule.{with_lines, schedule_of}
use Rattle.iw_schedules.proofs.schedule.read_lines.Given as goal

abbrev pub invariant-lines : goal.invariant-lines
invariant-lines g l = record {
  events : with_lines (l.before + 1) l.events.items (lines l.left) ≡ schedule_of l.text;
  within : l.before + length l.left ≤ length l.text;
}

abbrev pub decreases-lines : goal.decreases-lines
decreases-lines g l = length l.left
