use Rattle.std.proofs.Common.{◌≡◌, ◌++◌, map, replicate}
use Rattle.iw_events.specs.declared.call.Call.TheVariants.{Stream}
use Rattle.iw_schedules.specs.Calls.{step_call}
use Rattle.iw_schedules.specs.Schedule.{event_at}
use Rattle.iw_schedules.proofs.schedule.push.Given as goal

abbrev pub invariant-loop : goal.invariant-loop
invariant-loop g l = l.events.items ≡ l.initial.events.items ++ map (event_at l.end) (replicate l.counter (Stream l.stream (step_call l.step)))
