use Rattle.std.proofs.Common.{◌≡◌, map, take}
use Rattle.iw_events.specs.Events.{event_of}
use Rattle.iw_laws.specs.Rules.{start, state_after, Follows}
use Rattle.iw_world.proofs.world.World.happen_all.Given as goal

-- the answers so far follow the rules, and leave the two ends as they are
abbrev pub invariant-loop-event : goal.invariant-loop-event
invariant-loop-event g l = record {
  events : map event_of l.trace.items ≡ take l.event-index l.events;
  follows : Follows start l.trace.items;
  state : l.self ≡ state_after start l.trace.items;
}
