use Rattle.std.proofs.Common.{◌≡◌, map, take, Some}
use Rattle.iw_events.specs.Servers.{server_event_of}
use Rattle.iw_laws.specs.Rules.{start}
use Rattle.iw_laws.specs.Servers.{server_state_after, ServerFollows}
use Rattle.iw_laws.specs.ServerLaws.{by_number}
use Rattle.iw_world.proofs.world.World.serve_all.Given as goal

-- the answers so far follow the rules, and leave the two ends as they are
abbrev pub invariant-loop-event : goal.invariant-loop-event
invariant-loop-event g l = record {
  events : map server_event_of l.trace.items ≡ map Some (take l.event-index l.events);
  follows : ServerFollows by_number start l.trace.items;
  state : l.self ≡ server_state_after start l.trace.items;
}
