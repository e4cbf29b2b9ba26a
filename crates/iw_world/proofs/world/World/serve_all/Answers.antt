use Rattle.std.proofs.Common.{rules, ◌≡◌, ◌+◌, ◌<◌, List, [], ◌∷◌, ◌++◌, ℕ, length, map, take, drop, Some, ap, sym, subst, ◌∙◌, arith}
use Rattle.std.proofs.lemmas.List.{map_push, take_all, take_more, drop_more, take-append-drop, length-take, length-map}
use Rattle.iw_events.specs.declared.server.ServerEvent.{ServerEvent}
use Rattle.iw_events.specs.declared.server.ServerEntry.{ServerEntry}
use Rattle.iw_events.specs.Servers.{server_event_of}
use Rattle.iw_laws.specs.Words.{Octets, other}
use Rattle.iw_laws.specs.Rules.{start, end_of}
use Rattle.iw_laws.specs.Bounds.{IsShortState}
use Rattle.iw_laws.specs.Servers.{ServerRule, ServerFollows, after_server_entry, server_state_after}
use Rattle.iw_laws.specs.ServerLaws.{by_number}
use Rattle.iw_laws.specs.ServerStops.{LacksServerStream, AsksServerTooMuch}
use Rattle.iw_laws.proofs.Serving.{server_follows-push, server_state_after-push}
use Rattle.iw_laws.proofs.Shorts.{short_server}
use Rattle.iw_world.proofs.world.World.serve_all.Goals as goal

pub serve_one-requires : goal.serve_one-requires
serve_one-requires g c =
    let trace : List (ServerEntry Octets) = c.loop-event.trace.items in
    let few : length trace < length c.args.events.now =
    omega (arith, sym (length-map trace server_event_of) ∙ ap length c.loop-event.invariant.events ∙ length-map (take c.loop-event.event-index c.args.events.now) Some, length-take c.loop-event.event-index c.args.events.now, c.loop-event-test.true) in
    subst IsShortState (sym c.loop-event.invariant.state) (short_server by_number trace (λ x n m same. same) c.loop-event.invariant.follows (omega (arith, few, c.requires.few)))

pub loop-event-preserved : goal.loop-event-preserved
loop-event-preserved g c =
    let trace : List (ServerEntry Octets) = c.loop-event.trace.items in
    let e : ServerEntry Octets = c.in-Ok.entry in
    let pushed : c.push.new.self.items ≡ trace ++ e ∷ [] = c.in_ok-push.ensures.items in
    let rule : ServerRule (by_number e.end) (by_number (other e.end)) (end_of e.end c.loop-event.self) (end_of (other e.end) c.loop-event.self) e.act = c.in-Ok.ensures.rule in
    let now : c.loop-event.self ≡ server_state_after start trace = c.loop-event.invariant.state in
    let more = take_more c.args.events.now c.loop-event.event-index c.event-item.result c.loop-event-test.true in
    let so_far : List (ServerEvent Octets) = take c.loop-event.event-index c.args.events.now in
    record {
      events =
          ap (map server_event_of) pushed ∙ map_push server_event_of trace e ∙ (λ i. c.loop-event.invariant.events i ++ c.in-Ok.ensures.event i ∷ [])
          ∙ sym (map_push Some so_far c.event-item.result) ∙ ap (map Some) (ap (λ z. so_far ++ z ∷ []) c.event-item.is ∙ sym more);
      follows = subst (ServerFollows by_number start) (sym pushed) (server_follows-push by_number trace e start c.loop-event.invariant.follows (subst (λ w. ServerRule (by_number e.end) (by_number (other e.end)) (end_of e.end w) (end_of (other e.end) w) e.act) now rule));
      state = c.in-Ok.ensures.state ∙ ap (λ w. after_server_entry w e) now ∙ sym (server_state_after-push trace e start) ∙ ap (server_state_after start) (sym pushed);
    }

pub returns-in-Err-NoSuchStream-clause-refused : goal.returns-in-Err-NoSuchStream-clause-refused
returns-in-Err-NoSuchStream-clause-refused g c =
    let i : ℕ = c.loop-event.event-index in
    let event : ServerEvent Octets = c.event-item.result in
    let more = drop_more c.args.events.now i event c.loop-event-test.true in
    record {
      trace = c.loop-event.trace.items;
      event = event;
      others = drop (i + 1) c.args.events.now;
      front = take i c.args.events.now;
      split = sym (take-append-drop i c.args.events.now) ∙ ap (λ z. take i c.args.events.now ++ z) (more ∙ ap (λ z. z ∷ drop (i + 1) c.args.events.now) (sym c.event-item.is));
      made = c.loop-event.invariant.events;
      number = search rules;
      follows = c.loop-event.invariant.follows;
      is_so = subst (λ z. LacksServerStream (end_of event.end z) (end_of (other event.end) z) event.call) c.loop-event.invariant.state (c.in-Err-NoSuchStream.ensures.no_stream (search rules));
    }

pub returns-in-Err-NotSent-clause-refused : goal.returns-in-Err-NotSent-clause-refused
returns-in-Err-NotSent-clause-refused g c =
    let i : ℕ = c.loop-event.event-index in
    let event : ServerEvent Octets = c.event-item.result in
    let more = drop_more c.args.events.now i event c.loop-event-test.true in
    record {
      trace = c.loop-event.trace.items;
      event = event;
      others = drop (i + 1) c.args.events.now;
      front = take i c.args.events.now;
      split = sym (take-append-drop i c.args.events.now) ∙ ap (λ z. take i c.args.events.now ++ z) (more ∙ ap (λ z. z ∷ drop (i + 1) c.args.events.now) (sym c.event-item.is));
      made = c.loop-event.invariant.events;
      number = search rules;
      follows = c.loop-event.invariant.follows;
      is_so = subst (λ z. AsksServerTooMuch (end_of event.end z) (end_of (other event.end) z) event.call) c.loop-event.invariant.state (c.in-Err-NotSent.ensures.not_sent (search rules));
    }

pub returns-clause-events : goal.returns-clause-events
returns-clause-events g c =
    c.loop-event.invariant.events ∙ ap (map Some) (take_all c.loop-event.event-index c.args.events.now (omega (arith, c.loop-event-test.false, c.loop-event.auto.event-index-end)))
