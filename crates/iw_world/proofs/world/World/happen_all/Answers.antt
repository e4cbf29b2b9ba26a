use Rattle.std.proofs.Common.{rules, ◌≡◌, ◌+◌, ◌<◌, List, [], ◌∷◌, ◌++◌, ℕ, length, map, take, drop, ap, sym, subst, ◌∙◌, arith}
use Rattle.std.proofs.lemmas.List.{map_push, take_all, take_more, drop_more, take-append-drop, length-take, length-map}
use Rattle.iw_events.specs.declared.call.Event.{Event}
use Rattle.iw_events.specs.declared.act.Entry.{Entry}
use Rattle.iw_events.specs.Events.{event_of}
use Rattle.iw_laws.specs.Words.{Octets, other, acts}
use Rattle.iw_laws.specs.Rules.{State, start, state_after, after_entry, end_of, Rule, Follows}
use Rattle.iw_laws.specs.Bounds.{IsShortState, LacksStream, AsksTooMuch}
use Rattle.iw_laws.proofs.Whole.{follows_push, state_after-push, seen_after}
use Rattle.iw_laws.proofs.Laws.{names_no_stream, asks_not_sent}
use Rattle.iw_laws.proofs.Shorts.{short_state}
use Rattle.iw_world.proofs.world.World.happen_all.Goals as goal

pub happen-requires : goal.happen-requires
happen-requires g c =
    let trace : List (Entry Octets) = c.loop-event.trace.items in
    let few : length trace < length c.args.events.now = omega (arith, sym (length-map trace event_of) ∙ ap length c.loop-event.invariant.events, length-take c.loop-event.event-index c.args.events.now, c.loop-event-test.true) in
    subst IsShortState (sym c.loop-event.invariant.state) (short_state trace c.loop-event.invariant.follows (omega (arith, few, c.requires.few)))

pub loop-event-preserved : goal.loop-event-preserved
loop-event-preserved g c =
    let trace : List (Entry Octets) = c.loop-event.trace.items in
    let e : Entry Octets = c.in-Ok.entry in
    let pushed : c.push.new.self.items ≡ trace ++ e ∷ [] = c.in_ok-push.ensures.items in
    let rule : Rule (end_of e.end c.loop-event.self) (end_of (other e.end) c.loop-event.self) e.act = c.in-Ok.ensures.rule in
    let now : c.loop-event.self ≡ state_after start trace = c.loop-event.invariant.state in
    let more = take_more c.args.events.now c.loop-event.event-index c.event-item.result c.loop-event-test.true in
    record {
      events = ap (map event_of) pushed ∙ map_push event_of trace e ∙ (λ i. c.loop-event.invariant.events i ++ c.in-Ok.ensures.event i ∷ []) ∙ ap (λ z. take c.loop-event.event-index c.args.events.now ++ z ∷ []) c.event-item.is ∙ sym more;
      follows = subst (Follows start) (sym pushed) (follows_push trace e start c.loop-event.invariant.follows (subst (λ w. Rule (end_of e.end w) (end_of (other e.end) w) e.act) now rule));
      state = c.in-Ok.ensures.state ∙ ap (λ w. after_entry w e) now ∙ sym (state_after-push trace e start) ∙ ap (state_after start) (sym pushed);
    }

pub returns-in-Err-NoSuchStream-clause-refused : goal.returns-in-Err-NoSuchStream-clause-refused
returns-in-Err-NoSuchStream-clause-refused g c =
    let i : ℕ = c.loop-event.event-index in
    let trace : List (Entry Octets) = c.loop-event.trace.items in
    let event : Event Octets = c.event-item.result in
    let w : State = state_after start trace in
    let seen = seen_after trace c.loop-event.invariant.follows in
    let lacks : LacksStream (end_of event.end w) (end_of (other event.end) w) event.call =
    subst (λ z. LacksStream (end_of event.end z) (end_of (other event.end) z) event.call) c.loop-event.invariant.state (c.in-Err-NoSuchStream.ensures.no_stream (search rules)) in
    let more = drop_more c.args.events.now i event c.loop-event-test.true in
    record {
      trace = trace;
      event = event;
      others = drop (i + 1) c.args.events.now;
      split = sym (take-append-drop i c.args.events.now) ∙ (λ j. sym c.loop-event.invariant.events j ++ (more ∙ ap (λ z. z ∷ drop (i + 1) c.args.events.now) (sym c.event-item.is)) j);
      number = search rules;
      follows = c.loop-event.invariant.follows;
      is_so = names_no_stream (end_of event.end w) (end_of (other event.end) w) (acts event.end trace) (acts (other event.end) trace) event.call (seen.ends event.end) (seen.ends (other event.end)) lacks;
    }

pub returns-in-Err-NotSent-clause-refused : goal.returns-in-Err-NotSent-clause-refused
returns-in-Err-NotSent-clause-refused g c =
    let i : ℕ = c.loop-event.event-index in
    let trace : List (Entry Octets) = c.loop-event.trace.items in
    let event : Event Octets = c.event-item.result in
    let w : State = state_after start trace in
    let seen = seen_after trace c.loop-event.invariant.follows in
    let asks : AsksTooMuch (end_of event.end w) (end_of (other event.end) w) event.call =
    subst (λ z. AsksTooMuch (end_of event.end z) (end_of (other event.end) z) event.call) c.loop-event.invariant.state (c.in-Err-NotSent.ensures.not_sent (search rules)) in
    let more = drop_more c.args.events.now i event c.loop-event-test.true in
    record {
      trace = trace;
      event = event;
      others = drop (i + 1) c.args.events.now;
      split = sym (take-append-drop i c.args.events.now) ∙ (λ j. sym c.loop-event.invariant.events j ++ (more ∙ ap (λ z. z ∷ drop (i + 1) c.args.events.now) (sym c.event-item.is)) j);
      number = search rules;
      follows = c.loop-event.invariant.follows;
      is_so = asks_not_sent (end_of event.end w) (end_of (other event.end) w) (acts event.end trace) (acts (other event.end) trace) event.call (seen.ends event.end) (seen.ends (other event.end)) (λ n. (seen.pairs event.end n).own_peer.own.wire) asks;
    }

pub returns-clause-events : goal.returns-clause-events
returns-clause-events g c =
    c.loop-event.invariant.events ∙ take_all c.loop-event.event-index c.args.events.now (omega (arith, c.loop-event-test.false, c.loop-event.auto.event-index-end))
