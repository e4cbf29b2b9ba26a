use Rattle.std.specs.Prelude.{IfSome, Option}
use Rattle.std.specs.Option.{option_map_or}
use Rattle.iw_stream.specs.declared.landing.PlacedFrame.{PlacedFrame}
use Rattle.std.proofs.Common.{◌≡◌, ◌+◌, ◌<◌, ◌^◌, false, true, Ok, Err, ap, sym, ◌∙◌, subst, arith}
use Rattle.iw_stream.specs.Fields.{state_of}
use Rattle.iw_fpdu.specs.declared.layout.Layout.{Layout}
use Rattle.iw_fpdu.specs.Frame.{frame_end}
use Rattle.iw_stream.specs.Starting.{is_open, first_place_in}
use Rattle.iw_stream.specs.Stream.{StreamState, ended, peer_of}
use Rattle.iw_stream.specs.Work.{place_past}
use Rattle.iw_stream.specs.Kept.{AreAwaited, NoneReachesOver}
use Rattle.iw_queues.specs.Completions as completions
use Rattle.iw_queues.specs.Queue.{Queue}
use Rattle.iw_stream.specs.Frames.{head_in, payload_len}
use Rattle.iw_stream.proofs.Reading.{awaited_answered, awaited_left, awaits_answered, none_left}
use Rattle.iw_stream.specs.Judging.{turn_of}
use Rattle.iw_stream.specs.Stream.{ends_by}
use Rattle.iw_stream.specs.Work.{Turn, Rest, standing, after_turn, left_by, step_of, turned_step}
use Rattle.iw_stream.proofs.Origins.{received_whole, turned_fits}
use Rattle.iw_stream.specs.declared.landing.Turning.TheVariants.{Completed}
use Rattle.iw_stream.specs.declared.answer.Step.TheVariants.{Received}
use Rattle.iw_untagged.specs.Receiving.{received}
use Rattle.iw_stream.proofs.Keeping.{frame_stays, keeps_past, placed_front, reaches, turn_finishes, turn_stays}
use Rattle.iw_stream.proofs.Waiting.{kept_scene, passed, records_near}
use Rattle.iw_stream.proofs.stream.Stream.turn_due.Goals as goal

pub invariant_of-self-in-Passed : goal.invariant_of-self-in-Passed
invariant_of-self-in-Passed g c = record {
  keeps =
      let running : is_open (state_of c.self.inside).start ≡ true = ap (λ (t : StreamState). is_open t.start) c.self.view_is ∙ c.requires.open in
      let runs : ended (state_of c.self.inside) ≡ false = ap ended c.self.view_is ∙ c.requires.runs in
      let there : c.first_place_in.result + c.end_of-end.result ≡ place_past (state_of c.self.inside) c.in-Some.frame =
      (λ i. c.first_place_in.ensures.place i + c.end_of-end.ensures i)
      ∙ ap (λ (l : Layout). first_place_in c.self.inside.start + frame_end l.markers c.in-Some.frame.start c.in-Some.frame.len) c.expecting.ensures in
      keeps_past (state_of c.self.inside) c.in-Some.frame (c.first_place_in.result + c.end_of-end.result) c.advance.new.self.arrived c.turn_frame.new.receiving c.self.inside.queue c.turn_frame.new.reads c.self.inside.asked c.advance.new.self.early c.self.inside.arrived.base
      running (placed_front (state_of c.self.inside) c.in-Some.frame runs c.in-Some.is c.self.invariant.keeps).stands there c.advance.ensures.arrived c.advance.ensures.early
      (turn_stays (state_of c.self.inside) c.in-Some.frame c.turn_frame.new.receiving (frame_stays (state_of c.self.inside).receiving c.turn_frame.new.receiving c.in-Some.frame c.in-Ok.ensures.receiving) c.self.invariant.keeps (placed_front (state_of c.self.inside) c.in-Some.frame runs c.in-Some.is c.self.invariant.keeps).stands) c.self.invariant.keeps.first
      (subst (AreAwaited c.self.inside.queue.sent) (sym c.in-Ok.ensures.reads) (awaited_left c.self.inside.queue.sent c.self.inside.reads (payload_len c.in-Some.frame) (head_in c.in-Some.frame) (c.self.invariant.keeps.awaited runs)))
      (λ e. c.in-Ok.ensures.reads ∙ none_left c.self.inside.reads (payload_len c.in-Some.frame) (head_in c.in-Some.frame) e) c.self.invariant.keeps;
  layout = c.advance.ensures.same.layout ∙ c.self.invariant.layout;
  base = c.advance.ensures.same.base ∙ c.self.invariant.base;
}

pub invariant_of-self-in-Completed : goal.invariant_of-self-in-Completed
invariant_of-self-in-Completed g c = record {
  keeps =
      let running : is_open (state_of c.self.inside).start ≡ true = ap (λ (t : StreamState). is_open t.start) c.self.view_is ∙ c.requires.open in
      let runs : ended (state_of c.self.inside) ≡ false = ap ended c.self.view_is ∙ c.requires.runs in
      let there : c.first_place_in.result + c.end_of-end.result ≡ place_past (state_of c.self.inside) c.in-Some.frame =
      (λ i. c.first_place_in.ensures.place i + c.end_of-end.ensures i)
      ∙ ap (λ (l : Layout). first_place_in c.self.inside.start + frame_end l.markers c.in-Some.frame.start c.in-Some.frame.len) c.expecting.ensures in
      keeps_past (state_of c.self.inside) c.in-Some.frame (c.first_place_in.result + c.end_of-end.result) c.advance.new.self.arrived c.finish-buffer.new.self c.self.inside.queue c.turn_frame.new.reads c.self.inside.asked c.advance.new.self.early c.self.inside.arrived.base
      running (placed_front (state_of c.self.inside) c.in-Some.frame runs c.in-Some.is c.self.invariant.keeps).stands there c.advance.ensures.arrived c.advance.ensures.early
      (turn_finishes (state_of c.self.inside) c.in-Some.frame c.turn_frame.new.receiving c.finish-buffer.new.self (frame_stays (state_of c.self.inside).receiving c.turn_frame.new.receiving c.in-Some.frame c.in-Ok.ensures.receiving) c.finish-buffer.ensures.after c.limits-2.ensures.due
      (records_near (state_of c.self.inside) c.self.invariant.keeps (kept_scene (state_of c.self.inside) c.self.inside.arrived.layout c.self.inside.arrived.base c.self.invariant.layout c.self.invariant.base c.limits.ensures.tracked.keeps) c.limits.ensures.apart c.limits.ensures.arrived) c.self.invariant.keeps (placed_front (state_of c.self.inside) c.in-Some.frame runs c.in-Some.is c.self.invariant.keeps).stands) c.self.invariant.keeps.first
      (subst (AreAwaited c.self.inside.queue.sent) (sym c.in-Ok.ensures.reads) (awaited_left c.self.inside.queue.sent c.self.inside.reads (payload_len c.in-Some.frame) (head_in c.in-Some.frame) (c.self.invariant.keeps.awaited runs)))
      (λ e. c.in-Ok.ensures.reads ∙ none_left c.self.inside.reads (payload_len c.in-Some.frame) (head_in c.in-Some.frame) e) c.self.invariant.keeps;
  layout = c.advance.ensures.same.layout ∙ c.self.invariant.layout;
  base = c.advance.ensures.same.base ∙ c.self.invariant.base;
}

pub returns-in-Passed-clause-reach : goal.returns-in-Passed-clause-reach
returns-in-Passed-clause-reach g c =
    let s = state_of c.self.inside in
    let runs : ended (state_of c.self.inside) ≡ false = ap ended c.self.view_is ∙ c.requires.runs in
    let p = (placed_front (state_of c.self.inside) c.in-Some.frame runs c.in-Some.is c.self.invariant.keeps) in
    let there : c.first_place_in.result + c.end_of-end.result ≡ place_past (state_of c.self.inside) c.in-Some.frame =
    (λ i. c.first_place_in.ensures.place i + c.end_of-end.ensures i)
    ∙ ap (λ (l : Layout). first_place_in c.self.inside.start + frame_end l.markers c.in-Some.frame.start c.in-Some.frame.len) c.expecting.ensures in
    reaches s c.args.self.now c.advance.new.self.arrived (c.first_place_in.result + c.end_of-end.result) c.advance.ensures.arrived (omega (arith, there, p.stands.near)) c.self.view_is

pub returns-in-Completed-clause-reach : goal.returns-in-Completed-clause-reach
returns-in-Completed-clause-reach g c =
    let s = state_of c.self.inside in
    let runs : ended (state_of c.self.inside) ≡ false = ap ended c.self.view_is ∙ c.requires.runs in
    let p = (placed_front (state_of c.self.inside) c.in-Some.frame runs c.in-Some.is c.self.invariant.keeps) in
    let there : c.first_place_in.result + c.end_of-end.result ≡ place_past (state_of c.self.inside) c.in-Some.frame =
    (λ i. c.first_place_in.ensures.place i + c.end_of-end.ensures i)
    ∙ ap (λ (l : Layout). first_place_in c.self.inside.start + frame_end l.markers c.in-Some.frame.start c.in-Some.frame.len) c.expecting.ensures in
    reaches s c.args.self.now c.advance.new.self.arrived (c.first_place_in.result + c.end_of-end.result) c.advance.ensures.arrived (omega (arith, there, p.stands.near)) c.self.view_is

pub finish-requires : goal.finish-requires
finish-requires g c =
    let runs : ended (state_of c.self.inside) ≡ false = ap ended c.self.view_is ∙ c.requires.runs in
    awaits_answered c.self.inside.queue.sent c.args.memory.now (peer_of (state_of c.self.inside)) c.self.inside.receiving c.self.inside.reads (payload_len c.in-Some.frame) (head_in c.in-Some.frame) c.in-Answered.ticket (c.self.invariant.keeps.awaited runs)
    (sym c.turn_frame.ensures.turn ∙ c.in-Ok.is ∙ ap Ok c.in-Answered.is)

pub invariant_of-self-in-Answered : goal.invariant_of-self-in-Answered
invariant_of-self-in-Answered g c = record {
  keeps =
      let running : is_open (state_of c.self.inside).start ≡ true = ap (λ (t : StreamState). is_open t.start) c.self.view_is ∙ c.requires.open in
      let runs : ended (state_of c.self.inside) ≡ false = ap ended c.self.view_is ∙ c.requires.runs in
      let there : c.first_place_in.result + c.end_of-end.result ≡ place_past (state_of c.self.inside) c.in-Some.frame =
      (λ i. c.first_place_in.ensures.place i + c.end_of-end.ensures i)
      ∙ ap (λ (l : Layout). first_place_in c.self.inside.start + frame_end l.markers c.in-Some.frame.start c.in-Some.frame.len) c.expecting.ensures in
      keeps_past (state_of c.self.inside) c.in-Some.frame (c.first_place_in.result + c.end_of-end.result) c.advance.new.self.arrived c.turn_frame.new.receiving c.finish.new.self c.turn_frame.new.reads c.self.inside.asked c.advance.new.self.early c.self.inside.arrived.base
      running (placed_front (state_of c.self.inside) c.in-Some.frame runs c.in-Some.is c.self.invariant.keeps).stands there c.advance.ensures.arrived c.advance.ensures.early
      (turn_stays (state_of c.self.inside) c.in-Some.frame c.turn_frame.new.receiving (frame_stays (state_of c.self.inside).receiving c.turn_frame.new.receiving c.in-Some.frame c.in-Ok.ensures.receiving) c.self.invariant.keeps (placed_front (state_of c.self.inside) c.in-Some.frame runs c.in-Some.is c.self.invariant.keeps).stands)
      (subst (λ (q : Queue). q.sent.first < 2 ^ 64) (sym c.finish.ensures) c.self.invariant.keeps.first)
      (subst (λ (q : Queue). AreAwaited q.sent c.turn_frame.new.reads) (sym c.finish.ensures)
      (subst (AreAwaited (completions.finished c.self.inside.queue.sent c.in-Answered.ticket)) (sym c.in-Ok.ensures.reads)
      (awaited_answered c.self.inside.queue.sent c.args.memory.now (peer_of (state_of c.self.inside)) c.self.inside.receiving c.self.inside.reads (payload_len c.in-Some.frame) (head_in c.in-Some.frame) c.in-Answered.ticket c.self.invariant.keeps.first (c.self.invariant.keeps.awaited runs)
      (sym c.turn_frame.ensures.turn ∙ c.in-Ok.is ∙ ap Ok c.in-Answered.is))))
      (λ e. c.in-Ok.ensures.reads ∙ none_left c.self.inside.reads (payload_len c.in-Some.frame) (head_in c.in-Some.frame) e) c.self.invariant.keeps;
  layout = c.advance.ensures.same.layout ∙ c.self.invariant.layout;
  base = c.advance.ensures.same.base ∙ c.self.invariant.base;
}

pub returns-in-Answered-clause-reach : goal.returns-in-Answered-clause-reach
returns-in-Answered-clause-reach g c =
    let s = state_of c.self.inside in
    let runs : ended (state_of c.self.inside) ≡ false = ap ended c.self.view_is ∙ c.requires.runs in
    let p = (placed_front (state_of c.self.inside) c.in-Some.frame runs c.in-Some.is c.self.invariant.keeps) in
    let there : c.first_place_in.result + c.end_of-end.result ≡ place_past (state_of c.self.inside) c.in-Some.frame =
    (λ i. c.first_place_in.ensures.place i + c.end_of-end.ensures i)
    ∙ ap (λ (l : Layout). first_place_in c.self.inside.start + frame_end l.markers c.in-Some.frame.start c.in-Some.frame.len) c.expecting.ensures in
    reaches s c.args.self.now c.advance.new.self.arrived (c.first_place_in.result + c.end_of-end.result) c.advance.ensures.arrived (omega (arith, there, p.stands.near)) c.self.view_is

pub advance-requires-clause-passed : goal.advance-requires-clause-passed
advance-requires-clause-passed g c =
    let runs : ended (state_of c.self.inside) ≡ false = ap ended c.self.view_is ∙ c.requires.runs in
    let there : c.first_place_in.result + c.end_of-end.result ≡ place_past (state_of c.self.inside) c.in-Some.frame =
    (λ i. c.first_place_in.ensures.place i + c.end_of-end.ensures i)
    ∙ ap (λ (l : Layout). first_place_in c.self.inside.start + frame_end l.markers c.in-Some.frame.start c.in-Some.frame.len) c.expecting.ensures in
    let w = placed_front (state_of c.self.inside) c.in-Some.frame runs c.in-Some.is c.self.invariant.keeps in
    passed (state_of c.self.inside) c.in-Some.frame c.self.inside.arrived.layout c.self.inside.arrived.base (c.first_place_in.result + c.end_of-end.result) c.self.invariant.layout c.self.invariant.base there c.self.invariant.keeps w.stands (subst (λ o. IfSome o (NoneReachesOver (state_of c.self.inside))) c.in-Some.is (c.self.invariant.keeps.clear runs))

pub end_of-end-requires : goal.end_of-end-requires
end_of-end-requires g c =
    let runs : ended (state_of c.self.inside) ≡ false = ap ended c.self.view_is ∙ c.requires.runs in
    let w = placed_front (state_of c.self.inside) c.in-Some.frame runs c.in-Some.is c.self.invariant.keeps in
    omega (arith, w.stands.low, ap (λ (t : StreamState). t.arrived.floor) c.self.view_is, c.requires.place)

pub overflow_add-place : goal.overflow_add-place
overflow_add-place g c =
    let runs : ended (state_of c.self.inside) ≡ false = ap ended c.self.view_is ∙ c.requires.runs in
    let w = placed_front (state_of c.self.inside) c.in-Some.frame runs c.in-Some.is c.self.invariant.keeps in
    let there : c.first_place_in.result + c.end_of-end.result ≡ place_past (state_of c.self.inside) c.in-Some.frame =
    (λ i. c.first_place_in.ensures.place i + c.end_of-end.ensures i)
    ∙ ap (λ (l : Layout). first_place_in c.self.inside.start + frame_end l.markers c.in-Some.frame.start c.in-Some.frame.len) c.expecting.ensures in
    omega (arith, there, w.stands.near, ap (λ (t : StreamState). t.arrived.floor) c.self.view_is, c.requires.place)

pub advance-requires-clause-near : goal.advance-requires-clause-near
advance-requires-clause-near g c =
    let runs : ended (state_of c.self.inside) ≡ false = ap ended c.self.view_is ∙ c.requires.runs in
    let w = placed_front (state_of c.self.inside) c.in-Some.frame runs c.in-Some.is c.self.invariant.keeps in
    let there : c.first_place_in.result + c.end_of-end.result ≡ place_past (state_of c.self.inside) c.in-Some.frame =
    (λ i. c.first_place_in.ensures.place i + c.end_of-end.ensures i)
    ∙ ap (λ (l : Layout). first_place_in c.self.inside.start + frame_end l.markers c.in-Some.frame.start c.in-Some.frame.len) c.expecting.ensures in
    omega (arith, there, w.stands.near, ap (λ (t : StreamState). t.arrived.floor) c.self.view_is, c.requires.place)

pub turn_frame-requires-clause-header : goal.turn_frame-requires-clause-header
turn_frame-requires-clause-header g c =
    let runs : ended (state_of c.self.inside) ≡ false = ap ended c.self.view_is ∙ c.requires.runs in
    let w = placed_front (state_of c.self.inside) c.in-Some.frame runs c.in-Some.is c.self.invariant.keeps in
    w.stands.header

pub turn_frame-requires-clause-room : goal.turn_frame-requires-clause-room
turn_frame-requires-clause-room g c =
    let runs : ended (state_of c.self.inside) ≡ false = ap ended c.self.view_is ∙ c.requires.runs in
    let w = placed_front (state_of c.self.inside) c.in-Some.frame runs c.in-Some.is c.self.invariant.keeps in
    w.room

pub terminate_turned-terminate-requires-clause-whole : goal.terminate_turned-terminate-requires-clause-whole
terminate_turned-terminate-requires-clause-whole g c =
    let runs : ended (state_of c.self.inside) ≡ false = ap ended c.self.view_is ∙ c.requires.runs in
    let w = placed_front (state_of c.self.inside) c.in-Some.frame runs c.in-Some.is c.self.invariant.keeps in
    w.stands.whole

pub returns-in-Err-clause-after : goal.returns-in-Err-clause-after
returns-in-Err-clause-after g c =
    let s = state_of c.self.inside in
    let table = c.args.memory.now in
    let frame = c.in-Some.frame in
    let is : turn_of (standing table s) frame ≡ Err c.in-Err.fault = sym c.turn_frame.ensures.turn ∙ c.in-Err.is in
    c.end_by.ensures ∙ (λ i. ends_by (record s { receiving = c.in-Err.ensures.err.0 i; reads = c.in-Err.ensures.err.1 i }) (c.terminate_turned-terminate.ensures i))
    ∙ ap (after_turn s frame) (sym is) ∙ ap (λ (o : Option PlacedFrame). left_by table s (option_map_or Turn o Rest)) (sym c.in-Some.is)
    ∙ ap (λ (t : StreamState). left_by table t (option_map_or Turn t.front Rest)) c.self.view_is

pub returns-in-Err-clause-step : goal.returns-in-Err-clause-step
returns-in-Err-clause-step g c =
    let s = state_of c.self.inside in
    let table = c.args.memory.now in
    let frame = c.in-Some.frame in
    let is : turn_of (standing table s) frame ≡ Err c.in-Err.fault = sym c.turn_frame.ensures.turn ∙ c.in-Err.is in
    ap (turned_step s.receiving frame) (sym is) ∙ ap (λ (o : Option PlacedFrame). step_of table s (option_map_or Turn o Rest)) (sym c.in-Some.is)
    ∙ ap (λ (t : StreamState). step_of table t (option_map_or Turn t.front Rest)) c.self.view_is

pub terminate_turned-terminate-requires-clause-fits : goal.terminate_turned-terminate-requires-clause-fits
terminate_turned-terminate-requires-clause-fits g c =
    let s = state_of c.self.inside in
    turned_fits c.args.memory.now (peer_of s) s.receiving s.reads (payload_len c.in-Some.frame) (head_in c.in-Some.frame) c.in-Err.fault (sym c.turn_frame.ensures.turn ∙ c.in-Err.is)

pub returns-in-Completed-clause-step : goal.returns-in-Completed-clause-step
returns-in-Completed-clause-step g c =
    let s = state_of c.self.inside in
    let table = c.args.memory.now in
    let frame = c.in-Some.frame in
    let is : turn_of (standing table s) frame ≡ Ok (Completed c.in-Completed.solicited c.in-Completed.invalidate) = sym c.turn_frame.ensures.turn ∙ c.in-Ok.is ∙ ap Ok c.in-Completed.is in
    let message = c.finish-buffer.ensures.message ∙ ap received c.in-Ok.ensures.receiving ∙ received_whole table (peer_of s) s.receiving s.reads (payload_len frame) (head_in frame) c.in-Completed.solicited c.in-Completed.invalidate is in
    (λ i. Received (message i).buffer (message i).len c.in-Completed.solicited c.in-Completed.invalidate) ∙ ap (turned_step s.receiving frame) (sym is) ∙ ap (λ (o : Option PlacedFrame). step_of table s (option_map_or Turn o Rest)) (sym c.in-Some.is)
    ∙ ap (λ (t : StreamState). step_of table t (option_map_or Turn t.front Rest)) c.self.view_is
