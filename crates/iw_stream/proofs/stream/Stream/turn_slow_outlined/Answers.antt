use Rattle.std.proofs.Common.{◌≡◌, ◌+◌, ◌<◌, ◌^◌, [], false, true, Some, Ok, ap, sym, ◌∙◌, subst, arith, refl}
use Rattle.iw_fpdu.specs.declared.layout.Layout.{Layout}
use Rattle.iw_fpdu.specs.Frame.{frame_end}
use Rattle.iw_octets.specs.declared.segment.Segment.TheVariants.{Tagged}
use Rattle.iw_queues.specs.Completions as completions
use Rattle.iw_queues.specs.Queue.{Queue}
use Rattle.iw_stream.specs.Fields.{state_of}
use Rattle.iw_stream.specs.Judging.{answered}
use Rattle.iw_stream.specs.Kept.{NoneReachesOver, AreAwaited}
use Rattle.iw_stream.specs.Starting.{is_open, first_place_in}
use Rattle.iw_stream.specs.Stream.{StreamState, ended, peer_of}
use Rattle.iw_stream.specs.Work.{place_past}
use Rattle.iw_stream.proofs.Keeping.{keeps_past, placed_front, reaches, turn_stays}
use Rattle.iw_stream.proofs.Buffers.{stays_same}
use Rattle.std.specs.Prelude.{IfSome}
use Rattle.iw_stream.proofs.Waiting.{passed}
use Rattle.iw_stream.proofs.Reading.{awaited_answered, awaited_left, none_left}
use Rattle.iw_stream.proofs.stream.Stream.turn_slow_outlined.Goals as goal

pub invariant_of-self-in-Ok-None : goal.invariant_of-self-in-Ok-None
invariant_of-self-in-Ok-None g c = record {
  keeps =
      let s = state_of c.self.inside in
      let head = c.in-Some-tagged_head.head in
      let runs : ended (state_of c.self.inside) ≡ false = ap ended c.self.view_is ∙ c.requires.runs in
      let running : is_open (state_of c.self.inside).start ≡ true = ap (λ (t : StreamState). is_open t.start) c.self.view_is ∙ c.requires.open in
      let there : c.first_place_in.result + c.end_of-end.result ≡ place_past (state_of c.self.inside) c.in-Some.frame =
      (λ i. c.first_place_in.ensures.place i + c.end_of-end.ensures i)
      ∙ ap (λ (l : Layout). first_place_in c.self.inside.start + frame_end l.markers c.in-Some.frame.start c.in-Some.frame.len) c.expecting.ensures in
      keeps_past s c.in-Some.frame (c.first_place_in.result + c.end_of-end.result) c.advance.new.self.arrived s.receiving s.queue c.turn_reads.new.reads s.asked c.advance.new.self.early c.self.inside.arrived.base
      running (placed_front s c.in-Some.frame runs c.in-Some.is c.self.invariant.keeps).stands there c.advance.ensures.arrived c.advance.ensures.early
      (turn_stays s c.in-Some.frame s.receiving (stays_same s.receiving s.receiving refl) c.self.invariant.keeps (placed_front s c.in-Some.frame runs c.in-Some.is c.self.invariant.keeps).stands) c.self.invariant.keeps.first
      (subst (AreAwaited s.queue.sent) (sym c.in-Ok-None.ensures.ok) (awaited_left s.queue.sent s.reads c.payload_len.result (Some (Tagged head [])) (c.self.invariant.keeps.awaited runs))) (λ e. c.in-Ok-None.ensures.ok ∙ none_left s.reads c.payload_len.result (Some (Tagged head [])) e) c.self.invariant.keeps;
  layout = c.advance.ensures.same.layout ∙ c.self.invariant.layout;
  base = c.advance.ensures.same.base ∙ c.self.invariant.base;
}

pub invariant_of-self-in-Ok-Some : goal.invariant_of-self-in-Ok-Some
invariant_of-self-in-Ok-Some g c = record {
  keeps =
      let s = state_of c.self.inside in
      let head = c.in-Some-tagged_head.head in
      let runs : ended (state_of c.self.inside) ≡ false = ap ended c.self.view_is ∙ c.requires.runs in
      let running : is_open (state_of c.self.inside).start ≡ true = ap (λ (t : StreamState). is_open t.start) c.self.view_is ∙ c.requires.open in
      let there : c.first_place_in.result + c.end_of-end.result ≡ place_past (state_of c.self.inside) c.in-Some.frame =
      (λ i. c.first_place_in.ensures.place i + c.end_of-end.ensures i)
      ∙ ap (λ (l : Layout). first_place_in c.self.inside.start + frame_end l.markers c.in-Some.frame.start c.in-Some.frame.len) c.expecting.ensures in
      keeps_past s c.in-Some.frame (c.first_place_in.result + c.end_of-end.result) c.advance-in-Ok-Some.new.self.arrived s.receiving c.finish.new.self c.turn_reads.new.reads s.asked c.advance-in-Ok-Some.new.self.early c.self.inside.arrived.base
      running (placed_front s c.in-Some.frame runs c.in-Some.is c.self.invariant.keeps).stands there c.advance-in-Ok-Some.ensures.arrived c.advance-in-Ok-Some.ensures.early
      (turn_stays s c.in-Some.frame s.receiving (stays_same s.receiving s.receiving refl) c.self.invariant.keeps (placed_front s c.in-Some.frame runs c.in-Some.is c.self.invariant.keeps).stands)
      (subst (λ (q : Queue). q.sent.first < 2 ^ 64) (sym c.finish.ensures) c.self.invariant.keeps.first)
      (subst (λ (q : Queue). AreAwaited q.sent c.turn_reads.new.reads) (sym c.finish.ensures)
      (subst (AreAwaited (completions.finished s.queue.sent c.in-Ok-Some.ticket)) (sym c.in-Ok-Some.ensures.ok)
      (awaited_answered s.queue.sent c.args.memory.now (peer_of s) s.receiving s.reads c.payload_len.result (Some (Tagged head [])) c.in-Ok-Some.ticket c.self.invariant.keeps.first (c.self.invariant.keeps.awaited runs)
      (sym c.turn_reads.ensures.turn ∙ ap answered (c.in-Ok-Some.is ∙ ap Ok c.in-Ok-Some.field-0-is)))))
      (λ e. c.in-Ok-Some.ensures.ok ∙ none_left s.reads c.payload_len.result (Some (Tagged head [])) e) c.self.invariant.keeps;
  layout = c.advance-in-Ok-Some.ensures.same.layout ∙ c.self.invariant.layout;
  base = c.advance-in-Ok-Some.ensures.same.base ∙ c.self.invariant.base;
}

pub returns-in-Ok-None-clause-reach : goal.returns-in-Ok-None-clause-reach
returns-in-Ok-None-clause-reach g c =
    let s = state_of c.self.inside in
    let p = placed_front (state_of c.self.inside) c.in-Some.frame (ap ended c.self.view_is ∙ c.requires.runs) c.in-Some.is c.self.invariant.keeps in
    let there : c.first_place_in.result + c.end_of-end.result ≡ place_past (state_of c.self.inside) c.in-Some.frame =
    (λ i. c.first_place_in.ensures.place i + c.end_of-end.ensures i)
    ∙ ap (λ (l : Layout). first_place_in c.self.inside.start + frame_end l.markers c.in-Some.frame.start c.in-Some.frame.len) c.expecting.ensures in
    reaches s c.args.self.now c.advance.new.self.arrived (c.first_place_in.result + c.end_of-end.result) c.advance.ensures.arrived (omega (arith, there, p.stands.near)) c.self.view_is

pub returns-in-Ok-Some-clause-reach : goal.returns-in-Ok-Some-clause-reach
returns-in-Ok-Some-clause-reach g c =
    let s = state_of c.self.inside in
    let p = placed_front (state_of c.self.inside) c.in-Some.frame (ap ended c.self.view_is ∙ c.requires.runs) c.in-Some.is c.self.invariant.keeps in
    let there : c.first_place_in.result + c.end_of-end.result ≡ place_past (state_of c.self.inside) c.in-Some.frame =
    (λ i. c.first_place_in.ensures.place i + c.end_of-end.ensures i)
    ∙ ap (λ (l : Layout). first_place_in c.self.inside.start + frame_end l.markers c.in-Some.frame.start c.in-Some.frame.len) c.expecting.ensures in
    reaches s c.args.self.now c.advance-in-Ok-Some.new.self.arrived (c.first_place_in.result + c.end_of-end.result) c.advance-in-Ok-Some.ensures.arrived (omega (arith, there, p.stands.near)) c.self.view_is

pub advance-requires-clause-passed : goal.advance-requires-clause-passed
advance-requires-clause-passed g c =
    let s = state_of c.self.inside in
    let runs : ended (state_of c.self.inside) ≡ false = ap ended c.self.view_is ∙ c.requires.runs in
    let there : c.first_place_in.result + c.end_of-end.result ≡ place_past (state_of c.self.inside) c.in-Some.frame =
    (λ i. c.first_place_in.ensures.place i + c.end_of-end.ensures i)
    ∙ ap (λ (l : Layout). first_place_in c.self.inside.start + frame_end l.markers c.in-Some.frame.start c.in-Some.frame.len) c.expecting.ensures in
    passed s c.in-Some.frame c.self.inside.arrived.layout c.self.inside.arrived.base (c.first_place_in.result + c.end_of-end.result) c.self.invariant.layout c.self.invariant.base there c.self.invariant.keeps
    (placed_front s c.in-Some.frame runs c.in-Some.is c.self.invariant.keeps).stands (subst (λ o. IfSome o (NoneReachesOver s)) c.in-Some.is (c.self.invariant.keeps.clear runs))

pub advance-requires-in-Ok-Some-clause-passed : goal.advance-requires-in-Ok-Some-clause-passed
advance-requires-in-Ok-Some-clause-passed g c =
    let s = state_of c.self.inside in
    let runs : ended (state_of c.self.inside) ≡ false = ap ended c.self.view_is ∙ c.requires.runs in
    let there : c.first_place_in.result + c.end_of-end.result ≡ place_past (state_of c.self.inside) c.in-Some.frame =
    (λ i. c.first_place_in.ensures.place i + c.end_of-end.ensures i)
    ∙ ap (λ (l : Layout). first_place_in c.self.inside.start + frame_end l.markers c.in-Some.frame.start c.in-Some.frame.len) c.expecting.ensures in
    passed s c.in-Some.frame c.self.inside.arrived.layout c.self.inside.arrived.base (c.first_place_in.result + c.end_of-end.result) c.self.invariant.layout c.self.invariant.base there c.self.invariant.keeps
    (placed_front s c.in-Some.frame runs c.in-Some.is c.self.invariant.keeps).stands (subst (λ o. IfSome o (NoneReachesOver s)) c.in-Some.is (c.self.invariant.keeps.clear runs))
