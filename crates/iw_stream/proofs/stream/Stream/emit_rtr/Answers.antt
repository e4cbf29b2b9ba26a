use Rattle.std.proofs.Common.{◌≡◌, ◌+◌, ◌-◌, ◌%◌, true, length, ap, sym, ◌∙◌, subst, arith, length-append}
use Rattle.iw_octets.specs.Segment.{segment_octets}
use Rattle.iw_fpdu.specs.Frame.{frame_octets}
use Rattle.iw_stream.specs.Emitting.{numbers_of}
use Rattle.iw_stream.specs.Fields.{state_of}
use Rattle.iw_stream.specs.Kept.{AreAwaited, Keeps}
use Rattle.iw_stream.specs.Rtr.{rtr_segment}
use Rattle.iw_stream.specs.Starting.{is_open, first_place_out}
use Rattle.iw_stream.specs.Stream.{StreamState, Ready, frame_of_rtr, left_due, rtr_due}
use Rattle.iw_stream.proofs.Dues.{rtr_first}
use Rattle.iw_stream.proofs.Keeping.{aligned_past, keeps_sent, some_written}
use Rattle.iw_stream.proofs.Reading.{awaited_rtr}
use Rattle.iw_stream.proofs.stream.Stream.emit_rtr.Goals as goal

pub returns-clause-after : goal.returns-clause-after
returns-clause-after g c = λ table.
    let s : StreamState = state_of c.self.inside in
    let rtr = c.args.rtr in
    let first = c.first_place_out.result in
    let u = segment_octets (rtr_segment s.numbers c.args.rtr) in
    let frame : frame_octets c.sending.result (s.sent - first) u ≡ frame_of_rtr s rtr =
    (λ i. frame_octets (c.sending.ensures i) (s.sent - c.first_place_out.ensures.place i) u) in
    let long : length c.write_rtr.new.out.items ≡ length c.args.out.now.items + length (frame_of_rtr s rtr) =
    ap length c.in_ok-write_rtr.ensures.ok ∙ length-append c.args.out.now.items _ ∙ ap (λ xs. length c.args.out.now.items + length xs) frame in
    let sent : s.sent + (c.len.result - c.len-end.result) ≡ s.sent + length (frame_of_rtr s rtr) = omega (arith, long, c.len.ensures, c.len-end.ensures) in
    (λ i. record s { numbers = c.in_default.ensures.numbers i; sent = sent i; reads = c.in_default.ensures.reads i })
    ∙ ap (λ (t : StreamState). left_due table t (Ready rtr)) c.self.view_is

pub invariant_of-self : goal.invariant_of-self
invariant_of-self g c = record {
  keeps =
      let s = c.self.inside in
      let same : record (state_of s) { numbers = numbers_of c.count_rtr.new.numbers; reads = c.count_rtr.new.reads } ≡ state_of s =
      (λ i. record (state_of s) { numbers = numbers_of (c.in-Err.ensures.err.0 i); reads = c.in-Err.ensures.err.1 i }) in
      subst Keeps (sym same) c.self.invariant.keeps;
  layout = c.self.invariant.layout;
  base = c.self.invariant.base;
}

pub invariant_of-self-2 : goal.invariant_of-self-2
invariant_of-self-2 g c = record {
  keeps =
      let s = c.self.inside in
      let rtr = c.args.rtr in
      let first = c.first_place_out.result in
      let u = segment_octets (rtr_segment (numbers_of s.numbers) c.args.rtr) in
      let frame = frame_octets c.sending.result (s.sent - first) u in
      let running : is_open (state_of c.self.inside).start ≡ true = ap (λ (t : StreamState). is_open t.start) c.self.view_is ∙ c.requires.open in
      let there : (state_of c.self.inside).sent ≡ first_place_out (state_of c.self.inside).start = rtr_first (state_of s) rtr (ap rtr_due c.self.view_is ∙ c.requires.due) in
      let at : c.first_place_out.result ≡ first_place_out (state_of c.self.inside).start = c.first_place_out.ensures.place in
      let long : length c.write_rtr.new.out.items ≡ length c.args.out.now.items + length frame = ap length c.in_ok-write_rtr.ensures.ok ∙ length-append c.args.out.now.items frame in
      let all : s.sent - first_place_out (state_of c.self.inside).start + (c.len.result - c.len-end.result) ≡ s.sent - first + length frame = omega (arith, long, c.len.ensures, c.len-end.ensures, at) in
      let aligned : (s.sent - first) % 4 ≡ 0 = ap (λ n. (s.sent - n) % 4) at ∙ c.self.invariant.keeps.aligned in
      keeps_sent (state_of s) s.queue (numbers_of c.count_rtr.new.numbers) (c.len.result - c.len-end.result) c.count_rtr.new.reads s.asked running (omega (arith, there))
      (ap (λ n. n % 4) all ∙ aligned_past c.sending.result (s.sent - first) u aligned)
      c.self.invariant.keeps.first
      (λ runs. subst (AreAwaited c.self.inside.queue.sent) (sym c.in_default.ensures.reads) (awaited_rtr s.queue.sent s.reads rtr (c.self.invariant.keeps.awaited runs)))
      (λ le. absurd (omega (arith, le, there, all, at, some_written c.sending.result (s.sent - first) u aligned)))
      c.self.invariant.keeps;
  layout = c.self.invariant.layout;
  base = c.self.invariant.base;
}
