use Rattle.std.proofs.Common.{◌≡◌, ◌+◌, ◌-◌, ◌%◌, ◌^◌, ◌<◌, ◌≤◌, true, Some, None, length, refl, ap, sym, ◌∙◌, subst, cond, arith, length-append}
use Rattle.iw_octets.specs.Segment.{segment_octets}
use Rattle.iw_fpdu.specs.Frame.{frame_octets}
use Rattle.iw_queues.specs.Queue.{Queue, part_sent}
use Rattle.iw_queues.specs.Segments.{segment_of}
use Rattle.iw_queues.specs.Shown.{shown_part}
use Rattle.iw_stream.specs.Emitting.{numbers_of}
use Rattle.iw_stream.specs.Fields.{state_of}
use Rattle.iw_stream.specs.Kept.{AreAwaited, Keeps}
use Rattle.iw_stream.specs.Starting.{is_open, first_place_out}
use Rattle.iw_stream.specs.Stream.{StreamState, NextPart, NoneDue, may_go, part_due, frame_of_part, left_due}
use Rattle.std.specs.Option.{option_map_or}
use Rattle.iw_stream.proofs.Keeping.{aligned_past, keeps_sent, some_written}
use Rattle.iw_stream.proofs.Reading.{awaited_sent, first_sent}
use Rattle.iw_stream.proofs.stream.Stream.emit_part.Goals as goal

pub part_sent-requires : goal.part_sent-requires
part_sent-requires g c = record {
  max = c.self.inside.mulpdu;
  least = c.self.invariant.keeps.enough;
  part = shown_part c.in-Some.part;
  shown = sym c.in-Some.ensures.part;
  octets = refl;
  ends = refl;
}

pub returns-clause-after : goal.returns-clause-after
returns-clause-after g c = λ table.
    let s : StreamState = state_of c.self.inside in
    let part = shown_part c.in-Some.part in
    let first = c.first_place_out.result in
    let u = segment_octets (segment_of s.numbers part) in
    let due : part_due s ≡ Some part = (λ i. may_go (sym c.most_reads.ensures.most i) s.reads (sym c.in-Some.ensures.part i)) ∙ ap (λ b. cond b None (Some part)) (sym c.must_wait.ensures.waits ∙ c.if-must_wait.false) in
    let queue : c.part_sent.new.self ≡ part_sent s.queue (Some part) =
    c.part_sent.ensures (record { max = s.mulpdu; least = c.self.invariant.keeps.enough; part = part; shown = sym c.in-Some.ensures.part; octets = refl; ends = refl }) in
    let frame : frame_octets c.sending.result (s.sent - first) u ≡ frame_of_part s part =
    (λ i. frame_octets (c.sending.ensures i) (s.sent - c.first_place_out.ensures.place i) u) in
    let long : length c.write_part.new.out.items ≡ length c.args.out.now.items + length (frame_of_part s part) =
    ap length c.in_ok-write_part.ensures.ok ∙ length-append c.args.out.now.items _ ∙ ap (λ xs. length c.args.out.now.items + length xs) frame in
    let sent : s.sent + (c.len.result - c.len-before.result) ≡ s.sent + length (frame_of_part s part) = omega (arith, long, c.len.ensures, c.len-before.ensures) in
    (λ i. record s { queue = queue i; numbers = c.in_default-count_part.ensures.numbers i; sent = sent i; reads = c.in_default-count_part.ensures.reads i })
    ∙ ap (λ o. left_due table s (option_map_or NextPart o NoneDue)) (sym due)
    ∙ ap (λ (t : StreamState). left_due table t (option_map_or NextPart (part_due t) NoneDue)) c.self.view_is

pub invariant_of-self : goal.invariant_of-self
invariant_of-self g c = record {
  keeps =
      let s = c.self.inside in
      let same : record (state_of s) { numbers = numbers_of c.count_part.new.numbers; reads = c.count_part.new.reads } ≡ state_of s =
      (λ i. record (state_of s) { numbers = numbers_of (c.in-Err.ensures.err.0 i); reads = c.in-Err.ensures.err.1 i }) in
      subst Keeps (sym same) c.self.invariant.keeps;
  layout = c.self.invariant.layout;
  base = c.self.invariant.base;
}

pub invariant_of-self-2 : goal.invariant_of-self-2
invariant_of-self-2 g c = record {
  keeps =
      let s = c.self.inside in
      let first = c.first_place_out.result in
      let part = shown_part c.in-Some.part in
      let u = segment_octets (segment_of (numbers_of s.numbers) (shown_part c.in-Some.part)) in
      let frame = frame_octets c.sending.result (s.sent - first) u in
      let running : is_open (state_of c.self.inside).start ≡ true = ap (λ (t : StreamState). is_open t.start) c.self.view_is ∙ c.requires.open in
      let low : first_place_out (state_of c.self.inside).start ≤ (state_of c.self.inside).sent = subst (λ (t : StreamState). first_place_out t.start ≤ t.sent) (sym c.self.view_is) c.requires.owed in
      let at : c.first_place_out.result ≡ first_place_out (state_of c.self.inside).start = c.first_place_out.ensures.place in
      let long : length c.write_part.new.out.items ≡ length c.args.out.now.items + length frame = ap length c.in_ok-write_part.ensures.ok ∙ length-append c.args.out.now.items frame in
      let all : s.sent - first_place_out (state_of c.self.inside).start + (c.len.result - c.len-before.result) ≡ s.sent - first + length frame = omega (arith, long, c.len.ensures, c.len-before.ensures, at) in
      let after : c.part_sent.new.self ≡ part_sent c.self.inside.queue (Some (shown_part c.in-Some.part)) = c.part_sent.ensures (record { max = c.self.inside.mulpdu; least = c.self.invariant.keeps.enough; part = part; shown = sym c.in-Some.ensures.part; octets = refl; ends = refl }) in
      keeps_sent (state_of s) c.part_sent.new.self (numbers_of c.count_part.new.numbers) (c.len.result - c.len-before.result) c.count_part.new.reads s.asked running low
      (ap (λ n. n % 4) all ∙ aligned_past c.sending.result (s.sent - first) u (ap (λ n. (s.sent - n) % 4) at ∙ c.self.invariant.keeps.aligned))
      (subst (λ (q : Queue). q.sent.first < 2 ^ 64) (sym after) (first_sent s.queue (Some part) c.self.invariant.keeps.first))
      (λ runs. subst (λ (q : Queue). AreAwaited q.sent c.count_part.new.reads) (sym after)
      (subst (AreAwaited (part_sent c.self.inside.queue (Some (shown_part c.in-Some.part))).sent) (sym c.in_default-count_part.ensures.reads) (awaited_sent s.queue _ part s.reads c.limits.ensures c.self.invariant.keeps.first (sym c.in-Some.ensures.part) (c.self.invariant.keeps.awaited runs))))
      (λ le. absurd (omega (arith, le, low, all, at, some_written c.sending.result (s.sent - first) u (ap (λ n. (s.sent - n) % 4) at ∙ c.self.invariant.keeps.aligned))))
      c.self.invariant.keeps;
  layout = c.self.invariant.layout;
  base = c.self.invariant.base;
}
