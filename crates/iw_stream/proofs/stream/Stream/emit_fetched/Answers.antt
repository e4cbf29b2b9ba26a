use Rattle.std.proofs.Common.{◌≡◌, ◌+◌, ◌-◌, ◌%◌, ◌≤◌, true, length, ap, sym, ◌∙◌, subst, arith, length-append}
use Rattle.iw_octets.specs.declared.segment.Segment.TheVariants.{Tagged}
use Rattle.iw_octets.specs.Segment.{segment_octets}
use Rattle.iw_fpdu.specs.Frame.{frame_octets}
use Rattle.iw_stream.specs.Fields.{state_of}
use Rattle.iw_stream.specs.Starting.{is_open, first_place_out}
use Rattle.iw_stream.specs.Stream.{StreamState}
use Rattle.iw_stream.proofs.Keeping.{aligned_past, keeps_sent}
use Rattle.iw_stream.proofs.stream.Stream.emit_fetched.Goals as goal

pub invariant_of-self : goal.invariant_of-self
invariant_of-self g c = record {
  keeps =
      let s = c.self.inside in
      let first = c.first_place_out.result in
      let u = segment_octets (Tagged c.args.part.head c.args.octets.now) in
      let frame = frame_octets c.sending.result (s.sent - first) u in
      let running : is_open (state_of c.self.inside).start ≡ true = ap (λ (t : StreamState). is_open t.start) c.self.view_is ∙ c.requires.open in
      let low : first_place_out (state_of c.self.inside).start ≤ (state_of c.self.inside).sent = subst (λ (t : StreamState). first_place_out t.start ≤ t.sent) (sym c.self.view_is) c.requires.owed in
      let at : c.first_place_out.result ≡ first_place_out (state_of c.self.inside).start = c.first_place_out.ensures.place in
      let long : length c.write_tagged.new.out.items ≡ length c.args.out.now.items + length frame = ap length c.in_ok-write_tagged.ensures.ok ∙ length-append c.args.out.now.items frame in
      let all : s.sent - first_place_out (state_of c.self.inside).start + (c.len.result - c.len-before.result) ≡ s.sent - first + length frame = omega (arith, long, c.len.ensures, c.len-before.ensures, at) in
      keeps_sent (state_of s) s.queue (state_of s).numbers (c.len.result - c.len-before.result) s.reads c.part_fetched.new.self running low
      (ap (λ n. n % 4) all ∙ aligned_past c.sending.result (s.sent - first) u (ap (λ n. (s.sent - n) % 4) at ∙ c.self.invariant.keeps.aligned))
      c.self.invariant.keeps.first c.self.invariant.keeps.awaited (λ le. c.self.invariant.keeps.started.unread (omega (arith, le))) c.self.invariant.keeps;
  layout = c.self.invariant.layout;
  base = c.self.invariant.base;
}
