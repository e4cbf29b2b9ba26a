use Rattle.std.proofs.Common.{◌≡◌, ◌-◌, length, sym, ap, ◌∙◌}
use Rattle.iw_octets.specs.Segment.{segment_octets}
use Rattle.iw_fpdu.specs.Frame.{frame_end}
use Rattle.iw_stream.specs.Fields.{state_of}
use Rattle.iw_stream.specs.Starting.{sending, first_place_out}
use Rattle.iw_stream.specs.Stream.{StreamState, frame_of}
use Rattle.iw_stream.proofs.Lengths.{length-frame_of}
use Rattle.iw_stream.proofs.stream.Stream.frame_len.Goals as goal

pub returns : goal.returns
returns g c = λ segment short.
    let s : StreamState = state_of c.self.inside in
    let at : c.saturating_sub-at.result ≡ s.sent - first_place_out s.start = c.saturating_sub-at.ensures ∙ ap (λ n. s.sent - n) c.first_place_out.ensures.place in
    let end : c.end_of-end.result ≡ frame_end (sending s.start).markers (s.sent - first_place_out s.start) (length (segment_octets segment)) =
    c.end_of-end.ensures ∙ (λ i. frame_end (c.sending.ensures i).markers (at i) (sym short i)) in
    c.saturating_sub.ensures ∙ (λ i. end i - at i) ∙ sym (length-frame_of s segment) ∙ ap (λ (t : StreamState). length (frame_of t segment)) c.self.view_is
