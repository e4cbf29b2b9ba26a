use Rattle.std.proofs.Common.{◌≡◌, None, length, ap, ◌∙◌}
use Rattle.iw_octets.specs.declared.segment.Segment.TheVariants.{Tagged}
use Rattle.iw_octets.proofs.Segments.{length-segment_octets_tagged}
use Rattle.iw_reads.specs.Response.{fetch_fault, fetched_octets}
use Rattle.iw_stream.specs.Judging.{fault_or}
use Rattle.iw_stream.specs.Stream.{StreamState, frame_of, octets_fetched, peer_of}
use Rattle.iw_stream.proofs.stream.Stream.response_len.Goals as goal

pub returns-in-Ok : goal.returns-in-Ok
returns-in-Ok g c =
    let s : StreamState = c.args.self.now in
    let table = c.args.memory.now in
    let part = c.args.part.now in
    let octets = c.in-Ok.octets.now in
    let is : octets ≡ fetched_octets table part = c.in-Ok.ensures.octets in
    let none : None ≡ fetch_fault table (peer_of s) part = c.in-Ok.ensures.denied ∙ ap (λ (t : StreamState). fetch_fault table (peer_of t) part) c.self.view_is in
    c.frame_len.ensures (Tagged part.head octets) (length-segment_octets_tagged part.head octets)
    ∙ (λ i. length (octets_fetched (fault_or (none i) (frame_of s (Tagged part.head (is i))))))
