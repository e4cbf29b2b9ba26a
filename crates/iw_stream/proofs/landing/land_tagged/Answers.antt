use Rattle.std.proofs.Common.{◌≡◌, ◌-◌, if◌then◌else◌, length, None, Err, sym, ap, ◌∙◌, arith}
use Rattle.std.specs.Option.{option_map_or}
use Rattle.iw_fpdu.specs.Found.{ulpdu, ulpdu_len}
use Rattle.iw_octets.specs.Segment.{read_segment}
use Rattle.iw_rdmap.proofs.Tags.{passes}
use Rattle.iw_reads.specs.Outstanding.{sink_fault}
use Rattle.iw_tagged.specs.Placing.{placing_fault}
use Rattle.iw_stream.specs.Frames.{payload_of}
use Rattle.iw_stream.specs.Judging.{as_tagged, mismatch_fault, fault_or, place_in, segment_verdict}
use Rattle.iw_stream.proofs.Landings.{length_ulpdu}
use Rattle.iw_stream.proofs.Tagged.{as_placed, put_there, tagged_long, tagged_payload, tagged_verdict, tagged_verdict_is, unasked}
use Rattle.iw_stream.proofs.landing.land_tagged.Goals as goal

pub place_tagged-requires-clause-long : goal.place_tagged-requires-clause-long
place_tagged-requires-clause-long g c =
    let u = ulpdu c.args.fpdu.now in
    omega (arith, tagged_long u c.args.head (passes u c.args.head c.requires.tagged), length_ulpdu c.args.fpdu.now)

pub overflow_sub-len : goal.overflow_sub-len
overflow_sub-len g c =
    let u = ulpdu c.args.fpdu.now in
    omega (arith, tagged_long u c.args.head (passes u c.args.head c.requires.tagged), length_ulpdu c.args.fpdu.now, c.len.ensures.len)

pub returns-in-Err-check_sink-clause-landed : goal.returns-in-Err-check_sink-clause-landed
returns-in-Err-check_sink-clause-landed g c = λ at table peer reads.
    let u = ulpdu c.args.fpdu.now in
    let head = c.args.head in
    let response = c.args.response in
    let n : c.len.result - 14 ≡ length (ulpdu c.args.fpdu.now) - 14 = ap (λ k. k - 14) (c.len.ensures.len ∙ sym (length_ulpdu c.args.fpdu.now)) in
    unasked response c.args.memory.now c.args.peer c.args.reads.now head (c.len.result - 14) c.in-Err-check_sink.fault c.in-Err-check_sink.ensures
    ∙ (λ i. tagged_verdict response (sym table i) (sym peer i) (sym reads i) head (n i))
    ∙ ap (λ b. tagged_verdict b at.table at.peer at.reads head (length u - 14)) c.requires.response
    ∙ sym (tagged_verdict_is at u head (passes u head c.requires.tagged))
    ∙ ap (λ m. option_map_or (λ w. Err (mismatch_fault w)) m (segment_verdict at u)) c.in_default.ensures

pub returns-clause-landed : goal.returns-clause-landed
returns-clause-landed g c = λ at table peer reads.
    let u = ulpdu c.args.fpdu.now in
    let head = c.args.head in
    let response = c.args.response in
    let n = ulpdu_len c.args.fpdu.now - 14 in
    let long = ap (λ k. k - 14) (length_ulpdu c.args.fpdu.now) in
    ap (as_tagged response) c.place_tagged.ensures.placed
    ∙ ap (λ r. as_tagged response (fault_or (placing_fault c.args.memory.now c.args.peer head n r) (place_in head n))) c.right_of.ensures
    ∙ as_placed response c.args.memory.now c.args.peer c.args.reads.now head n
    (c.in_default-check_sink.ensures ∙ ap (λ k. if response then sink_fault c.args.reads.now head (k - 14) else None) c.len.ensures.len)
    ∙ (λ i. tagged_verdict response (sym table i) (sym peer i) (sym reads i) head (sym long i))
    ∙ ap (λ b. tagged_verdict b at.table at.peer at.reads head (length u - 14)) c.requires.response
    ∙ sym (tagged_verdict_is at u head (passes u head c.requires.tagged))
    ∙ ap (λ m. option_map_or (λ w. Err (mismatch_fault w)) m (segment_verdict at u)) c.in_default.ensures

pub returns-clause-memory : goal.returns-clause-memory
returns-clause-memory g c =
    let u = ulpdu c.args.fpdu.now in
    let head = c.args.head in
    let n = ulpdu_len c.args.fpdu.now - 14 in
    put_there c.place_tagged.result (placing_fault c.args.memory.now c.args.peer head n c.right_of.result) (place_in head n) c.args.memory.now c.place_tagged.new.memory (payload_of (read_segment u)) _
    c.place_tagged.ensures.placed (tagged_payload u head (passes u head c.requires.tagged)) c.place_tagged.ensures.ok
