use Rattle.std.proofs.Common.{◌≡◌, ◌-◌, length, Option, None, Ok, Err, sym, ap, ◌∙◌, arith, length-append}
use Rattle.std.specs.Result.{result_err}
use Rattle.std.specs.Option.{option_map_or}
use Rattle.iw_octets.specs.Segment.{read_segment}
use Rattle.iw_fpdu.specs.declared.fpdu.Mismatch.{Mismatch}
use Rattle.iw_fpdu.specs.Found.{mismatch, ulpdu, ulpdu_len}
use Rattle.iw_rdmap.specs.declared.head.Head.TheVariants as heads
use Rattle.iw_rdmap.specs.Judging.{judged}
use Rattle.iw_reads.specs.Requests.{Requested}
use Rattle.iw_untagged.specs.Receiving.{Receiving, buffer_fault, written}
use Rattle.iw_stream.specs.declared.landing.Landing.TheVariants.{Send}
use Rattle.iw_stream.specs.Frames.{payload_of}
use Rattle.iw_stream.specs.Judging.{fault_or, head_verdict, mismatch_fault, place_verdict, receiving_landed, segment_verdict}
use Rattle.iw_stream.proofs.Heads.{judged_front}
use Rattle.iw_stream.proofs.Landings.{HasPayload, has_payload, judges, length_ulpdu}
use Rattle.iw_stream.proofs.landing.land_send.Given as given
use Rattle.iw_stream.proofs.landing.land_send.Goals as goal

-- its header is a Send's, and passes its checks
sent : (g : given.Over) (c : goal.After-keep_first g)
    → judged (ulpdu c.args.fpdu) (length (ulpdu c.args.fpdu)) c.args.asked.now.next (length c.args.asked.now.unanswered) ≡ Ok (heads.Send c.in-Ok-Send.head)
sent g c =
    let u = ulpdu c.args.fpdu in
    let long = c.len.ensures.len ∙ sym (length_ulpdu c.args.fpdu) in
    sym (judged_front u c.in_ok-first.first.now c.len.result c.next_msn.result c.len-2.result c.in_ok-first.ensures long
    ∙ (λ i. judged u (length u) (c.next_msn.ensures i) (c.len-2.ensures.len i)))
    ∙ sym c.judge.ensures.judged ∙ c.in-Ok-Send.is ∙ ap Ok c.in-Ok-Send.field-0-is

payload : (g : given.Over) (c : goal.After-keep_first g) → HasPayload (ulpdu c.args.fpdu) (heads.Send c.in-Ok-Send.head)
payload g c =
    let u = ulpdu c.args.fpdu in
    has_payload u (length c.args.asked.now.unanswered) (heads.Send c.in-Ok-Send.head) (judges u c.args.asked.now.next (length c.args.asked.now.unanswered) (heads.Send c.in-Ok-Send.head) (sent g c))

pub judge-requires : goal.judge-requires
judge-requires g c =
    let u = ulpdu c.args.fpdu in
    let first = c.in_ok-first.first.now in
    let f = c.in_ok-first.ensures in
    let all = ap length f.whole ∙ length-append first f.beyond in
    let long = length_ulpdu c.args.fpdu in
    record { enough = omega (arith, f.enough, long, c.len.ensures.len); within = omega (arith, all, long, c.len.ensures.len) }

pub returns-clause-landed : goal.returns-clause-landed
returns-clause-landed g c = λ at same asked.
    let u = ulpdu c.args.fpdu in
    let head = c.in-Ok-Send.head in
    let clean : mismatch c.args.fpdu ≡ None = sym c.check.ensures ∙ ap result_err c.in-Ok.is in
    let is : judged u (length u) at.asked.next (length at.asked.unanswered) ≡ Ok (heads.Send head) =
    ap (λ (q : Requested). judged u (length u) q.next (length q.unanswered)) asked ∙ sent g c in
    ap (λ (o : Option Mismatch). option_map_or (λ m. Err (mismatch_fault m)) o (segment_verdict at u)) clean
    ∙ ap (λ r. head_verdict at r (length (payload_of (read_segment u)))) is
    ∙ ap (place_verdict at (heads.Send head)) ((payload g c).len ∙ ap (λ n. n - 18) (length_ulpdu c.args.fpdu))
    ∙ ap (λ (r : Receiving). fault_or (buffer_fault r head.msn head.mo (ulpdu_len c.args.fpdu - 18)) (Send head.msn head.mo (ulpdu_len c.args.fpdu - 18))) same
    ∙ sym c.place_send.ensures.landed ∙ c.in-Ok-Send-place_send.is ∙ ap Ok c.in-Ok-Send-place_send.field-0-is

pub returns-clause-receiving : goal.returns-clause-receiving
returns-clause-receiving g c =
    let to = c.in-Ok-Send-place_send in
    to.ensures.receiving ∙ ap (receiving_landed c.args.receiving.now _) to.field-0-is
    ∙ ap (written c.args.receiving.now to.msn to.mo) (sym (payload g c).payload)
