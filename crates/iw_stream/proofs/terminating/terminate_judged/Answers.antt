use Rattle.std.proofs.Common.{◌≡◌, length, take, ap, sym, ◌∙◌, arith}
use Rattle.std.proofs.lemmas.List.{length-take}
use Rattle.iw_rdmap.specs.Judging.{judged}
use Rattle.iw_rdmap.specs.Terminate.{terminate_octets}
use Rattle.iw_stream.specs.Terminating.{asks, is_request_of}
use Rattle.iw_fpdu.specs.Found.{ulpdu}
use Rattle.iw_stream.proofs.Landings.{length_ulpdu}
use Rattle.iw_stream.proofs.Origins.{asks_front}
use Rattle.iw_stream.proofs.terminating.terminate_judged.Goals as goal
use Rattle.iw_stream.proofs.terminating.terminate_judged.Goals.{in-Ok, in-Err}

pub judge-requires : goal.judge-requires
judge-requires g c =
    let u = ulpdu c.args.fpdu.now in
    let first = ap length (c.as_slice.ensures.value ∙ c.first_octets-first.ensures) ∙ length-take 46 u in
    record { enough = omega (arith, first, length_ulpdu c.args.fpdu.now, c.len-len.ensures.len); within = omega (arith, first, length_ulpdu c.args.fpdu.now, c.len-len.ensures.len) }

pub returns : goal.returns
returns g c =
    let u = ulpdu c.args.fpdu.now in
    let long = c.len-len.ensures.len ∙ sym (length_ulpdu c.args.fpdu.now) in
    let judged_is : c.judge.result ≡ judged (take 46 (ulpdu c.args.fpdu.now)) c.len-len.result c.args.asked.now.next (length c.args.asked.now.unanswered) =
    c.judge.ensures.judged ∙ (λ i. judged ((c.as_slice.ensures.value ∙ c.first_octets-first.ensures) i) c.len-len.result (c.next_msn.ensures i) (c.len.ensures.len i)) in
    let is : c.match-judge.asks ≡ is_request_of c.args.asked.now (ulpdu c.args.fpdu.now) =
    elim c.match-judge.branch [
      | in-Ok w ↦ w.asks-is ∙ w.is_request-asks.ensures ∙ ap asks (sym w.in-Ok.is ∙ judged_is) ∙ asks_front u c.len-len.result c.args.asked.now long
      | in-Err w ↦ w.asks-is ∙ ap asks (sym w.in-Err.is ∙ judged_is) ∙ asks_front u c.len-len.result c.args.asked.now long
    ] in
    c.terminate.ensures ∙ (λ i. terminate_octets c.args.fault ((c.as_slice-2.ensures.value ∙ c.first_octets-first.ensures) i) (long i) (is i))
