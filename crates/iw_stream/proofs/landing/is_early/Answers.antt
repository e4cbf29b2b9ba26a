use Rattle.std.proofs.Common.{◌≡◌, ℕ, length, take, ap, sym, ◌∙◌, arith}
use Rattle.std.proofs.lemmas.List.{length-take}
use Rattle.iw_rdmap.specs.Judging.{judged}
use Rattle.iw_stream.specs.Judging.{may_be_early}
use Rattle.iw_fpdu.specs.Found.{ulpdu}
use Rattle.iw_stream.proofs.Heads.{first_taken, judged_front}
use Rattle.iw_stream.proofs.Landings.{length_ulpdu}
use Rattle.iw_stream.proofs.landing.is_early.Goals as goal

pub judge-requires : goal.judge-requires
judge-requires g c =
    let u = ulpdu c.args.fpdu.now in
    let first = ap length (c.as_slice.ensures.value ∙ c.first_octets-first.ensures) ∙ length-take 46 u in
    record { enough = omega (arith, first, length_ulpdu c.args.fpdu.now, c.len.ensures.len); within = omega (arith, first, length_ulpdu c.args.fpdu.now, c.len.ensures.len) }

pub returns-in-Ok : goal.returns-in-Ok
returns-in-Ok g c =
    let u = ulpdu c.args.fpdu.now in
    let next : ℕ = c.args.asked.now.next in
    let judged_is : c.judge.result ≡ judged (ulpdu c.args.fpdu.now) (length (ulpdu c.args.fpdu.now)) c.args.asked.now.next (length c.args.asked.now.unanswered) =
    c.judge.ensures.judged ∙ (λ i. judged ((c.as_slice.ensures.value ∙ c.first_octets-first.ensures) i) c.len.result (c.next_msn.ensures i) (c.len-2.ensures.len i))
    ∙ judged_front u (take 46 u) c.len.result c.args.asked.now.next (length c.args.asked.now.unanswered) (first_taken u) (c.len.ensures.len ∙ sym (length_ulpdu c.args.fpdu.now)) in
    c.early.ensures ∙ ap may_be_early (sym c.in-Ok.is ∙ judged_is)

pub returns-in-Err : goal.returns-in-Err
returns-in-Err g c =
    let u = ulpdu c.args.fpdu.now in
    let judged_is : c.judge.result ≡ judged (ulpdu c.args.fpdu.now) (length (ulpdu c.args.fpdu.now)) c.args.asked.now.next (length c.args.asked.now.unanswered) =
    c.judge.ensures.judged ∙ (λ i. judged ((c.as_slice.ensures.value ∙ c.first_octets-first.ensures) i) c.len.result (c.next_msn.ensures i) (c.len-2.ensures.len i))
    ∙ judged_front u (take 46 u) c.len.result c.args.asked.now.next (length c.args.asked.now.unanswered) (first_taken u) (c.len.ensures.len ∙ sym (length_ulpdu c.args.fpdu.now)) in
    ap may_be_early (sym c.in-Err.is ∙ judged_is)
