use Rattle.std.proofs.Common.{◌≡◌, ℕ, ◌-◌, List, Ok, length, sym, ap, ◌∙◌, subst, arith, length-append}
use Rattle.std.specs.Prelude.{IfOk}
use Rattle.iw_octets.specs.Segment.{read_segment}
use Rattle.iw_fpdu.specs.Found.{ulpdu}
use Rattle.iw_rdmap.specs.Head.{header_octets}
use Rattle.iw_rdmap.specs.Judging.{judged}
use Rattle.iw_stream.specs.Frames.{payload_of}
use Rattle.iw_stream.specs.Judging.{Standing, IsFirst, head_verdict, judged_head, place_verdict, table_landed, receiving_landed}
use Rattle.iw_stream.proofs.Heads.{judged_front}
use Rattle.iw_stream.proofs.Landings.{HasPayload, has_payload, judges, length_ulpdu}
use Rattle.iw_stream.proofs.landing.land_by.Goals as goal

-- the octets at the front say what the header of the ULPDU is judged to be
judged_by : (u first : List ℕ) (len next unanswered : ℕ) (at : Standing) → IsFirst u first → len ≡ length u → next ≡ at.asked.next → unanswered ≡ length at.asked.unanswered
    → judged first len next unanswered ≡ judged_head at u
judged_by u first len next unanswered at f long due waiting = judged_front u first len next unanswered f long ∙ (λ i. judged u (length u) (due i) (waiting i))

pub judge-requires : goal.judge-requires
judge-requires g c =
    let u = ulpdu c.args.fpdu.now in
    let first = c.args.first.now in
    let f = c.requires.first in
    let all = ap length f.whole ∙ length-append first f.beyond in
    let long = length_ulpdu c.args.fpdu.now in
    record { enough = omega (arith, f.enough, long, c.len.ensures.len); within = omega (arith, all, long, c.len.ensures.len) }

pub returns-in-Err-clause-landed : goal.returns-in-Err-clause-landed
returns-in-Err-clause-landed g c =
    let u = ulpdu c.args.fpdu.now in
    let at : Standing = record { table = c.args.memory.now; peer = c.args.peer; receiving = c.args.receiving.now; reads = c.args.reads.now; asked = c.args.asked.now } in
    let said = judged_by u c.args.first.now c.len.result c.next_msn.result c.len-2.result at c.requires.first (c.len.ensures.len ∙ sym (length_ulpdu c.args.fpdu.now)) c.next_msn.ensures c.len-2.ensures.len in
    ap (λ r. head_verdict at r (length (payload_of (read_segment u)))) (sym c.in-Err.is ∙ c.judge.ensures.judged ∙ said)

pub returns-in-Ok-clause-landed : goal.returns-in-Ok-clause-landed
returns-in-Ok-clause-landed g c =
    let u = ulpdu c.args.fpdu.now in
    let head = c.in-Ok.head in
    let at : Standing = record { table = c.args.memory.now; peer = c.args.peer; receiving = c.args.receiving.now; reads = c.args.reads.now; asked = c.args.asked.now } in
    let said = judged_by u c.args.first.now c.len.result c.next_msn.result c.len-2.result at c.requires.first (c.len.ensures.len ∙ sym (length_ulpdu c.args.fpdu.now)) c.next_msn.ensures c.len-2.ensures.len in
    let is : judged_head at u ≡ Ok c.in-Ok.head = sym said ∙ sym c.judge.ensures.judged ∙ c.in-Ok.is in
    let p : HasPayload u c.in-Ok.head = has_payload u (length c.args.asked.now.unanswered) head (judges u c.args.asked.now.next (length c.args.asked.now.unanswered) head is) in
    c.land.ensures.landed c.args.asked.now
    ∙ ap (place_verdict at head) (ap (λ n. n - header_octets head) (sym (length_ulpdu c.args.fpdu.now)) ∙ sym p.len)
    ∙ ap (λ r. head_verdict at r (length (payload_of (read_segment u)))) (sym is)

pub returns-in-Ok-clause-memory : goal.returns-in-Ok-clause-memory
returns-in-Ok-clause-memory g c =
    let u = ulpdu c.args.fpdu.now in
    let head = c.in-Ok.head in
    let at : Standing = record { table = c.args.memory.now; peer = c.args.peer; receiving = c.args.receiving.now; reads = c.args.reads.now; asked = c.args.asked.now } in
    let said = judged_by u c.args.first.now c.len.result c.next_msn.result c.len-2.result at c.requires.first (c.len.ensures.len ∙ sym (length_ulpdu c.args.fpdu.now)) c.next_msn.ensures c.len-2.ensures.len in
    let is : judged_head at u ≡ Ok c.in-Ok.head = sym said ∙ sym c.judge.ensures.judged ∙ c.in-Ok.is in
    let p : HasPayload u c.in-Ok.head = has_payload u (length c.args.asked.now.unanswered) head (judges u c.args.asked.now.next (length c.args.asked.now.unanswered) head is) in
    subst (λ payload. IfOk c.land.result (λ x. c.land.new.memory ≡ table_landed c.args.memory.now payload x)) (sym p.payload) c.land.ensures.memory

pub returns-in-Ok-clause-receiving : goal.returns-in-Ok-clause-receiving
returns-in-Ok-clause-receiving g c =
    let u = ulpdu c.args.fpdu.now in
    let head = c.in-Ok.head in
    let at : Standing = record { table = c.args.memory.now; peer = c.args.peer; receiving = c.args.receiving.now; reads = c.args.reads.now; asked = c.args.asked.now } in
    let said = judged_by u c.args.first.now c.len.result c.next_msn.result c.len-2.result at c.requires.first (c.len.ensures.len ∙ sym (length_ulpdu c.args.fpdu.now)) c.next_msn.ensures c.len-2.ensures.len in
    let is : judged_head at u ≡ Ok c.in-Ok.head = sym said ∙ sym c.judge.ensures.judged ∙ c.in-Ok.is in
    let p : HasPayload u c.in-Ok.head = has_payload u (length c.args.asked.now.unanswered) head (judges u c.args.asked.now.next (length c.args.asked.now.unanswered) head is) in
    subst (λ payload. IfOk c.land.result (λ x. c.land.new.receiving ≡ receiving_landed c.args.receiving.now payload x)) (sym p.payload) c.land.ensures.receiving
