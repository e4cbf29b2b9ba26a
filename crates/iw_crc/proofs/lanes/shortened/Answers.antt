use Rattle.std.proofs.Common.{◌≡◌, ◌≤◌, ◌+◌, ◌*◌, ◌++◌, length, take, bit_xor, sym, ap, ◌∙◌, arith}
use lib.Lanes.{zip2, chunk}
use Rattle.std.proofs.Math.Seq.{take-add, take-length}
use Rattle.std.proofs.lemmas.Simd.{length-chunk}
use Rattle.iw_crc.proofs.Sixteens.{Owes, starts, step_on, ends, front_small}
use Rattle.iw_crc.proofs.lanes.shortened.Goals as goal

pub loop-step-init : goal.loop-step-init
loop-step-init c = starts c.args.remainder c.opened-first.result c.ranges.remainder.fits c.opened-first.ensures.1

pub loop-step-preserved : goal.loop-step-preserved
loop-step-preserved c =
    let octets = c.args.octets.now in
    let s = c.loop-step in
    let at = 16 * s.step in
    let p = chunk at 16 octets in
    let room : at + 16 ≤ length octets = omega arith in
    let lp = length-chunk at 16 octets room in
    let more : take at octets ++ p ≡ take (16 * (s.step + 1)) octets = sym (take-add at 16 octets) ∙ ap (λ n. take n octets) (let e : at + 16 ≡ 16 * (s.step + 1) = omega arith in e) in
    let stand = step_on s.first s.second s.third s.fourth s.fifth s.sixth p c.args.remainder (take at octets) s.auto.first.0 s.auto.second.0 s.auto.third.0 s.auto.fifth.0 lp (front_small s.first at octets s.auto.first room (λ k. (c.type_inv.octets k).fits)) s.invariant in
    coe 0 1 (i. Owes (zip2 bit_xor s.second (sym c.moved.ensures i)) (zip2 bit_xor s.third (sym c.moved-in-loop-step.ensures i)) s.fourth (zip2 bit_xor s.fifth (sym c.moved-in-loop-step-2.ensures i)) s.sixth (sym c.moved-sixth.ensures i) c.args.remainder (more i)) stand

pub returns : goal.returns
returns c =
    let octets = c.args.octets.now in
    let s = c.loop-step in
    let at = 16 * c.args.steps in
    let done : s.step ≡ c.args.steps = omega arith in
    let stand = coe 0 1 (i. Owes s.first s.second s.third s.fourth s.fifth s.sixth c.args.remainder (take (16 * done i) octets)) s.invariant in
    let whole = sym (take-length c.put-6.new.out) ∙ ap (λ n. take n c.put-6.new.out) (let e : length c.put-6.new.out ≡ 96 = omega (arith, c.put-6.ensures.1, c.put-5.ensures.1, c.put-4.ensures.1, c.put-3.ensures.1, c.put-2.ensures.1, c.put.ensures.1) in e) in
    ends s.first s.second s.third s.fourth s.fifth s.sixth c.args.remainder at octets c.put-6.new.out s.auto.first.0 s.auto.second.0 s.auto.third.0 s.auto.fourth.0 s.auto.fifth.0 s.auto.sixth.0 c.requires stand
    (whole
    ∙ c.put-6.ensures.0
    ∙ ap (λ l. l ++ zip2 bit_xor s.sixth (chunk (at + 80) 16 octets)) (c.put-5.ensures.0
    ∙ ap (λ l. l ++ zip2 bit_xor s.fifth (chunk (at + 64) 16 octets)) (c.put-4.ensures.0
    ∙ ap (λ l. l ++ zip2 bit_xor s.fourth (chunk (at + 48) 16 octets)) (c.put-3.ensures.0
    ∙ ap (λ l. l ++ zip2 bit_xor s.third (chunk (at + 32) 16 octets)) (c.put-2.ensures.0
    ∙ ap (λ l. l ++ zip2 bit_xor s.second (chunk (at + 16) 16 octets)) c.put.ensures.0)))))
