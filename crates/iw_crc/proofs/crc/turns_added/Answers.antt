use Rattle.std.proofs.Common.{◌≡◌, ◌≤◌, ◌+◌, ◌*◌, ℕ, length, take, bit_xor, sym, subst, ap, ◌∙◌, arith}
use Rattle.iw_crc.specs.Crc.{after_bits, after_octets}
use Rattle.iw_crc.specs.CrcWords.{word_in}
use Rattle.iw_crc.proofs.Linear.{after_octets-none}
use Rattle.iw_crc.proofs.Words.{StandFor, stands_alone, stand_on, come_together, one_turn, next_turn}
use Rattle.iw_crc.proofs.crc.turns_added.Goals as goal

pub loop-turn-init : goal.loop-turn-init
loop-turn-init c = subst (StandFor c.args.remainder 0 0 0) (after_octets-none c.args.remainder) (stands_alone c.args.remainder)

pub loop-turn-preserved : goal.loop-turn-preserved
loop-turn-preserved c =
    let octets = c.args.octets.now in
    let lanes = c.loop-turn in
    let at = 32 * lanes.turn in
    let so_far = after_octets c.args.remainder (take at octets) in
    let word : ℕ → ℕ = word_in octets in
    let more : at + 32 ≡ 32 * (lanes.turn + 1) = omega arith in
    let room : at + 32 ≤ length octets = omega arith in
    let first : after_bits 256 (bit_xor lanes.first (word at)) ≡ c.turn_added-first.result = sym (c.turn_added-first.ensures ∙ (λ i. after_bits 256 (bit_xor (c.from.ensures i) (c.word_at.ensures i)))) in
    let second : after_bits 256 (bit_xor lanes.second (word (at + 8))) ≡ c.turn_added-second.result = sym (c.turn_added-second.ensures ∙ (λ i. after_bits 256 (bit_xor (c.from-in-loop-turn.ensures i) (c.word_at-in-loop-turn.ensures i)))) in
    let third : after_bits 256 (bit_xor lanes.third (word (at + 16))) ≡ c.turn_added-third.result = sym (c.turn_added-third.ensures ∙ (λ i. after_bits 256 (bit_xor (c.from-in-loop-turn-2.ensures i) (c.word_at-in-loop-turn-2.ensures i)))) in
    let fourth : after_bits 256 (bit_xor lanes.fourth (word (at + 24))) ≡ c.turn_added-fourth.result = sym (c.turn_added-fourth.ensures ∙ (λ i. after_bits 256 (bit_xor (c.from-in-loop-turn-3.ensures i) (c.word_at-in-loop-turn-3.ensures i)))) in
    let total : next_turn so_far (word at) (word (at + 8)) (word (at + 16)) (word (at + 24)) ≡ after_octets c.args.remainder (take (32 * (lanes.turn + 1)) octets) =
    sym (one_turn c.args.remainder octets at room (λ k. (c.type_inv.octets k).fits)) ∙ ap (λ n. after_octets c.args.remainder (take n octets)) more in
    let stand = stand_on lanes.first lanes.second lanes.third lanes.fourth so_far (word at) (word (at + 8)) (word (at + 16)) (word (at + 24)) lanes.invariant in
    coe 0 1 (i. StandFor (first i) (second i) (third i) (fourth i) (total i)) stand

pub returns : goal.returns
returns c =
    let octets = c.args.octets.now in
    let lanes = c.loop-turn in
    let at = 32 * c.args.turns in
    let so_far = after_octets c.args.remainder (take at octets) in
    let word : ℕ → ℕ = word_in octets in
    let done : 32 * lanes.turn ≡ at = omega arith in
    let room : at + 32 ≤ length octets = omega arith in
    let stand = subst (λ n. StandFor lanes.first lanes.second lanes.third lanes.fourth (after_octets c.args.remainder (take n octets))) done lanes.invariant in
    c.word_added.ensures
    ∙ (λ i. after_bits 64 (bit_xor (c.from-7.ensures i) (bit_xor (c.from-8.ensures i) (c.word_at-5.ensures i))))
    ∙ ap (λ r. after_bits 64 (bit_xor r (bit_xor lanes.fourth (word (at + 24))))) (c.word_added-third.ensures
    ∙ (λ i. after_bits 64 (bit_xor (c.from-5.ensures i) (bit_xor (c.from-6.ensures i) (c.word_at-4.ensures i))))
    ∙ ap (λ r. after_bits 64 (bit_xor r (bit_xor lanes.third (word (at + 16))))) (c.word_added-second.ensures
    ∙ (λ i. after_bits 64 (bit_xor (c.from-3.ensures i) (bit_xor (c.from-4.ensures i) (c.word_at-3.ensures i))))
    ∙ ap (λ r. after_bits 64 (bit_xor r (bit_xor lanes.second (word (at + 8))))) (c.word_added-first.ensures
    ∙ (λ i. after_bits 64 (bit_xor (c.from-2.ensures i) (c.word_at-2.ensures i))))))
    ∙ come_together lanes.first lanes.second lanes.third lanes.fourth so_far (word at) (word (at + 8)) (word (at + 16)) (word (at + 24)) stand
    ∙ sym (one_turn c.args.remainder octets at room (λ k. (c.type_inv.octets k).fits))
