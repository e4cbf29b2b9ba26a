use Rattle.std.proofs.Common.{◌≡◌, ◌≤◌, ◌+◌, ◌*◌, ◌-◌, ◌/◌, length, take, drop, bit_xor, sym, ap, ◌∙◌, arith}
use Rattle.iw_crc.specs.Crc.{after_bits, after_octets}
use Rattle.iw_crc.specs.CrcWords.{word_in}
use Rattle.iw_crc.proofs.Linear.{after_octets-none}
use Rattle.iw_crc.proofs.Words.{one_word, after_octets-split}
use Rattle.iw_crc.proofs.crc.words_added.Goals as goal

pub loop-word-init : goal.loop-word-init
loop-word-init c = after_octets-none c.args.remainder

pub loop-word-preserved : goal.loop-word-preserved
loop-word-preserved c =
    let octets = c.args.octets.now in
    let at = 8 * c.loop-word.word in
    let more : at + 8 ≡ 8 * (c.loop-word.word + 1) = omega arith in
    let room : at + 8 ≤ length octets = omega arith in
    c.word_added-so_far.ensures
    ∙ (λ i. after_bits 64 (bit_xor (c.from.ensures i) (c.word_at.ensures i)))
    ∙ ap (λ r. after_bits 64 (bit_xor r (word_in octets at))) c.loop-word.invariant
    ∙ sym (one_word c.args.remainder octets at room (λ k. (c.type_inv.octets k).fits))
    ∙ ap (λ n. after_octets c.args.remainder (take n octets)) more

pub returns : goal.returns
returns c =
    let octets = c.args.octets.now in
    let at = 8 * (length octets / 8) in
    let done : 8 * c.loop-word.word ≡ at = omega arith in
    c.few_added.ensures
    ∙ ap (λ r. after_octets r (take (length octets - at) (drop at octets))) (c.loop-word.invariant ∙ ap (λ n. after_octets c.args.remainder (take n octets)) done)
    ∙ after_octets-split c.args.remainder octets at
