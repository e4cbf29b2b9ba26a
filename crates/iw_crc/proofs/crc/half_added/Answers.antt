use Rattle.std.proofs.Common.{◌≡◌, ap, ◌∙◌, bit_xor}
use Rattle.iw_crc.specs.Crc.{after_bits}
use Rattle.iw_crc.specs.CrcWords.{octet_in}
use Rattle.iw_crc.proofs.Words.{half_apart}
use Rattle.iw_crc.proofs.crc.half_added.Goals as goal

pub returns : goal.returns
returns c =
    let e0 : c.word_entry.result ≡ after_bits 32 (octet_in c.args.half 0) = c.word_entry.ensures ∙ ap (after_bits 32) c.octet_of_half.ensures in
    let e1 : c.word_entry-2.result ≡ after_bits 24 (octet_in c.args.half 1) = c.word_entry-2.ensures ∙ ap (after_bits 24) c.octet_of_half-2.ensures in
    let e2 : c.word_entry-3.result ≡ after_bits 16 (octet_in c.args.half 2) = c.word_entry-3.ensures ∙ ap (after_bits 16) c.octet_of_half-3.ensures in
    let e3 : c.word_entry-4.result ≡ after_bits 8 (octet_in c.args.half 3) = c.word_entry-4.ensures ∙ ap (after_bits 8) c.octet_of_half-4.ensures in
    (λ i. bit_xor (bit_xor (bit_xor (e0 i) (e1 i)) (e2 i)) (e3 i)) ∙ half_apart c.args.half c.ranges.half.fits
