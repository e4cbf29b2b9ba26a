use Rattle.std.proofs.Common.{◌≡◌, ap, ◌∙◌, bit_xor}
use Rattle.iw_crc.specs.Crc.{after_bits}
use Rattle.iw_crc.specs.CrcWords.{octet_in}
use Rattle.iw_crc.proofs.Words.{apart}
use Rattle.iw_crc.proofs.crc.turn_added.Goals as goal

pub returns : goal.returns
returns c =
    let e0 : c.turn_entry.result ≡ after_bits 256 (octet_in c.args.word 0) = c.turn_entry.ensures ∙ ap (after_bits 256) c.octet_of.ensures in
    let e1 : c.turn_entry-2.result ≡ after_bits 248 (octet_in c.args.word 1) = c.turn_entry-2.ensures ∙ ap (after_bits 248) c.octet_of-2.ensures in
    let e2 : c.turn_entry-3.result ≡ after_bits 240 (octet_in c.args.word 2) = c.turn_entry-3.ensures ∙ ap (after_bits 240) c.octet_of-3.ensures in
    let e3 : c.turn_entry-4.result ≡ after_bits 232 (octet_in c.args.word 3) = c.turn_entry-4.ensures ∙ ap (after_bits 232) c.octet_of-4.ensures in
    let e4 : c.turn_entry-5.result ≡ after_bits 224 (octet_in c.args.word 4) = c.turn_entry-5.ensures ∙ ap (after_bits 224) c.octet_of-5.ensures in
    let e5 : c.turn_entry-6.result ≡ after_bits 216 (octet_in c.args.word 5) = c.turn_entry-6.ensures ∙ ap (after_bits 216) c.octet_of-6.ensures in
    let e6 : c.turn_entry-7.result ≡ after_bits 208 (octet_in c.args.word 6) = c.turn_entry-7.ensures ∙ ap (after_bits 208) c.octet_of-7.ensures in
    let e7 : c.turn_entry-8.result ≡ after_bits 200 (octet_in c.args.word 7) = c.turn_entry-8.ensures ∙ ap (after_bits 200) c.octet_of-8.ensures in
    (λ i. bit_xor (bit_xor (bit_xor (bit_xor (bit_xor (bit_xor (bit_xor (e0 i) (e1 i)) (e2 i)) (e3 i)) (e4 i)) (e5 i)) (e6 i)) (e7 i)) ∙ apart 192 c.args.word c.ranges.word.fits
