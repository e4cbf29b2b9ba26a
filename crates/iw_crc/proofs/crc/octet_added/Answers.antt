use Rattle.std.proofs.Common.{ap, ◌∙◌, bit_xor, bit_and}
use Rattle.iw_crc.specs.Crc.{after_bits}
use Rattle.iw_crc.proofs.Linear.{step_is}
use Rattle.iw_crc.proofs.crc.octet_added.Goals as goal

pub returns : goal.returns
returns c =
    step_is c.args.remainder c.args.octet c.word_entry.result c.ranges.octet.fits
    (c.word_entry.ensures ∙ ap (λ x. after_bits 8 (bit_and (bit_xor c.args.remainder x) 255)) c.from.ensures)
