use Rattle.std.proofs.Common.{◌≡◌, ◌++◌, sym, ap, ◌∙◌, bit_xor}
use Rattle.std.specs.Int.{w32, to_le_bytes}
use Rattle.iw_crc.specs.Crc.{after_octets, all_ones, crc32c}
use Rattle.iw_crc.proofs.Linear.{after_octets-append}
use Rattle.iw_fpdu.specs.Laying.{marker_beyond}
use Rattle.iw_fpdu.proofs.write.crc_octets.Goals as goal

pub returns : goal.returns
unfolding crc32c
returns c =
    let before = marker_beyond c.args.markers c.args.at in
    let all : c.add.new.self ≡ after_octets all_ones (before ++ c.args.written.now) =
    c.add.ensures ∙ ap (λ r. after_octets r c.args.written.now) c.crc_before-crc.ensures ∙ sym (after_octets-append all_ones before c.args.written.now) in
    let crc : c.finish.result ≡ crc32c (before ++ c.args.written.now) = c.finish.ensures ∙ ap (λ r. bit_xor r all_ones) all in
    c.to_le_bytes.ensures ∙ ap (to_le_bytes w32) crc
