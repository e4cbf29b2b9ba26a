use Rattle.std.proofs.Common.{◌+◌, ◌*◌, ◌-◌, ◌/◌, length, take, drop, ap, ◌∙◌}
use Rattle.iw_crc.specs.Crc.{after_octets}
use Rattle.iw_crc.proofs.Words.{after_octets-split}
use Rattle.iw_crc.proofs.crc.sixteens_added.Goals as goal

pub returns : goal.returns
returns c =
    let octets = c.args.octets.now in
    let at = 16 * (length octets / 16 - 6) + 96 in
    c.words_added.ensures ∙ ap (λ r. after_octets r (take (length octets - at) (drop at octets))) (c.rest_added-so_far.ensures ∙ c.shortened.ensures)
    ∙ after_octets-split c.args.remainder octets at
