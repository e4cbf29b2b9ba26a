use Rattle.std.proofs.Common.{◌+◌, ◌*◌, ◌-◌, ◌/◌, length, take, drop, ap, ◌∙◌}
use Rattle.iw_crc.specs.Crc.{after_octets}
use Rattle.iw_crc.proofs.Words.{after_octets-split}
use Rattle.iw_crc.proofs.crc.run_added.Goals as goal

pub returns : goal.returns
returns c =
    let octets = c.args.octets.now in
    let at = 32 * (length octets / 32 - 1) + 32 in
    c.words_added-2.ensures ∙ ap (λ r. after_octets r (take (length octets - at) (drop at octets))) c.turns_added-so_far.ensures
    ∙ after_octets-split c.args.remainder octets at
