use Rattle.std.proofs.Common.{◌-◌, length, take, drop, ap, ◌∙◌}
use Rattle.iw_crc.specs.Crc.{after_octets}
use Rattle.iw_crc.proofs.Words.{half_first}
use Rattle.iw_crc.proofs.crc.few_added.Goals as goal

pub returns : goal.returns
returns c =
    let octets = c.args.octets.now in
    c.octets_added-2.ensures
    ∙ ap (λ r. after_octets r (take (length octets - 4) (drop 4 octets))) c.half_added-so_far.ensures
    ∙ half_first c.args.remainder c.first_half.result octets c.if-octets-lt4.false (λ k. (c.type_inv.octets k).fits) c.first_half.ensures
