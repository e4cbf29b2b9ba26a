use Rattle.std.proofs.Common.{take, sym, ap, ◌∙◌}
use Rattle.std.proofs.Math.Seq.{take-length}
use Rattle.iw_crc.specs.Crc.{after_octets}
use Rattle.iw_crc.proofs.crc.rest_added.Goals as goal

pub returns : goal.returns
returns c =
    let octets = c.args.octets.now in
    c.turns_added.ensures ∙ ap (after_octets 0) (ap (λ n. take n octets) (sym c.requires) ∙ take-length octets)
