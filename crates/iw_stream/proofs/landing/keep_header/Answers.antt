use Rattle.std.proofs.Common.{ap, ◌∙◌}
use Rattle.iw_fpdu.specs.Found.{ulpdu}
use Rattle.iw_stream.specs.Frames.{header_in}
use Rattle.iw_stream.proofs.Heads.{first_taken, header_first}
use Rattle.iw_stream.proofs.landing.keep_header.Goals as goal

pub returns-in-Some : goal.returns-in-Some
returns-in-Some g c = c.append_header.ensures ∙ header_first (ulpdu c.args.fpdu.now) c.in-Some.first.now c.in-Some.ensures

pub returns-in-None : goal.returns-in-None
returns-in-None g c =
    let u = ulpdu c.args.fpdu.now in
    c.append_header-in-None.ensures ∙ ap header_in (c.as_slice.ensures.value ∙ c.first_octets.ensures) ∙ header_first u _ (first_taken u)
