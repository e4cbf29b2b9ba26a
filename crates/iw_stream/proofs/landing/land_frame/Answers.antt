use Rattle.std.proofs.Common.{sym, subst, ◌∙◌}
use Rattle.iw_fpdu.specs.Found.{ulpdu}
use Rattle.iw_stream.specs.Judging.{IsFirst}
use Rattle.iw_stream.proofs.Heads.{first_taken}
use Rattle.iw_stream.proofs.landing.land_frame.Goals as goal

pub land_by-requires-in-None-clause-first : goal.land_by-requires-in-None-clause-first
land_by-requires-in-None-clause-first g c =
    let u = ulpdu c.args.fpdu.now in
    subst (IsFirst u) (sym (c.as_slice.ensures.value ∙ c.first_octets-first.ensures)) (first_taken u)
