use Rattle.std.proofs.Common.{ap, ◌∙◌, map}
use Rattle.iw_ranges.specs.Arrived.{Here}
use Rattle.iw_ranges.proofs.Moves.{concat_parts, parts_filled}
use Rattle.iw_ranges.proofs.Islands.parts.Goals as goal

pub returns : goal.returns
returns g c = record {
  octets = ap (map Here) (concat_parts c.part.result.now) ∙ c.part.ensures;
  filled = parts_filled c.part.result.now;
}
