use Rattle.iw_tagged.proofs.Covers.{parts-cover}
use Rattle.iw_tagged.proofs.laws.parts_cover.Goals as goal

pub returns : goal.returns
returns c = parts-cover
