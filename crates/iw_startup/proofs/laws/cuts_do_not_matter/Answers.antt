use Rattle.iw_startup.proofs.Cuts.{same_at_once}
use Rattle.iw_startup.proofs.laws.cuts_do_not_matter.Goals as goal

pub returns : goal.returns
returns c = same_at_once
