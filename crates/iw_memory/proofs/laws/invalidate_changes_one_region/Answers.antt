use Rattle.iw_memory.proofs.LawLemmas.{with_region-changes}
use Rattle.iw_memory.proofs.laws.invalidate_changes_one_region.Goals as goal

pub returns : goal.returns
returns c table stag = with_region-changes table stag _
