use Rattle.iw_memory.proofs.LawLemmas.{put-changes}
use Rattle.iw_memory.proofs.laws.put_changes_one_region.Goals as goal

pub returns : goal.returns
returns c = put-changes
