use Rattle.iw_memory.proofs.LawLemmas.{registered-changes}
use Rattle.iw_memory.proofs.laws.register_changes_one_stag.Goals as goal

pub returns : goal.returns
returns c = registered-changes
