use Rattle.iw_memory.proofs.LawLemmas.{deregistered-changes}
use Rattle.iw_memory.proofs.laws.deregister_changes_one_stag.Goals as goal

pub returns : goal.returns
returns c = deregistered-changes
