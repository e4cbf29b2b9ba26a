use Rattle.iw_memory.proofs.LawLemmas.{drawn-changes}
use Rattle.iw_memory.proofs.laws.draw_changes_one_stag.Goals as goal

pub returns : goal.returns
returns c = drawn-changes
