use Rattle.iw_memory.proofs.ScopeLemmas.{out-kept}
use Rattle.iw_memory.proofs.laws.out_of_scope_is_kept.Goals as goal

pub returns : goal.returns
returns c = out-kept
