use Rattle.iw_memory.proofs.ScopeLemmas.{retires}
use Rattle.iw_memory.proofs.laws.retire_ends_scope.Goals as goal

pub returns : goal.returns
returns c = retires
