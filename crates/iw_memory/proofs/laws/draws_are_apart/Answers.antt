use Rattle.iw_memory.proofs.OwnLemmas.{draws_apart}
use Rattle.iw_memory.proofs.laws.draws_are_apart.Goals as goal

pub returns : goal.returns
returns c = draws_apart
