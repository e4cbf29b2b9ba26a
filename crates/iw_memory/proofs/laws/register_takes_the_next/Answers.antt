use Rattle.iw_memory.proofs.LawLemmas.{registered-at_next}
use Rattle.iw_memory.proofs.laws.register_takes_the_next.Goals as goal

pub returns : goal.returns
returns c = registered-at_next
