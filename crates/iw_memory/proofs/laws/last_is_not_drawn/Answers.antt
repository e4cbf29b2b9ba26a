use Rattle.iw_memory.proofs.LawLemmas.{last-not_drawn}
use Rattle.iw_memory.proofs.laws.last_is_not_drawn.Goals as goal

pub returns : goal.returns
returns c = last-not_drawn
