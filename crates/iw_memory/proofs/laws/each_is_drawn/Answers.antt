use Rattle.iw_memory.proofs.LawLemmas.{each-drawn}
use Rattle.iw_memory.proofs.laws.each_is_drawn.Goals as goal

pub returns : goal.returns
returns c = each-drawn
