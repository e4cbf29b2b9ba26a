use Rattle.iw_memory.proofs.MarkLemmas.{mark-full}
use Rattle.iw_memory.proofs.marks.Marks.new.Goals as goal

pub returns : goal.returns
returns c = mark-full
