use Rattle.iw_memory.proofs.MarkLemmas.{masked_before, masked_from}
use Rattle.iw_memory.proofs.marks.bits_from.Goals as goal

pub returns-clause-before : goal.returns-clause-before
returns-clause-before c = λ i before. masked_before c.args.word c.args.place i before c.requires

pub returns-clause-from : goal.returns-clause-from
returns-clause-from c = λ i from small. masked_from c.args.word c.args.place i from small
