use Rattle.std.proofs.Common.{sym, ap, ◌∙◌}
use Rattle.std.proofs.lemmas.Nat.Bits.{bit_at_set_same, bit_at_set_other, bit_at_clear_same, bit_at_clear_other}
use Rattle.std.specs.Int.{w64}
use Rattle.iw_memory.specs.Marked.{bit}
use Rattle.iw_memory.proofs.marks.with_bit.Goals as goal

pub returns-then-set-clause-is : goal.returns-then-set-clause-is
returns-then-set-clause-is c = bit_at_set_same w64 c.args.word c.args.place c.requires ∙ ap bit (sym c.if-set.true)

pub returns-then-set-clause-others : goal.returns-then-set-clause-others
returns-then-set-clause-others c = λ i small ne. bit_at_set_other w64 c.args.word c.args.place c.requires i ne

pub returns-else-set-clause-is : goal.returns-else-set-clause-is
returns-else-set-clause-is c = bit_at_clear_same w64 c.args.word c.args.place c.requires ∙ ap bit (sym c.if-set.false)

pub returns-else-set-clause-others : goal.returns-else-set-clause-others
returns-else-set-clause-others c = λ i small ne. bit_at_clear_other w64 c.args.word c.args.place c.requires i small ne
