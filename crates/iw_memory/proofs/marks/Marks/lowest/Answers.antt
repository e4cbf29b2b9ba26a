use Rattle.std.proofs.Common.{not, ◌==◌, ◌/◌, ◌%◌, sym, ap, ◌∙◌}
use Rattle.std.proofs.lemmas.List.Quantifiers.{position-Some}
use Rattle.std.proofs.lemmas.Nat.Bits.{bit_at-zero}
use Rattle.std.specs.Int.{bit_at}
use Rattle.iw_memory.proofs.MarkLemmas.{some_word, none_marked, zero_words, taken_before}
use Rattle.iw_memory.proofs.marks.Marks.lowest.Goals as goal

pub lowest_bit-requires : goal.lowest_bit-requires
lowest_bit-requires c = some_word _ (position-Some (λ word. not (word == 0)) c.args.self.now.words c.in-Some.at 0 (sym c.first_marked.ensures ∙ c.in-Some.is)).1

pub returns-in-Some-clause-taken : goal.returns-in-Some-clause-taken
returns-in-Some-clause-taken c =
    let words = c.args.self.now.words in
    let first = position-Some (λ word. not (word == 0)) words c.in-Some.at 0 (sym c.first_marked.ensures ∙ c.in-Some.is) in
    taken_before words c.in-Some.at c.lowest_bit.result (zero_words words c.in-Some.at first.2) c.lowest_bit.ensures.small c.lowest_bit.ensures.lowest

pub returns-in-None-clause-taken : goal.returns-in-None-clause-taken
returns-in-None-clause-taken c = λ i small. ap (λ w. bit_at w (i % 64)) (none_marked c.args.self.now.words (sym c.first_marked.ensures ∙ c.in-None.is) (i / 64)) ∙ bit_at-zero (i % 64)
